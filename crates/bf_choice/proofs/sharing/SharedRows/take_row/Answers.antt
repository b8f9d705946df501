use Rattle.std.proofs.Common.{ℕ, List, Bool, set, ap, ◌∙◌, arith}
use Rattle.std.proofs.lemmas.List.{set-set}
use Rattle.bf_choice.specs.BlockRows.{block_row}
use Rattle.bf_choice.proofs.sharing.SharedRows.take_row.Goals as goal

pub overflow_add-self : goal.overflow_add-self
overflow_add-self c = omega (arith, c.join_parents.ensures.taken, c.mark_own.ensures.taken, c.requires.rows.each, c.requires.place, c.requires.few)

pub returns-clause-blocks : goal.returns-clause-blocks
returns-clause-blocks c =
    c.join_parents.ensures.blocks
    ∙ ap (λ (at : ℕ). set c.mark_own.new.self.blocks at (block_row c.args.graph.now c.args.start c.args.place)) c.mark_own.ensures.taken
    ∙ ap (λ (b : List (List Bool)). set b c.args.self.now.taken (block_row c.args.graph.now c.args.start c.args.place)) c.mark_own.ensures.blocks
    ∙ set-set c.args.self.now.blocks c.args.self.now.taken _ _
