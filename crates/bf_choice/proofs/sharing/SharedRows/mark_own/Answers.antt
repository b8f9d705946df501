use Rattle.std.proofs.Common.{◌-◌, Bool, true, List, [], set, ap, sym, ◌∙◌, arith}
use Rattle.std.proofs.lemmas.List.{set-get_or}
use Rattle.bf_choice.proofs.Rows.{own_row-within, own_row-past}
use Rattle.bf_choice.proofs.sharing.SharedRows.mark_own.Goals as goal

pub returns-then-column-lt-COLUMNS-clause-blocks : goal.returns-then-column-lt-COLUMNS-clause-blocks
returns-then-column-lt-COLUMNS-clause-blocks c =
    c.set.ensures
    ∙ ap (λ (row : List Bool). set c.args.self.now.blocks c.args.self.now.taken row)
    (ap (λ (row : List Bool). set row (c.args.place - c.args.start) true) c.requires.empty ∙ own_row-within c.args.start c.args.place
    (c.args.place - c.args.start) (omega arith) (omega arith))

pub returns-else-column-lt-COLUMNS-clause-blocks : goal.returns-else-column-lt-COLUMNS-clause-blocks
returns-else-column-lt-COLUMNS-clause-blocks c =
    sym (set-get_or c.args.self.now.blocks c.args.self.now.taken [])
    ∙ ap (λ (row : List Bool). set c.args.self.now.blocks c.args.self.now.taken row)
    (c.requires.empty ∙ own_row-past c.args.start c.args.place (omega arith))
