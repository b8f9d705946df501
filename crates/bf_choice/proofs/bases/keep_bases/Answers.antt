use Rattle.std.proofs.Common.{◌≡◌, ℕ, not, ◌&&◌, List, length, ap, sym, ◌∙◌, subst}
use Rattle.bf_graph.specs.Graph.{IsGraph}
use Rattle.bf_choice.specs.Parents.{IsParentsBelow}
use Rattle.bf_choice.proofs.BaseRows.{length-joined}
use Rattle.bf_choice.proofs.Tops.{bases_of_sides}
use Rattle.bf_choice.proofs.bases.keep_bases.Goals as goal
use Rattle.bf_choice.proofs.bases.keep_bases.Goals.{After-and_from}

common_long : (c : After-and_from) → length c.and_from.new.self ≡ length c.args.row.now
common_long c = length-joined ◌&&◌ _ _ _ (c.requires.row ∙ sym (c.fill_from.ensures.len ∙ c.requires.scratch)) c.and_from.ensures

pub fill_parents-requires-clause-row : goal.fill_parents-requires-clause-row
fill_parents-requires-clause-row c = common_long ((goal.at.fill_parents-requires-clause-row c).After-and_from) ∙ c.requires.row ∙ ap length
    (sym c.graph.ensures)

pub returns-clause-bases : goal.returns-clause-bases
returns-clause-bases c =
    λ bad is_row.
    let graph : List (List ℕ) = c.args.reach.now in
    let known : IsGraph graph = subst (λ (g : List (List ℕ)). IsGraph g) c.graph.ensures c.fill_parents.ensures.graph in
    let parents : IsParentsBelow graph c.and_from.new.self (length c.and_from.new.self) c.fill_parents.new.out =
    subst (λ (g : List (List ℕ)). IsParentsBelow g c.and_from.new.self (length c.and_from.new.self) c.fill_parents.new.out) c.graph.ensures
    c.fill_parents.ensures.parents in
    rw c.and_not.ensures
    (bases_of_sides graph bad c.args.goods.now c.and_from.new.self c.fill_parents.new.out known (rw (← is_row, ← c.fill_from.ensures.row) c.and_from.ensures)
    parents)

pub returns-clause-len : goal.returns-clause-len
returns-clause-len c =
    length-joined (λ mine theirs. mine && not theirs) _ _ _ (sym c.fill_parents.ensures.parents.same_length) c.and_not.ensures
    ∙ common_long ((goal.at.returns-clause-len c).After-and_from)

pub returns-clause-scratch_len : goal.returns-clause-scratch_len
returns-clause-scratch_len c =
    c.fill_parents.ensures.parents.same_length ∙ common_long ((goal.at.returns-clause-scratch_len c).After-and_from) ∙ c.requires.row ∙ sym c.requires.scratch
