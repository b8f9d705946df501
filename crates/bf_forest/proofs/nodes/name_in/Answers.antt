use Rattle.std.proofs.Common.{[], ◌∷◌, ◌++◌, sym, ap, ◌∙◌}
use Rattle.std.proofs.lemmas.Bool.{ne_eqb}
use Rattle.bf_forest.specs.Listing.{name_in}
use Rattle.bf_forest.proofs.Keys.{name_in-slash, name_in-other}
use Rattle.bf_forest.proofs.nodes.name_in.Goals as goal

pub returns-then-last-eq47 : goal.returns-then-last-eq47
returns-then-last-eq47 c =
    let name = c.in-Some.name.now in
    sym (ap name_in c.in-Some.ensures.cases.0 ∙ ap (λ byte. name_in (name ++ byte ∷ [])) c.if-last-eq47.true ∙ name_in-slash name)

pub returns-else-last-eq47 : goal.returns-else-last-eq47
returns-else-last-eq47 c =
    let split = c.in-Some.ensures.cases.0 in
    sym (ap name_in split ∙ name_in-other c.in-Some.name.now c.in-Some.last.now (ne_eqb c.in-Some.last.now 47 c.if-last-eq47.false) ∙ sym split)
