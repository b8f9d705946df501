use Rattle.std.proofs.Common.{◌<◌, ◌==◌, Option, length, IfOk, IfSome, subst, sym, ◌∙◌, ap}
use Rattle.bf_grammar.specs.Forms.{colon_number}
use Rattle.bf_history.specs.declared.marked.Marked.{Marked}
use Rattle.bf_history.specs.Imports.{Means}
use Rattle.bf_history.specs.Meanings.{commit_marked, place_of_target}
use Rattle.bf_import.specs.Growing.{Importing, StandsBelow}
use Rattle.bf_import.specs.Roles.{said_of}
use Rattle.bf_import.proofs.Carried.{by_mark, by_text, marked_there}
use Rattle.bf_import.proofs.Keeping.{value_stands}
use Rattle.bf_import.proofs.importer.Importer.place_of_target.Goals as goal

pub returns-in-Some-clause-place : goal.returns-in-Some-clause-place
returns-in-Some-clause-place c =
    let target = c.args.target.now in
    let numbered = sym (ap colon_number c.as_slice.ensures) ∙ sym c.colon_number.ensures ∙ c.in-Some.is in
    subst (λ (i : Importing). Means (λ place. place) c.commit_marked.result (place_of_target (said_of c.args.role) i.loading target)) c.self.view_is
    (by_mark (record { history = c.self.inside.growth.history; marks = c.self.inside.marks }) target c.args.role c.in-Some.number numbered
    c.commit_marked.result
    (c.commit_marked.ensures ∙ ap (λ (found : Option Marked). commit_marked (said_of c.args.role) target.line found) c.get.ensures))

pub returns-in-Some-clause-there : goal.returns-in-Some-clause-there
returns-in-Some-clause-there c =
    let count = length c.self.inside.growth.history.parents in
    subst (λ (i : Importing). IfOk c.commit_marked.result (λ place. place < length i.loading.history.parents)) c.self.view_is
    (marked_there (said_of c.args.role) c.args.target.now.line count c.get.result
    (subst (λ (found : Option Marked). IfSome found (StandsBelow count)) (sym c.get.ensures)
    (value_stands (StandsBelow count) ◌==◌ c.in-Some.number c.self.inside.marks c.self.invariant))
    c.commit_marked.result c.commit_marked.ensures)

pub returns-in-None-clause-place : goal.returns-in-None-clause-place
returns-in-None-clause-place c =
    by_text c.args.self.now.loading c.args.target.now c.args.role (sym (ap colon_number c.as_slice.ensures) ∙ sym c.colon_number.ensures ∙ c.in-None.is)
    c.place_by_text.result c.place_by_text.ensures.place
