use Rattle.std.proofs.Common.{ℕ, Option, subst, sym, ◌∙◌, ap}
use Rattle.std.specs.Option.{ok_or}
use Rattle.bf_oid.specs.Object.{oid_of_hex}
use Rattle.bf_history.specs.declared.fault.ImportFault.TheVariants.{BadFrom, Unsupported}
use Rattle.bf_history.specs.Imports.{Means}
use Rattle.bf_history.specs.Meanings.{place_by}
use Rattle.std.proofs.Common.{None}
use Rattle.bf_import.specs.Growing.{Importing}
use Rattle.bf_import.proofs.Carried.{by_name, by_ref}
use Rattle.bf_import.proofs.importer.Importer.place_by_text.Goals as goal

pub returns-in-Some-clause-place : goal.returns-in-Some-clause-place
returns-in-Some-clause-place c =
    let target = c.args.target.now in
    subst (λ (i : Importing). Means (λ place. place) c.ok_or.result (place_by BadFrom i.loading target None (oid_of_hex target.text))) c.self.view_is
    (by_name (record { history = c.self.inside.growth.history; marks = c.self.inside.marks }) target c.in-Some.name
    (sym (ap oid_of_hex c.as_slice.ensures) ∙ sym c.oid_from_hex.ensures.value ∙ c.in-Some.is) c.ok_or.result
    (c.ok_or.ensures.value ∙ ap (λ (place : Option ℕ). ok_or place (Unsupported target.line)) c.place_named.ensures.value))

pub returns-in_ok-place_of_ref-in-None-clause-place : goal.returns-in_ok-place_of_ref-in-None-clause-place
returns-in_ok-place_of_ref-in-None-clause-place c =
    let target = c.args.target.now in
    by_ref c.args.self.now.loading target (sym (ap oid_of_hex c.as_slice.ensures) ∙ sym c.oid_from_hex.ensures.value ∙ c.in-None.is) c.ok_or-in-None.result
    (c.ok_or-in-None.ensures.value ∙ ap (λ (place : Option ℕ). ok_or place (BadFrom target.line)) c.in_ok-place_of_ref-in-None.ensures.place)
