use Rattle.std.proofs.Common.{◌≡◌, ℕ, List, length, slice_get, Some, None, refl, sym, ap, ◌∙◌, arith}
use Rattle.std.specs.Option.{option_map}
use Rattle.std.proofs.lemmas.Option.{slice_get_read, slice_get_within}
use Rattle.indexmap.specs.IndexMap.{get}
use Rattle.bf_forest.specs.Files.{is_same}
use Rattle.bf_history.specs.Meanings.{ref_in}
use Rattle.bf_tables.proofs.Numbered.{lacks, lacking_value, alone, alone_value}
use Rattle.bf_tables.proofs.refs.Refs.get.Goals as goal

pub returns-in_default : goal.returns-in_default
returns-in_default c =
    let slots = c.self.inside.slots.items in
    let numbers = c.self.inside.numbers in
    let name = c.args.name.now in
    let none : get is_same numbers name ≡ None = sym (sym c.in_default.is ∙ c.copied.ensures ∙ c.get.ensures.value) in
    sym (lacking_value name slots (lacks (get is_same numbers) slots c.self.invariant.2 name none)) ∙ ap (λ refs. ref_in refs name) c.self.view_is

pub index-requires : goal.index-requires
index-requires c =
    let slots = c.self.inside.slots.items in
    let numbers = c.self.inside.numbers in
    let name = c.args.name.now in
    let some : get is_same numbers name ≡ Some c.in-Some.number = sym (sym c.in-Some.is ∙ c.copied.ensures ∙ c.get.ensures.value) in
    let there = c.self.invariant.1 name c.in-Some.number some in
    let less = slice_get_within slots c.in-Some.number (Some (name, there.0)) there.1 in
    omega (arith, less, c.self.inside.slots.ok.0)

pub returns : goal.returns
returns c =
    let slots = c.self.inside.slots.items in
    let numbers = c.self.inside.numbers in
    let name = c.args.name.now in
    let number = c.in-Some.number in
    let some : get is_same numbers name ≡ Some number = sym (sym c.in-Some.is ∙ c.copied.ensures ∙ c.get.ensures.value) in
    let there = c.self.invariant.1 name number some in
    let less = slice_get_within slots number (Some (name, there.0)) there.1 in
    let at : slice_get slots number ≡ Some c.index.result.now = slice_get_read slots (length slots) number c.index.result.now refl less c.index.ensures in
    let all : Some c.index.result.now ≡ Some (Some (name, there.0)) = sym at ∙ there.1 in
    let slot : c.index.result.now ≡ Some (name, there.0) = cc in
    let one = alone (get is_same numbers) slots c.self.invariant.2 name number some in
    c.place_in.ensures ∙ ap (option_map {T = List ℕ × ℕ} {U = ℕ} (λ given. given.1)) slot
    ∙ sym (alone_value name there.0 number slots there.1 one) ∙ ap (λ refs. ref_in refs name) c.self.view_is
