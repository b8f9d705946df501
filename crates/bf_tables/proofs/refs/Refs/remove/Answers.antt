use Rattle.std.proofs.Common.{◌≡◌, length, set, Some, None, sym, ap, ◌∙◌, subst, arith}
use Rattle.std.proofs.lemmas.Option.{slice_get_within}
use Rattle.indexmap.specs.IndexMap.{get, index_map_len}
use Rattle.bf_forest.specs.Files.{is_same}
use Rattle.bf_history.specs.Named.{without_value}
use Rattle.bf_tables.specs.Slots.{Slots, filled, Leads, IsLedTo}
use Rattle.bf_tables.proofs.Numbered.{lacks, lacking_without, alone, alone_value, alone_without, one_less, leads_less, led_less}
use Rattle.bf_tables.proofs.refs.Refs.remove.Goals as goal

pub fill-requires : goal.fill-requires
fill-requires c =
    let slots = c.self.inside.slots.items in
    let name = c.args.name.now in
    let some : get is_same c.self.inside.numbers name ≡ Some c.in-Some.number = sym (sym c.in-Some.is ∙ c.swap_remove.ensures.value) in
    let there = c.self.invariant.1 name c.in-Some.number some in
    slice_get_within slots c.in-Some.number (Some (name, there.0)) there.1

pub invariant_of-self : goal.invariant_of-self
invariant_of-self c =
    let slots = c.self.inside.slots.items in
    let number = c.in-Some.number in
    let name = c.args.name.now in
    let number_of = get is_same c.self.inside.numbers in
    let next = get is_same c.swap_remove.new.self in
    let some : number_of name ≡ Some number = sym (sym c.in-Some.is ∙ c.swap_remove.ensures.value) in
    let there = c.self.invariant.1 name number some in
    let one = alone number_of slots c.self.invariant.2 name number some in
    let value = alone_value name there.0 number slots there.1 one in
    let less = one_less name (filled slots) there.0 value in
    let same = ap length (alone_without name there.0 number slots there.1 one) in
    let count : index_map_len c.swap_remove.new.self ≡ length (filled (set slots number None)) = omega
    (arith, less, same, c.self.invariant.0, c.in-Some.ensures.len) in
    let P : Slots → Type 0 = λ v. (index_map_len c.swap_remove.new.self ≡ length (filled v)) × Leads next v × IsLedTo next v in
    subst P (sym c.fill.ensures) (
      count,
      leads_less number_of slots c.self.invariant.1 c.self.invariant.2 next name number some c.in-Some.ensures.updates.0,
      led_less number_of slots c.self.invariant.1 c.self.invariant.2 next name number some c.in-Some.ensures.updates.0,
    )

pub returns-in-Some : goal.returns-in-Some
returns-in-Some c =
    let slots = c.self.inside.slots.items in
    let number = c.in-Some.number in
    let name = c.args.name.now in
    let number_of = get is_same c.self.inside.numbers in
    let some : number_of name ≡ Some number = sym (sym c.in-Some.is ∙ c.swap_remove.ensures.value) in
    let there = c.self.invariant.1 name number some in
    let one = alone number_of slots c.self.invariant.2 name number some in
    ap filled c.fill.ensures ∙ sym (alone_without name there.0 number slots there.1 one) ∙ ap (without_value is_same name) c.self.view_is

pub returns-in_default : goal.returns-in_default
returns-in_default c =
    let slots = c.self.inside.slots.items in
    let numbers = c.self.inside.numbers in
    let name = c.args.name.now in
    let none : get is_same numbers name ≡ None = sym (sym c.in_default.is ∙ c.swap_remove.ensures.value) in
    sym (lacking_without name slots (lacks (get is_same numbers) slots c.self.invariant.2 name none)) ∙ ap (without_value is_same name) c.self.view_is
