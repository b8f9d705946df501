use Rattle.std.proofs.Common.{◌≡◌, ℕ, ◌+◌, List, [], ◌∷◌, ◌++◌, length, set, cond, Option, Some, None, is_some, if◌then◌else◌, sym, ap, ◌∙◌, subst, arith}
use Rattle.std.proofs.Common.{length-append}
use Rattle.std.proofs.lemmas.Option.{slice_get_within}
use Rattle.std.specs.Map.{lookup}
use Rattle.indexmap.specs.IndexMap.{get, index_map_len}
use Rattle.bf_forest.specs.Files.{is_same}
use Rattle.bf_history.specs.Named.{with_value}
use Rattle.bf_tables.specs.Slots.{Slots, filled, Leads, IsLedTo}
use Rattle.bf_tables.proofs.Numbered.{lacks, lacking_with, alone, alone_value, alone_with, same_length, leads_set, led_set, leads_empty, led_empty, leads_new}
use Rattle.bf_tables.proofs.Numbered.{led_new, empty_last, filled_last, always_err}
use Rattle.bf_tables.proofs.refs.Refs.set.Goals as goal

pub fill-requires : goal.fill-requires
fill-requires c =
    let slots = c.self.inside.slots.items in
    let name = c.args.name in
    let some : get is_same c.self.inside.numbers name ≡ Some c.in-Some.number = sym (sym c.in-Some.is ∙ c.copied.ensures ∙ c.get.ensures.value) in
    let there = c.self.invariant.1 name c.in-Some.number some in
    slice_get_within slots c.in-Some.number (Some (name, there.0)) there.1

pub invariant_of-self : goal.invariant_of-self
invariant_of-self c =
    let slots = c.self.inside.slots.items in
    let number = c.in-Some.number in
    let name = c.args.name in
    let value = c.args.place in
    let number_of = get is_same c.self.inside.numbers in
    let some : number_of name ≡ Some number = sym (sym c.in-Some.is ∙ c.copied.ensures ∙ c.get.ensures.value) in
    let there = c.self.invariant.1 name number some in
    let one = alone number_of slots c.self.invariant.2 name number some in
    let before = alone_value name there.0 number slots there.1 one in
    let length_stays = sym (same_length name value (filled slots) there.0 before) ∙ ap length (alone_with name there.0 value number slots there.1 one) in
    let P : Slots → Type 0 = λ v. (index_map_len c.self.inside.numbers ≡ length (filled v)) × Leads number_of v × IsLedTo number_of v in
    subst P (sym c.fill.ensures) (
      c.self.invariant.0 ∙ length_stays,
      leads_set number_of slots c.self.invariant.1 c.self.invariant.2 name there.0 value number there.1,
      led_set number_of slots c.self.invariant.1 c.self.invariant.2 name there.0 value number there.1,
    )

pub returns-in-Some-clause-ok : goal.returns-in-Some-clause-ok
returns-in-Some-clause-ok c =
    let slots = c.self.inside.slots.items in
    let number = c.in-Some.number in
    let name = c.args.name in
    let value = c.args.place in
    let number_of = get is_same c.self.inside.numbers in
    let some : number_of name ≡ Some number = sym (sym c.in-Some.is ∙ c.copied.ensures ∙ c.get.ensures.value) in
    let there = c.self.invariant.1 name number some in
    let one = alone number_of slots c.self.invariant.2 name number some in
    ap filled c.fill.ensures ∙ sym (alone_with name there.0 value number slots there.1 one) ∙ ap (with_value is_same name value) c.self.view_is

-- where there is no memory for the number, the new slot stays empty
pub invariant_of-self-in_err-insert : goal.invariant_of-self-in_err-insert
invariant_of-self-in_err-insert c =
    let slots = c.self.inside.slots.items in
    let old = c.self.inside.numbers.entries in
    let number_of = get is_same c.self.inside.numbers in
    let P : Slots → List (List ℕ × ℕ) → Type 0 = λ v es. (length es ≡ length (filled v)) × Leads (λ q. lookup (is_same q) es) v × IsLedTo
    (λ q. lookup (is_same q) es) v in
    let empty : P (slots ++ None ∷ []) old = (
      c.self.invariant.0 ∙ sym (ap length (empty_last slots)),
      leads_empty number_of slots c.self.invariant.1 c.self.invariant.2,
      led_empty number_of slots c.self.invariant.1 c.self.invariant.2,
    ) in
    subst (λ es. P c.push.new.self.items es) (sym c.in_err-insert.ensures.err) (subst (λ v. P v old) (sym c.in_ok-push.ensures.items) empty)

pub returns-in_err-insert-clause-err : goal.returns-in_err-insert-clause-err
returns-in_err-insert-clause-err c = always_err _ _ (ap filled c.in_ok-push.ensures.items ∙ empty_last c.self.inside.slots.items ∙ c.self.view_is)

pub invariant_of-self-2 : goal.invariant_of-self-2
invariant_of-self-2 c =
    let slots = c.self.inside.slots.items in
    let name = c.args.name in
    let value = c.args.place in
    let numbers = c.self.inside.numbers in
    let number_of = get is_same numbers in
    let next = get is_same c.insert.new.self in
    let none : number_of name ≡ None = sym (sym c.in_default.is ∙ c.copied.ensures ∙ c.get.ensures.value) in
    let number : c.len-number.result ≡ length slots = omega (arith, c.len-number.ensures, c.self.inside.slots.ok.0) in
    let after = set (slots ++ None ∷ []) (length slots) (Some (name, value)) in
    let all : c.fill-2.new.slots.items ≡ after = c.fill-2.ensures ∙ ap (λ v. set v c.len-number.result (Some (name, value))) c.in_ok-push.ensures.items
    ∙ ap (λ n. set (slots ++ None ∷ []) n (Some (name, value))) number in
    let key : c.in_ok-key.key ≡ name = c.in_ok-key.ensures in
    let is_next : (q : List ℕ) → next q ≡ cond (is_same name q) (Some (length slots)) (number_of q) = λ q. c.in_ok-insert.ensures.updates.0 q
    ∙ ap (λ k. cond (is_same k q) (Some c.len-number.result) (number_of q)) key ∙ ap (λ n. cond (is_same name q) (Some n) (number_of q)) number in
    let before : c.in_ok-insert.field-0 ≡ None = c.in_ok-insert.ensures.old ∙ ap number_of key ∙ none in
    let more = c.in_ok-insert.ensures.len ∙ ap (λ (o : Option ℕ). index_map_len numbers + (if is_some o then 0 else 1)) before in
    let last = ap length (filled_last slots (name, value)) in
    let count : index_map_len c.insert.new.self ≡ length (filled after) = omega
    (arith, more, last, length-append (filled slots) ((name, value) ∷ []), c.self.invariant.0) in
    let P : Slots → Type 0 = λ v. (index_map_len c.insert.new.self ≡ length (filled v)) × Leads next v × IsLedTo next v in
    subst P (sym all) (
      count,
      leads_new number_of slots c.self.invariant.1 c.self.invariant.2 next name value none is_next,
      led_new number_of slots c.self.invariant.1 c.self.invariant.2 next name value none is_next,
    )

pub returns-clause-ok : goal.returns-clause-ok
returns-clause-ok c =
    let slots = c.self.inside.slots.items in
    let name = c.args.name in
    let value = c.args.place in
    let number_of = get is_same c.self.inside.numbers in
    let none : number_of name ≡ None = sym (sym c.in_default.is ∙ c.copied.ensures ∙ c.get.ensures.value) in
    let number : c.len-number.result ≡ length slots = omega (arith, c.len-number.ensures, c.self.inside.slots.ok.0) in
    let after = set (slots ++ None ∷ []) (length slots) (Some (name, value)) in
    let all : c.fill-2.new.slots.items ≡ after = c.fill-2.ensures ∙ ap (λ v. set v c.len-number.result (Some (name, value))) c.in_ok-push.ensures.items
    ∙ ap (λ n. set (slots ++ None ∷ []) n (Some (name, value))) number in
    ap filled all ∙ filled_last slots (name, value) ∙ sym (lacking_with name value slots (lacks number_of slots c.self.invariant.2 name none))
    ∙ ap (with_value is_same name value) c.self.view_is
