-- Refs that are found by the numbers of their slots.
use Rattle.std.proofs.Common.{◌≡◌, ℕ, zero, suc, ◌+◌, ◌<◌, true, false, nat_eq, cond, List, [], ◌∷◌, ◌++◌, length, take, slice_get, set, Option, Some, None}
use Rattle.std.proofs.Common.{is_some, Result, Ok, Err, if◌then◌else◌, refl, sym, ap, ◌∙◌, subst, inl, inr, length-append, eq-eqb, arith}
use Rattle.std.specs.Result.{OnErr}
use Rattle.std.proofs.lemmas.Bool.{cases_Bool, false≢true, eqb-true}
use Rattle.std.proofs.lemmas.Slice.Eq.{bytes_eq-Decides}
use Rattle.bf_forest.specs.Files.{is_same}
use Rattle.bf_history.specs.Named.{value_of, with_value, without_value}
use Rattle.bf_tables.specs.Slots.{Slots, filled, Leads, IsLedTo}

same_name : (a b : List ℕ) → is_same a b ≡ true → a ≡ b
same_name a b h = (bytes_eq-Decides a b).0 h

is_itself : (a : List ℕ) → is_same a a ≡ true
is_itself a = (bytes_eq-Decides a a).1 refl

-- ---- a name that no slot has

abbrev pub IsLacking : List ℕ → Slots → Type 0
IsLacking name slots = (number place : ℕ) → slice_get slots number ≡ Some (Some (name, place)) → ⊥

another : (name : List ℕ) (given : List ℕ × ℕ) (slots : Slots) → IsLacking name (Some given ∷ slots) → is_same name given.0 ≡ false
another name given slots h = elim (cases_Bool (is_same name given.0)) [
  | inl same ↦
      let e = same_name name given.0 same in
      let P : List ℕ → Type 0 = λ v. Some (Some given) ≡ Some (Some (v, given.1)) in
      absurd (h 0 given.1 (subst P (sym e) refl))
  | inr other ↦ other
]

pub lacking_value : (name : List ℕ) (slots : Slots) → IsLacking name slots → value_of is_same name (filled slots) ≡ None
lacking_value name [] h = refl
lacking_value name (None ∷ slots) h = lacking_value name slots (λ number place e. h (suc number) place e)
lacking_value name (Some given ∷ slots) h =
    ap (λ b. if b then Some given.1 else value_of is_same name (filled slots)) (another name given slots h)
    ∙ lacking_value name slots (λ number place e. h (suc number) place e)

pub lacking_with : (name : List ℕ) (value : ℕ) (slots : Slots) → IsLacking name slots
    → with_value is_same name value (filled slots) ≡ filled slots ++ (name, value) ∷ []
lacking_with name value [] h = refl
lacking_with name value (None ∷ slots) h = lacking_with name value slots (λ number place e. h (suc number) place e)
lacking_with name value (Some given ∷ slots) h =
    ap (λ b. if b then (given.0, value) ∷ filled slots else given ∷ with_value is_same name value (filled slots)) (another name given slots h)
    ∙ ap (λ v. given ∷ v) (lacking_with name value slots (λ number place e. h (suc number) place e))

pub lacking_without : (name : List ℕ) (slots : Slots) → IsLacking name slots → without_value is_same name (filled slots) ≡ filled slots
lacking_without name [] h = refl
lacking_without name (None ∷ slots) h = lacking_without name slots (λ number place e. h (suc number) place e)
lacking_without name (Some given ∷ slots) h =
    ap (λ b. if b then filled slots else given ∷ without_value is_same name (filled slots)) (another name given slots h)
    ∙ ap (λ v. given ∷ v) (lacking_without name slots (λ number place e. h (suc number) place e))

-- ---- a name that one slot has

abbrev pub IsAlone : List ℕ → ℕ → Slots → Type 0
IsAlone name number slots = (other place : ℕ) → slice_get slots other ≡ Some (Some (name, place)) → other ≡ number

rest_alone : (name : List ℕ) (number : ℕ) (slot : Option (List ℕ × ℕ)) (slots : Slots) → IsAlone name (suc number) (slot ∷ slots) → IsAlone name number slots
rest_alone name number slot slots h = λ other place e. let same = h (suc other) place e in omega (arith, same)

another_first : (name : List ℕ) (number : ℕ) (given : List ℕ × ℕ) (slots : Slots) → IsAlone name (suc number) (Some given ∷ slots)
    → is_same name given.0 ≡ false
another_first name number given slots h = elim (cases_Bool (is_same name given.0)) [
  | inl same ↦
      let e = same_name name given.0 same in
      let P : List ℕ → Type 0 = λ v. Some (Some given) ≡ Some (Some (v, given.1)) in
      let at : 0 ≡ suc number = h 0 given.1 (subst P (sym e) refl) in
      absurd (omega (arith, at))
  | inr other ↦ other
]

pub alone_value : (name : List ℕ) (place number : ℕ) (slots : Slots) → slice_get slots number ≡ Some (Some (name, place)) → IsAlone name number slots
    → value_of is_same name (filled slots) ≡ Some place
alone_value name place number [] at h = cc
alone_value name place zero (None ∷ slots) at h = cc
alone_value name place zero (Some given ∷ slots) at h =
    let e : given ≡ (name, place) = cc in
    ap (λ (v : List ℕ × ℕ). if is_same name v.0 then Some v.1 else value_of is_same name (filled slots)) e
    ∙ ap (λ b. if b then Some place else value_of is_same name (filled slots)) (is_itself name)
alone_value name place (suc number) (None ∷ slots) at h = alone_value name place number slots at (rest_alone name number None slots h)
alone_value name place (suc number) (Some given ∷ slots) at h =
    ap (λ b. if b then Some given.1 else value_of is_same name (filled slots)) (another_first name number given slots h)
    ∙ alone_value name place number slots at (rest_alone name number (Some given) slots h)

pub alone_with : (name : List ℕ) (place value number : ℕ) (slots : Slots) → slice_get slots number ≡ Some (Some (name, place)) → IsAlone name number slots
    → with_value is_same name value (filled slots) ≡ filled (set slots number (Some (name, value)))
alone_with name place value number [] at h = cc
alone_with name place value zero (None ∷ slots) at h = cc
alone_with name place value zero (Some given ∷ slots) at h =
    let e : given ≡ (name, place) = cc in
    ap (λ (v : List ℕ × ℕ). if is_same name v.0 then (v.0, value) ∷ filled slots else v ∷ with_value is_same name value (filled slots)) e
    ∙ ap (λ b. if b then (name, value) ∷ filled slots else (name, place) ∷ with_value is_same name value (filled slots)) (is_itself name)
alone_with name place value (suc number) (None ∷ slots) at h = alone_with name place value number slots at (rest_alone name number None slots h)
alone_with name place value (suc number) (Some given ∷ slots) at h =
    ap (λ b. if b then (given.0, value) ∷ filled slots else given ∷ with_value is_same name value (filled slots)) (another_first name number given slots h)
    ∙ ap (λ v. given ∷ v) (alone_with name place value number slots at (rest_alone name number (Some given) slots h))

pub alone_without : (name : List ℕ) (place number : ℕ) (slots : Slots) → slice_get slots number ≡ Some (Some (name, place)) → IsAlone name number slots
    → without_value is_same name (filled slots) ≡ filled (set slots number None)
alone_without name place number [] at h = cc
alone_without name place zero (None ∷ slots) at h = cc
alone_without name place zero (Some given ∷ slots) at h =
    let e : given ≡ (name, place) = cc in
    ap (λ (v : List ℕ × ℕ). if is_same name v.0 then filled slots else v ∷ without_value is_same name (filled slots)) e
    ∙ ap (λ b. if b then filled slots else (name, place) ∷ without_value is_same name (filled slots)) (is_itself name)
alone_without name place (suc number) (None ∷ slots) at h = alone_without name place number slots at (rest_alone name number None slots h)
alone_without name place (suc number) (Some given ∷ slots) at h =
    ap (λ b. if b then filled slots else given ∷ without_value is_same name (filled slots)) (another_first name number given slots h)
    ∙ ap (λ v. given ∷ v) (alone_without name place number slots at (rest_alone name number (Some given) slots h))

-- ---- the names that lead somewhere

module _ (number_of : List ℕ → Option ℕ) (slots : Slots) (led : IsLedTo number_of slots) (name : List ℕ) where
  pub lacks : number_of name ≡ None → IsLacking name slots
  lacks none = λ number place at. let some = led name place number at in cc

  pub alone : (number : ℕ) → number_of name ≡ Some number → IsAlone name number slots
  alone number is = λ other place at. let some : number_of name ≡ Some other = led name place other at in cc

-- ---- slots that change

at_set : (slots : Slots) (number : ℕ) (slot : Option (List ℕ × ℕ)) → number < length slots → slice_get (set slots number slot) number ≡ Some slot
at_set [] number slot l = absurd (omega arith)
at_set (first ∷ slots) zero slot l = refl
at_set (first ∷ slots) (suc number) slot l = at_set slots number slot (omega arith)

beside_set : (slots : Slots) (number other : ℕ) (slot : Option (List ℕ × ℕ)) → (other ≡ number → ⊥)
    → slice_get (set slots number slot) other ≡ slice_get slots other
beside_set [] number other slot h = refl
beside_set (first ∷ slots) zero zero slot h = absurd (h refl)
beside_set (first ∷ slots) zero (suc other) slot h = refl
beside_set (first ∷ slots) (suc number) zero slot h = refl
beside_set (first ∷ slots) (suc number) (suc other) slot h = beside_set slots number other slot (λ e. h (ap suc e))

within : (slots : Slots) (number : ℕ) (slot : Option (List ℕ × ℕ)) → slice_get slots number ≡ Some slot → number < length slots
within [] number slot at = cc
within (first ∷ slots) zero slot at = omega arith
within (first ∷ slots) (suc number) slot at = let l = within slots number slot at in omega (arith, l)

pub empty_last : (slots : Slots) → filled (slots ++ None ∷ []) ≡ filled slots
empty_last [] = refl
empty_last (None ∷ slots) = empty_last slots
empty_last (Some given ∷ slots) = ap (λ v. given ∷ v) (empty_last slots)

pub filled_last : (slots : Slots) (given : List ℕ × ℕ) → filled (set (slots ++ None ∷ []) (length slots) (Some given)) ≡ filled slots ++ given ∷ []
filled_last [] given = refl
filled_last (None ∷ slots) given = filled_last slots given
filled_last (Some first ∷ slots) given = ap (λ v. first ∷ v) (filled_last slots given)

pub same_length : (name : List ℕ) (value : ℕ) (refs : List (List ℕ × ℕ)) (place : ℕ) → value_of is_same name refs ≡ Some place
    → length (with_value is_same name value refs) ≡ length refs
same_length name value [] place e = cc
same_length name value (given ∷ refs) place e = elim (cases_Bool (is_same name given.0)) [
  | inl same ↦ ap (λ b. length (if b then (given.0, value) ∷ refs else given ∷ with_value is_same name value refs)) same
  | inr other ↦
      let rest : value_of is_same name refs ≡ Some place = sym (ap (λ b. if b then Some given.1 else value_of is_same name refs) other) ∙ e in
      let more = same_length name value refs place rest in
      ap (λ b. length (if b then (given.0, value) ∷ refs else given ∷ with_value is_same name value refs)) other ∙ ap suc more
]

pub one_less : (name : List ℕ) (refs : List (List ℕ × ℕ)) (place : ℕ) → value_of is_same name refs ≡ Some place
    → suc (length (without_value is_same name refs)) ≡ length refs
one_less name [] place e = cc
one_less name (given ∷ refs) place e = elim (cases_Bool (is_same name given.0)) [
  | inl same ↦ ap (λ b. suc (length (if b then refs else given ∷ without_value is_same name refs))) same
  | inr other ↦
      let rest : value_of is_same name refs ≡ Some place = sym (ap (λ b. if b then Some given.1 else value_of is_same name refs) other) ∙ e in
      let more = one_less name refs place rest in
      ap (λ b. suc (length (if b then refs else given ∷ without_value is_same name refs))) other ∙ ap suc more
]

front_at : (slots more : Slots) (number : ℕ) (slot : Option (List ℕ × ℕ)) → slice_get slots number ≡ Some slot → slice_get (slots ++ more) number ≡ Some slot
front_at [] more number slot at = cc
front_at (first ∷ slots) more zero slot at = at
front_at (first ∷ slots) more (suc number) slot at = front_at slots more number slot at

not_last : (slots : Slots) (number : ℕ) (given : List ℕ × ℕ) → slice_get (slots ++ None ∷ []) number ≡ Some (Some given)
    → slice_get slots number ≡ Some (Some given)
not_last [] zero given at = cc
not_last [] (suc number) given at = cc
not_last (first ∷ slots) zero given at = at
not_last (first ∷ slots) (suc number) given at = not_last slots number given at

different : (a b : ℕ) → nat_eq a b ≡ false → a ≡ b → ⊥
different a b h e = false≢true (sym h ∙ eq-eqb a b e)

-- ---- each change keeps the names with their slots

module _ (number_of : List ℕ → Option ℕ) (slots : Slots) (leads : Leads number_of slots) (led : IsLedTo number_of slots) where
  module _ (name : List ℕ) (place value number : ℕ) (at : slice_get slots number ≡ Some (Some (name, place))) where
    here : slice_get (set slots number (Some (name, value))) number ≡ Some (Some (name, value))
    here = at_set slots number (Some (name, value)) (within slots number (Some (name, place)) at)

    pub leads_set : Leads number_of (set slots number (Some (name, value)))
    leads_set = λ other k e. elim (cases_Bool (nat_eq k number)) [
      | inl same ↦
          let is : k ≡ number = eqb-true k number same in
          let old = leads other k e in
          let before : slice_get slots number ≡ Some (Some (other, old.0)) = ap (slice_get slots) (sym is) ∙ old.1 in
          let pair : (name, place) ≡ (other, old.0) = cc in
          let names = ap (λ (v : List ℕ × ℕ). v.0) pair in
          (value, ap (slice_get (set slots number (Some (name, value)))) is ∙ here ∙ ap (λ v. Some (Some (v, value))) names)
      | inr other_slot ↦
          let old = leads other k e in
          (old.0, beside_set slots number k (Some (name, value)) (different k number other_slot) ∙ old.1)
    ]

    pub led_set : IsLedTo number_of (set slots number (Some (name, value)))
    led_set = λ other p k e. elim (cases_Bool (nat_eq k number)) [
      | inl same ↦
          let is : k ≡ number = eqb-true k number same in
          let after : slice_get (set slots number (Some (name, value))) number ≡ Some (Some (other, p)) = ap (slice_get (set slots number (Some (name, value))))
          (sym is) ∙ e in
          let first = here in
          let pair : (other, p) ≡ (name, value) = cc in
          let names = ap (λ (v : List ℕ × ℕ). v.0) pair in
          ap number_of names ∙ led name place number at ∙ ap (λ v. Some v) (sym is)
      | inr other_slot ↦ led other p k (sym (beside_set slots number k (Some (name, value)) (different k number other_slot)) ∙ e)
    ]

  pub leads_empty : Leads number_of (slots ++ None ∷ [])
  leads_empty = λ other k e. let old = leads other k e in (old.0, front_at slots (None ∷ []) k (Some (other, old.0)) old.1)

  pub led_empty : IsLedTo number_of (slots ++ None ∷ [])
  led_empty = λ other p k e. led other p k (not_last slots k (other, p) e)

  module _ (next : List ℕ → Option ℕ) (name : List ℕ) (value : ℕ) (none : number_of name ≡ None)
      (is_next : (q : List ℕ) → next q ≡ cond (is_same name q) (Some (length slots)) (number_of q)) where
    room : length slots < length (slots ++ None ∷ [])
    room = omega (arith, length-append slots (None ∷ []))

    last_there : slice_get (set (slots ++ None ∷ []) (length slots) (Some (name, value))) (length slots) ≡ Some (Some (name, value))
    last_there = at_set (slots ++ None ∷ []) (length slots) (Some (name, value)) room

    pub leads_new : Leads next (set (slots ++ None ∷ []) (length slots) (Some (name, value)))
    leads_new = λ other k e. elim (cases_Bool (is_same name other)) [
      | inl same ↦
          let names = same_name name other same in
          let found : next other ≡ Some (length slots) = is_next other ∙ ap (λ b. cond b (Some (length slots)) (number_of other)) same in
          let is : k ≡ length slots = cc in
          (value, ap (slice_get (set (slots ++ None ∷ []) (length slots) (Some (name, value)))) is ∙ last_there ∙ ap (λ v. Some (Some (v, value))) names)
      | inr other_name ↦
          let found : number_of other ≡ Some k = sym (is_next other ∙ ap (λ b. cond b (Some (length slots)) (number_of other)) other_name) ∙ e in
          let old = leads other k found in
          let less = within slots k (Some (other, old.0)) old.1 in (
            old.0,
            beside_set (slots ++ None ∷ []) (length slots) k (Some (name, value)) (λ is. absurd (omega (arith, less, is))) ∙ front_at slots (None ∷ []) k
                (Some (other, old.0)) old.1,
          )
    ]

    pub led_new : IsLedTo next (set (slots ++ None ∷ []) (length slots) (Some (name, value)))
    led_new = λ other p k e. elim (cases_Bool (nat_eq k (length slots))) [
      | inl same ↦
          let is : k ≡ length slots = eqb-true k (length slots) same in
          let after : slice_get (set (slots ++ None ∷ []) (length slots) (Some (name, value))) (length slots) ≡ Some (Some (other, p)) =
          ap (slice_get (set (slots ++ None ∷ []) (length slots) (Some (name, value)))) (sym is) ∙ e in
          let first = last_there in
          let pair : (name, value) ≡ (other, p) = cc in
          let names = ap (λ (v : List ℕ × ℕ). v.0) pair in
          is_next other ∙ ap (λ b. cond b (Some (length slots)) (number_of other)) (ap (is_same name) (sym names) ∙ is_itself name) ∙ ap (λ v. Some v) (sym is)
      | inr other_slot ↦
          let before = not_last slots k (other, p) (sym (beside_set (slots ++ None ∷ []) (length slots) k (Some (name, value))
          (different k (length slots) other_slot)) ∙ e) in
          let old = led other p k before in
          elim (cases_Bool (is_same name other)) [
            | inl same ↦
                let names = same_name name other same in
                let some : number_of name ≡ Some k = ap number_of names ∙ old in
                absurd (cc)
            | inr other_name ↦ is_next other ∙ ap (λ b. cond b (Some (length slots)) (number_of other)) other_name ∙ old
          ]
    ]

  module _ (next : List ℕ → Option ℕ) (name : List ℕ) (number : ℕ) (some : number_of name ≡ Some number)
      (is_next : (q : List ℕ) → next q ≡ cond (is_same name q) None (number_of q)) where
    pub leads_less : Leads next (set slots number None)
    leads_less = λ other k e. elim (cases_Bool (is_same name other)) [
      | inl same ↦
          let gone : next other ≡ None = is_next other ∙ ap (λ b. cond b None (number_of other)) same in
          absurd (cc)
      | inr other_name ↦
          let found : number_of other ≡ Some k = sym (is_next other ∙ ap (λ b. cond b None (number_of other)) other_name) ∙ e in
          let old = leads other k found in
          let its = leads name number some in
          let apart : k ≡ number → ⊥ = λ is.
          let both : slice_get slots number ≡ Some (Some (other, old.0)) = ap (slice_get slots) (sym is) ∙ old.1 in
          let pair : (name, its.0) ≡ (other, old.0) = cc in
          let names = ap (λ (v : List ℕ × ℕ). v.0) pair in
          false≢true (sym other_name ∙ ap (is_same name) (sym names) ∙ is_itself name) in
          (old.0, beside_set slots number k None apart ∙ old.1)
    ]

    pub led_less : IsLedTo next (set slots number None)
    led_less = λ other p k e. elim (cases_Bool (nat_eq k number)) [
      | inl same ↦
          let is : k ≡ number = eqb-true k number same in
          let its = leads name number some in
          let after : slice_get (set slots number None) number ≡ Some (Some (other, p)) = ap (slice_get (set slots number None)) (sym is) ∙ e in
          let empty = at_set slots number None (within slots number (Some (name, its.0)) its.1) in
          absurd (cc)
      | inr other_slot ↦
          let apart = different k number other_slot in
          let old = led other p k (sym (beside_set slots number k None apart) ∙ e) in
          elim (cases_Bool (is_same name other)) [
            | inl same ↦
                let names = same_name name other same in
                let both : number_of name ≡ Some k = ap number_of names ∙ old in
                let is : k ≡ number = cc in
                absurd (apart is)
            | inr other_name ↦ is_next other ∙ ap (λ b. cond b None (number_of other)) other_name ∙ old
          ]
    ]

-- ---- the refs by their index

abbrev pub count_of : Option (List ℕ × ℕ) → ℕ
count_of None = 0
count_of (Some given) = 1

pub count_more : (slots : Slots) (number : ℕ) (slot : Option (List ℕ × ℕ)) → slice_get slots number ≡ Some slot
    → length (filled (take (suc number) slots)) ≡ length (filled (take number slots)) + count_of slot
count_more [] number slot at = cc
count_more (None ∷ slots) zero slot at =
    let e : None ≡ slot = cc in
    let count = ap count_of e in
    omega (arith, count)
count_more (Some first ∷ slots) zero slot at =
    let e : Some first ≡ slot = cc in
    let count = ap count_of e in
    omega (arith, count)
count_more (None ∷ slots) (suc number) slot at = count_more slots number slot at
count_more (Some first ∷ slots) (suc number) slot at = let more = count_more slots number slot at in omega (arith, more)

pub index_of_slot : (slots : Slots) (number : ℕ) (given : List ℕ × ℕ) → slice_get slots number ≡ Some (Some given)
    → slice_get (filled slots) (length (filled (take number slots))) ≡ Some given
index_of_slot [] number given at = cc
index_of_slot (None ∷ slots) zero given at = cc
index_of_slot (Some first ∷ slots) zero given at = cc
index_of_slot (None ∷ slots) (suc number) given at = index_of_slot slots number given at
index_of_slot (Some first ∷ slots) (suc number) given at = index_of_slot slots number given at

pub full_slot : (slot : Option (List ℕ × ℕ)) → is_some slot ≡ true → (given : List ℕ × ℕ) × (slot ≡ Some given)
full_slot None h = absurd (false≢true h)
full_slot (Some given) h = (given, refl)

pub one_in : (slot : Option (List ℕ × ℕ)) → is_some slot ≡ true → count_of slot ≡ 1
one_in None h = absurd (false≢true h)
one_in (Some given) h = refl

pub none_in : (slot : Option (List ℕ × ℕ)) → is_some slot ≡ false → count_of slot ≡ 0
none_in None h = refl
none_in (Some given) h = absurd (false≢true (sym h))

pub always_err : {T E : Type 0} (r : Result T E) (P : Type 0) → P → OnErr r P
always_err (Ok x) P p = tt
always_err (Err e) P p = p
