-- Marks that are found by the indices of their numbers.
use Rattle.std.proofs.Common.{◌≡◌, ℕ, zero, suc, ◌<◌, false, nat_eq, cond, List, [], ◌∷◌, ◌++◌, length, slice_get, set, Option, Some, None}
use Rattle.std.proofs.Common.{if◌then◌else◌, ◌==◌, refl, sym, ap, ◌∙◌, inl, inr, eq-eqb, eqb-true, arith}
use Rattle.std.proofs.lemmas.Bool.{cases_Bool, false≢true}
use Rattle.bf_history.specs.declared.marked.Marked.{Marked}
use Rattle.bf_history.specs.Meanings.{mark_in}
use Rattle.bf_history.specs.Named.{with_value}
use Rattle.bf_tables.specs.Indices.{IsJoined, LeadToEntries, HaveIndices}

different : (a b : ℕ) → nat_eq a b ≡ false → a ≡ b → ⊥
different a b h e = false≢true (sym h ∙ eq-eqb a b e)

-- ---- a number that no entry has

abbrev pub IsLacking : ℕ → List (ℕ × Marked) → Type 0
IsLacking number entries = (index : ℕ) (what : Marked) → slice_get entries index ≡ Some (number, what) → ⊥

another : (number : ℕ) (given : ℕ × Marked) (entries : List (ℕ × Marked)) → IsLacking number (given ∷ entries) → nat_eq number given.0 ≡ false
another number given entries h = elim (cases_Bool (nat_eq number given.0)) [
  | inl same ↦ absurd (h 0 given.1 (ap (λ n. Some (n, given.1)) (sym (eqb-true number given.0 same))))
  | inr other ↦ other
]

pub lacking_value : (number : ℕ) (entries : List (ℕ × Marked)) → IsLacking number entries → mark_in entries number ≡ None
lacking_value number [] h = refl
lacking_value number (given ∷ entries) h =
    ap (λ b. if b then Some given.1 else mark_in entries number) (another number given entries h)
    ∙ lacking_value number entries (λ index what e. h (suc index) what e)

pub lacking_with : (number : ℕ) (value : Marked) (entries : List (ℕ × Marked)) → IsLacking number entries
    → with_value ◌==◌ number value entries ≡ entries ++ (number, value) ∷ []
lacking_with number value [] h = refl
lacking_with number value (given ∷ entries) h =
    ap (λ b. if b then (given.0, value) ∷ entries else given ∷ with_value ◌==◌ number value entries) (another number given entries h)
    ∙ ap (λ v. given ∷ v) (lacking_with number value entries (λ index what e. h (suc index) what e))

-- ---- a number that one entry has

abbrev pub IsAlone : ℕ → ℕ → List (ℕ × Marked) → Type 0
IsAlone number index entries = (other : ℕ) (what : Marked) → slice_get entries other ≡ Some (number, what) → other ≡ index

rest_alone : (number index : ℕ) (given : ℕ × Marked) (entries : List (ℕ × Marked)) → IsAlone number (suc index) (given ∷ entries)
    → IsAlone number index entries
rest_alone number index given entries h = λ other what e. let same = h (suc other) what e in omega (arith, same)

another_first : (number index : ℕ) (given : ℕ × Marked) (entries : List (ℕ × Marked)) → IsAlone number (suc index) (given ∷ entries)
    → nat_eq number given.0 ≡ false
another_first number index given entries h = elim (cases_Bool (nat_eq number given.0)) [
  | inl same ↦
      let at : 0 ≡ suc index = h 0 given.1 (ap (λ n. Some (n, given.1)) (sym (eqb-true number given.0 same))) in
      absurd (omega (arith, at))
  | inr other ↦ other
]

pub alone_value : (number : ℕ) (what : Marked) (index : ℕ) (entries : List (ℕ × Marked)) → slice_get entries index ≡ Some (number, what)
    → IsAlone number index entries → mark_in entries number ≡ Some what
alone_value number what index [] at h = cc
alone_value number what zero (given ∷ entries) at h =
    let e : given ≡ (number, what) = cc in
    ap (λ (v : ℕ × Marked). if nat_eq number v.0 then Some v.1 else mark_in entries number) e
    ∙ ap (λ b. if b then Some what else mark_in entries number) (eq-eqb number number refl)
alone_value number what (suc index) (given ∷ entries) at h =
    ap (λ b. if b then Some given.1 else mark_in entries number) (another_first number index given entries h)
    ∙ alone_value number what index entries at (rest_alone number index given entries h)

pub alone_with : (number : ℕ) (what value : Marked) (index : ℕ) (entries : List (ℕ × Marked)) → slice_get entries index ≡ Some (number, what)
    → IsAlone number index entries → with_value ◌==◌ number value entries ≡ set entries index (number, value)
alone_with number what value index [] at h = cc
alone_with number what value zero (given ∷ entries) at h =
    let e : given ≡ (number, what) = cc in
    ap (λ (v : ℕ × Marked). if nat_eq number v.0 then (v.0, value) ∷ entries else v ∷ with_value ◌==◌ number value entries) e
    ∙ ap (λ b. if b then (number, value) ∷ entries else (number, what) ∷ with_value ◌==◌ number value entries) (eq-eqb number number refl)
alone_with number what value (suc index) (given ∷ entries) at h =
    ap (λ b. if b then (given.0, value) ∷ entries else given ∷ with_value ◌==◌ number value entries) (another_first number index given entries h)
    ∙ ap (λ v. given ∷ v) (alone_with number what value index entries at (rest_alone number index given entries h))

-- ---- the numbers that have an index

module _ (index_of : ℕ → Option ℕ) (entries : List (ℕ × Marked)) (have : HaveIndices index_of entries) (number : ℕ) where
  pub lacks : index_of number ≡ None → IsLacking number entries
  lacks none = λ index what at. let some = have number what index at in cc

  pub alone : (index : ℕ) → index_of number ≡ Some index → IsAlone number index entries
  alone index is = λ other what at. let some : index_of number ≡ Some other = have number what other at in cc

-- ---- entries that change

at_set : (entries : List (ℕ × Marked)) (index : ℕ) (entry : ℕ × Marked) → index < length entries → slice_get (set entries index entry) index ≡ Some entry
at_set [] index entry l = absurd (omega arith)
at_set (first ∷ entries) zero entry l = refl
at_set (first ∷ entries) (suc index) entry l = at_set entries index entry (omega arith)

beside_set : (entries : List (ℕ × Marked)) (index other : ℕ) (entry : ℕ × Marked) → (other ≡ index → ⊥)
    → slice_get (set entries index entry) other ≡ slice_get entries other
beside_set [] index other entry h = refl
beside_set (first ∷ entries) zero zero entry h = absurd (h refl)
beside_set (first ∷ entries) zero (suc other) entry h = refl
beside_set (first ∷ entries) (suc index) zero entry h = refl
beside_set (first ∷ entries) (suc index) (suc other) entry h = beside_set entries index other entry (λ e. h (ap suc e))

pub within : (entries : List (ℕ × Marked)) (index : ℕ) (entry : ℕ × Marked) → slice_get entries index ≡ Some entry → index < length entries
within [] index entry at = cc
within (first ∷ entries) zero entry at = omega arith
within (first ∷ entries) (suc index) entry at = let l = within entries index entry at in omega (arith, l)

front_at : (entries more : List (ℕ × Marked)) (index : ℕ) (entry : ℕ × Marked) → slice_get entries index ≡ Some entry
    → slice_get (entries ++ more) index ≡ Some entry
front_at [] more index entry at = cc
front_at (first ∷ entries) more zero entry at = at
front_at (first ∷ entries) more (suc index) entry at = front_at entries more index entry at

last_at : (entries : List (ℕ × Marked)) (entry : ℕ × Marked) → slice_get (entries ++ entry ∷ []) (length entries) ≡ Some entry
last_at [] entry = refl
last_at (first ∷ entries) entry = last_at entries entry

not_last : (entries : List (ℕ × Marked)) (last : ℕ × Marked) (index : ℕ) (entry : ℕ × Marked) → (index ≡ length entries → ⊥)
    → slice_get (entries ++ last ∷ []) index ≡ Some entry → slice_get entries index ≡ Some entry
not_last [] last zero entry h at = absurd (h refl)
not_last [] last (suc index) entry h at = cc
not_last (first ∷ entries) last zero entry h at = at
not_last (first ∷ entries) last (suc index) entry h at = not_last entries last index entry (λ e. h (ap suc e)) at

-- ---- each change keeps the numbers with their entries

module _ (index_of : ℕ → Option ℕ) (entries : List (ℕ × Marked)) (lead : LeadToEntries index_of entries) (have : HaveIndices index_of entries) where
  module _ (number : ℕ) (what value : Marked) (index : ℕ) (at : slice_get entries index ≡ Some (number, what)) where
    here : slice_get (set entries index (number, value)) index ≡ Some (number, value)
    here = at_set entries index (number, value) (within entries index (number, what) at)

    pub lead_set : LeadToEntries index_of (set entries index (number, value))
    lead_set = λ other k e. elim (cases_Bool (nat_eq k index)) [
      | inl same ↦
          let is : k ≡ index = eqb-true k index same in
          let old = lead other k e in
          let before : slice_get entries index ≡ Some (other, old.0) = ap (slice_get entries) (sym is) ∙ old.1 in
          let pair : (number, what) ≡ (other, old.0) = cc in
          let numbers = ap (λ (v : ℕ × Marked). v.0) pair in
          (value, ap (slice_get (set entries index (number, value))) is ∙ here ∙ ap (λ n. Some (n, value)) numbers)
      | inr another ↦
          let old = lead other k e in
          (old.0, beside_set entries index k (number, value) (different k index another) ∙ old.1)
    ]

    pub have_set : HaveIndices index_of (set entries index (number, value))
    have_set = λ other w k e. elim (cases_Bool (nat_eq k index)) [
      | inl same ↦
          let is : k ≡ index = eqb-true k index same in
          let after : slice_get (set entries index (number, value)) index ≡ Some (other, w) = ap (slice_get (set entries index (number, value))) (sym is) ∙ e in
          let first = here in
          let pair : (other, w) ≡ (number, value) = cc in
          ap index_of (ap (λ (v : ℕ × Marked). v.0) pair) ∙ have number what index at ∙ ap (λ v. Some v) (sym is)
      | inr another ↦ have other w k (sym (beside_set entries index k (number, value) (different k index another)) ∙ e)
    ]

  module _ (next : ℕ → Option ℕ) (number : ℕ) (value : Marked) (none : index_of number ≡ None) (joined : IsJoined number (length entries) index_of next) where
    pub lead_new : LeadToEntries next (entries ++ (number, value) ∷ [])
    lead_new = λ other k e. elim (cases_Bool (nat_eq number other)) [
      | inl same ↦
          let numbers : number ≡ other = eqb-true number other same in
          let found : next other ≡ Some (length entries) = joined other ∙ ap (λ b. cond b (Some (length entries)) (index_of other)) same in
          let is : k ≡ length entries = cc in
          (value, ap (slice_get (entries ++ (number, value) ∷ [])) is ∙ last_at entries (number, value) ∙ ap (λ n. Some (n, value)) numbers)
      | inr another ↦
          let found : index_of other ≡ Some k = sym (joined other ∙ ap (λ b. cond b (Some (length entries)) (index_of other)) another) ∙ e in
          let old = lead other k found in
          (old.0, front_at entries ((number, value) ∷ []) k (other, old.0) old.1)
    ]

    pub have_new : HaveIndices next (entries ++ (number, value) ∷ [])
    have_new = λ other w k e. elim (cases_Bool (nat_eq k (length entries))) [
      | inl same ↦
          let is : k ≡ length entries = eqb-true k (length entries) same in
          let after : slice_get (entries ++ (number, value) ∷ []) (length entries) ≡ Some (other, w) =
          ap (slice_get (entries ++ (number, value) ∷ [])) (sym is) ∙ e in
          let first = last_at entries (number, value) in
          let pair : (number, value) ≡ (other, w) = cc in
          let numbers : number ≡ other = ap (λ (v : ℕ × Marked). v.0) pair in
          joined other ∙ ap (λ b. cond b (Some (length entries)) (index_of other)) (eq-eqb number other numbers) ∙ ap (λ v. Some v) (sym is)
      | inr apart ↦
          let old = have other w k (not_last entries (number, value) k (other, w) (different k (length entries) apart) e) in
          elim (cases_Bool (nat_eq number other)) [
            | inl same ↦
                let some : index_of number ≡ Some k = ap index_of (eqb-true number other same) ∙ old in
                absurd (cc)
            | inr another ↦ joined other ∙ ap (λ b. cond b (Some (length entries)) (index_of other)) another ∙ old
          ]
    ]
