-- Where a key stands among old entries.
use Rattle.std.proofs.Common.{◌≡◌, ℕ, zero, suc, ◌+◌, ◌<◌, ◌≤◌, true, false, nat_lt, cond, if◌then◌else◌, List, [], ◌∷◌, ◌++◌, length, take, drop, get_or}
use Rattle.std.proofs.Common.{Option, Some, None, refl, sym, ap, ◌∙◌, subst, inl, inr, arith}
use Rattle.std.specs.Ordering.{nat_cmp, is_lt, is_eq}
use Rattle.std.specs.declared.cmp.Ordering.{Ordering}
use Rattle.std.specs.declared.cmp.Ordering.TheVariants.{Less, Equal, Greater}
use Rattle.std.specs.Cmp.Lexicographic.{slice_cmp, nat_list_cmp_total}
use Rattle.std.specs.List.{list_all}
use Rattle.std.proofs.lemmas.Bool.{false≢true, and_parts, and_from, cases_Bool, cases_lt, true≢false}
use Rattle.std.proofs.lemmas.List.{drop-drop}
use Rattle.std.proofs.lemmas.Map.Lookups.{exact_bytes}
use Rattle.std.proofs.Math.Seq.{drop-cons}
use Rattle.bf_forest.specs.declared.nodes.Entry.{Entry}
use Rattle.bf_forest.specs.declared.slots.EntrySlot.{EntrySlot}
use Rattle.bf_forest.specs.Nodes.{entry_at, stood}
use Rattle.bf_forest.specs.Overlays.{overlaid, change_entry, are_from, is_below, do_ascend}
use Rattle.bf_forest.specs.Rests.{IsOld, IsShorter, IsPassed, key_at, is_before_key}
use Rattle.bf_forest.specs.Slots.{without, found, slot_of, slots_of, are_in_order}
use Rattle.bf_forest.proofs.Keys.{cmp-same}
use Rattle.bf_forest.proofs.Ordered.{less}
use Rattle.bf_forest.proofs.Overlaid.{greater, lesser, below_more, none_below, without_below, overlaid_front, overlaid_first}
use Rattle.bf_forest.proofs.Tabled.{all_drop, stood_get, stood_append, stood_drop}

pub order_at : (table : List Entry) (numbers : List ℕ) (i j : ℕ) → are_in_order (stood table numbers) ≡ true → i < j → j < length numbers
    → is_lt (slice_cmp nat_cmp (key_at table numbers i) (key_at table numbers j)) ≡ true
order_at table [] i j h l k = absurd (omega arith)
order_at table (first ∷ numbers) i zero h l k = absurd (omega arith)
order_at table (first ∷ numbers) zero (suc j) h l k =
    stood_get table (λ e. is_lt (slice_cmp nat_cmp (entry_at table first).key e.key)) numbers j (and_parts _ (are_in_order (stood table numbers)) h).0
    (omega arith)
order_at table (first ∷ numbers) (suc i) (suc j) h l k =
    order_at table numbers i j (and_parts (list_all (λ other. is_lt (slice_cmp nat_cmp (entry_at table first).key other.key)) (stood table numbers)) _ h).1
    (omega arith) (omega arith)

lt_trans : (a b c : List ℕ) → is_lt (slice_cmp nat_cmp a b) ≡ true → is_lt (slice_cmp nat_cmp b c) ≡ true → is_lt (slice_cmp nat_cmp a c) ≡ true
lt_trans a b c h k = ap is_lt (nat_list_cmp_total.trans a b c (less _ h) (less _ k))

pub before_more : (table : List Entry) (numbers key : List ℕ) (middle k : ℕ) → are_in_order (stood table numbers) ≡ true → middle < length numbers
    → is_before_key table numbers key middle ≡ true → k < middle + 1 → is_before_key table numbers key k ≡ true
before_more table numbers key middle k order within here l =
    elim (cases_lt k middle) [
      | inl front ↦ lt_trans (key_at table numbers k) (key_at table numbers middle) key (order_at table numbers k middle order front within) here
      | inr same ↦ ap (is_before_key table numbers key) (let e : k ≡ middle = omega arith in e) ∙ here
    ]

pub behind_more : (table : List Entry) (numbers key : List ℕ) (middle k : ℕ) → are_in_order (stood table numbers) ≡ true
    → is_before_key table numbers key middle ≡ false → middle ≤ k → k < length numbers → is_before_key table numbers key k ≡ false
behind_more table numbers key middle k order here l within =
    elim (cases_Bool (is_before_key table numbers key k)) [
      | inr not_before ↦ not_before
      | inl before ↦ absurd (elim (cases_lt middle k) [
        | inl front ↦ false≢true (sym here ∙ lt_trans (key_at table numbers middle) (key_at table numbers k) key
            (order_at table numbers middle k order front within) before)
        | inr same ↦ false≢true (sym here ∙ ap (is_before_key table numbers key) (let e : middle ≡ k = omega arith in e) ∙ before)
      ])
    ]

-- ---- the entries in front of a place, and those from it on

pub all_before : (table : List Entry) (numbers key : List ℕ) (place : ℕ) → place ≤ length numbers
    → ((k : ℕ) → k < place → is_before_key table numbers key k ≡ true)
    → list_all (λ entry. is_lt (slice_cmp nat_cmp entry.key key)) (stood table (take place numbers)) ≡ true
all_before table numbers key zero l h = none numbers
  where
    none : (list : List ℕ) → list_all (λ entry. is_lt (slice_cmp nat_cmp entry.key key)) (stood table (take zero list)) ≡ true
    none [] = refl
    none (x ∷ xs) = refl
all_before table [] key (suc place) l h = absurd (omega arith)
all_before table (first ∷ numbers) key (suc place) l h =
    and_from _ _ (h 0 (omega arith)) (all_before table numbers key place (omega arith) (λ k m. h (suc k) (omega arith)))

found_front : (table : List Entry) (front : List ℕ) (key : List ℕ) (back : List (List ℕ × EntrySlot))
    → list_all (λ entry. is_lt (slice_cmp nat_cmp entry.key key)) (stood table front) ≡ true
    → found key (slots_of (stood table front) ++ back) ≡ found key back
found_front table [] key back h = refl
found_front table (first ∷ front) key back h =
    let entry = entry_at table first in
    let parts = and_parts (is_lt (slice_cmp nat_cmp entry.key key)) (list_all (λ entry. is_lt (slice_cmp nat_cmp entry.key key)) (stood table front)) h in
    ap (λ o. cond (is_eq o) (Some (slot_of entry.kind)) (found key (slots_of (stood table front) ++ back))) (greater entry.key key (less _ parts.0))
    ∙ found_front table front key back parts.1

pub slots_append : (a b : List Entry) → slots_of (a ++ b) ≡ slots_of a ++ slots_of b
slots_append [] b = refl
slots_append (entry ∷ a) b = ap {A = List (List ℕ × EntrySlot)} (λ v. (entry.key, slot_of entry.kind) ∷ v) (slots_append a b)

pub both_parts : (numbers : List ℕ) (place : ℕ) → numbers ≡ take place numbers ++ drop place numbers
both_parts [] zero = refl
both_parts [] (suc place) = refl
both_parts (first ∷ numbers) zero = refl
both_parts (first ∷ numbers) (suc place) = ap (λ v. first ∷ v) (both_parts numbers place)

pub slots_parts : (table : List Entry) (numbers : List ℕ) (place : ℕ)
    → slots_of (stood table numbers) ≡ slots_of (stood table (take place numbers)) ++ slots_of (stood table (drop place numbers))
slots_parts table numbers place =
    ap (λ v. slots_of (stood table v)) (both_parts numbers place)
    ∙ ap slots_of (stood_append table (take place numbers) (drop place numbers)) ∙ slots_append (stood table (take place numbers))
    (stood table (drop place numbers))

pub found_behind : (table : List Entry) (numbers key : List ℕ) (place : ℕ) → place ≤ length numbers
    → ((k : ℕ) → k < place → is_before_key table numbers key k ≡ true)
    → found key (slots_of (stood table numbers)) ≡ found key (slots_of (stood table (drop place numbers)))
found_behind table numbers key place l h =
    ap (found key) (slots_parts table numbers place) ∙ found_front table (take place numbers) key (slots_of (stood table (drop place numbers)))
    (all_before table numbers key place l h)

-- ---- keys ascend

below_slots : (key : List ℕ) (entries : List Entry) → list_all (λ other. is_lt (slice_cmp nat_cmp key other.key)) entries ≡ true
    → is_below key (slots_of entries) ≡ true
below_slots key [] h = refl
below_slots key (entry ∷ entries) h =
    and_from _ _ (and_parts (is_lt (slice_cmp nat_cmp key entry.key)) _ h).0
    (below_slots key entries (and_parts (is_lt (slice_cmp nat_cmp key entry.key)) _ h).1)

pub ascend_slots : (entries : List Entry) → are_in_order entries ≡ true → do_ascend (slots_of entries) ≡ true
ascend_slots [] h = refl
ascend_slots (entry ∷ entries) h =
    let parts = and_parts (list_all (λ other. is_lt (slice_cmp nat_cmp entry.key other.key)) entries) (are_in_order entries) h in
    and_from _ _ (below_slots entry.key entries parts.0) (ascend_slots entries parts.1)

pub order_drop : (entries : List Entry) (n : ℕ) → are_in_order entries ≡ true → are_in_order (drop n entries) ≡ true
order_drop [] zero h = h
order_drop [] (suc n) h = h
order_drop (entry ∷ entries) zero h = h
order_drop (entry ∷ entries) (suc n) h = order_drop entries n
    (and_parts (list_all (λ other. is_lt (slice_cmp nat_cmp entry.key other.key)) entries) (are_in_order entries) h).1

-- ---- the entry at the place

-- the entries from a place on: none, or the one there and those behind it
pub at_place : (table : List Entry) (numbers : List ℕ) (place : ℕ) → place < length numbers
    → slots_of (stood table (drop place numbers)) ≡ ((key_at table numbers place, slot_of (entry_at table (get_or numbers place 0)).kind) ∷ slots_of
    (stood table (drop (suc place) numbers)))
at_place table numbers place l = ap (λ v. slots_of (stood table v)) (drop-cons numbers place 0 l)

past_end : (numbers : List ℕ) (place : ℕ) → length numbers ≤ place → drop place numbers ≡ []
past_end [] zero l = refl
past_end [] (suc place) l = refl
past_end (first ∷ numbers) zero l = absurd (omega arith)
past_end (first ∷ numbers) (suc place) l = past_end numbers place (omega arith)

pub drop_whole : (numbers : List ℕ) → drop (length numbers) numbers ≡ []
drop_whole numbers = past_end numbers (length numbers) (omega arith)

not_less : (a b : List ℕ) → is_lt (slice_cmp nat_cmp a b) ≡ false → (a ≡ b → ⊥) → slice_cmp nat_cmp b a ≡ Less
not_less a b h differ =
    let by : (o : Ordering) → slice_cmp nat_cmp a b ≡ o → slice_cmp nat_cmp b a ≡ Less =
    λ o. elim o as (λ v. slice_cmp nat_cmp a b ≡ v → slice_cmp nat_cmp b a ≡ Less) [
      | Less ↦ λ e. absurd (true≢false (sym (ap is_lt e) ∙ h))
      | Equal ↦ λ e. absurd (differ (exact_bytes a b e))
      | Greater ↦ λ e. lesser a b e
    ] in
    by (slice_cmp nat_cmp a b) refl

below_there : (table : List Entry) (numbers key : List ℕ) (place : ℕ) → are_in_order (stood table numbers) ≡ true → place < length numbers
    → slice_cmp nat_cmp key (key_at table numbers place) ≡ Less
    → is_below key (slots_of (stood table (drop place numbers))) ≡ true
below_there table numbers key place order l h =
    let parts = do_ascend (slots_of (stood table (drop place numbers))) in
    let rest = slots_of (stood table (drop (suc place) numbers)) in
    let ascends = ap do_ascend (sym (at_place table numbers place l)) ∙ ascend_slots (stood table (drop place numbers))
    (ap are_in_order (stood_drop table numbers place) ∙ order_drop (stood table numbers) place order) in
    ap (is_below key) (at_place table numbers place l)
    ∙ and_from (is_lt (slice_cmp nat_cmp key (key_at table numbers place))) _ (ap is_lt h)
    (below_more key (key_at table numbers place) rest h (and_parts (is_below (key_at table numbers place) rest) _ ascends).0)

-- an entry that is not there is not found
pub found_none : (table : List Entry) (numbers key : List ℕ) (place : ℕ) → are_in_order (stood table numbers) ≡ true → place ≤ length numbers
    → ((k : ℕ) → k < place → is_before_key table numbers key k ≡ true) → ((k : ℕ) → place ≤ k → k < length numbers → is_before_key table numbers key k ≡ false)
    → (place < length numbers → key_at table numbers place ≡ key → ⊥) → found key (slots_of (stood table numbers)) ≡ None
found_none table numbers key place order l before behind differ =
    found_behind table numbers key place l before ∙ (elim (cases_lt place (length numbers)) [
      | inl here ↦ none_below key (slots_of (stood table (drop place numbers)))
          (below_there table numbers key place order here (not_less (key_at table numbers place) key (behind place (omega arith) here) (differ here)))
      | inr past ↦ ap (λ v. found key (slots_of (stood table v))) (past_end numbers place past)
    ])

pub found_there : (table : List Entry) (numbers key : List ℕ) (place : ℕ) → place < length numbers
    → ((k : ℕ) → k < place → is_before_key table numbers key k ≡ true)
    → key_at table numbers place ≡ key → found key (slots_of (stood table numbers)) ≡ Some (slot_of (entry_at table (get_or numbers place 0)).kind)
found_there table numbers key place l before same =
    found_behind table numbers key place (omega arith) before ∙ ap (found key) (at_place table numbers place l)
    ∙ ap (λ o. cond (is_eq o) (Some (slot_of (entry_at table (get_or numbers place 0)).kind)) (found key (slots_of (stood table (drop (suc place) numbers)))))
    (ap (slice_cmp nat_cmp key) same ∙ cmp-same key)

-- ---- entries below a key are taken

pub left_there : (table : List Entry) (base key : List ℕ) (place : ℕ) → place < length base → key_at table base place ≡ key
    → slots_of (stood table (drop (suc place) base)) ≡ without key (slots_of (stood table (drop place base)))
left_there table base key place l same =
    let rest = slots_of (stood table (drop (suc place) base)) in
    sym (ap (without key) (at_place table base place l)
    ∙ ap (λ o. cond (is_eq o) rest ((key_at table base place, slot_of (entry_at table (get_or base place 0)).kind) ∷ without key rest))
    (ap (slice_cmp nat_cmp key) same ∙ cmp-same key))

pub left_none : (table : List Entry) (base key : List ℕ) (place : ℕ) → are_in_order (stood table base) ≡ true
    → ((k : ℕ) → place ≤ k → k < length base → is_before_key table base key k ≡ false) → (place < length base → key_at table base place ≡ key → ⊥)
    → slots_of (stood table (drop place base)) ≡ without key (slots_of (stood table (drop place base)))
left_none table base key place order behind differ =
    elim (cases_lt place (length base)) [
      | inl here ↦
          sym (without_below key (slots_of (stood table (drop place base)))
          (below_there table base key place order here (not_less (key_at table base place) key (behind place (omega arith) here) (differ here))))
      | inr past ↦
          let P : List ℕ → Type 0 = λ v. slots_of (stood table v) ≡ without key (slots_of (stood table v)) in
          subst P (sym (past_end base place past)) refl
    ]

from_place : (table : List Entry) (base key : List ℕ) (place : ℕ) → ((k : ℕ) → place ≤ k → k < length base → is_before_key table base key k ≡ false)
    → are_from key (slots_of (stood table (drop place base))) ≡ true
from_place table base key place behind =
    elim (cases_lt place (length base)) [
      | inl here ↦ ap (are_from key) (at_place table base place here) ∙ ap (λ b. if b then false else true) (behind place (omega arith) here)
      | inr past ↦ ap (λ v. are_from key (slots_of (stood table v))) (past_end base place past)
    ]

pub passed : (table : List Entry) (old new base rest key : List ℕ) (place count : ℕ) → IsOld table base → place ≤ length base
    → ((k : ℕ) → k < place → is_before_key table base key k ≡ true) → ((k : ℕ) → place ≤ k → k < length base → is_before_key table base key k ≡ false)
    → (place < count → (count ≡ place + 1) × (place < length base) × (key_at table base place ≡ key))
    → (count ≤ place → (count ≡ place) × (place < length base → key_at table base place ≡ key → ⊥))
    → new ≡ old ++ take place base → rest ≡ drop count base → IsPassed table old new base rest key
passed table old new base rest key place count order l before behind there missing taken left =
    let from = from_place table base key place behind in
    elim (cases_lt place count) [
      | inl more ↦
          let at = there more in
          let same : rest ≡ drop (suc place) base = left ∙ ap (λ n. drop n base) (let e : count ≡ suc place = omega (arith, at.0) in e) in (
            place,
            taken,
            all_before table base key place l before,
            from,
            ap (λ v. slots_of (stood table v)) same ∙ left_there table base key place at.1 at.2,
            (suc place, same),
          )
      | inr none ↦
          let at = missing none in
          let same : rest ≡ drop place base = left ∙ ap (λ n. drop n base) at.0 in (
            place,
            taken,
            all_before table base key place l before,
            from,
            ap (λ v. slots_of (stood table v)) same ∙ left_none table base key place order.1 behind
                at.1,
            (place, same),
          )
    ]

-- the entries below a key, then what stands at the key, then the others
below_front : (table : List Entry) (front : List ℕ) (key : List ℕ) {X : Type 0} (changes : List (List ℕ × X))
    → list_all (λ entry. is_lt (slice_cmp nat_cmp entry.key key)) (stood table front) ≡ true
    → is_below key changes ≡ true → (x : X) → list_all (λ slot. is_below slot.0 ((key, x) ∷ changes)) (slots_of (stood table front)) ≡ true
below_front table [] key changes h k x = refl
below_front table (first ∷ front) key changes h k x =
    let entry = entry_at table first in
    let parts = and_parts (is_lt (slice_cmp nat_cmp entry.key key)) (list_all (λ entry. is_lt (slice_cmp nat_cmp entry.key key)) (stood table front)) h in
    and_from (is_below entry.key ((key, x) ∷ changes)) _
    (and_from (is_lt (slice_cmp nat_cmp entry.key key)) _ parts.0 (below_more entry.key key changes (less _ parts.0) k))
    (below_front table front key changes parts.1 k x)

pub taken_slots : (table : List Entry) (old new base rest key : List ℕ) (changes : List (List ℕ × Option EntrySlot)) (change : Option EntrySlot) → IsOld table base
    → is_below key changes ≡ true
    → (p : IsPassed table old new base rest key)
    → overlaid (slots_of (stood table base)) ((key, change) ∷ changes) ≡ slots_of (stood table (take p.0 base))
    ++ (change_entry key change ++ overlaid (slots_of (stood table rest)) changes)
taken_slots table old new base rest key changes change order below p =
    let front = slots_of (stood table (take p.0 base)) in
    let back = slots_of (stood table (drop p.0 base)) in
    let ascends = ascend_slots (stood table (drop p.0 base)) (ap are_in_order (stood_drop table base p.0) ∙ order_drop (stood table base) p.0 order.1) in
    ap (λ v. overlaid v ((key, change) ∷ changes)) (slots_parts table base p.0)
    ∙ overlaid_front front back ((key, change) ∷ changes) (below_front table (take p.0 base) key changes p.2 below change)
    ∙ ap (λ v. front ++ v) (overlaid_first back key change changes ascends p.3 below ∙ ap (λ v. change_entry key change ++ overlaid v changes) (sym p.4))

-- ---- old entries without some in front

pub old_shorter : (table : List Entry) (base rest : List ℕ) → IsOld table base → IsShorter rest base → IsOld table rest
old_shorter table base rest h s =
    let P : List ℕ → Type 0 = IsOld table in
    subst P (sym s.1) (
      all_drop (λ number. nat_lt number (length table)) base s.0 h.0,
      ap are_in_order (stood_drop table base s.0) ∙ order_drop
          (stood table base) s.0 h.1,
    )

drop_more : (numbers : List ℕ) (m n : ℕ) → drop n (drop m numbers) ≡ drop (m + n) numbers
drop_more numbers m n = drop-drop n m numbers
