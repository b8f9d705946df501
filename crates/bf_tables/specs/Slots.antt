-- Refs in slots: each slot has a ref or is empty, and each name has the number of its slot.
use Rattle.std.specs.Prelude.{◌≡◌, ℕ, List, [], ◌∷◌, length, slice_get, Option, Some, None}
use Rattle.indexmap.specs.IndexMap.{IndexMap, get, index_map_len}
use Rattle.bf_forest.specs.Files.{is_same}

abbrev pub Slots : Type 0
Slots = List (Option (List ℕ × ℕ))

abbrev pub with_slot : Option (List ℕ × ℕ) → List (List ℕ × ℕ) → List (List ℕ × ℕ)
with_slot None refs = refs
with_slot (Some given) refs = given ∷ refs

-- the refs in order
abbrev pub filled : Slots → List (List ℕ × ℕ)
filled [] = []
filled (slot ∷ slots) = with_slot slot (filled slots)

-- a name that has a number has its ref in that slot
abbrev pub Leads : (List ℕ → Option ℕ) → Slots → Type 0
Leads number_of slots = (name : List ℕ) (number : ℕ) → number_of name ≡ Some number → (place : ℕ) × (slice_get slots number ≡ Some (Some (name, place)))

-- a ref in a slot has its number
abbrev pub IsLedTo : (List ℕ → Option ℕ) → Slots → Type 0
IsLedTo number_of slots = (name : List ℕ) (place number : ℕ) → slice_get slots number ≡ Some (Some (name, place)) → number_of name ≡ Some number

abbrev pub AreNumbered : {S : Type 0} → Slots → IndexMap (List ℕ) ℕ S → Type 0
AreNumbered slots numbers =
    (index_map_len numbers ≡ length (filled slots)) × Leads (get is_same numbers) slots × IsLedTo (get is_same numbers) slots
