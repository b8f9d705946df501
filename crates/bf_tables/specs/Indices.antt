-- The indices of entries, by the numbers of the entries.
use Rattle.std.specs.Prelude.{◌≡◌, ℕ, zero, suc, ◌==◌, cond, List, slice_get, Option, Some, None}
use Rattle.indexmap.specs.IndexMap.{IndexMap, get}
use Rattle.bf_history.specs.declared.marked.Marked.{Marked}

-- one more than an index stands for it, and 0 for none; where none is here, the other holds
abbrev pub index_or : Option ℕ → Option ℕ → Option ℕ
index_or None other = other
index_or (Some zero) other = other
index_or (Some (suc index)) other = Some index

-- the index of a number that is near, or else of one that is far
abbrev pub index_in : {S : Type 0} → List ℕ → IndexMap ℕ ℕ S → ℕ → Option ℕ
index_in near far number = index_or (slice_get near number) (get ◌==◌ far number)

-- one number has an index from now on, and the others keep theirs
abbrev pub IsJoined : ℕ → ℕ → (ℕ → Option ℕ) → (ℕ → Option ℕ) → Type 0
IsJoined number index before after = (other : ℕ) → after other ≡ cond (number == other) (Some index) (before other)

abbrev pub AreSame : (ℕ → Option ℕ) → (ℕ → Option ℕ) → Type 0
AreSame before after = (number : ℕ) → after number ≡ before number

-- what has an index is the entry there, and each entry has its own index, so no two have one number
abbrev pub LeadToEntries : (ℕ → Option ℕ) → List (ℕ × Marked) → Type 0
LeadToEntries index_of entries =
    (number index : ℕ) → index_of number ≡ Some index → (what : Marked) × (slice_get entries index ≡ Some (number, what))

abbrev pub HaveIndices : (ℕ → Option ℕ) → List (ℕ × Marked) → Type 0
HaveIndices index_of entries =
    (number : ℕ) (what : Marked) (index : ℕ) → slice_get entries index ≡ Some (number, what) → index_of number ≡ Some index

abbrev pub AreIndexed : (ℕ → Option ℕ) → List (ℕ × Marked) → Type 0
AreIndexed index_of entries = LeadToEntries index_of entries × HaveIndices index_of entries
