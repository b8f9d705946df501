-- Entries over which changes lie, both by their keys.
use Rattle.std.specs.Prelude.{ℕ, Bool, true, false, ◌&&◌, if◌then◌else◌, List, [], ◌∷◌, Option, Some, None}
use Rattle.std.specs.Ordering.{nat_cmp, is_lt}
use Rattle.std.specs.Cmp.Lexicographic.{slice_cmp}
use Rattle.std.specs.List.{list_all}
use Rattle.bf_forest.specs.Slots.{put, without}

-- an entry takes the place of that with its key, or none does
abbrev pub changed_at : {X : Type 0} → List (List ℕ × X) → List ℕ → Option X → List (List ℕ × X)
changed_at entries key None = without key entries
changed_at entries key (Some entry) = put entries key entry

abbrev pub overlaid : {X : Type 0} → List (List ℕ × X) → List (List ℕ × Option X) → List (List ℕ × X)
overlaid entries [] = entries
overlaid entries (change ∷ changes) = changed_at (overlaid entries changes) change.0 change.1

-- a key is below those of all entries
abbrev pub is_below : {X : Type 0} → List ℕ → List (List ℕ × X) → Bool
is_below key entries = list_all (λ entry. is_lt (slice_cmp nat_cmp key entry.0)) entries

-- the keys ascend
abbrev pub do_ascend : {X : Type 0} → List (List ℕ × X) → Bool
do_ascend [] = true
do_ascend (entry ∷ entries) = is_below entry.0 entries && do_ascend entries

-- the entry of a change, if there is one
abbrev pub change_entry : {X : Type 0} → List ℕ → Option X → List (List ℕ × X)
change_entry key None = []
change_entry key (Some entry) = (key, entry) ∷ []

-- no entry has a key below another one
abbrev pub are_from : {X : Type 0} → List ℕ → List (List ℕ × X) → Bool
are_from key [] = true
are_from key (entry ∷ entries) = if is_lt (slice_cmp nat_cmp entry.0 key) then false else true
