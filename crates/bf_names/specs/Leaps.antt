-- Leaps along first parents, and what serves to look many names up.
use Rattle.std.specs.Prelude.{◌≡◌, ℕ, ◌+◌, ◌<◌, ◌≤◌, List, length, Some, IfSome}
use Rattle.std.specs.List.{slice_index_or}
use Rattle.bf_history.specs.Meanings.{History}
use Rattle.bf_names.specs.Names.{ancestor}
use Rattle.bf_names.specs.Order.{IsOrderOf}
use Rattle.bf_names.specs.declared.index.NameIndex.{NameIndex}
use Rattle.bf_names.specs.declared.leap.Leap.{Leap}

-- a leap from a place ends at the ancestor of as many generations as it has steps, each of which goes to an earlier place
pub record IsLeap (graph : List (List ℕ)) (place : ℕ) (leap : Leap) : Type 0 where
  pub leads : ancestor graph leap.steps place ≡ Some leap.place
  pub earlier : leap.steps + leap.place ≤ place

-- leaps from the first places, one from each
abbrev pub AreFirstLeaps : List (List ℕ) → List Leap → Type 0
AreFirstLeaps graph leaps = (place : ℕ) (other : Leap) → place < length leaps → IsLeap graph place (slice_index_or leaps place other)

-- leaps from all places
pub record AreLeaps (graph : List (List ℕ)) (leaps : List Leap) : Type 0 where
  pub all : length leaps ≡ length graph
  pub each : AreFirstLeaps graph leaps

-- what an index has is of this history
pub record IsIndexOf (history : History) (index : NameIndex) : Type 0 where
  pub order : IfSome index.order (IsOrderOf history.names)
  pub leaps : IfSome index.leaps (AreLeaps history.parents)
