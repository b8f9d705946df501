-- Where to look for a tree by its name.
use Rattle.std.specs.Prelude.{ℕ, ◌<◌, List, length, IsSome}
use Rattle.std.specs.Ordering.{nat_cmp}
use Rattle.std.specs.Cmp.Lexicographic.{slice_cmp}
use Rattle.std.specs.BTreeMap.{get, BTreeMap}
use Rattle.bf_forest.specs.Files.{Files}
use Rattle.bf_forest.specs.Trees.{tree_name, files_at}

-- the index has something at each tree's name
abbrev pub IsIndexed : BTreeMap (List ℕ) ℕ → List Files → Type 0
IsIndexed index trees = (number : ℕ) → number < length trees → IsSome (get (slice_cmp nat_cmp) index (tree_name (files_at trees number)))
