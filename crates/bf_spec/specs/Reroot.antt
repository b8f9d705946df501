-- What is kept of the nodes when the root moves on.
use Rattle.std.specs.Prelude.{◌≡◌, ℕ, ◌<◌, Bool, true, false, ◌&&◌, List, [], ◌∷◌, length, drop}
use Rattle.std.specs.List.{slice_index_or}
use Rattle.bf_search.specs.declared.outcomes.Mark.{Mark}
use Rattle.bf_search.specs.declared.outcomes.Mark.TheVariants.{Good, Bad, Skip}
use Rattle.bf_spec.specs.declared.node.Node.{Node}
use Rattle.bf_spec.specs.Nodes.{path_of}

abbrev pub is_mark : Mark → Mark → Bool
is_mark Good Good = true
is_mark Bad Bad = true
is_mark Skip Skip = true
is_mark m n = false

-- whether a path begins with these marks
abbrev pub begins : List Mark → List Mark → Bool
begins [] path = true
begins (m ∷ ms) [] = false
begins (m ∷ ms) (n ∷ ns) = is_mark m n && begins ms ns

-- the node without the first marks of its path
pub record IsCut (count : ℕ) (old new : Node) : Type 0 where
  pub path : path_of new ≡ drop count (path_of old)
  pub state : new.state ≡ old.state
  pub step : new.step ≡ old.step
  pub sight : new.sight ≡ old.sight

-- each node without the first marks of its path
abbrev pub AreCut : ℕ → List Node → List Node → Type 0
AreCut count old new = (k : ℕ) (d : Node) → k < length old → IsCut count (slice_index_or old k d) (slice_index_or new k d)
