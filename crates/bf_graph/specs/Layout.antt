-- How a graph lies in memory: the parents of all places in one list, and for each place where its parents end there.
use Rattle.std.specs.Prelude.{◌≡◌, ℕ, ◌-◌, ◌<◌, ◌≤◌, ◌^◌, List, [], ◌∷◌, length, take, drop}
use Rattle.bf_graph.specs.Graph.{IsGraph}

-- the lists that end at these points, the first of them starting here
abbrev pub lists_from : ℕ → List ℕ → List ℕ → List (List ℕ)
lists_from start [] all = []
lists_from start (end ∷ ends) all = take (end - start) (drop start all) ∷ lists_from end ends all

-- the ends don't fall, and the last is the end of the whole list
abbrev pub EndsRise : ℕ → List ℕ → ℕ → Type 0
EndsRise start [] last = start ≡ last
EndsRise start (end ∷ ends) last = (start ≤ end) × EndsRise end ends last

pub record IsLaidOut (ends all : List ℕ) : Type 0 where
  pub rise : EndsRise 0 ends (length all)
  pub few : length ends < 2 ^ 32
  pub graph : IsGraph (lists_from 0 ends all)
