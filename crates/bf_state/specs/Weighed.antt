-- The candidates of a search and their weights, which an ask has in hand.
use Rattle.std.specs.Prelude.{◌≡◌, ℕ, Bool, false, if◌then◌else◌, List, [], ◌∷◌, length, replicate, Option, Some, None, Vec}
use Rattle.std.specs.Option.{option_map}
use Rattle.bf_search.specs.Candidates.{candidate_row, weights}
use Rattle.bf_search.specs.State.{Search, ask}
use Rattle.bf_state.specs.Session.{Session}

-- by place, whether it is a candidate of a search with this bad place
abbrev pub row_below : List (List ℕ) → Option ℕ → Search → List Bool
row_below graph None s = replicate (length graph) false
row_below graph (Some bad) s = candidate_row graph bad s.goods s.first_parent

-- by place, whether it is a candidate of a search
abbrev pub mask_of : List (List ℕ) → Search → List Bool
mask_of graph s = row_below graph s.bad s

-- by place, the weight of each candidate of a search
abbrev pub weights_of : List (List ℕ) → Search → List ℕ
weights_of graph s = weights graph (mask_of graph s) s.first_parent

abbrev pub weights_between : List (List ℕ) → Search → Option ℕ → List ℕ → Option (List ℕ)
weights_between graph s None goods = None
weights_between graph s (Some bad) [] = None
weights_between graph s (Some bad) (good ∷ goods) = if (ask graph s).search.checked then Some (weights_of graph s) else None

-- The weights that an ask needs: where both ends are known and the check has passed then, those of the candidates.
abbrev pub weights_needed : List (List ℕ) → Search → Option (List ℕ)
weights_needed graph s = weights_between graph s s.bad s.goods

-- weights that are handed out are those that an ask of a session needs; where it needs none there are none
abbrev pub AreNeeded : {A : Type 0} → List (List ℕ) → Session → Option (Vec ℕ A) → Type 0
AreNeeded graph session weights = option_map (λ all. all.items) weights ≡ weights_needed graph session.search
