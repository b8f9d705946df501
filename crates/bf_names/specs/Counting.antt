-- What is known of a list of places after a pass over it.
use Rattle.std.specs.Prelude.{◌≡◌, ℕ, ◌<◌, List, [], ◌∷◌, length}
use Rattle.bf_oid.specs.declared.object.Oid.{Oid}
use Rattle.bf_names.specs.declared.order.Spelled.{Spelled}
use Rattle.bf_names.specs.Names.{abbreviated}
use Rattle.bf_names.specs.Order.{IsOrderOf}

-- how many places the list has, all below a bound, and the place, where it has one alone
pub record IsSeen (places : List ℕ) (bound found count : ℕ) : Type 0 where
  pub counted : length places ≡ count
  pub alone : count ≡ 1 → places ≡ found ∷ []
  pub below : 0 < count → found < bound

-- a place and a count tell of the commits whose names begin with some digits
abbrev pub AreSeen : List Oid → List ℕ → ℕ × ℕ → Type 0
AreSeen names digits seen = IsSeen (abbreviated names digits) (length names) seen.0 seen.1

-- they tell so of all names that stand in this order
abbrev pub TellsBegun : List ℕ → List Spelled → ℕ × ℕ → Type 0
TellsBegun digits order seen = (names : List Oid) → IsOrderOf names order → AreSeen names digits seen
