-- What a node has in sight: its candidates, and their order.
use Rattle.std.specs.Prelude.{◌≡◌, ℕ, Bool, List, IfSome, None}
use Rattle.std.specs.Arc.{arc_value}
use Rattle.bf_choice.specs.Ranking.{IsPassed}
use Rattle.bf_search.specs.declared.asks.Step.{Step}
use Rattle.bf_search.specs.declared.outcomes.Mark.{Mark}
use Rattle.bf_search.specs.State.{Search}
use Rattle.bf_state.specs.Ranked.{IsRankingOf}
use Rattle.bf_state.specs.Session.{Session}
use Rattle.bf_state.specs.Weighed.{mask_of}
use Rattle.bf_spec.specs.declared.node.Node.{Node}
use Rattle.bf_spec.specs.declared.node.Sight.{Sight}
use Rattle.bf_spec.specs.declared.node.Order.{Order}

-- the ranking of the candidates of a search, of which so many of the first are skipped
pub record IsOrder (graph : List (List ℕ)) (s : Search) (order : Order) : Type 0 where
  pub ranking : IsRankingOf graph s (arc_value order.ranking)
  pub passed : IsPassed s.skips (arc_value order.ranking) order.passed

-- the candidates of a search and, where it is there, their order
pub record IsSight (graph : List (List ℕ)) (s : Search) (sight : Sight) : Type 0 where
  pub mask : arc_value sight.mask ≡ mask_of graph s
  pub order : IfSome sight.order (IsOrder graph s)

-- a node with this path, search and step, which has these candidates in sight, and not yet their order
pub record IsFresh (path : List Mark) (session : Session) (next : Step) (mask : List Bool) (node : Node) : Type 0 where
  pub path_is : node.path.items ≡ path
  pub state : node.state ≡ session
  pub step : node.step ≡ next
  pub mask_is : arc_value node.sight.mask ≡ mask
  pub no_order : node.sight.order ≡ None
