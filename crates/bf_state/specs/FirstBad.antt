-- What makes a commit the first bad one.
use Rattle.std.specs.Prelude.{◌≡◌, ℕ, List, All, Some}
use Rattle.std.specs.List.{Any}
use Rattle.bf_graph.specs.Graph.{parents_of}
use Rattle.bf_search.specs.declared.asks.Ask.TheVariants.{FirstBad}
use Rattle.bf_search.specs.declared.asks.Step.{Step}
use Rattle.bf_search.specs.Reach.{in_mode, Reaches}
use Rattle.bf_search.specs.State.{Search}

-- It is the bad commit, no good one reaches it, and each of its parents in the mode is reached from a good one.
pub record IsFirstBad (graph : List (List ℕ)) (s : Search) (p : ℕ) : Type 0 where
  pub is_bad : s.bad ≡ Some p
  pub not_good : All (λ good. ¬ Reaches graph good p) s.goods
  pub good_parents : All (λ parent. Any (λ good. Reaches graph good parent) s.goods) (parents_of (in_mode graph s.first_parent) p)

-- where a step says which commit is the first bad one, it is
abbrev pub TellsFirstBad : List (List ℕ) → Search → Step → Type 0
TellsFirstBad graph s step = (p : ℕ) → step.ask ≡ FirstBad p → IsFirstBad graph s p
