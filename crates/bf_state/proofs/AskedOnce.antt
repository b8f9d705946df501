-- No place is asked twice along a path.
use Rattle.std.proofs.Common.{◌≡◌, ℕ, true, List, [], ◌∷◌}
use Rattle.bf_graph.specs.Graph.{IsGraph}
use Rattle.bf_search.specs.declared.asks.Ask.TheVariants.{Test}
use Rattle.bf_search.specs.declared.outcomes.Mark.{Mark}
use Rattle.bf_search.specs.Outcomes.{Outcomes}
use Rattle.bf_search.specs.State.{Search, IsSearchOver, ask, mark}
use Rattle.bf_search.specs.LeftToAsk.{may_ask}
use Rattle.bf_search.proofs.Turns.{Asking, asking, IsSearchOver-marked, MayAsk, may_ask_from, may_ask_asked, shrinks}
use Rattle.bf_search.specs.OpenPaths.{Leads}

-- one step back along a path
pub before_step : (graph : List (List ℕ)) (s : Search) (m : Mark) (q p : ℕ) → IsGraph graph → IsSearchOver graph s → (ask graph s).step.ask ≡ Test q
    → may_ask graph (mark (ask graph s).search m q) p ≡ true → MayAsk graph s p × (q ≡ p → ⊥)
before_step graph s m q p g over h k =
    let a : Asking graph s (ask graph s) q = asking graph s q g h in
    shrinks graph s (ask graph s).search m q p g a.asks_for a.same (rw over.skips a.asks_for.within) k

-- What is asked along a path might be asked at its start.
pub asked_before : (graph : List (List ℕ)) (known : Outcomes) (s : Search) (ms : List Mark) (p left : ℕ) → IsGraph graph → IsSearchOver graph s
    → Leads graph known s ms p left → may_ask graph s p ≡ true
asked_before graph known s [] p left g over h = may_ask_asked graph s p g (asking graph s p g h.0).asks_for
asked_before graph known s (m ∷ ms) p left g over h =
    may_ask_from graph s p (before_step graph s m h.0 p g over h.1
    (asked_before graph known (mark (ask graph s).search m h.0) ms p left g (IsSearchOver-marked graph s m h.0 g over h.1) h.3)).0

-- What was asked is not asked again further along.
pub not_again : (graph : List (List ℕ)) (known : Outcomes) (s : Search) (m : Mark) (q : ℕ) (ms : List Mark) (p left : ℕ) → IsGraph graph → IsSearchOver graph s
    → (ask graph s).step.ask ≡ Test q
    → Leads graph known (mark (ask graph s).search m q) ms p left → q ≡ p → ⊥
not_again graph known s m q ms p left g over h rest =
    (before_step graph s m q p g over h (asked_before graph known (mark (ask graph s).search m q) ms p left g (IsSearchOver-marked graph s m q g over h)
    rest)).1
