-- The places of an ask are places of the graph.
use Rattle.std.proofs.Common.{◌≡◌, ℕ, ◌<◌, List, length, refl, sym, subst}
use Rattle.std.specs.Option.{IfSome}
use Rattle.bf_graph.specs.Graph.{IsGraph}
use Rattle.bf_search.specs.Within.{IsAskWithin}
use Rattle.bf_search.specs.declared.asks.Ask.{Ask}
use Rattle.bf_search.specs.declared.asks.Ask.TheVariants.{WaitBoth, WaitBad, WaitGood, Test, MergeBaseBad, GoodNotAncestor, BothSides, FirstBad, OnlySkipped}
use Rattle.bf_search.specs.State.{Search, ask}
use Rattle.bf_search.proofs.Turns.{asking}
use Rattle.bf_state.proofs.Within.{IsToldWithin, asked_within}
use Rattle.bf_state.specs.Session.{Session, IsSearchBelow}

told_and_tested : (len : ℕ) (a : Ask) → IsToldWithin len a → ((p : ℕ) → a ≡ Test p → p < len) → IsAskWithin len a
told_and_tested len (Test p) told tested = tested p refl
told_and_tested len (MergeBaseBad p) told tested = told
told_and_tested len (GoodNotAncestor p) told tested = told
told_and_tested len (BothSides p) told tested = told
told_and_tested len (FirstBad p) told tested = told
told_and_tested len (OnlySkipped ps) told tested = told
told_and_tested len WaitBoth told tested = tt
told_and_tested len WaitBad told tested = tt
told_and_tested len WaitGood told tested = tt

-- the places that an ask names are places of the graph
pub ask_within : (graph : List (List ℕ)) (s : Search) → IsGraph graph → IfSome s.bad (λ p. p < length graph) → IsAskWithin (length graph) (ask graph s).step.ask
ask_within graph s g h =
    told_and_tested (length graph) (ask graph s).step.ask (asked_within graph s h).told (λ p e. (asking graph s p g e).asks_for.within)

-- so are those of a session over so many commits
pub ask_in_session : (graph : List (List ℕ)) (session : Session) → IsGraph graph → length graph ≡ session.len → IsSearchBelow session.len session.search
    → IsAskWithin session.len (ask graph session.search).step.ask
ask_in_session graph session g e h =
    subst (λ (n : ℕ). IsAskWithin n (ask graph session.search).step.ask) e
    (ask_within graph session.search g (subst (λ (n : ℕ). IfSome session.search.bad (λ p. p < n)) (sym e) h.bad))
