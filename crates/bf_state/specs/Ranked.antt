-- The ranking of the candidates of a search.
use Rattle.std.specs.Prelude.{◌≡◌, ℕ, Bool, List, Option, Some, None}
use Rattle.bf_choice.specs.Ranking.{IsRanking, IsPassed}
use Rattle.bf_search.specs.declared.asks.Ask.{Ask}
use Rattle.bf_search.specs.declared.asks.Ask.TheVariants.{Test}
use Rattle.bf_search.specs.Candidates.{places_of}
use Rattle.bf_search.specs.State.{Search}
use Rattle.bf_state.specs.Session.{Session}
use Rattle.bf_state.specs.Steps.{ending, ask_listed, IsAskOver}
use Rattle.bf_state.specs.Weighed.{mask_of, weights_of}

-- These are the candidates of a search but the bad one, in the order in which they are chosen.
abbrev pub IsRankingOf : List (List ℕ) → Search → List ℕ → Type 0
IsRankingOf graph s ps = (bad : ℕ) → s.bad ≡ Some bad → IsRanking (mask_of graph s) (weights_of graph s) bad ps

-- the ask among the candidates of a row, of which this one is the best, or none may be asked
abbrev pub ask_of_choice : List Bool → ℕ → Option ℕ → Ask
ask_of_choice mask bad (Some p) = Test p
ask_of_choice mask bad None = let ps = places_of mask in ask_listed (ending ps bad) ps None

-- so many of the first of a ranking are skipped in a session
abbrev pub AreSkipped : Session → List ℕ → ℕ → Type 0
AreSkipped session ps passed = IsPassed session.search.skips ps passed

-- the ask of a session over the weights that rank its candidates so, whichever these are
abbrev pub IsAskRanked : List Bool → List ℕ → ℕ → Session → Ask → Type 0
IsAskRanked mask ps bad session answer =
    (weights : List ℕ) → IsRanking mask weights bad ps → IsAskOver mask weights bad session.search answer
