-- The parts of an ask.
use Rattle.std.specs.Prelude.{◌≡◌, ◌≢◌, ℕ, ◌==◌, Bool, true, false, if◌then◌else◌, List, [], ◌∷◌, Option, Some, None}
use Rattle.bf_search.specs.declared.asks.Ask.{Ask}
use Rattle.bf_search.specs.declared.asks.Ask.TheVariants.{Test, BothSides, FirstBad, OnlySkipped}
use Rattle.bf_search.specs.declared.asks.Check.{Check}
use Rattle.bf_search.specs.declared.asks.Step.{Step}
use Rattle.bf_search.specs.declared.outcomes.Mark.{Mark}
use Rattle.bf_search.specs.declared.outcomes.Mark.TheVariants.{Good}
use Rattle.bf_search.specs.Candidates.{places_of}
use Rattle.bf_search.specs.Choice.{best}
use Rattle.bf_search.specs.State.{Search, Asked, ask_candidates, ask_checked, ask}
use Rattle.bf_state.specs.declared.asking.Decision.{Decision}
use Rattle.bf_state.specs.declared.asking.Passage.{Passage}
use Rattle.bf_state.specs.declared.asking.Passage.TheVariants.{Asks, Passed}
use Rattle.bf_state.specs.Session.{Session, with_search}
use Rattle.bf_terms.specs.Texts.{with_good}

-- the place that an ask asks to test
abbrev pub tested : Ask → Option ℕ
tested (Test p) = Some p
tested other = None

-- how a search with these candidates ends without a look at the skipped ones
abbrev pub ending : List ℕ → ℕ → Option Ask
ending [] bad = Some (BothSides bad)
ending (p ∷ []) bad = if p == bad then Some (FirstBad bad) else None
ending (p ∷ q ∷ ps) bad = None

-- the best candidate is tested; where there is none, all candidates are told
abbrev pub ask_of_best : List ℕ → Option ℕ → Ask
ask_of_best ps (Some p) = Test p
ask_of_best ps None = OnlySkipped ps

-- a step, and whether the check has passed then, are those of an ask
pub record IsDecision (asked : Asked) (passed : Bool) (next : Step) : Type 0 where
  pub checked : passed ≡ asked.search.checked
  pub step : next ≡ asked.step

-- a decision is what the next ask of a search leaves
abbrev pub IsDecisionOf : List (List ℕ) → Search → Decision → Type 0
IsDecisionOf graph s decision = IsDecision (ask graph s) decision.checked decision.step

-- the ask of a search among its candidates
abbrev pub candidate_ask : List (List ℕ) → Search → ℕ → Ask
candidate_ask graph s bad = (ask_candidates graph s bad []).step.ask

-- an ask ends without a look at the candidates: ends are missing, or the check has not passed
pub record IsStopped (asked : Asked) (s : Search) (next : Step) : Type 0 where
  pub decides : IsDecision asked s.checked next
  pub unpassed : (bad : ℕ) → s.bad ≡ Some bad → s.goods ≢ [] → s.checked ≡ false

-- both ends are known and the check has passed, so the candidates are asked
pub record HasPassed (graph : List (List ℕ)) (asked : Asked) (s : Search) (warned : List ℕ) (bad : ℕ) : Type 0 where
  pub bad_is : s.bad ≡ Some bad
  pub some_good : s.goods ≢ []
  pub asks : asked ≡ ask_candidates graph (record s { checked = true }) bad warned

-- how far an ask goes without a look at the candidates
abbrev pub IsPassage : List (List ℕ) → Asked → Search → Passage → Type 0
IsPassage graph asked s (Asks next) = IsStopped asked s next
IsPassage graph asked s (Passed warned bad) = HasPassed graph asked s warned bad

-- so far goes the next ask of a search, and so far one whose check of the merge bases gives this answer
abbrev pub IsPassageOf : List (List ℕ) → Search → Passage → Type 0
IsPassageOf graph s passage = IsPassage graph (ask graph s) s passage

abbrev pub IsPassageAfter : Search → ℕ → Check → Passage → Type 0
IsPassageAfter s bad answer passage =
    (graph : List (List ℕ)) → IsPassage graph (ask_checked graph s bad answer) s passage

-- whether the check has passed then, and the bases to warn of
abbrev pub passed_after : Bool → Passage → Bool
passed_after checked (Asks next) = checked
passed_after checked (Passed warned bad) = true

abbrev pub warned_after : Passage → List ℕ
warned_after (Asks next) = next.warned
warned_after (Passed warned bad) = warned

-- the ask among these candidates, of which this one is the best
abbrev pub ask_listed : Option Ask → List ℕ → Option ℕ → Ask
ask_listed (Some a) ps chosen = a
ask_listed None ps chosen = ask_of_best ps chosen

-- the ask among the candidates of a row, with these weights
abbrev pub ask_over : List Bool → List ℕ → ℕ → List Bool → Ask
ask_over mask weights bad skips = let ps = places_of mask in ask_listed (ending ps bad) ps (best mask weights bad skips)

-- the ask of a search over these candidates, with these weights
abbrev pub IsAskOver : List Bool → List ℕ → ℕ → Search → Ask → Type 0
IsAskOver mask weights bad s answer = answer ≡ ask_over mask weights bad s.skips

-- what an ask leaves in a search
abbrev pub followed : Search → Bool → Option ℕ → Search
followed s checked expected = record s { checked = checked; expected = expected }

-- a session that follows a decision
abbrev pub after_decision : Session → Decision → Session
after_decision session decision =
    with_search session (followed session.search decision.checked (tested decision.step.ask))

-- a place that is marked good is among the good ones
abbrev pub with_marked_good : Search → Mark → ℕ → Search
with_marked_good s Good p = record s { goods = with_good s.goods p }
with_marked_good s other p = s

-- a session that has a place among its good ones, if it is marked good
abbrev pub added_if_good : Session → Mark → ℕ → Session
added_if_good session m p = with_search session (with_marked_good session.search m p)
