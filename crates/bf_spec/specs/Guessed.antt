-- Searches at the ends of paths.
use Rattle.std.specs.Prelude.{◌≡◌, ℕ, if◌then◌else◌, List, [], ◌∷◌, ◌++◌, Option, Some, None}
use Rattle.bf_search.specs.declared.asks.Ask.{Ask}
use Rattle.bf_search.specs.declared.asks.Ask.TheVariants.{Test}
use Rattle.bf_search.specs.declared.outcomes.Mark.{Mark}
use Rattle.bf_search.specs.declared.outcomes.Outcome.{Outcome}
use Rattle.bf_search.specs.declared.outcomes.Verdict.{Verdict}
use Rattle.bf_search.specs.declared.outcomes.Verdict.TheVariants.{Mark as MarkOf, Abort}
use Rattle.bf_search.specs.Outcomes.{Outcomes, verdict_of}
use Rattle.bf_search.specs.State.{Search, Asked, ask, mark}
use Rattle.bf_search.specs.declared.farm.Claim.{Claim}
use Rattle.bf_search.specs.OpenPaths.{OpenPath, is_claimed}
use Rattle.bf_spec.specs.declared.walk.Look.{Look}
use Rattle.bf_spec.specs.declared.walk.Look.TheVariants.{Ended, Free, Known, Guess}

-- a search that has asked for a place, marked there
abbrev pub marked_by : Search → Mark → Ask → Search
marked_by s m (Test p) = mark s m p
marked_by s m other = s

-- what is asked after a mark
abbrev pub next_asked : List (List ℕ) → Asked → Mark → Asked
next_asked graph a m = ask graph (marked_by a.search m a.step.ask)

-- what is asked at the end of a path
abbrev pub asked_at : List (List ℕ) → Asked → List Mark → Asked
asked_at graph a [] = a
asked_at graph a (m ∷ ms) = asked_at graph (next_asked graph a m) ms

-- asking again changes nothing, and warns of nothing
pub record IsSettled (graph : List (List ℕ)) (a : Asked) : Type 0 where
  pub search : (ask graph a.search).search ≡ a.search
  pub step : (ask graph a.search).step.ask ≡ a.step.ask
  pub warned : (ask graph a.search).step.warned ≡ []

-- a path behind these marks
abbrev pub prefixed : List Mark → Option OpenPath → Option OpenPath
prefixed ms None = None
prefixed ms (Some path) = Some (record path { marks = ms ++ path.marks })

-- what is to be done at an asked place
abbrev pub look_of_verdict : ℕ → Verdict → Look
look_of_verdict p Abort = Ended
look_of_verdict p (MarkOf m) = Known p m

abbrev pub look_of_outcome : List Claim → ℕ → Option Outcome → Look
look_of_outcome claims p (Some outcome) = look_of_verdict p (verdict_of outcome)
look_of_outcome claims p None = if is_claimed claims p then Guess p else Free p

abbrev pub look_of : Outcomes → List Claim → Ask → Look
look_of known claims (Test p) = look_of_outcome claims p (known p)
look_of known claims other = Ended
