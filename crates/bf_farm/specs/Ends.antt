-- How a run of tests ends.
use Rattle.std.specs.Prelude.{◌≡◌, ℕ, ◌<◌, suc, false, List, [], ◌∷◌, ◌++◌, length, Option, Some, None}
use Rattle.std.specs.List.{flat_map}
use Rattle.bf_search.specs.declared.farm.Event.{Event}
use Rattle.bf_search.specs.declared.farm.Event.TheVariants as events
use Rattle.bf_search.specs.declared.outcomes.Outcome.{Outcome}
use Rattle.bf_io.specs.Causes.{Rose}
use Rattle.bf_search.specs.Run.{End, Answered, Leg, Open, Aborted}
use Rattle.bf_state.specs.Runs.{is_open}
use Rattle.bf_tester.specs.declared.answer.Answer.{Answer}
use Rattle.bf_farm.specs.declared.alone.Turn.{Turn}
use Rattle.bf_farm.specs.declared.alone.Turn.TheVariants.{GoesOn, Ended, Failed}
use Rattle.bf_farm.specs.Cores.{CoreView, run_of}

-- how many places have no outcome
abbrev pub missing : List (Option Outcome) → ℕ
missing [] = 0
missing (None ∷ table) = suc (missing table)
missing (Some outcome ∷ table) = missing table

-- a turn that goes on leaves fewer places without an outcome
abbrev pub MissesFewer : CoreView → CoreView → Turn → Type 0
MissesFewer old new turn = turn ≡ GoesOn → missing new.farm.table < missing old.farm.table

-- The run waits for this place, and the calling thread has claimed it alone.
pub record IsAsking (core : CoreView) (p : ℕ) : Type 0 where
  pub claims : core.farm.claims ≡ (record { worker = 0; place = p }) ∷ []
  pub waits : (run_of core).end ≡ Open p

-- a place that the calling thread has claimed; where there is none the run has ended
abbrev pub IsNext : CoreView → Option ℕ → Type 0
IsNext core None = (core.farm.claims ≡ []) × (is_open (run_of core).end ≡ false)
IsNext core (Some p) = IsAsking core p × (p < length core.farm.table)

-- The test of this place, which the run waits for, has failed: the count of faults rose.
pub record HasFailed (core : CoreView) (before now : ℕ) (failed : Option ℕ) (p : ℕ) : Type 0 where
  pub waits : (run_of core).end ≡ Open p
  pub rose : Rose before now
  pub latest : failed ≡ Some p

-- the run has ended, or the test of this place has failed
abbrev pub EndsWith : CoreView → ℕ → ℕ → Option ℕ → Option ℕ → Type 0
EndsWith core before now failed None = is_open (run_of core).end ≡ false
EndsWith core before now failed (Some p) = HasFailed core before now failed p

-- what one turn of testing leaves: no claim; and the run has ended, or a test has failed
abbrev pub TurnEnds : CoreView → ℕ → ℕ → Option ℕ → Turn → Type 0
TurnEnds core before now failed GoesOn = core.farm.claims ≡ []
TurnEnds core before now failed Ended = (core.farm.claims ≡ []) × (is_open (run_of core).end ≡ false)
TurnEnds core before now failed (Failed p) = (core.farm.claims ≡ []) × HasFailed core before now failed p

-- a run that has ended, or waits for the place whose test failed
abbrev pub StopsAt : End → Option ℕ → Type 0
StopsAt end None = is_open end ≡ false
StopsAt end (Some p) = end ≡ Open p

-- ---- what the calling thread does, where it tests alone

-- a test: its place is claimed, and the outcome is posted
abbrev pub test_at : ℕ × Outcome → List Event
test_at pair = events.Claim 0 pair.0 ∷ events.Post 0 pair.0 pair.1 ∷ []

abbrev pub test_of : Answer → List Event
test_of a = test_at (a.place, a.outcome)

-- a test that failed: its place is claimed, and given back
abbrev pub failed_test : Option ℕ → List Event
failed_test None = []
failed_test (Some p) = events.Claim 0 p ∷ events.Give 0 p ∷ []

-- the place whose outcome a run waits for at its end
abbrev pub awaited : End → Option ℕ
awaited (Answered a) = None
awaited Leg = None
awaited (Open p) = Some p
awaited (Aborted p outcome) = None

abbrev pub failed_in : Turn → Option ℕ
failed_in GoesOn = None
failed_in Ended = None
failed_in (Failed p) = Some p

-- the events gained the claim of a place, or nothing
abbrev pub GainsClaim : List Event → List Event → Option ℕ → Type 0
GainsClaim old new None = new ≡ old
GainsClaim old new (Some p) = new ≡ old ++ events.Claim 0 p ∷ []

-- Events and answers were added: the tests of the answers that were gained, in order, and at last that of the test that failed.
pub record TestsOn (old : List Event) (answers : List Answer) (new : List Event) (more : List Answer) (failed : Option ℕ) : Type 0 where
  pub gained : List Answer
  pub added : more ≡ answers ++ gained
  pub tested : new ≡ old ++ (flat_map test_of gained ++ failed_test failed)

-- so after a turn, at whose end a test may have failed
abbrev pub TurnTests : List Event → List Answer → List Event → List Answer → Turn → Type 0
TurnTests old answers new more turn = TestsOn old answers new more (failed_in turn)

-- so since the claim of a place, which was the latest event
abbrev pub TestsClaimed : ℕ → List Event → List Answer → List Event → List Answer → Turn → Type 0
TestsClaimed p old answers new more turn = (earlier : List Event) → GainsClaim earlier old (Some p) → TestsOn earlier answers new more (failed_in turn)
