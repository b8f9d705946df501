-- A run in legs: it stops after each so many marks, and goes on from the search that it has reached, with all that is known
-- by then.
use Rattle.std.specs.Prelude.{◌≡◌, ◌≢◌, ℕ, ◌≤◌, List, [], ◌∷◌, ◌++◌, length, map, replicate, Option, None}
use Rattle.std.specs.List.{flat_map}
use Rattle.bf_farm.specs.Answering.{pair_of}
use Rattle.bf_farm.specs.Boards.{LeadsTo, unclaimed}
use Rattle.bf_farm.specs.Doers.{AreByWorkers}
use Rattle.bf_farm.specs.Ends.{awaited, failed_test, test_at}
use Rattle.bf_farm.specs.Posts.{ArePosts, posts_of}
use Rattle.bf_farm.specs.Reports.{TableIn, TableFollows}
use Rattle.bf_farm.specs.declared.report.Report.{Report}
use Rattle.bf_oid.specs.declared.object.Oid.{Oid}
use Rattle.bf_state.specs.Ends.{HasEnds}
use Rattle.bf_search.specs.declared.farm.Event.{Event}
use Rattle.bf_search.specs.declared.farm.Ending.TheVariants as ending
use Rattle.bf_search.specs.declared.outcomes.Outcome.{Outcome}
use Rattle.bf_search.specs.Farm.{Setting, consumed, end_of}
use Rattle.bf_search.specs.Outcomes.{Outcomes, outcomes_of_table}
use Rattle.bf_search.specs.Run.{Run, Leg, one_at_a_time}
use Rattle.bf_search.specs.State.{Search}
use Rattle.bf_state.specs.Runs.{IsPartOf, in_sequence}
use Rattle.bf_state.specs.Session.{Session, with_search}
use Rattle.bf_tester.specs.declared.answer.Answer.{Answer}

-- what is searched: the graph of the commits and their names, the search to begin with, after how many marks a leg ends, and
-- how many commits may be tested at once
pub record Course : Type 0 where
  pub graph : List (List ℕ)
  pub names : List Oid
  pub first : Search
  pub leg : ℕ
  pub workers : ℕ

-- where a leg begins: a search, and the outcomes that are known
pub record Stand : Type 0 where
  pub search : Search
  pub table : List (Option Outcome)

-- at first nothing is known of any commit
abbrev pub first_stand : Course → Stand
first_stand course = record { search = course.first; table = replicate (length course.graph) None }

abbrev pub setting_of : Course → Search → Setting
setting_of course s = record { graph = course.graph; start = s; leg = course.leg }

-- the run of a leg, where this is known at its end
abbrev pub leg_run : Course → Search → List (Option Outcome) → Run
leg_run course s table = consumed (setting_of course s) table

-- The events of a leg are legal from where it begins, leave no claim, and lead to this table. As many workers as were asked
-- for did what comes first, and the calling thread all that follows.
pub record IsLeg (course : Course) (stand : Stand) (events : List Event) (table : List (Option Outcome)) : Type 0 where
  pub leads : LeadsTo (setting_of course stand.search) stand.table events (unclaimed table)
  pub by_workers : AreByWorkers course.workers events

-- where the next leg begins
abbrev pub stand_after : Course → Stand → List (Option Outcome) → Stand
stand_after course stand table = record { search = (leg_run course stand.search table).search; table = table }

-- whole legs, one after the other: each ends after its marks
unfoldable pub LegsLead : Course → Stand → List (List Event) → Stand → Type 0
LegsLead course stand [] after = after ≡ stand
LegsLead course stand (events ∷ legs) after =
    (table : List (Option Outcome)) × IsLeg course stand events table × ((leg_run course stand.search table).end ≡ Leg)
    × LegsLead course (stand_after course stand table) legs after

-- the events of a run: those of the legs that ended after their marks, and those of the last one
pub record Legs : Type 0 where
  pub whole : List (List Event)
  pub last : List Event

abbrev pub all_of : Legs → List (List Event)
all_of legs = legs.whole ++ legs.last ∷ []

-- The legs are legal from the first to the last, which leads to this table. The last one did not end after its marks: behind
-- such a leg comes another, though it may have no event.
pub record AreLegs (course : Course) (legs : Legs) (table : List (Option Outcome)) : Type 0 where
  pub stand : Stand
  pub whole : LegsLead course (first_stand course) legs.whole stand
  pub last : IsLeg course stand legs.last table
  pub ended : (leg_run course stand.search table).end ≢ Leg

-- all that is known was answered by the tester and, where outcomes are told, is one of these
pub record IsKnown (names : List Oid) (told : Option (List Outcome)) (answers : List Answer) (table : List (Option Outcome)) : Type 0 where
  pub answered : TableIn names answers table
  pub planned : TableFollows told table

-- The events of all legs are the tests of one worker: of what the run used, in order, and at last the test that failed.
abbrev pub AreTestsOf : Run → List (List Event) → Type 0
AreTestsOf run legs = flat_map (λ events. events) legs ≡ flat_map test_at run.used ++ failed_test (awaited run.end)

-- One worker gave exactly these answers, in the order of the run, and its tests are all that happened.
pub record IsTestedAlone (answers : List Answer) (run : Run) (legs : List (List Event)) : Type 0 where
  pub given : map pair_of answers ≡ run.used
  pub tested : AreTestsOf run legs

-- The tester's answers, each with the name of its commit, are the posts of all legs, each as often, whoever tested.
abbrev pub IsTestedBy : List Oid → List Answer → List (List Event) → Type 0
IsTestedBy names answers legs = ArePosts names (posts_of (flat_map (λ events. events) legs)) answers

-- whatever more is known, the run without legs goes on from here
abbrev pub GoesOnFrom : Course → Run → Outcomes → Type 0
GoesOnFrom course run known =
    (more : Outcomes) → IsPartOf known more → one_at_a_time course.graph course.first more 0 ≡ in_sequence run (one_at_a_time course.graph run.search more 0)

-- A run has come so far in whole legs.
pub record IsBetween (course : Course) (told : Option (List Outcome)) (answers : List Answer) (stand : Stand) (whole : List (List Event)) (run : Run) : Type 0 where
  pub legs : LegsLead course (first_stand course) whole stand
  pub reached : run.search ≡ stand.search
  pub ended : run.end ≡ Leg
  pub goes_on : GoesOnFrom course run (outcomes_of_table stand.table)
  pub known : IsKnown course.names told answers stand.table
  pub tested : IsTestedBy course.names answers whole
  pub alone : course.workers ≤ 1 → IsTestedAlone answers run whole

-- A run has ended: it is the run without legs on all that is known.
pub record IsOver (course : Course) (told : Option (List Outcome)) (answers : List Answer) (table : List (Option Outcome)) (legs : Legs) (run : Run) : Type 0 where
  pub are : AreLegs course legs table
  pub is : run ≡ one_at_a_time course.graph course.first (outcomes_of_table table) 0
  pub known : IsKnown course.names told answers table
  pub tested : IsTestedBy course.names answers (all_of legs)
  pub alone : course.workers ≤ 1 → IsTestedAlone answers run (all_of legs)

-- ---- a leg

-- a leg may begin: both ends are known, there is an outcome or none for each place, and what is known was answered
pub record IsReady (graph : List (List ℕ)) (names : List Oid) (told : Option (List Outcome)) (answers : List Answer) (session : Session)
    (table : List (Option Outcome)) : Type 0 where
  pub len : session.len ≡ length graph
  pub long : length table ≡ length graph
  pub ends : HasEnds session.search
  pub known : IsKnown names told answers table

-- the report of a leg is its run
pub record IsLegRun (course : Course) (session : Session) (report : Report) : Type 0 where
  pub entries : report.entries.items ≡ (leg_run course session.search report.table).entries
  pub state : report.state ≡ with_search session (leg_run course session.search report.table).search
  pub ending : end_of report.ending ≡ (leg_run course session.search report.table).end

-- A leg leads on: where its run ended after its marks a next leg may follow, and else the whole run is over.
pub record LeadsOn (course : Course) (told : Option (List Outcome)) (before after : List Answer) (stand : Stand) (report : Report) : Type 0 where
  pub between : (whole : List (List Event)) (run : Run) → IsBetween course told before stand whole run → report.ending ≡ ending.Leg
      → IsBetween course told after (stand_after course stand report.table) (whole ++ report.events.items ∷ [])
      (in_sequence run (leg_run course stand.search report.table))
  pub over : (whole : List (List Event)) (run : Run) → IsBetween course told before stand whole run → report.ending ≢ ending.Leg
      → IsOver course told after report.table (record { whole = whole; last = report.events.items })
      (in_sequence run (leg_run course stand.search report.table))
