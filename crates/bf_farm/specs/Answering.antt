-- What a run of tests promises of its report.
use Rattle.std.specs.Prelude.{◌≡◌, ◌≢◌, ◌↔◌, ℕ, ◌<◌, ◌≤◌, ◌*◌, ◌^◌, true, List, ◌++◌, length, map, filter, All, Option, Some}
use Rattle.std.specs.List.{flat_map, slice_get, AllPairs}
use Rattle.std.specs.Option.{is_none}
use Rattle.bf_oid.specs.declared.object.Oid.{Oid}
use Rattle.bf_io.specs.Causes.{Rose}
use Rattle.bf_search.specs.declared.entries.Entry.{Entry}
use Rattle.bf_search.specs.declared.farm.Ending.TheVariants.{Leg, TestFault}
use Rattle.bf_search.specs.declared.farm.Event.{Event}
use Rattle.bf_search.specs.declared.outcomes.Outcome.{Outcome}
use Rattle.bf_search.specs.Farm.{Setting, consumed, end_of}
use Rattle.bf_search.specs.Outcomes.{outcomes_of_pairs, outcomes_of_plan, outcomes_of_table}
use Rattle.bf_search.specs.OpenPaths.{left_of}
use Rattle.bf_search.specs.Run.{Run, one_at_a_time}
use Rattle.bf_state.specs.Ends.{marks_of}
use Rattle.bf_state.specs.Halving.{IsLine, NoneSkipped, IsGoodOrBad}
use Rattle.bf_state.specs.Session.{Session, with_search}
use Rattle.bf_tester.specs.declared.answer.Answer.{Answer}
use Rattle.bf_farm.specs.declared.report.Report.{Report}
use Rattle.bf_farm.specs.Boards.{LeadsTo, unclaimed}
use Rattle.bf_farm.specs.Cores.{CoreView}
use Rattle.bf_farm.specs.Doers.{AreByWorkers}
use Rattle.bf_farm.specs.Ends.{TestsOn, awaited, failed_test, test_of}
use Rattle.bf_farm.specs.Reports.{TableIn, TableFollows, PostsIn, AreAmong}

-- the place and the outcome of an answer
abbrev pub pair_of : Answer → ℕ × Outcome
pair_of a = (a.place, a.outcome)

-- the run on the answers that were used
abbrev pub run_on : Setting → List Answer → Run
run_on setting used = one_at_a_time setting.graph setting.start (outcomes_of_pairs (map pair_of used)) setting.leg

-- a leg has an end, and so many marks were made
pub record IsLegOver (leg : ℕ) (entries : List Entry) : Type 0 where
  pub has_end : 0 < leg
  pub made : length (marks_of entries) ≡ leg

-- The report is that of testing one commit at a time on the answers that were used, each place once.
pub record IsReport (setting : Setting) (first : Session) (names : List Oid) (report : Report) : Type 0 where
  pub entries : report.entries.items ≡ (run_on setting report.used.items).entries
  pub state : report.state ≡ with_search first (run_on setting report.used.items).search
  pub ending : end_of report.ending ≡ (run_on setting report.used.items).end
  pub used : map pair_of report.used.items ≡ (run_on setting report.used.items).used
  pub table : run_on setting report.used.items ≡ consumed setting report.table
  pub named : All (λ a. slice_get names a.place ≡ Some a.name) report.used.items
  pub once : AllPairs (λ a b. a.place ≢ b.place) report.used.items
  pub leg : (report.ending ≡ Leg) ↔ IsLegOver setting.leg report.entries.items

-- so from what a core started with
abbrev pub IsReportOver : CoreView → List Oid → Report → Type 0
IsReportOver core names report = IsReport core.setting core.first names report

-- each used answer is one of its table
abbrev pub UsesItsTable : Report → Type 0
UsesItsTable report = All (λ a. outcomes_of_table report.table a.place ≡ Some a.outcome) report.used.items

-- no failed test ended it
abbrev pub IsUnfailed : Report → Type 0
IsUnfailed report = (p : ℕ) → report.ending ≢ TestFault p

-- the run on the answers that it used is the run on a plan
abbrev pub IsRunOfPlan : Setting → List Outcome → Report → Type 0
IsRunOfPlan setting plan report =
    run_on setting report.used.items ≡ one_at_a_time setting.graph setting.start (outcomes_of_plan plan) setting.leg

-- Its events are legal from the given table, leave no claim, and lead to the reported table.
abbrev pub HasHistory : Setting → List (Option Outcome) → Report → Type 0
HasHistory setting first report = LeadsTo setting first report.events.items (unclaimed report.table)

-- So many workers did what comes first, and the calling thread all that follows.
abbrev pub IsByWorkers : ℕ → Report → Type 0
IsByWorkers workers report = AreByWorkers workers report.events.items

-- a run that ends with a failed test: the count of faults rose, and it is the latest one that failed
abbrev pub HasFault : ℕ → ℕ → Option ℕ → Report → Type 0
HasFault before now failed report = (p : ℕ) → report.ending ≡ TestFault p → Rose before now × (failed ≡ Some p)

-- the events beyond the old ones are the tests of the answers that were gained, and at last the test that failed
abbrev pub ReportsTests : List Event → List Answer → List Answer → Report → Type 0
ReportsTests old answers more report = TestsOn old answers report.events.items more (awaited (end_of report.ending))

-- the used answers that a table lacks, in order
abbrev pub lacking : List (Option Outcome) → List Answer → List Answer
lacking table used = filter (λ a. is_none (outcomes_of_table table a.place)) used

-- Its events are the tests of the used answers that a table lacks, by the calling thread, and at last the test that failed.
abbrev pub IsAlone : List (Option Outcome) → Report → Type 0
IsAlone table report =
    report.events.items ≡ flat_map test_of (lacking table report.used.items) ++ failed_test (awaited (end_of report.ending))

-- Among candidates in one line each test halves them, where nothing is skipped and each outcome is good or bad.
abbrev pub Halves : Setting → Report → Type 0
Halves setting report =
    setting.start.checked ≡ true → NoneSkipped setting.start → IsLine setting.graph setting.start → All (λ a. IsGoodOrBad a.outcome) report.used.items
    → 1 ≤ left_of setting.graph setting.start → 2 ^ length report.used.items < 2 * left_of setting.graph setting.start

-- It tells of answers alone: its table, which follows the plan, its posts, and what it used.
pub record IsSoundReport (told : Option (List Outcome)) (names : List Oid) (answers : List Answer) (report : Report) : Type 0 where
  pub answered : TableIn names answers report.table
  pub planned : TableFollows told report.table
  pub posts : PostsIn names answers report.events.items
  pub used : AreAmong answers report.used.items
