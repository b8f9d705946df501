-- A run whose outcomes are kept, leg by leg.
use Rattle.std.specs.Prelude.{◌≡◌, ℕ, ◌≤◌, Bool, List, [], ◌++◌, length, Option, Result, Ok, Err}
use Rattle.bf_answers.specs.Devices.{SinkMet, TesterMet}
use Rattle.bf_answers.specs.declared.answer.Answer.{Answer}
use Rattle.bf_commands.specs.Journal.{AreUsedFirst, DiskMet, IsJournalCut, KeepsAll, MayBePut, journal_fault}
use Rattle.bf_farm.specs.declared.report.Report.{Report}
use Rattle.bf_history.specs.Meanings.{History}
use Rattle.bf_io.specs.Told.{Appends, AppendsFront}
use Rattle.bf_journal.specs.declared.disk.Disk.{Ghosts}
use Rattle.bf_journal.specs.Journal.{Keeping}
use Rattle.bf_output.specs.declared.status.Status.TheVariants as status
use Rattle.bf_output.specs.Beginning.{Begun}
use Rattle.bf_output.specs.Shown.{TesterShown}
use Rattle.bf_output.specs.Tested.{IsTestedRun, IsTestCut}
use Rattle.bf_output.specs.Told.{Told}
use Rattle.bf_runs.specs.declared.case.RunSettings.{RunSettings}
use Rattle.bf_runs.specs.Legs.{IsKnown}
use Rattle.bf_search.specs.declared.outcomes.Outcome.{Outcome}
use Rattle.bf_search.specs.Outcomes.{outcomes_of_table}
use Rattle.bf_searches.specs.declared.legs.Gone.{Gone}
use Rattle.bf_searches.specs.declared.legs.Gone.TheVariants.{On, Over}
use Rattle.bf_searches.specs.declared.legs.Running.{Running}
use Rattle.bf_searches.specs.declared.telling.Telling.{Telling}
use Rattle.bf_searches.specs.Searching.{IsRunning, LeadsOnWith, LeadsOverWith}
use Rattle.bf_searches.specs.Telling.{AddsLegEvents, AddsLegLines, LearnsEntries}
use Rattle.bf_state.specs.Runs.{IsPartOf}
use Rattle.bf_tester.specs.declared.answer.Answer.{Answer as Answered}
use Rattle.bf_words.specs.declared.request.Request.{Request}
use Rattle.bf_journal_run.specs.declared.cut.Cut.{Cut}
use Rattle.bf_journal_run.specs.declared.cut.Cut.TheVariants.{Journal, Output, NoMemory}
use Rattle.bf_journal_run.specs.Kept.{AreLasting, IsToKeep, KeepsSince, LeavesOn, answers_of}

-- what a call met of its disk, by the ghost members of its type
abbrev pub met_disk : {J : Type 0} → Ghosts J → J → J → DiskMet
met_disk by before after = record {
  before = by.told before;
  could_leave = by.may_leave before;
  left = by.left_since after (by.moment before);
  may_leave = by.may_leave after;
  faults = by.faults before;
  faults_now = by.faults after;
}

-- A run has come so far, and the journal keeps what is known by then: of each place what it kept when it was opened, which the
-- tester remembers, or else what was tested.
pub record IsKeptRun (search : RunSettings) (request : Request) (tested : TesterShown) (remembered : List Answered) (opened : List (Option Outcome))
    (first : Begun) (written : List ℕ) (kept : List (Option Outcome)) (running : Running) : Type 0 where
  pub leg : request.leg ≡ search.leg
  pub workers : request.workers ≡ search.workers
  pub so_far : IsRunning request tested search.history.now first written running
  pub long : length search.history.now.names ≡ length opened
  pub remembers : remembered ≡ answers_of search.history.now.names opened
  pub since : KeepsSince opened running.standing.table kept
  pub all : KeepsAll tested.is_lenient kept running.standing.table

-- A leg was told: its lines and its events behind what was told before, and where it leads.
pub record IsToldLeg (history : History) (before : Telling) (report : Report) (gone : Gone) : Type 0 where
  pub told : Telling
  pub text : AddsLegLines history report before told
  pub known : LearnsEntries report.entries.items before told
  pub trace : AddsLegEvents history report before told
  pub on : LeadsOnWith told report gone
  pub over : LeadsOverWith history told report gone

-- A journal keeps what is known after a leg, which is no less than before it, and so did each image that a crash in the leg
-- might have left.
pub record IsKeptOn (Leaves : (ℕ → Outcome → Type 0) → Type 0) (is_lenient : Bool) (opened kept known table : List (Option Outcome)) : Type 0 where
  pub since : KeepsSince opened table kept
  pub all : KeepsAll is_lenient kept table
  pub grows : IsPartOf (outcomes_of_table known) (outcomes_of_table table)
  pub leaves : Leaves (IsToKeep table)

-- a leg leads to the next one, or to the end of the run; or it was cut short
abbrev pub IsLedKept : ((ℕ → Outcome → Type 0) → Type 0) → RunSettings → Request → TesterMet → List Answered → List (Option Outcome) → Begun → List ℕ
    → List (Option Outcome) → List (Option Outcome) → Result Gone Cut → Type 0
IsLedKept Leaves search request tester remembered opened first written kept known (Ok (On running)) =
    IsKeptRun search request tester.after remembered opened first written kept running
    × IsKeptOn Leaves tester.after.is_lenient opened kept known running.standing.table
IsLedKept Leaves search request tester remembered opened first written kept known (Ok (Over answer)) =
    (is : IsTestedRun request tester.after search.history.now first (record { status = answer.status; text = written ++ answer.text }))
    × IsKeptOn Leaves tester.after.is_lenient opened kept known is.table
IsLedKept Leaves search request tester remembered opened first written kept known (Err Journal) =
    IsKnown search.history.now.names tester.after.plan tester.after.answers known
    × Leaves (MayBePut search.history.now.names tester.after.answers)
    × (request.workers ≤ 1 → AreUsedFirst tester.after search.history.now first)
IsLedKept Leaves search request tester remembered opened first written kept known (Err Output) = ⊥
IsLedKept Leaves search request tester remembered opened first written kept known (Err NoMemory) =
    IsKnown search.history.now.names tester.after.plan tester.after.answers known
    × Leaves (MayBePut search.history.now.names tester.after.answers)

-- whatever search the run is of
abbrev pub LeadsKeptOn : {J : Type 0} → Ghosts J → J → J → RunSettings → Running → TesterMet → List Answered → List Answered → Keeping → Keeping
    → Result Gone Cut → Type 0
LeadsKeptOn by disk disk_now search running tester before after old new result =
    (request : Request) (opened : List (Option Outcome)) (first : Begun) (written : List ℕ)
    → IsKeptRun search request tester.before before opened first written old.kept running
    → IsLedKept (LeavesOn by disk disk_now old old.kept) search request tester after opened first written new.kept running.standing.table result

-- ---- from the first leg to the end

-- what was written and this answer are what a kept run tells
pub record IsToldKept (images : List (Option Outcome) → Type 0) (request : Request) (tested : TesterShown) (history : History) (first : Begun)
    (before after : Option (List ℕ)) (answer : Answer) : Type 0 where
  pub written : List ℕ
  pub gained : Appends before after written
  pub is : IsTestedRun request tested history first (record { status = answer.status; text = written ++ answer.text })
  pub kept : images is.table

-- a run that the disk cut short, behind the lines of its legs
pub record IsCutByDisk (images : List (Option Outcome) → Type 0) (disk : DiskMet) (request : Request) (tested : TesterShown) (history : History) (first : Begun)
    (before after : Option (List ℕ)) : Type 0 where
  pub table : List (Option Outcome)
  pub written : List ℕ
  pub gained : Appends before after written
  pub is : IsJournalCut disk request tested history first table (journal_fault written)
  pub kept : images table

-- one that a write cut short, and one that want of memory did: a front of its log was written
pub record IsCutByWrite (images : List (Option Outcome) → Type 0) (request : Request) (tested : TesterShown) (history : History) (first : Begun)
    (before after : Option (List ℕ)) : Type 0 where
  pub told : Told
  pub is : IsTestCut status.WriteFault request tested history first told
  pub front : AppendsFront before after told.text
  pub kept : images is.table

pub record IsCutByMemory (images : List (Option Outcome) → Type 0) (request : Request) (tested : TesterShown) (history : History) (first : Begun)
    (before after : Option (List ℕ)) : Type 0 where
  pub told : Told
  pub is : IsTestCut status.NoMemory request tested history first told
  pub front : AppendsFront before after told.text
  pub kept : images is.table

-- what a kept run tells, or what it wrote before it was cut short
abbrev pub IsEndedKept : (List (Option Outcome) → Type 0) → DiskMet → Request → TesterShown → History → Begun → Option (List ℕ) → Option (List ℕ)
    → Result Answer Cut → Type 0
IsEndedKept images disk request tested history first before after (Ok answer) = IsToldKept images request tested history first before after answer
IsEndedKept images disk request tested history first before after (Err Journal) = IsCutByDisk images disk request tested history first before after
IsEndedKept images disk request tested history first before after (Err Output) = IsCutByWrite images request tested history first before after
IsEndedKept images disk request tested history first before after (Err NoMemory) = IsCutByMemory images request tested history first before after

-- whatever search the run is of
abbrev pub EndsKept : {J : Type 0} → Ghosts J → J → J → RunSettings → Running → TesterMet → List Answered → Keeping → SinkMet → Result Answer Cut → Type 0
EndsKept by disk disk_now search running tester remembered journal sink result =
    (request : Request) (opened : List (Option Outcome)) (first : Begun)
    → IsKeptRun search request tester.before remembered opened first [] journal.kept running
    → IsEndedKept (AreLasting by disk disk_now journal search.history.now.names tester.after opened) (met_disk by disk disk_now) request tester.after
    search.history.now first sink.before sink.after result
