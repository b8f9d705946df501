-- The command `journal`: a run whose outcomes are kept in a file, leg by leg.
use Rattle.std.specs.Prelude.{◌≡◌, ◌≢◌, ◌⊎◌, ℕ, ◌≤◌, max, Bool, List, [], ◌++◌, length, codes, Option, Some, None, IfSome, Result, Ok, Err}
use Rattle.bf_farm.specs.Reports.{IsAnswered}
use Rattle.bf_grammar.specs.Forms.{◌>>=◌}
use Rattle.bf_history.specs.Meanings.{History}
use Rattle.bf_io.specs.Causes.{Rose}
use Rattle.bf_journal.specs.Disk.{NoMore, Only}
use Rattle.bf_journal.specs.Identity.{run_identity}
use Rattle.bf_journal.specs.Image.{table_in}
use Rattle.bf_journal.specs.Journal.{IsAsOpened}
use Rattle.bf_oid.specs.declared.object.Oid.{Oid}
use Rattle.bf_runs.specs.Legs.{IsKnown}
use Rattle.bf_search.specs.declared.entries.Entry.{Entry}
use Rattle.bf_search.specs.declared.outcomes.Outcome.{Outcome}
use Rattle.bf_search.specs.declared.outcomes.Verdict.TheVariants.{Abort}
use Rattle.bf_search.specs.Outcomes.{outcomes_of_table, verdict_of}
use Rattle.bf_search.specs.Run.{Run}
use Rattle.bf_state.specs.Runs.{GoesOn, IsPartOf}
use Rattle.bf_tester.specs.declared.answer.Answer.{Answer}
use Rattle.bf_tester.specs.Plans.{read_as}
use Rattle.bf_words.specs.declared.request.Request.{Request}
use Rattle.bf_output.specs.declared.status.Status.TheVariants as status
use Rattle.bf_output.specs.Beginning.{Begun, log_on}
use Rattle.bf_output.specs.Output.{Given, IsSearchTold}
use Rattle.bf_output.specs.Shown.{TesterShown, command_of}
use Rattle.bf_output.specs.Tested.{AreFirstUsed, IsFrontIfTold, IsTestedRun, IsTestCut, run_on}
use Rattle.bf_output.specs.Told.{Told}
use Rattle.bf_commands.specs.declared.order.Order.TheVariants as order
use Rattle.bf_commands.specs.Orders.{request_of}

-- what a call met of the disk that a journal is kept on
pub record DiskMet : Type 1 where
  pub before : Option (List ℕ)  -- the bytes that it had, where it tells them
  pub could_leave : List ℕ → Type 0  -- the images that a crash could leave before the call
  pub left : List ℕ → Type 0  -- those that a crash at some moment of the call might have left
  pub may_leave : List ℕ → Type 0  -- those that a crash may leave after it
  pub faults : ℕ  -- its count before the call
  pub faults_now : ℕ

-- ---- the run that a journal is kept for

-- its commits, how outcomes are read, and the words of its command
abbrev pub identity_of : History → Request → List (List ℕ) → Oid
identity_of history request words = record { 0 = run_identity history.names request.lenient (command_of request words) }

-- what opening its journal gives: the outcomes that it kept, the identity of another run, or a fault of the disk
pub data OpenedJournal : Type 0 where
  Kept : List (Option Outcome) → OpenedJournal
  Other : Oid → OpenedJournal
  Failed : OpenedJournal

-- by what the bytes stand for, where the disk tells them
abbrev pub Opens : DiskMet → Oid → ℕ → OpenedJournal → Type 0
Opens disk identity len (Kept outcomes) = IfSome disk.before (λ bytes. table_in identity len bytes ≡ Ok outcomes)
Opens disk identity len (Other kept) = IfSome disk.before (λ bytes. table_in identity len bytes ≡ Err kept)
Opens disk identity len Failed = Rose disk.faults disk.faults_now

-- ---- what is kept

-- each outcome that is known, and that does not end the run, is kept, or one that is read as it
abbrev pub KeepsAll : Bool → List (Option Outcome) → List (Option Outcome) → Type 0
KeepsAll is_lenient kept known = (p : ℕ) (outcome : Outcome)
    → outcomes_of_table known p ≡ Some outcome → verdict_of outcome ≢ Abort
    → (found : Outcome) × (outcomes_of_table kept p ≡ Some found)
    × ((found ≡ outcome) ⊎ (read_as is_lenient found ≡ outcome))

-- an outcome that may be put: one that the tester answered, and that does not end the run
abbrev pub MayBePut : List Oid → List Answer → ℕ → Outcome → Type 0
MayBePut names answers p outcome = IsAnswered names answers p outcome × (verdict_of outcome ≢ Abort)

-- each outcome that is kept was found when the journal was opened, or else may be put
abbrev pub KeepsOnly : (ℕ → Outcome → Type 0) → List (Option Outcome) → List (Option Outcome) → Type 0
KeepsOnly MayPut found kept = (p : ℕ) (outcome : Outcome)
    → outcomes_of_table kept p ≡ Some outcome → (outcomes_of_table found p ≡ Some outcome) ⊎ MayPut p outcome

-- An image goes on from what was found when the journal was opened: it keeps all of that as it was, and beside it only what may
-- be put.
pub record Continues (identity : Oid) (len : ℕ) (MayPut : ℕ → Outcome → Type 0) (found : List (Option Outcome)) (image : List ℕ) : Type 0 where
  pub kept : List (Option Outcome)
  pub reads : table_in identity len image ≡ Ok kept
  pub opened : IsPartOf (outcomes_of_table found) (outcomes_of_table kept)
  pub only : KeepsOnly MayPut found kept

-- it does, and keeps all that is known
pub record IsKeptIn (identity : Oid) (len : ℕ) (MayPut : ℕ → Outcome → Type 0) (is_lenient : Bool) (found table : List (Option Outcome)) (image : List ℕ) : Type 0 where
  pub on : Continues identity len MayPut found image
  pub known : KeepsAll is_lenient on.kept table

-- Each image that a crash may leave after the call does so, and one that a crash at some moment of the call might have left goes
-- on from what was found, or could be left before the call.
pub record AreImages (disk : DiskMet) (identity : Oid) (len : ℕ) (MayPut : ℕ → Outcome → Type 0) (is_lenient : Bool) (found table : List (Option Outcome))
    : Type 0 where
  pub now : (image : List ℕ) → disk.may_leave image → IsKeptIn identity len MayPut is_lenient found table image
  pub ever : (image : List ℕ) → disk.left image → disk.could_leave image ⊎ Continues identity len MayPut found image

-- where the disk tells its bytes, so it is with the journal of a run on what its tester answered
abbrev pub AreImagesOf : DiskMet → Oid → List Oid → TesterShown → List (Option Outcome) → List (Option Outcome) → Type 0
AreImagesOf disk identity names tested found table =
    IfSome disk.before (λ _. AreImages disk identity (length names) (MayBePut names tested.answers) tested.is_lenient found table)

-- the journal of another run is left as it was: a crash leaves the bytes from before, and at no moment of the call more than before
pub record IsLeftAlone (disk : DiskMet) (bytes : List ℕ) : Type 0 where
  pub now : Only bytes disk.may_leave
  pub ever : NoMore disk.could_leave disk.left

-- Where the disk failed while it was opened, each image could be left before, or stands as the bytes do: those of another run it is.
abbrev pub IsOpenedAt : DiskMet → Oid → ℕ → List ℕ → Type 0
IsOpenedAt disk identity len bytes = (image : List ℕ) → disk.left image → IsAsOpened disk.could_leave identity len bytes image

-- ---- what is told

-- what was written before, and the line that says so
abbrev pub journal_fault : List ℕ → Told
journal_fault written = record { status = status.JournalFault; text = written ++ codes "journal fault\n" }

-- the lines of whole legs, which a run goes on from; or none of them
abbrev pub IsLogFront : History → Begun → Run → List ℕ → Type 0
IsLogFront history first run written =
    (written ≡ []) ⊎ ((entries : List Entry) × GoesOn entries run.entries × (written ≡ log_on history first entries))

-- all that was answered is what a run on it used, as far as it came
pub record AreUsedFirst (tested : TesterShown) (history : History) (first : Begun) : Type 0 where
  pub table : List (Option Outcome)
  pub known : IsKnown history.names tested.plan tested.answers table
  pub used : AreFirstUsed tested.answers (run_on history first table)

-- The disk failed behind the lines of some legs, of a run on what the tester answered. One worker tested what a run asked for, and
-- nothing else, in the leg that could not be kept, too.
pub record IsJournalCut (disk : DiskMet) (request : Request) (tested : TesterShown) (history : History) (first : Begun) (table : List (Option Outcome)) (told : Told)
    : Type 0 where
  pub failed : Rose disk.faults disk.faults_now
  pub known : IsKnown history.names tested.plan tested.answers table
  pub planned : IsFrontIfTold tested.plan history first (run_on history first table)
  pub alone : request.workers ≤ 1 → AreUsedFirst tested history first
  pub written : List ℕ
  pub front : IsLogFront history first (run_on history first table) written
  pub tells : told ≡ journal_fault written

-- a run as `run` tells it, or cut short by the disk; what was found and each outcome of it are in each image of the disk
abbrev pub IsRunKept : DiskMet → Oid → List (Option Outcome) → Request → TesterShown → History → Begun → Told → Type 0
IsRunKept disk identity found request tested history first told =
    ((is : IsTestedRun request tested history first told) × AreImagesOf disk identity history.names tested found is.table)
    ⊎ (((is : IsTestCut status.WriteFault request tested history first told) × AreImagesOf disk identity history.names tested found is.table)
    ⊎ (((is : IsTestCut status.NoMemory request tested history first told) × AreImagesOf disk identity history.names tested found is.table)
    ⊎ ((table : List (Option Outcome)) × IsJournalCut disk request tested history first table told
    × AreImagesOf disk identity history.names tested found table)))

abbrev pub IsOpenedTold : OpenedJournal → DiskMet → Oid → Request → TesterShown → History → Begun → Told → Type 0
IsOpenedTold (Kept found) disk identity request tested history first told = IsRunKept disk identity found request tested history first told
IsOpenedTold (Other kept) disk identity request tested history first told =
    (told ≡ record { status = status.JournalRefused kept; text = codes "journal of another run\n" }) × IfSome disk.before (IsLeftAlone disk)
IsOpenedTold Failed disk identity request tested history first told =
    (told ≡ journal_fault []) × (tested.answers ≡ []) × IfSome disk.before (IsOpenedAt disk identity (length history.names))

-- the journal is opened once the search has begun
abbrev pub IsJournalled : DiskMet → Request → List (List ℕ) → TesterShown → History → Begun → Told → Type 0
IsJournalled disk request words tested history first told =
    (opened : OpenedJournal)
    × Opens disk (identity_of history request words) (length history.names) opened
    × IsOpenedTold opened disk (identity_of history request words) request tested history first told

-- ---- from the words on

-- the legs have one mark each where the words do not give them more
abbrev pub in_legs : Request → Request
in_legs request = record request { leg = max request.leg 1 }

abbrev pub request_to_journal : List (List ℕ) → Result Request ℕ
request_to_journal words = request_of order.Journal words >>= λ request. Ok (in_legs request)

abbrev pub IsJournalOutput : DiskMet → Given → Option (List ℕ) → Told → Type 0
IsJournalOutput disk given stream told =
    IsSearchTold (λ request. IsJournalled disk request given.words given.tested) (request_to_journal given.words) given stream told
