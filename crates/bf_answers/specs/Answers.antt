-- What a call may answer and write, by what its command may tell, where a device fails or memory runs out.
use Rattle.std.specs.Prelude.{◌≡◌, ℕ, Bool, List, Some, IsTrue, Result, ◌⊎◌}
use Rattle.bf_io.specs.Causes.{Rose}
use Rattle.bf_io.specs.Told.{Keeps, Appends, AppendsFront}
use Rattle.bf_output.specs.declared.status.Status.{Status}
use Rattle.bf_output.specs.declared.status.Status.TheVariants as status
use Rattle.bf_output.specs.Output.{asks_file, reads, tests}
use Rattle.bf_output.specs.Refusals.{file_fault, read_fault}
use Rattle.bf_output.specs.Statuses.{Stage, Refused, Unread, Ended, Cut, stage_of}
use Rattle.bf_output.specs.Shown.{TesterShown}
use Rattle.bf_output.specs.Told.{Told}
use Rattle.bf_words.specs.declared.request.Request.{Request}
use Rattle.bf_answers.specs.declared.answer.Answer.{Answer}
use Rattle.bf_answers.specs.Devices.{Met, TesterMet, HasFailed, HasNotFailed}

-- what a command may tell where nothing cuts it short, and which devices it asks for
pub record Command : Type 1 where
  pub Tells : Told → Type 0
  pub reads : Bool  -- the stream
  pub loads : Bool  -- a file of the shelf
  pub tests : Bool  -- commits, by the tester

-- the command of words that were read, or are refused: it tells this
abbrev pub asking : Result Request ℕ → (Told → Type 0) → Command
asking read Tells = record { Tells = Tells; reads = reads read; loads = asks_file read; tests = tests read }

-- a status is answered with its text
abbrev pub OutputOf : Command → Status → List ℕ → Type 0
OutputOf command status text = command.Tells (record { status = status; text = text })

-- the command asks for the stream, and its source failed
abbrev pub IsUnread : Command → Met → Type 0
IsUnread command met = IsTrue command.reads × HasFailed met.source.faults

-- the command asks for a file, and the shelf failed
abbrev pub IsUnloaded : Command → Met → Type 0
IsUnloaded command met = IsTrue command.loads × HasFailed met.shelf.faults

-- ---- the tests

-- tests are asked for, the count of faults of the tester rose, and its latest failed test is that of the place
pub record IsFailedTest (asks : Bool) (before : ℕ) (after : TesterShown) (place : ℕ) : Type 0 where
  pub asked : IsTrue asks
  pub rose : Rose before after.faults
  pub failed : after.failed ≡ Some place

-- a test fault is answered only for a failed test
abbrev pub HasTestCause : Bool → TesterMet → Status → Type 0
HasTestCause asks tester result =
    (place : ℕ) → result ≡ status.TestFault place → IsFailedTest asks tester.before.faults tester.after place

-- the statuses that are answered before a search begins
abbrev pub IsBeforeSearch : Status → Type 0
IsBeforeSearch status = IsBefore (stage_of status)
  where
    IsBefore : Stage → Type 0
    IsBefore Refused = Unit {0}
    IsBefore Unread = Unit {0}
    IsBefore Ended = ⊥
    IsBefore Cut = ⊥

-- the tester is as it was
abbrev pub IsUntested : TesterMet → Type 0
IsUntested tester = tester.after ≡ tester.before

-- with such a status it is
abbrev pub IsUntestedIfRefused : TesterMet → Status → Type 0
IsUntestedIfRefused tester result = IsBeforeSearch result → IsUntested tester

-- a status fits the tests: a failed test is told only where one failed, and a refusal only where nothing was tested
abbrev pub FitsTests : Bool → TesterMet → Status → Type 0
FitsTests asks tester result = HasTestCause asks tester result × IsUntestedIfRefused tester result

-- ---- what was due, and what was written

-- the text of a run that want of memory cut short is due only where memory ran out
abbrev pub IsLostAs : Status → Status → Type 0
IsLostAs due result = due ≡ status.NoMemory → result ≡ status.NoMemory

-- the line of a fault of the source, or of the shelf
abbrev pub IsFaultLine : Command → Met → List ℕ → Type 0
IsFaultLine command met text =
    (IsUnread command met × (text ≡ read_fault.text)) ⊎ (IsUnloaded command met × (text ≡ file_fault.text))

-- a text that may have been written: one that fits the tests, or the line of a fault, before which nothing was tested
abbrev pub IsDue : Command → Met → Status → List ℕ → Type 0
IsDue command met result text =
    ((status : Status) × OutputOf command status text × FitsTests command.tests met.tester status × IsLostAs status result)
    ⊎ (IsFaultLine command met text × IsUntested met.tester)

-- the sink gained exactly what the command tells with this status
abbrev pub IsAnswered : Command → Met → Status → Type 0
IsAnswered command met status =
    (text : List ℕ) × OutputOf command status text × Appends met.sink.before met.sink.after text

-- the call was cut short, and the sink gained a front of the text that was due
abbrev pub IsCutShort : Command → Met → Status → Type 0
IsCutShort command met result =
    (text : List ℕ) × IsDue command met result text × AppendsFront met.sink.before met.sink.after text

-- What the sink gained, by the status. Where the source could not be read, or a file not be loaded, it is the line that says so. Each
-- status that no fault of a device gives is told by the command.
abbrev pub Answers : Command → Met → Status → Type 0
Answers command met status.ReadFault = IsUnread command met × Appends met.sink.before met.sink.after read_fault.text
Answers command met status.WriteFault = IsCutShort command met status.WriteFault
Answers command met status.NoMemory = Keeps met.sink.before met.sink.after ⊎ IsCutShort command met status.NoMemory
Answers command met status.ShelfFault = IsUnloaded command met × Appends met.sink.before met.sink.after file_fault.text
Answers command met other = IsAnswered command met other

-- where no device failed, and no test, the sink gained what the command tells with this status; or memory ran out
abbrev pub IsComplete : Command → Met → Status → Type 0
IsComplete command met result =
    HasNotFailed met.source.faults
    → HasNotFailed met.shelf.faults
    → (Rose met.tester.before.faults met.tester.after.faults → ⊥)
    → HasNotFailed met.sink.faults
    → (result ≡ status.NoMemory) ⊎ IsAnswered command met result

-- A call did what its command asks for.
pub record IsCarriedOut (command : Command) (met : Met) (result : Status) : Type 0 where
  pub answers : Answers command met result  -- what the sink gained, by the status
  pub complete : IsComplete command met result  -- all of it, where no device failed, and no test
  pub test : HasTestCause command.tests met.tester result  -- a test fault comes of a failed test, where the command tests

-- ---- causes

-- an answer that no device cut short, and no test
abbrev pub IsWhole : Status → Type 0
IsWhole status = IsUncut (stage_of status)
  where
    IsUncut : Stage → Type 0
    IsUncut Refused = Unit {0}
    IsUncut Unread = ⊥
    IsUncut Ended = Unit {0}
    IsUncut Cut = ⊥

-- a status has its cause: no device cut the answer short, and a test fault comes of a failed test alone
abbrev pub HasCause : Bool → ℕ → TesterShown → Status → Type 0
HasCause asks before after (status.TestFault place) = IsFailedTest asks before after place
HasCause asks before after other = IsWhole other

-- and so has that of an answer
abbrev pub IsCaused : Bool → TesterMet → Answer → Type 0
IsCaused asks tester answer = HasCause asks tester.before.faults tester.after answer.status

-- the answer of a command that tests nothing
abbrev pub IsWholeAnswer : Answer → Type 0
IsWholeAnswer answer = IsWhole answer.status
