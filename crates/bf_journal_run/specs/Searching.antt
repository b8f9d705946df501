-- A search whose outcomes are kept, from its journal to its status.
use Rattle.std.specs.Prelude.{◌≡◌, ◌≢◌, List, [], length, Option, true, Result, Ok, Err, codes}
use Rattle.bf_answers.specs.Answers.{IsBeforeSearch}
use Rattle.bf_answers.specs.declared.answer.Answer.{Answer}
use Rattle.bf_answers.specs.declared.line.RequestLine.{RequestLine}
use Rattle.bf_answers.specs.declared.started.Started.{Started}
use Rattle.bf_answers.specs.Devices.{SinkMet, TesterMet}
use Rattle.bf_answers.specs.Ready.{IsCausedTold, IsConcluded}
use Rattle.bf_answers.specs.Tellings.{begun_of}
use Rattle.bf_answers.specs.Writes.{IsWritten}
use Rattle.bf_commands.specs.Journal.{DiskMet, IsJournalled, Opens, identity_of}
use Rattle.bf_commands.specs.Journal.OpenedJournal.{Kept}
use Rattle.bf_history.specs.Meanings.{History}
use Rattle.bf_io.specs.Told.{Keeps}
use Rattle.bf_oid.specs.declared.object.Oid.{Oid}
use Rattle.bf_output.specs.declared.status.Status.{Status}
use Rattle.bf_output.specs.declared.status.Status.TheVariants as status
use Rattle.bf_search.specs.declared.outcomes.Outcome.{Outcome}
use Rattle.bf_tester.specs.declared.answer.Answer.{Answer as Answered}
use Rattle.bf_journal_run.specs.declared.cut.Cut.{Cut}
use Rattle.bf_journal_run.specs.declared.cut.Cut.TheVariants.{Journal, Output, NoMemory}
use Rattle.bf_journal_run.specs.Kept.{answers_of}

-- the answer was written, or the line of the disk's fault; a run that was cut short otherwise leaves the sink
abbrev pub SaysKept : Result Answer Cut → SinkMet → Status → Type 0
SaysKept (Ok answer) sink result = IsWritten sink.before sink.after answer.text answer.status result
SaysKept (Err Journal) sink result = IsWritten sink.before sink.after (codes "journal fault\n") status.JournalFault result
SaysKept (Err Output) sink result = (result ≡ status.WriteFault) × Keeps sink.before sink.after
SaysKept (Err NoMemory) sink result = (result ≡ status.NoMemory) × Keeps sink.before sink.after

-- what the journal makes of the search of a line was written, or a front of it; or memory ran out before all
abbrev pub ConcludesKept : DiskMet → RequestLine → Started → TesterMet → SinkMet → Status → Type 0
ConcludesKept disk line started tester sink result =
    IsConcluded
    (IsCausedTold true tester (IsJournalled disk line.request.now line.words.now tester.after started.history (begun_of started.first)))
    sink.before sink.after result

-- where an answer was given, the tester remembers what the journal kept when it was opened
pub record IsRecalledKept (disk : DiskMet) (line : RequestLine) (history : History) (remembered : List Answered) : Type 0 where
  pub kept : List (Option Outcome)
  pub opened : Opens disk (identity_of history line.request.now line.words.now) (length history.names) (Kept kept)
  pub recalled : remembered ≡ answers_of history.names kept

abbrev pub IsRecalledIn : DiskMet → RequestLine → History → List Answered → List Answered → Type 0
IsRecalledIn disk line history answers remembered = answers ≢ [] → IsRecalledKept disk line history remembered

-- ---- the statuses before a search

-- the statuses that are answered before a journal is opened
abbrev pub IsBeforeOpening : Status → Type 0
IsBeforeOpening (status.JournalRefused kept) = ⊥
IsBeforeOpening other = IsBeforeSearch other

-- with such a status the disk is as it was
abbrev pub IsUnopenedIfRefused : {J : Type 0} → J → J → Status → Type 0
IsUnopenedIfRefused before after result = IsBeforeOpening result → after ≡ before

-- once a search has begun, a refusal is that of another run's journal, and then this holds
abbrev pub IsRefusedOnly : Status → Type 0 → Type 0
IsRefusedOnly result Same = IsBeforeSearch result → (kept : Oid) × (result ≡ status.JournalRefused kept) × Same
