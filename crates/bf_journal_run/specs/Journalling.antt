-- What a call of `journal` asks for, and what it is told.
use Rattle.std.specs.Prelude.{true, ◌≡◌, ◌≢◌, ℕ, List, [], length, All, Option, None, Result, Ok, Err}
use Rattle.bf_answers.specs.Answers.{Command, asking}
use Rattle.bf_answers.specs.Devices.{Met, SinkMet, TesterMet, given_in}
use Rattle.bf_answers.specs.Ready.{Concludes}
use Rattle.bf_answers.specs.declared.answer.Fault.{Fault}
use Rattle.bf_answers.specs.declared.line.RequestLine.{RequestLine}
use Rattle.bf_answers.specs.declared.started.Ready.{Ready}
use Rattle.bf_answers.specs.declared.started.Ready.TheVariants.{Told as ToldAnswer, Search}
use Rattle.bf_begin.specs.Opening.{IsReadyTold}
use Rattle.bf_commands.specs.Journal.{DiskMet, IsJournalOutput, IsJournalled, Opens, identity_of, request_to_journal}
use Rattle.bf_commands.specs.Journal.OpenedJournal.{Kept}
use Rattle.bf_grammar.specs.Limits.{standard_limits}
use Rattle.bf_history.specs.Imports.{MayImport}
use Rattle.bf_history.specs.Meanings.{History}
use Rattle.bf_output.specs.Shown.{TesterShown}
use Rattle.bf_output.specs.Told.{Told}
use Rattle.bf_output.specs.declared.status.Status.{Status}
use Rattle.bf_journal.specs.Remembered.{outcome_at}
use Rattle.bf_search.specs.declared.outcomes.Outcome.{Outcome}
use Rattle.bf_tester.specs.declared.answer.Answer.{Answer as Answered}
use Rattle.bf_words.specs.declared.request.Request.{Request}
use Rattle.bf_journal_run.specs.Kept.{answers_of}
use Rattle.bf_journal_run.specs.Searching.{IsRecalledIn}

-- the command of these words, on this disk
abbrev pub to_journal : Met → DiskMet → Command
to_journal met disk = asking (request_to_journal met.words) (IsJournalOutput disk (given_in met) met.source.left)

-- ---- what the tester remembers

-- The tester remembers what the journal kept when it was opened, by place, with the names of the commits.
pub record IsRecalledFrom (disk : DiskMet) (request : Request) (words : List (List ℕ)) (left : Option (List ℕ)) (remembered : List Answered) : Type 0 where
  pub history : History
  pub read : MayImport left standard_limits (Ok history)
  pub kept : List (Option Outcome)
  pub opened : Opens disk (identity_of history request words) (length history.names) (Kept kept)
  pub recalled : remembered ≡ answers_of history.names kept

abbrev pub IsRecalledBy : DiskMet → Result Request ℕ → List (List ℕ) → Option (List ℕ) → List Answered → List Answered → Type 0
IsRecalledBy disk (Err word) words left answers recalled = answers ≡ []
IsRecalledBy disk (Ok request) words left answers recalled = answers ≢ [] → IsRecalledFrom disk request words left recalled

-- no answer of the tester below is on a place that is remembered
abbrev pub AreUnasked : List Answered → List Answered → Type 0
AreUnasked recalled below = All (λ a. outcome_at recalled a.place ≡ None) below

-- ---- what is told of what is ready

-- an answer as it is, or what the journal makes of a search
abbrev pub TellsReady : DiskMet → Request → List (List ℕ) → TesterShown → Ready → Told → Type 0
TellsReady disk request words tested ready told = IsReadyTold (IsJournalled disk request words tested) ready told

-- What is ready was told, or a front of it; or the line of what stood in its way was written, and nothing was tested.
abbrev pub ConcludesReady : DiskMet → RequestLine → TesterMet → Result Ready Fault → SinkMet → Status → Type 0
ConcludesReady disk line tester ready sink result =
    Concludes true (TellsReady disk line.request.now line.words.now tester.after) tester ready sink result

-- where an answer was given, the tester remembers what the journal of the search kept
abbrev pub IsRecalledReady : DiskMet → RequestLine → Result Ready Fault → List Answered → List Answered → Type 0
IsRecalledReady disk line (Ok (Search started)) answers remembered = IsRecalledIn disk line started.history answers remembered
IsRecalledReady disk line (Ok (ToldAnswer answer)) answers remembered = answers ≡ []
IsRecalledReady disk line (Err fault) answers remembered = answers ≡ []
