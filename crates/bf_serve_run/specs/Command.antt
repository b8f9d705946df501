-- The command `serve`: what it tells, and what a call of it answers.
use Rattle.std.specs.Prelude.{◌≡◌, ◌⊎◌, ℕ, ◌≤◌, Bool, false, if◌then◌else◌, IsTrue, is_none, List, Option, Some, None, Result, Ok, Err}
use Rattle.std.specs.Option.{IfSome}
use Rattle.bf_answers.specs.Answers.{Answers, Command, HasTestCause, IsAnswered, IsUnread}
use Rattle.bf_answers.specs.Devices.{HasNotFailed, Met, ShelfMet, SinkMet, SourceMet, met_untested}
use Rattle.bf_commands.specs.Orders.{asks_original_names, limits_asked, wrong_count}
use Rattle.bf_grammar.specs.declared.fault.Limits.{Limits}
use Rattle.bf_history.specs.Imports.{Loads}
use Rattle.bf_history.specs.Meanings.{History}
use Rattle.bf_import.specs.Rest.{AreBehind}
use Rattle.bf_io.specs.Told.{Appends, AppendsFront}
use Rattle.bf_lines.specs.declared.fault.ServeFault.{ServeFault}
use Rattle.bf_lines.specs.declared.fault.ServeFault.TheVariants as faults
use Rattle.bf_output.specs.declared.status.Status.{Status}
use Rattle.bf_output.specs.declared.status.Status.TheVariants as status
use Rattle.bf_output.specs.Inputs.{IsReadUnder, IsToldUnless}
use Rattle.bf_output.specs.Shown.{TesterShown}
use Rattle.bf_output.specs.Told.{Told}
use Rattle.bf_serve_run.specs.Serving.{IsServedSome, IsServedWhole, shelf_until}

-- ---- the words

-- the index of the word that is missing, or of the first further one
abbrev pub wrong_word : List (List ℕ) → Option ℕ
wrong_word words = wrong_count (if asks_original_names words then 2 else 1) words

-- whether the words ask for the stream
abbrev pub serves : List (List ℕ) → Bool
serves words = is_none (wrong_word words)

-- ---- what is told where no device fails

-- The requests of the input that stands behind the stream get their replies. Where the source does not tell its bytes, nothing is
-- said of these.
abbrev pub IsServedAll : Limits → ShelfMet → Option (List ℕ) → History → Told → Type 0
IsServedAll limits shelf source history told =
    (told.status ≡ status.Done)
    × IfSome source (λ bytes. (input : List ℕ) × AreBehind bytes limits input × IsServedWhole history shelf input told.text)

-- the words come first, and then the stream
abbrev pub IsServeOutput : List (List ℕ) → ShelfMet → Option (List ℕ) → Told → Type 0
IsServeOutput words shelf source told =
    let limits = limits_asked words in
    IsToldUnless (wrong_word words) (λ told. IsReadUnder limits (IsServedAll limits shelf source) source told) told

-- the command of these words: it tests nothing, and tells a fault of the shelf as the reply to a request
abbrev pub to_serve : Met → Command
to_serve met = record {
  Tells = IsServeOutput met.words met.shelf met.source.left;
  reads = serves met.words;
  loads = false;
  tests = false;
}

-- ---- what a call answers

-- a history whose first requests got their replies
pub record IsBegunBehind (limits : Limits) (shelf : ShelfMet) (bytes text : List ℕ) : Type 0 where
  pub history : History
  pub loads : Loads bytes limits (Ok history)
  pub input : List ℕ
  pub behind : AreBehind bytes limits input
  pub served : IsServedSome history shelf input text

-- The source failed behind the stream: the sink gained the replies to the first requests, each whole.
abbrev pub IsLeftOff : Met → Type 0
IsLeftOff met =
    IsUnread (to_serve met) met
    × IfSome met.source.left (λ bytes. (text : List ℕ) × IsBegunBehind (limits_asked met.words) met.shelf bytes text × Appends met.sink.before met.sink.after text)

-- The sink failed behind the stream, or memory ran out: the sink gained a front of those replies.
abbrev pub IsCutOff : Met → Type 0
IsCutOff met =
    IsTrue (serves met.words)
    × IfSome met.source.left (λ bytes. (now : ℕ) × (text : List ℕ) × (now ≤ met.shelf.faults.now)
    × IsBegunBehind (limits_asked met.words) (shelf_until met.shelf now) bytes text × AppendsFront met.sink.before met.sink.after text)

abbrev pub IsCutServing : Met → Status → Type 0
IsCutServing met status.ReadFault = IsLeftOff met
IsCutServing met status.WriteFault = IsCutOff met
IsCutServing met status.NoMemory = IsCutOff met
IsCutServing met other = ⊥

-- all was served; where the source does not tell its bytes, nothing is said of the replies
abbrev pub IsUntold : Met → Status → Type 0
IsUntold met status.Done = IsTrue (serves met.words) × (met.source.left ≡ None)
IsUntold met other = ⊥

-- what the sink gained, by the status: that of each command; or requests were answered, and then a device failed or memory ran out
abbrev pub ServeAnswers : Met → Status → Type 0
ServeAnswers met result = Answers (to_serve met) met result ⊎ (IsCutServing met result ⊎ IsUntold met result)

-- where neither the source failed nor the sink, the sink gained what is told with this status; or memory ran out
abbrev pub IsServeComplete : Met → Status → Type 0
IsServeComplete met result =
    HasNotFailed met.source.faults
    → HasNotFailed met.sink.faults
    → (result ≡ status.NoMemory) ⊎ (IsAnswered (to_serve met) met result ⊎ IsUntold met result)

-- A call did what it had to; it tests nothing.
pub record IsServed (met : Met) (result : Status) : Type 0 where
  pub answers : ServeAnswers met result
  pub complete : IsServeComplete met result
  pub test : HasTestCause false met.tester result

-- ---- steps

-- the status where requests were served so far
abbrev pub status_of : Result (Unit {0}) ServeFault → Status
status_of (Ok done) = status.Done
status_of (Err faults.Read) = status.ReadFault
status_of (Err faults.Write) = status.WriteFault
status_of (Err faults.NoMemory) = status.NoMemory

-- a call answers so, whatever a tester shows, by words that say so
abbrev pub AnswersFor : (List (List ℕ) → Type 0) → SourceMet → ShelfMet → SinkMet → Status → Type 0
AnswersFor Says source shelf sink result =
    (words : List (List ℕ)) (tested : TesterShown) → Says words → ServeAnswers (met_untested words source shelf tested sink) result

-- where this word is at fault
abbrev pub RefusesWord : ℕ → SourceMet → ShelfMet → SinkMet → Status → Type 0
RefusesWord word source shelf sink result = AnswersFor (λ words. wrong_word words ≡ Some word) source shelf sink result

-- words of which none is at fault ask for these limits
abbrev pub AskFor : Limits → List (List ℕ) → Type 0
AskFor limits words = (wrong_word words ≡ None) × (limits ≡ limits_asked words)

-- where no word is at fault, under these limits
abbrev pub ServesStream : Limits → SourceMet → ShelfMet → SinkMet → Status → Type 0
ServesStream limits source shelf sink result = AnswersFor (AskFor limits) source shelf sink result
