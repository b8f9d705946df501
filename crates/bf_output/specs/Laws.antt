-- Laws of what the program answers.
use Rattle.std.specs.Prelude.{◌≡◌, ◌≢◌, ℕ, true, false, List, [], Some, Ok}
use Rattle.bf_history.specs.Meanings.{History}
use Rattle.bf_runs.specs.Legs.{Legs}
use Rattle.bf_search.specs.declared.outcomes.Outcome.{Outcome}
use Rattle.bf_io.specs.declared.shelf.ShelfFile.{ShelfFile}
use Rattle.bf_words.specs.declared.request.Request.{Request}
use Rattle.bf_words.specs.Words.{request}
use Rattle.bf_output.specs.declared.status.Status.TheVariants.{WriteFault}
use Rattle.bf_output.specs.Beginning.{Begun}
use Rattle.bf_output.specs.Logged.{EndsSearch, IsFileGiven, IsLogged, searches}
use Rattle.bf_output.specs.Output.{Given, IsOutput, given_to, tests, traces}
use Rattle.bf_output.specs.Returning.{FileGiven}
use Rattle.bf_output.specs.Simulate.{ran, run_over}
use Rattle.bf_output.specs.Shown.{TesterShown}
use Rattle.bf_output.specs.Tested.{IsTestedRun, is_test_fault}
use Rattle.bf_output.specs.Told.{Told}
use Rattle.bf_output.specs.Traces.{traced_if}

-- Words, the files of a shelf and the bytes of a stream have at most one output, where no commit is tested, no trace is
-- asked for, and nothing cuts it short.
abbrev pub HasOneOutput : Type 0
HasOneOutput =
    (words : List (List ℕ)) (files : List ShelfFile) (tested : TesterShown) (bytes : List ℕ) (told other : Told)
    → tests (request words) ≡ false
    → traces (request words) ≡ false
    → told.status ≢ WriteFault
    → other.status ≢ WriteFault
    → IsOutput (given_to words (Some files) tested) (Some bytes) told
    → IsOutput (given_to words (Some files) tested) (Some bytes) other
    → told ≡ other

-- They have an output, whatever the tester answers later; without a trace one can be named.
abbrev pub HasSomeOutput : Type 0
HasSomeOutput =
    (words : List (List ℕ)) (files : List ShelfFile) (tested : TesterShown) (bytes : List ℕ)
    → tested.answers ≡ []
    → traces (request words) ≡ false
    → (told : Told) × IsOutput (given_to words (Some files) tested) (Some bytes) told

-- Where outcomes are told, every run whose tests do not fail tells the log and the answer of the run over these.
abbrev pub HasOneRun : Type 0
HasOneRun =
    (request : Request) (tested : TesterShown) (plan : List Outcome) (history : History) (first : Begun) (told : Told)
    → tested.plan ≡ Some plan
    → IsTestedRun request tested history first told
    → is_test_fault told.status ≡ false
    → (legs : Legs) × (told ≡ traced_if request.trace history legs (ran history first (run_over history first plan)))

-- What the program tells with the status of a search that came to its end is the log of that search, where its source tells its
-- bytes, and its shelf the file that the words name.
abbrev pub AreSearchesLogged : Type 0
AreSearchesLogged =
    (given : Given) (bytes : List ℕ) (file : FileGiven) (r : Request) (told : Told)
    → request given.words ≡ Ok r
    → searches r.verb ≡ true
    → IsFileGiven r.replay given.words given.files file
    → EndsSearch told.status
    → IsOutput given (Some bytes) told
    → IsLogged r given.words given.tested file bytes told
