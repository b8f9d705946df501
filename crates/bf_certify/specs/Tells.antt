-- Answers that tell what is to be told.
use Rattle.std.specs.Prelude.{ℕ, List, Option, Result, IsErrOf, ◌⊎◌}
use Rattle.bf_answers.specs.declared.answer.Answer.{Answer}
use Rattle.bf_answers.specs.declared.answer.Fault.{Fault}
use Rattle.bf_answers.specs.declared.answer.Fault.TheVariants.{Read, Shelf}
use Rattle.bf_answers.specs.declared.line.RequestLine.{RequestLine}
use Rattle.bf_answers.specs.declared.started.Started.{Started}
use Rattle.bf_answers.specs.Answers.{IsBeforeSearch, IsUntested, IsUntestedIfRefused}
use Rattle.bf_answers.specs.Devices.{TesterMet}
use Rattle.bf_answers.specs.Tellings.{begun_of, told_of}
use Rattle.bf_commands.specs.Certify.{IsCertified, IsCertifyOutput, IsRunCertified}
use Rattle.bf_output.specs.Inputs.{IsStreamed}
use Rattle.bf_output.specs.Output.{IsSearchOver, given_to}
use Rattle.bf_output.specs.Shown.{TesterShown}
use Rattle.bf_output.specs.Simulate.{plan_of, run_over}
use Rattle.bf_output.specs.Tested.{IsTestedAs}
use Rattle.bf_io.specs.declared.shelf.ShelfFile.{ShelfFile}

-- of a search, by what the tester of its run shows
abbrev pub TellsRun : RequestLine → Started → TesterShown → Answer → Type 0
TellsRun line started tested answer =
    IsTestedAs (λ legs. IsRunCertified started.history (begun_of started.first)) line.request.now tested started.history
    (begun_of started.first) (told_of answer)

-- over the plan of the words
abbrev pub TellsPlanned : RequestLine → Started → Answer → Type 0
TellsPlanned line started answer =
    let first = begun_of started.first in
    IsRunCertified started.history first (run_over started.history first (plan_of line.request.now line.words.now)) (told_of answer)

-- as the command of the line searches
abbrev pub TellsSearch : RequestLine → Started → TesterShown → Answer → Type 0
TellsSearch line started tested answer =
    IsCertified line.request.now.verb line.request.now line.words.now tested started.history (begun_of started.first)
    (told_of answer)

-- of the search that the words of the line ask for
abbrev pub TellsStream : RequestLine → Option (List ShelfFile) → TesterShown → Option (List ℕ) → Answer → Type 0
TellsStream line files tested left answer =
    IsStreamed (IsSearchOver (IsCertified line.request.now.verb line.request.now line.words.now tested) line.request.now line.words.now files) left (told_of answer)

abbrev pub TellsOutput : List (List ℕ) → Option (List ShelfFile) → TesterShown → Option (List ℕ) → Answer → Type 0
TellsOutput words files tested left answer = IsCertifyOutput (given_to words files tested) left (told_of answer)

-- ---- the tests

-- the answer of a search, and no refusal
abbrev pub IsOfSearch : Answer → Type 0
IsOfSearch answer = IsBeforeSearch answer.status → ⊥

-- with a refusal the tester is as it was
abbrev pub LeavesRefused : TesterMet → Answer → Type 0
LeavesRefused tester answer = IsUntestedIfRefused tester answer.status

-- where a device fails before the search, the tester is as it was
abbrev pub IsUntestedAt : TesterMet → Result Answer Fault → Type 0
IsUntestedAt tester result = (IsErrOf result Read ⊎ IsErrOf result Shelf) → IsUntested tester
