-- What the program may answer and write, where a device fails or memory runs out.
use Rattle.std.specs.Prelude.{ℕ, List}
use Rattle.bf_output.specs.declared.status.Status.{Status}
use Rattle.bf_output.specs.Output.{IsOutput, IsUsedFor, tests}
use Rattle.bf_words.specs.Words.{request}
use Rattle.bf_answers.specs.Answers as any
use Rattle.bf_answers.specs.Answers.{Command, HasTestCause, asking}
use Rattle.bf_answers.specs.Devices.{Met, TesterMet, given_in}

-- the command that the words ask for
abbrev pub asked_in : Met → Command
asked_in met = asking (request met.words) (IsOutput (given_in met) met.source.left)

-- what the sink gained, by the status
abbrev pub Answers : Met → Status → Type 0
Answers met result = any.Answers (asked_in met) met result

-- where no device failed, and no test, the sink gained the text of the definition, with its status; or memory ran out
abbrev pub IsComplete : Met → Status → Type 0
IsComplete met result = any.IsComplete (asked_in met) met result

-- ---- causes

abbrev pub HasTestCauseBy : List (List ℕ) → TesterMet → Status → Type 0
HasTestCauseBy words tester result = HasTestCause (tests (request words)) tester result

-- the tester is used as these words say
abbrev pub IsUsedBy : List (List ℕ) → TesterMet → Type 0
IsUsedBy words tester = IsUsedFor (request words) words tester.before tester.after
