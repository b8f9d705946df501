-- How a line of words asks for tests.
use Rattle.std.specs.Prelude.{◌≡◌, ◌⊎◌, Bool, Some, Ok}
use Rattle.bf_output.specs.Output.{IsUsedFor, is_run}
use Rattle.bf_output.specs.Simulate.{plan_of}
use Rattle.bf_output.specs.Shown.{IsPrepared}
use Rattle.bf_tester.specs.declared.tester.Tester.{Ghosts}
use Rattle.bf_output.specs.declared.status.Status.{Status}
use Rattle.bf_answers.specs.Answers.{HasTestCause, IsCaused}
use Rattle.bf_answers.specs.Devices.{TesterMet}
use Rattle.bf_answers.specs.declared.answer.Answer.{Answer}
use Rattle.bf_answers.specs.declared.line.RequestLine.{RequestLine}

-- the tester tells the plan that the words write
abbrev pub TellsPlan : {T : Type 0} → Ghosts T → RequestLine → T → Type 0
TellsPlan by line tester = by.told tester ≡ Some (plan_of line.request.now line.words.now)

-- whether the line asks for a command that tests commits
abbrev pub asks_tests : RequestLine → Bool
asks_tests line = is_run line.request.now.verb

-- a test fault is answered only where the line asks for tests and one failed
abbrev pub HasTestCauseIn : RequestLine → TesterMet → Status → Type 0
HasTestCauseIn line tester result = HasTestCause (asks_tests line) tester result

-- the answer has its cause
abbrev pub IsCausedIn : RequestLine → TesterMet → Answer → Type 0
IsCausedIn line tester answer = IsCaused (asks_tests line) tester answer

-- the tester is used as the line says, where it asks for tests; else it is as it was
abbrev pub IsUsedIn : RequestLine → TesterMet → Type 0
IsUsedIn line tester = IsUsedFor (Ok line.request.now) line.words.now tester.before tester.after

-- the tester is used as the line of a command says that tests
abbrev pub IsUsedToTest : RequestLine → TesterMet → Type 0
IsUsedToTest line tester = (tester.after ≡ tester.before) ⊎ IsPrepared line.request.now line.words.now tester.before tester.after
