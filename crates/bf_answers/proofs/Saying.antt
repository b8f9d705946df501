-- From the answer of a command that tests, and what was written of it, to what the call answers.
use Rattle.std.proofs.Common.{◌≡◌, ◌≢◌, ℕ, Bool, Option, Result, Ok, Err, IfOk, IsErrOf, ◌⊎◌, inl, inr, refl, sym, subst, ◌∙◌}
use Rattle.bf_answers.specs.declared.answer.Answer.{Answer}
use Rattle.bf_answers.specs.declared.answer.Fault.{Fault}
use Rattle.bf_answers.specs.declared.answer.Fault.TheVariants.{Read, Shelf, NoMemory}
use Rattle.bf_answers.specs.Answers.{Command, Answers, HasCause, HasTestCause, IsBeforeSearch, IsCaused, IsUnread, IsUnloaded, IsUntested, IsUntestedIfRefused}
use Rattle.bf_answers.specs.Devices.{Met, SinkMet, TesterMet}
use Rattle.bf_answers.specs.Ready.{SaysAnswer}
use Rattle.bf_answers.specs.Tellings.{told_of}
use Rattle.bf_answers.proofs.Answering.{cut_answer, written_output}
use Rattle.bf_answers.proofs.Concluding.{caused_no_journal, caused_not_lost, cut_is_no_journal, cut_is_no_test, own_written, test_cause, test_written}
use Rattle.bf_output.specs.declared.status.Status.{Status}
use Rattle.bf_output.specs.declared.status.Status.TheVariants as status

-- what has its cause ends with no write fault
pub caused_no_write : (asks : Bool) (tester : TesterMet) (answer : Result Answer Fault) → IfOk answer (IsCaused asks tester)
    → IfOk answer (λ a. a.status ≢ status.WriteFault)
caused_no_write asks tester (Err e) cause = tt
caused_no_write asks tester (Ok a) cause = λ e. subst (HasCause asks tester.before.faults tester.after) e cause

-- what was answered was written as the command tells it
pub said : (command : Command) (met : Met) (result : Status) (answer : Result Answer Fault)
    → IfOk answer (λ a. command.Tells (told_of a)) → IfOk answer (IsCaused command.tests met.tester)
    → IfOk answer (λ a. IsUntestedIfRefused met.tester a.status)
    → ((IsErrOf answer Read ⊎ IsErrOf answer Shelf) → IsUntested met.tester)
    → (IsErrOf answer Read → IsUnread command met) → (IsErrOf answer Shelf → IsUnloaded command met)
    → SaysAnswer answer met.sink result → Answers command met result
said command met result (Ok answer) tells cause refused untested no_read no_file written =
    let own = own_written command.tests met.tester.before.faults met.tester.after met.sink.before met.sink.after answer.text answer.status result
    cause written in
    written_output command met result own.0 own.1
    (inl (
      told_of answer,
      (tells, (test_cause command.tests met.tester answer.status cause, refused)),
      caused_not_lost command.tests met.tester answer.status result cause,
      written,
    ))
said command met result (Err Read) tells cause refused untested no_read no_file (inl (e, a)) =
    subst (Answers command met) (sym e) (no_read refl, a)
said command met result (Err Read) tells cause refused untested no_read no_file (inr (e, front)) =
    cut_answer command met _ result (inr (inl (no_read refl, refl), untested (inl refl))) e front
said command met result (Err Shelf) tells cause refused untested no_read no_file (inl (e, a)) =
    subst (Answers command met) (sym e) (no_file refl, a)
said command met result (Err Shelf) tells cause refused untested no_read no_file (inr (e, front)) =
    cut_answer command met _ result (inr (inr (no_file refl, refl), untested (inr refl))) e front
said command met result (Err NoMemory) tells cause refused untested no_read no_file (e, kept) = subst (Answers command met) (sym e) (inl kept)

-- a test fault is answered only where a test failed
pub test_said : (asks : Bool) (tester : TesterMet) (sink : SinkMet) (result : Status) (answer : Result Answer Fault) → IfOk answer (IsCaused asks tester)
    → SaysAnswer answer sink result → HasTestCause asks tester result
test_said asks tester sink result (Ok answer) cause written = λ place e.
    test_written asks tester.before.faults tester.after place sink.before sink.after answer.text answer.status result cause written e
test_said asks tester sink result (Err Read) cause (inl (e, a)) = λ place is. cc (sym e ∙ is)
test_said asks tester sink result (Err Read) cause (inr (cut, front)) = λ place is. absurd (cut_is_no_test result place cut is)
test_said asks tester sink result (Err Shelf) cause (inl (e, a)) = λ place is. cc (sym e ∙ is)
test_said asks tester sink result (Err Shelf) cause (inr (cut, front)) = λ place is. absurd (cut_is_no_test result place cut is)
test_said asks tester sink result (Err NoMemory) cause (e, kept) = λ place is. cc (sym e ∙ is)

-- and a fault of a journal is never answered
pub no_journal_said : (asks : Bool) (tester : TesterMet) (sink : SinkMet) (result : Status) (answer : Result Answer Fault)
    → IfOk answer (IsCaused asks tester) → SaysAnswer answer sink result → result ≢ status.JournalFault
no_journal_said asks tester sink result (Ok answer) cause written =
    caused_no_journal asks tester.before.faults tester.after sink.before sink.after answer.text answer.status result cause written
no_journal_said asks tester sink result (Err Read) cause (inl (e, a)) = λ is. cc (sym e ∙ is)
no_journal_said asks tester sink result (Err Read) cause (inr (cut, front)) = cut_is_no_journal result cut
no_journal_said asks tester sink result (Err Shelf) cause (inl (e, a)) = λ is. cc (sym e ∙ is)
no_journal_said asks tester sink result (Err Shelf) cause (inr (cut, front)) = cut_is_no_journal result cut
no_journal_said asks tester sink result (Err NoMemory) cause (e, kept) = λ is. cc (sym e ∙ is)

-- with a refusal the tester is as it was
pub refused_said : (tester : TesterMet) (sink : SinkMet) (result : Status) (answer : Result Answer Fault)
    → IfOk answer (λ a. IsUntestedIfRefused tester a.status) → ((IsErrOf answer Read ⊎ IsErrOf answer Shelf) → IsUntested tester)
    → SaysAnswer answer sink result → IsUntestedIfRefused tester result
refused_said tester sink result (Ok answer) refused untested (inl (e, a)) = λ before. refused (subst IsBeforeSearch e before)
refused_said tester sink result (Ok answer) refused untested (inr (inl e, front)) = λ before. absurd (subst IsBeforeSearch e before)
refused_said tester sink result (Ok answer) refused untested (inr (inr e, front)) = λ before. absurd (subst IsBeforeSearch e before)
refused_said tester sink result (Err Read) refused untested written = λ before. untested (inl refl)
refused_said tester sink result (Err Shelf) refused untested written = λ before. untested (inr refl)
refused_said tester sink result (Err NoMemory) refused untested (e, kept) = λ before. absurd (subst IsBeforeSearch e before)
