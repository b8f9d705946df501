-- From what a line is answered to what the program answers.
use Rattle.std.proofs.Common.{◌≡◌, ◌≢◌, ℕ, Result, Ok, Err, IfOk, IsErrOf, IsTrue, is_some, subst, sym}
use Rattle.bf_output.specs.declared.status.Status.{Status}
use Rattle.bf_output.specs.declared.status.Status.TheVariants as status
use Rattle.bf_output.specs.Inputs.{IsToldOr}
use Rattle.bf_output.specs.Output.{IsOutput, IsOutputOf, asks_file, given_to, is_run, reads, reads_stream, tests}
use Rattle.bf_output.specs.Refusals.{usage}
use Rattle.bf_output.specs.Told.{Told}
use Rattle.bf_words.specs.declared.request.Request.{Request}
use Rattle.bf_words.specs.declared.request.WordFault.{WordFault}
use Rattle.bf_words.specs.Words as asked
use Rattle.bf_answers.specs.declared.answer.Answer.{Answer}
use Rattle.bf_answers.specs.declared.answer.Fault.{Fault}
use Rattle.bf_answers.specs.declared.answer.Fault.TheVariants.{Read, Shelf}
use Rattle.bf_answers.specs.declared.started.Ready.{Ready}
use Rattle.bf_answers.specs.Answers.{IsUnread, IsUnloaded, IsUntested, IsWholeAnswer}
use Rattle.bf_answers.specs.Devices.{Met, HasFailed, given_in}
use Rattle.bf_answers.specs.Ready.{AllTold, Concludes, SaysAnswer, Tells}
use Rattle.bf_answers.specs.Tellings.{SaysWord}
use Rattle.bf_answers.proofs.Concluding.{said_answer}
use Rattle.bf_answers.proofs.Streamed.{word_told}
use Rattle.bf_answers.proofs.Answering as any
use Rattle.bf_program.specs.Answers.{Answers, asked_in}

-- ---- the words ask for something

module _ (met : Met) (request : Request) (result : Status) (read : asked.request met.words ≡ Ok request) where
  is_output : (told : Told) → IsOutputOf request.verb request (given_in met) met.source.left told → IsOutput (given_in met) met.source.left told
  is_output told is = subst (λ (r : Result Request ℕ). IsToldOr usage (λ (q : Request) (t : Told). IsOutputOf q.verb q (given_in met) met.source.left t) r told) (sym read) is

  pub unread : IsTrue (reads_stream request.verb) → HasFailed met.source.faults → IsUnread (asked_in met) met
  unread h failed = (subst (λ (r : Result Request ℕ). IsTrue (reads r)) (sym read) h, failed)

  pub unloaded : IsTrue (is_some request.replay) → HasFailed met.shelf.faults → IsUnloaded (asked_in met) met
  unloaded h failed = (subst (λ (r : Result Request ℕ). IsTrue (asks_file r)) (sym read) h, failed)

  output_of : (ready : Result Ready Fault)
      → IfOk ready (λ r. AllTold request met.words r
      (λ tested told. IsOutputOf request.verb request (given_to met.words met.shelf.files tested) met.source.left told))
      → IfOk ready (λ r. (told : Told) → Tells request met.words met.tester.after r told → IsOutput (given_in met) met.source.left told)
  output_of (Ok ready) output = λ told tells. is_output told (output met.tester.after told tells)
  output_of (Err fault) output = tt

  pub answered : (ready : Result Ready Fault)
      → IfOk ready (λ r. AllTold request met.words r
      (λ tested told. IsOutputOf request.verb request (given_to met.words met.shelf.files tested) met.source.left told))
      → (IsErrOf ready Read → IsUnread (asked_in met) met) → (IsErrOf ready Shelf → IsUnloaded (asked_in met) met)
      → IfOk ready (λ _. (result ≢ status.ReadFault) × (result ≢ status.ShelfFault))
      → Concludes (is_run request.verb) (Tells request met.words met.tester.after) met.tester ready met.sink result → Answers met result
  answered ready output no_read no_file own told =
      any.answered (asked_in met) met result (Tells request met.words met.tester.after) ready (output_of ready output) no_read no_file own
      (subst (λ (r : Result Request ℕ). Concludes (tests r) (Tells request met.words met.tester.after) met.tester ready met.sink result) (sym read) told)

-- ---- the words are refused

pub refused : (met : Met) (fault : WordFault) (result : Status) (answer : Result Answer Fault) → asked.IsRead (asked.request met.words) (Err fault)
    → IsUntested met.tester → IfOk answer (SaysWord fault) → IfOk answer IsWholeAnswer → (IsErrOf answer Read → ⊥) × (IsErrOf answer Shelf → ⊥)
    → SaysAnswer answer met.sink result → Answers met result
refused met fault result answer read untested tells whole memory said =
    said_answer (asked_in met) met result answer untested
    (word_told (λ q t. IsOutputOf q.verb q (given_in met) met.source.left t) (asked.request met.words) fault answer read tells) whole
    (λ e. absurd (memory.0 e)) (λ e. absurd (memory.1 e)) said
