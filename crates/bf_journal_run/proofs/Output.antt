-- From what is ready, and what is told of it, to what a call of `journal` answers.
use Rattle.std.proofs.Common.{◌≡◌, ◌≢◌, ◌⊎◌, inl, inr, ℕ, Bool, true, false, List, [], ◌++◌, get_or, Option, Some, None, is_some, Result, Ok, Err, IfOk, refl, sym, ap, ◌∙◌, subst}
use Rattle.std.specs.Prelude.{All, IsErrOf, IsTrue}
use Rattle.bf_answers.proofs.Answering as any
use Rattle.bf_answers.specs.Answers.{Answers, IsBeforeSearch, IsUnread, IsUnloaded, IsUntested, IsUntestedIfRefused, IsWhole, IsWholeAnswer}
use Rattle.bf_answers.specs.declared.answer.Answer.{Answer}
use Rattle.bf_answers.specs.declared.answer.Fault.{Fault}
use Rattle.bf_answers.specs.declared.answer.Fault.TheVariants.{Read, Shelf, NoMemory}
use Rattle.bf_answers.specs.declared.line.RequestLine.{RequestLine}
use Rattle.bf_answers.specs.declared.started.Ready.{Ready}
use Rattle.bf_answers.specs.declared.started.Ready.TheVariants.{Told as ToldAnswer, Search}
use Rattle.bf_answers.specs.Devices.{Met, HasFailed, SinkMet, TesterMet, given_in}
use Rattle.bf_answers.specs.Ready.{Concludes, IsCausedTold, IsConcluded, SaysAnswer}
use Rattle.bf_answers.proofs.Concluding.{said_answer}
use Rattle.bf_answers.proofs.Streamed.{word_told}
use Rattle.bf_answers.specs.Tellings.{SaysWord}
use Rattle.bf_commands.specs.Journal.{DiskMet, IsJournalOutput, IsJournalled, request_to_journal}
use Rattle.bf_output.specs.declared.status.Status.{Status}
use Rattle.bf_output.specs.declared.status.Status.TheVariants as status
use Rattle.bf_output.specs.Inputs.{IsStreamed}
use Rattle.bf_output.specs.Output.{IsSearchOver, IsSearchTold, IsUsedFor, asks_file, is_run, reads, reads_stream, tests}
use Rattle.bf_output.specs.Shown.{TesterShown, IsPrepared}
use Rattle.bf_searches.proofs.Using.{used_to_test}
use Rattle.bf_output.specs.Told.{Told}
use Rattle.bf_journal.specs.Recalling.{IsPassedOn, Recalling, remembering}
use Rattle.bf_journal.specs.Remembered.{outcome_at}
use Rattle.bf_tester.specs.declared.answer.Answer.{Answer as Answered}
use Rattle.bf_words.specs.declared.request.Request.{Request}
use Rattle.bf_words.specs.declared.request.WordFault.{WordFault}
use Rattle.bf_words.specs.declared.verb.Verb.{Verb}
use Rattle.bf_words.specs.declared.verb.Verb.TheVariants.{Run}
use Rattle.bf_words.specs.Words.{IsRead}
use Rattle.bf_journal_run.specs.Journalling.{AreUnasked, IsRecalledBy, IsRecalledReady, TellsReady, to_journal}
use Rattle.bf_begin.specs.Opening.{IsBegunStream, IsReadFrom}
use Rattle.bf_begin.proofs.Opening.{ready_told}

-- ---- the words ask for a run

reads_run : (verb : Verb) → verb ≡ Run → IsTrue (reads_stream verb)
reads_run verb run = subst (λ (v : Verb). IsTrue (reads_stream v)) (sym run) refl

module _ (met : Met) (disk : DiskMet) (line : RequestLine) (result : Status) (same : line.words.now ≡ met.words) (read : request_to_journal met.words ≡ Ok line.request.now)
    (run : line.request.now.verb ≡ Run) where
  pub unread : HasFailed met.source.faults → IsUnread (to_journal met disk) met
  unread failed = (subst (λ (r : Result Request ℕ). IsTrue (reads r)) (sym read) (reads_run line.request.now.verb run), failed)

  pub unloaded : IsTrue (is_some line.request.now.replay) → HasFailed met.shelf.faults → IsUnloaded (to_journal met disk) met
  unloaded h failed = (subst (λ (r : Result Request ℕ). IsTrue (asks_file r)) (sym read) h, failed)

  output : (told : Told) → IsStreamed (IsSearchOver (IsJournalled disk line.request.now line.words.now met.tester.after) line.request.now line.words.now met.shelf.files) met.source.left told
      → IsJournalOutput disk (given_in met) met.source.left told
  output told is =
      subst (λ (r : Result Request ℕ). IsSearchTold (λ q. IsJournalled disk q met.words met.tester.after) r (given_in met) met.source.left told) (sym read)
      (subst (λ (words : List (List ℕ)). IsStreamed (IsSearchOver (IsJournalled disk line.request.now words met.tester.after) line.request.now words
      met.shelf.files) met.source.left told) same is)

  outputs : (ready : Result Ready Fault) → IfOk ready (IsBegunStream line met.shelf.files met.source.left)
      → IfOk ready (λ r. (told : Told) → TellsReady disk line.request.now line.words.now met.tester.after r told
      → IsJournalOutput disk (given_in met) met.source.left told)
  outputs (Ok ready) begins = λ told tells.
      output told (ready_told (IsJournalled disk line.request.now line.words.now met.tester.after) line met.shelf.files ready told tells
      met.source.left begins)
  outputs (Err fault) begins = tt

  pub tests_run : true ≡ tests (request_to_journal met.words)
  tests_run =
      sym (ap tests read ∙ ap (λ (v : Verb). is_run v) run)

  pub answered : (ready : Result Ready Fault) → IfOk ready (IsBegunStream line met.shelf.files met.source.left)
      → (IsErrOf ready Read → HasFailed met.source.faults)
      → (IsErrOf ready Shelf → IsTrue (is_some line.request.now.replay)) → (IsErrOf ready Shelf → HasFailed met.shelf.faults)
      → IfOk ready (λ _. (result ≢ status.ReadFault) × (result ≢ status.ShelfFault))
      → Concludes true (TellsReady disk line.request.now line.words.now met.tester.after) met.tester ready met.sink result
      → Answers (to_journal met disk) met result
  answered ready begins no_read asks no_file own told =
      any.answered (to_journal met disk) met result (TellsReady disk line.request.now line.words.now met.tester.after) ready (outputs ready begins)
      (λ e. unread (no_read e)) (λ e. unloaded (asks e) (no_file e)) own
      (subst (λ (b : Bool). Concludes b (TellsReady disk line.request.now line.words.now met.tester.after) met.tester ready met.sink result) tests_run told)

-- what the tester remembers is what the journal of the words kept
pub recalled : (disk : DiskMet) (line : RequestLine) (ready : Result Ready Fault) (left : Option (List ℕ)) (answers remembered : List Answered)
    → IsRecalledReady disk line ready answers remembered → IfOk ready (IsReadFrom left)
    → IsRecalledBy disk (Ok line.request.now) line.words.now left answers remembered
recalled disk line (Err fault) left answers remembered none read = λ some. absurd (some none)
recalled disk line (Ok (ToldAnswer answer)) left answers remembered none read = λ some. absurd (some none)
recalled disk line (Ok (Search started)) left answers remembered kept read = λ some.
    let found = kept some in
    record { history = started.history; read = read; kept = found.kept; opened = found.opened; recalled = found.recalled }

-- no answer of the tester below is on a remembered place
pub unasked : (remembered answers below : List Answered) → All (IsPassedOn remembered answers) below → AreUnasked remembered below
unasked remembered answers below all = λ k d low. (all k d low).place

-- ---- the words are refused

pub refused : (met : Met) (disk : DiskMet) (fault : WordFault) (result : Status) (answer : Result Answer Fault)
    → IsRead (request_to_journal met.words) (Err fault) → IsUntested met.tester → IfOk answer (SaysWord fault) → IfOk answer IsWholeAnswer
    → (IsErrOf answer Read → ⊥) × (IsErrOf answer Shelf → ⊥) → SaysAnswer answer met.sink result → Answers (to_journal met disk) met result
refused met disk fault result answer read untested tells whole memory said =
    said_answer (to_journal met disk) met result answer untested
    (word_told (λ q t. IsStreamed (IsSearchOver (IsJournalled disk q met.words met.tester.after) q met.words met.shelf.files) met.source.left t)
    (request_to_journal met.words) fault answer read tells) whole (λ e. absurd (memory.0 e)) (λ e. absurd (memory.1 e)) said

-- ---- a tester that remembers nothing more

pub remembering_none : {T : Type 0} (t : Recalling T) → t.remembered ≡ [] → remembering t t.remembered ≡ t
remembering_none t none = λ i. record {
  inner = t.inner;
  remembered = (ap (λ (r : List Answered). r ++ t.remembered) none) i;
  answers = t.answers;
}

pub remembering_once : {T : Type 0} (old new : Recalling T) (kept : List Answered) → old.remembered ≡ [] → new.remembered ≡ old.remembered ++ kept
    → remembering old new.remembered ≡ remembering old kept
remembering_once old new kept none is = ap (λ (r : List Answered). remembering old r) (is ∙ ap (λ (r : List Answered). r ++ kept) none)

-- ---- the status

-- an answer without a search is no fault of the disk
pub said_no_disk : (sink : SinkMet) (result : Status) (answer : Result Answer Fault) → IfOk answer (λ a. IsWhole a.status) → SaysAnswer answer sink result
    → result ≡ status.JournalFault → ⊥
said_no_disk sink result (Ok answer) whole (inl (e, all)) is = subst IsWhole (sym e ∙ is) whole
said_no_disk sink result (Ok answer) whole (inr (inl e, front)) is = cc (sym e ∙ is)
said_no_disk sink result (Ok answer) whole (inr (inr e, front)) is = cc (sym e ∙ is)
said_no_disk sink result (Err Read) whole (inl (e, all)) is = cc (sym e ∙ is)
said_no_disk sink result (Err Read) whole (inr (inl e, front)) is = cc (sym e ∙ is)
said_no_disk sink result (Err Read) whole (inr (inr e, front)) is = cc (sym e ∙ is)
said_no_disk sink result (Err Shelf) whole (inl (e, all)) is = cc (sym e ∙ is)
said_no_disk sink result (Err Shelf) whole (inr (inl e, front)) is = cc (sym e ∙ is)
said_no_disk sink result (Err Shelf) whole (inr (inr e, front)) is = cc (sym e ∙ is)
said_no_disk sink result (Err NoMemory) whole (e, kept) is = cc (sym e ∙ is)

-- with a refusal the tester is as it was
pub untested_concluded : (IsTold : Told → Type 0) (tester : TesterMet) (before after : Option (List ℕ)) (result : Status)
    → IsConcluded (IsCausedTold true tester IsTold) before after result → IsUntestedIfRefused tester result
untested_concluded IsTold tester before after result (inl (told, (is, fits), lost, inl (e, all))) = λ refused. fits.1 (subst IsBeforeSearch e refused)
untested_concluded IsTold tester before after result (inl (told, is, lost, inr (inl e, front))) = λ refused. absurd (subst IsBeforeSearch e refused)
untested_concluded IsTold tester before after result (inl (told, is, lost, inr (inr e, front))) = λ refused. absurd (subst IsBeforeSearch e refused)
untested_concluded IsTold tester before after result (inr (e, kept)) = λ refused. absurd (subst IsBeforeSearch e refused)

-- where nothing is remembered, no answer is on a remembered place
pub unasked_none : (remembered below : List Answered) → remembered ≡ [] → AreUnasked remembered below
unasked_none remembered below none = λ k d low. ap (λ (r : List Answered). outcome_at r (get_or below k d).place) none

-- ---- the tester, by the words

pub used_for : (words : List (List ℕ)) (request : Request) (before after : TesterShown) → request_to_journal words ≡ Ok request → request.verb ≡ Run
    → (after ≡ before) ⊎ IsPrepared request words before after → IsUsedFor (request_to_journal words) words before after
used_for words request before after read run used =
    subst (λ (r : Result Request ℕ). IsUsedFor r words before after) (sym read)
    (used_to_test request words before after (subst (λ (v : Verb). IsTrue (is_run v)) (sym run) refl) used)

pub refused_used : (read : Result Request ℕ) (words : List (List ℕ)) (before after : TesterShown) → after ≡ before → IsUsedFor read words before after
refused_used (Err word) words before after same = same
refused_used (Ok request) words before after same = inl same

pub refused_recalled : (disk : DiskMet) (read : Result Request ℕ) (words : List (List ℕ)) (left : Option (List ℕ)) (answers remembered : List Answered)
    → answers ≡ [] → IsRecalledBy disk read words left answers remembered
refused_recalled disk (Err word) words left answers remembered none = none
refused_recalled disk (Ok request) words left answers remembered none = λ some. absurd (some none)

-- so it asks for the disk
pub asks_disk : (words : List (List ℕ)) (request : Request) → request_to_journal words ≡ Ok request → request.verb ≡ Run
    → IsTrue (reads (request_to_journal words))
asks_disk words request read run = subst (λ (r : Result Request ℕ). IsTrue (reads r)) (sym read) (reads_run request.verb run)

-- a line that asks for a run reads the stream
pub reads_always : (words : List (List ℕ)) (request : Request) → request_to_journal words ≡ Ok request → request.verb ≡ Run
    → reads (request_to_journal words) ≡ false → ⊥
reads_always words request read run e = cc (sym (reads_run request.verb run) ∙ sym (ap reads read) ∙ e)
