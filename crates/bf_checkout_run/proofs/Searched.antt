-- From what a search concluded, or an answer without a test, to what the command answers.
use Rattle.std.proofs.Common.{◌≡◌, ◌≢◌, ℕ, Bool, List, [], Option, Result, Ok, Err, IfOk, IsTrue, refl, sym, ap, subst}
use Rattle.bf_output.specs.declared.status.Status.{Status}
use Rattle.bf_output.specs.declared.status.Status.TheVariants as status
use Rattle.bf_output.specs.Output.{IsSearched, IsUsedFor, given_to, is_run, reads, reads_stream}
use Rattle.bf_output.specs.Shown.{TesterShown}
use Rattle.bf_words.specs.declared.request.Request.{Request}
use Rattle.bf_words.specs.declared.verb.Verb.TheVariants.{Run}
use Rattle.bf_answers.specs.declared.answer.Answer.{Answer}
use Rattle.bf_answers.specs.declared.answer.Fault.{Fault}
use Rattle.bf_answers.specs.declared.answer.Fault.TheVariants.{Read, Shelf}
use Rattle.bf_answers.specs.declared.started.Ready.{Ready}
use Rattle.bf_answers.specs.declared.started.Ready.TheVariants.{Told as Told_, Search}
use Rattle.bf_answers.specs.declared.started.Started.{Started}
use Rattle.bf_answers.specs.Answers.{Answers, HasTestCause, IsUnloaded, IsUnread, IsUntested}
use Rattle.bf_answers.specs.Devices.{Met, TesterMet}
use Rattle.bf_answers.specs.Ready.{AllTold, IsCausedTold, IsConcluded, IsSound, SaysAnswer, Tells}
use Rattle.bf_answers.specs.Tellings.{begun_of, told_of}
use Rattle.bf_answers.proofs.Answering.{mapped, written_output}
use Rattle.bf_answers.proofs.Concluding.{concluded_search, said_answer, sound_search}
use Rattle.bf_commands.specs.Checkout.{IsCheckedOut}
use Rattle.bf_tester.specs.declared.answer.Answer.{Answer as Answered}
use Rattle.bf_tester.specs.Grounds.{Ground}
use Rattle.bf_checkout_run.specs.CheckingOut.{AreGroundsOf, HasGroundsOf, IsFurnishedFor, checking_out}

-- what is told of what is ready, over this stream and these files
abbrev pub IsReadyFor : Met → Request → Ready → Type 0
IsReadyFor met request ready =
    AllTold request met.words ready (λ tested told. IsCheckedOut request (given_to met.words met.shelf.files tested) met.source.left told)

-- a tester as it was before its tests, and after them
abbrev pub between : TesterShown → TesterShown → TesterMet
between before after = record { before = before; after = after }

module _ (met : Met) (request : Request) (result : Status) where
  -- a search was concluded, by a tester that nothing was asked of before
  pub searched : (started : Started) (ready : Result Ready Fault) (found : Ready) (mid : TesterShown) → mid ≡ met.tester.before → ready ≡ Ok found
      → found ≡ Search started → IfOk ready (IsReadyFor met request) → IfOk ready (IsSound request)
      → (result ≢ status.ReadFault) × (result ≢ status.ShelfFault)
      → IsConcluded (IsCausedTold (is_run request.verb) (between mid met.tester.after)
      (IsSearched request.verb request met.words met.tester.after started.history (begun_of started.first))) met.sink.before met.sink.after result
      → Answers (checking_out (Ok request) met) met result
  searched started ready found mid same is of tells sound own told =
      let output : IsReadyFor met request (Search started) =
      subst (IsReadyFor met request) of (subst (λ (r : Result Ready Fault). IfOk r (IsReadyFor met request)) is tells) in
      let begun =
      subst (λ (t : TesterShown). IsConcluded (IsCausedTold (is_run request.verb) (between t met.tester.after)
      (IsSearched request.verb request met.words met.tester.after started.history (begun_of started.first))) met.sink.before met.sink.after result)
      same told in
      written_output (checking_out (Ok request) met) met result own.0 own.1
      (mapped (IsCausedTold (is_run request.verb) met.tester (Tells request met.words met.tester.after (Search started)))
      (IsCausedTold (is_run request.verb) met.tester (checking_out (Ok request) met).Tells) met.sink.before met.sink.after result
      (λ t is. (output met.tester.after t is.0, is.1))
      (concluded_search request met.words met.tester started met.sink.before met.sink.after result
      (sound_search request ready found started is of sound) begun))

  -- an answer was given without a test
  pub told_at_once : (ready : Result Ready Fault) (found : Ready) (answer : Answer) → IsUntested met.tester → ready ≡ Ok found → found ≡ Told_ answer
      → IfOk ready (IsReadyFor met request) → IfOk ready (IsSound request) → SaysAnswer (Ok answer) met.sink result
      → Answers (checking_out (Ok request) met) met result
  told_at_once ready found answer untested is of tells sound told =
      let output : IsReadyFor met request (Told_ answer) =
      subst (IsReadyFor met request) of (subst (λ (r : Result Ready Fault). IfOk r (IsReadyFor met request)) is tells) in
      let whole : IsSound request (Told_ answer) =
      subst (IsSound request) of (subst (λ (r : Result Ready Fault). IfOk r (IsSound request)) is sound) in
      said_answer (checking_out (Ok request) met) met result (Ok answer) untested (output met.tester.after (told_of answer) refl) whole
      (λ e. cc e) (λ e. cc e) told

  -- a device failed, or memory ran out
  pub failed_at_once : (fault : Fault) → IsUntested met.tester → (fault ≡ Read → IsUnread (checking_out (Ok request) met) met)
      → (fault ≡ Shelf → IsUnloaded (checking_out (Ok request) met) met) → SaysAnswer (Err fault) met.sink result
      → Answers (checking_out (Ok request) met) met result
  failed_at_once fault untested no_read no_file told =
      said_answer (checking_out (Ok request) met) met result (Err fault) untested tt tt (λ e. no_read (cc e)) (λ e. no_file (cc e)) told

-- ---- the tests

-- a test fault of a tester that nothing was asked of before
pub test_since : (asks : Bool) (mid before after : TesterShown) (result : Status) → mid ≡ before → HasTestCause asks (between mid after) result
    → HasTestCause asks (between before after) result
test_since asks mid before after result same cause = subst (λ (t : TesterShown). HasTestCause asks (between t after) result) same cause

-- it is used as since then
pub used_since : (request : Request) (words : List (List ℕ)) (mid before after : TesterShown) → mid ≡ before → IsUsedFor (Ok request) words mid after
    → IsUsedFor (Ok request) words before after
used_since request words mid before after same used = subst (λ (t : TesterShown). IsUsedFor (Ok request) words t after) same used

-- ---- the words

-- a run reads the stream
pub run_reads : (request : Request) → request.verb ≡ Run → IsTrue (reads (Ok request))
run_reads request run = ap reads_stream run

-- ---- what the workshop tests in

-- a search is tested in what it was furnished with
pub grounds_since : (left : Option (List ℕ)) (answers : List Answered) (before after : List Ground) (ready : Result Ready Fault) (found : Ready)
    (started : Started) → ready ≡ Ok found → found ≡ Search started → IfOk ready (IsFurnishedFor left before) → after ≡ before
    → HasGroundsOf left answers after
grounds_since left answers before after ready found started is of furnished same = λ some.
    subst (AreGroundsOf left) (sym same)
    (subst (IsFurnishedFor left before) of (subst (λ (r : Result Ready Fault). IfOk r (IsFurnishedFor left before)) is furnished))

-- nothing was tested
pub no_grounds : (left : Option (List ℕ)) (answers : List Answered) (grounds : List Ground) → answers ≡ [] → HasGroundsOf left answers grounds
no_grounds left answers grounds none = λ some. absurd (some none)
