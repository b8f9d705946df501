-- From what is told, and what was written of it, to what a call concludes.
use Rattle.std.proofs.Common.{◌≡◌, ◌≢◌, ℕ, ◌≤◌, Bool, List, Option, Result, Ok, Err, IfOk, IsErrOf, ◌⊎◌, inl, inr, refl, sym, ap}
use Rattle.std.proofs.Common.{subst, ◌∙◌}
use Rattle.bf_farm.proofs.Asked.{rose_since}
use Rattle.bf_io.specs.Causes.{Rose}
use Rattle.bf_io.specs.declared.device.SinkFault.{SinkFault}
use Rattle.bf_io.specs.declared.device.SinkFault.TheVariants as writes
use Rattle.bf_io.proofs.Told.{Appends-trans, AppendsFront-second}
use Rattle.bf_words.specs.declared.request.Request.{Request}
use Rattle.bf_words.specs.declared.verb.Verb.{Verb}
use Rattle.bf_output.specs.Output.{IsSearched, is_run}
use Rattle.bf_output.specs.Shown.{TesterShown}
use Rattle.bf_output.specs.declared.status.Status.{Status}
use Rattle.bf_output.specs.declared.status.Status.TheVariants as status
use Rattle.bf_output.specs.Told.{Told}
use Rattle.bf_answers.proofs.Answering.{cut_answer, mapped, whole_cause, written_output}
use Rattle.bf_answers.specs.Answers.{Command, Answers, IsUnread, IsUnloaded, IsWhole, IsUntested, IsCaused, FitsTests, HasCause, HasTestCause, IsFailedTest, IsLostAs}
use Rattle.bf_answers.specs.Devices.{Met, SinkMet, TesterMet}
use Rattle.bf_answers.specs.Ready.{IsCausedTold, IsConcluded, IsSound, IsStarted, Concludes, SaysAnswer, Tells, verb_of}
use Rattle.bf_answers.specs.SoFar.{IsCutBy, IsSoFar, IsToldCut, NeverRefuses}
use Rattle.bf_answers.specs.Tellings.{begun_of, told_of}
use Rattle.bf_answers.specs.Writes.{IsWritten}
use Rattle.bf_answers.specs.declared.answer.Answer.{Answer}
use Rattle.bf_answers.specs.declared.answer.Fault.{Fault}
use Rattle.bf_answers.specs.declared.answer.Fault.TheVariants.{Read, Shelf, NoMemory}
use Rattle.bf_answers.specs.declared.started.Ready.{Ready}
use Rattle.bf_answers.specs.declared.started.Ready.TheVariants.{Told as ToldAnswer, Search}
use Rattle.bf_answers.specs.declared.started.Started.{Started}

-- what has its cause tells of a failed test only where one failed
pub test_cause : (asks : Bool) (tester : TesterMet) (s : Status) → HasCause asks tester.before.faults tester.after s → HasTestCause asks tester s
test_cause asks tester s cause = λ place e. subst (HasCause asks tester.before.faults tester.after) e cause

pub whole_test_cause : (asks : Bool) (tester : TesterMet) (s : Status) → IsWhole s → HasTestCause asks tester s
whole_test_cause asks tester s whole = λ place e. absurd (subst IsWhole e whole)

-- what has its cause, or is whole, is no run that want of memory cut short
pub caused_not_lost : (asks : Bool) (tester : TesterMet) (s result : Status) → HasCause asks tester.before.faults tester.after s → IsLostAs s result
caused_not_lost asks tester s result cause = λ lost. absurd (subst (HasCause asks tester.before.faults tester.after) lost cause)

pub whole_not_lost : (s result : Status) → IsWhole s → IsLostAs s result
whole_not_lost s result whole = λ lost. absurd (subst IsWhole lost whole)

pub causes_of_whole : {E : Type 0} (asks : Bool) (before : ℕ) (after : TesterShown) (result : Result Answer E) → IfOk result (λ answer. IsWhole answer.status)
    → IfOk result (λ answer. HasCause asks before after answer.status)
causes_of_whole asks before after (Err e) w = tt
causes_of_whole asks before after (Ok answer) w = whole_cause asks before after answer.status w

-- a test fault is answered only where a test failed
pub test_written : (asks : Bool) (old : ℕ) (new : TesterShown) (place : ℕ) (before after : Option (List ℕ)) (text : List ℕ) (s result : Status)
    → HasCause asks old new s → IsWritten before after text s result → result ≡ status.TestFault place → IsFailedTest asks old new place
test_written asks old new place before after text s result cause (inl (e, a)) is = subst (HasCause asks old new) (sym e ∙ is) cause
test_written asks old new place before after text s result cause (inr (inl e, front)) is = cc (sym e ∙ is)
test_written asks old new place before after text s result cause (inr (inr e, front)) is = cc (sym e ∙ is)

pub cut_is_own : (result : Status) → (result ≡ status.WriteFault) ⊎ (result ≡ status.NoMemory) → (result ≢ status.ReadFault) × (result ≢ status.ShelfFault)
cut_is_own result (inl e) = (λ is. cc (sym e ∙ is), λ is. cc (sym e ∙ is))
cut_is_own result (inr e) = (λ is. cc (sym e ∙ is), λ is. cc (sym e ∙ is))

pub own_written : (asks : Bool) (old : ℕ) (new : TesterShown) (before after : Option (List ℕ)) (text : List ℕ) (s result : Status)
    → HasCause asks old new s → IsWritten before after text s result → (result ≢ status.ReadFault) × (result ≢ status.ShelfFault)
own_written asks old new before after text s result cause (inl (e, a)) =
    (λ is. subst (HasCause asks old new) (sym e ∙ is) cause, λ is. subst (HasCause asks old new) (sym e ∙ is) cause)
own_written asks old new before after text s result cause (inr (cut, front)) = cut_is_own result cut

pub cut_is_no_test : (result : Status) (place : ℕ) → (result ≡ status.WriteFault) ⊎ (result ≡ status.NoMemory) → result ≡ status.TestFault place → ⊥
cut_is_no_test result place (inl e) is = cc (sym e ∙ is)
cut_is_no_test result place (inr e) is = cc (sym e ∙ is)

-- a write fault is answered only where a write failed
pub write_written : (asks : Bool) (old : ℕ) (new : TesterShown) (s : Status) (first before after : ℕ) → HasCause asks old new s → first ≤ before
    → (s ≡ status.WriteFault) ⊎ Rose before after → Rose first after
write_written asks old new s first before after cause le (inl e) = absurd (subst (HasCause asks old new) e cause)
write_written asks old new s first before after cause le (inr rose) = rose_since first before after le rose

-- a search was concluded as its command has it
pub concluded_search : (request : Request) (words : List (List ℕ)) (tester : TesterMet) (started : Started) (before after : Option (List ℕ))
    (result : Status)
    → verb_of started.means ≡ request.verb
    → IsConcluded (IsCausedTold (is_run request.verb) tester
    (IsSearched request.verb request words tester.after started.history (begun_of started.first))) before after result
    → IsConcluded (IsCausedTold (is_run request.verb) tester (Tells request words tester.after (Search started))) before after result
concluded_search request words tester started before after result verb is =
    subst
    (λ (v : Verb).
    IsConcluded (IsCausedTold (is_run request.verb) tester (IsSearched v request words tester.after started.history (begun_of started.first))) before
    after result)
    (sym verb) is

-- a whole answer was written, before any test
pub concluded_answer : (asks : Bool) (tester : TesterMet) (answer : Answer) (before after : Option (List ℕ)) (result : Status)
    → IsUntested tester → IsWhole answer.status → IsWritten before after answer.text answer.status result
    → IsConcluded (IsCausedTold asks tester (λ told. told ≡ told_of answer)) before after result
concluded_answer asks tester answer before after result untested whole written =
    let cause = whole_test_cause asks tester answer.status whole in
    inl (told_of answer, (refl, (cause, λ refused. untested)), whole_not_lost answer.status result whole, written)

-- a whole answer that was written ends neither with a fault of a source or shelf, nor with that of a test
pub whole_own : (before after : Option (List ℕ)) (text : List ℕ) (s result : Status) → IsWhole s → IsWritten before after text s result
    → (result ≢ status.ReadFault) × (result ≢ status.ShelfFault)
whole_own before after text s result w (inl (e, a)) = (λ is. subst IsWhole (sym e ∙ is) w, λ is. subst IsWhole (sym e ∙ is) w)
whole_own before after text s result w (inr (cut, front)) = cut_is_own result cut

pub whole_no_test : (before after : Option (List ℕ)) (text : List ℕ) (s result : Status) (place : ℕ) → IsWhole s → IsWritten before after text s result
    → result ≡ status.TestFault place → ⊥
whole_no_test before after text s result place w (inl (e, a)) is = subst IsWhole (sym e ∙ is) w
whole_no_test before after text s result place w (inr (cut, front)) is = cut_is_no_test result place cut is

pub whole_write : (R : Type 0) (s : Status) → IsWhole s → (s ≡ status.WriteFault) ⊎ R → R
whole_write R s w (inl e) = absurd (subst IsWhole e w)
whole_write R s w (inr r) = r

-- nor with that of a journal
pub cut_is_no_journal : (result : Status) → (result ≡ status.WriteFault) ⊎ (result ≡ status.NoMemory) → result ≢ status.JournalFault
cut_is_no_journal result (inl e) = λ is. cc (sym e ∙ is)
cut_is_no_journal result (inr e) = λ is. cc (sym e ∙ is)

pub caused_no_journal : (asks : Bool) (old : ℕ) (new : TesterShown) (before after : Option (List ℕ)) (text : List ℕ) (s result : Status)
    → HasCause asks old new s → IsWritten before after text s result → result ≢ status.JournalFault
caused_no_journal asks old new before after text s result cause (inl (e, a)) = λ is. subst (HasCause asks old new) (sym e ∙ is) cause
caused_no_journal asks old new before after text s result cause (inr (cut, front)) = cut_is_no_journal result cut

pub whole_no_journal : (before after : Option (List ℕ)) (text : List ℕ) (s result : Status) → IsWhole s → IsWritten before after text s result
    → result ≢ status.JournalFault
whole_no_journal before after text s result w (inl (e, a)) = λ is. subst IsWhole (sym e ∙ is) w
whole_no_journal before after text s result w (inr (cut, front)) = cut_is_no_journal result cut

-- the line of a fault that was written
pub fault_is_no_test : (before after : Option (List ℕ)) (text : List ℕ) (s result : Status) (place : ℕ) → s ≢ status.TestFault place
    → IsWritten before after text s result → result ≡ status.TestFault place → ⊥
fault_is_no_test before after text s result place other (inl (e, a)) is = other (sym e ∙ is)
fault_is_no_test before after text s result place other (inr (cut, front)) is = cut_is_no_test result place cut is

sound_found : (request : Request) (ready : Result Ready Fault) (found matched : Ready) → ready ≡ Ok found → found ≡ matched
    → IfOk ready (IsSound request) → IsSound request matched
sound_found request ready found matched is of sound =
    subst (IsSound request) of (subst (λ (r : Result Ready Fault). IfOk r (IsSound request)) is sound)

pub sound_search : (request : Request) (ready : Result Ready Fault) (found : Ready) (started : Started) → ready ≡ Ok found → found ≡ Search started
    → IfOk ready (IsSound request) → verb_of started.means ≡ request.verb
sound_search request ready found started is of sound = (sound_found request ready found (Search started) is of sound).1

pub sound_started : (request : Request) (ready : Result Ready Fault) (found : Ready) (started : Started) → ready ≡ Ok found → found ≡ Search started
    → IfOk ready (IsSound request) → IsStarted started
sound_started request ready found started is of sound = (sound_found request ready found (Search started) is of sound).0

pub sound_answer : (request : Request) (ready : Result Ready Fault) (found : Ready) (answer : Answer) → ready ≡ Ok found → found ≡ ToldAnswer answer
    → IfOk ready (IsSound request) → IsWhole answer.status
sound_answer request ready found answer is of sound = sound_found request ready found (ToldAnswer answer) is of sound

pub concludes : (asks : Bool) (IsTold : Ready → Told → Type 0) (tester : TesterMet) (ready : Result Ready Fault) (found matched : Ready)
    (sink : SinkMet) (result : Status)
    → ready ≡ Ok found → found ≡ matched
    → IsConcluded (IsCausedTold asks tester (IsTold matched)) sink.before sink.after result
    → Concludes asks IsTold tester ready sink result
concludes asks IsTold tester ready found matched sink result is of told =
    subst (λ (r : Result Ready Fault). Concludes asks IsTold tester r sink result) (sym (is ∙ ap (λ (r : Ready). Ok r) of)) told

-- what stood in the way was told
pub concludes_fault : (asks : Bool) (IsTold : Ready → Told → Type 0) (tester : TesterMet) (ready : Result Ready Fault) (fault : Fault) (sink : SinkMet)
    (result : Status)
    → ready ≡ Err fault → IsUntested tester → SaysAnswer (Err fault) sink result → Concludes asks IsTold tester ready sink result
concludes_fault asks IsTold tester ready fault sink result is untested said =
    subst (λ (r : Result Ready Fault). Concludes asks IsTold tester r sink result) (sym is) (by_fault fault said)
  where
    by_fault : (fault : Fault) → SaysAnswer (Err fault) sink result → Concludes asks IsTold tester (Err fault) sink result
    by_fault Read written = (written, untested)
    by_fault Shelf written = (written, untested)
    by_fault NoMemory kept = kept

pub if_ok : {T E : Type 0} (P : Type 0) (result : Result T E) → P → IfOk result (λ t. P)
if_ok P (Ok t) p = p
if_ok P (Err e) p = tt

-- ---- a search, whatever it tells

-- what a search tells is no refusal
search_fits : (IsTold : Told → Type 0) (asks : Bool) (tester : TesterMet) (told : Told) → NeverRefuses IsTold → IsTold told
    → HasTestCause asks tester told.status → FitsTests asks tester told.status
search_fits IsTold asks tester told never is cause = (cause, λ refused. absurd (never told is refused))

-- what was written so far and the rest were told
pub concluded : (IsTold : Told → Type 0) (asks : Bool) (tester : TesterMet) (before mid after : Option (List ℕ)) (answer : Answer) (result : Status)
    → NeverRefuses IsTold → IsSoFar IsTold before mid answer → IsCaused asks tester answer → IsWritten mid after answer.text answer.status result
    → IsConcluded (IsCausedTold asks tester IsTold) before after result
concluded IsTold asks tester before mid after answer result never is cause (inl (same, all)) =
    inl (
      _,
      (is.tells, search_fits IsTold asks tester _ never is.tells (test_cause asks tester answer.status cause)),
      caused_not_lost asks tester answer.status result cause,
      inl (same, Appends-trans before mid after is.written answer.text is.gained all),
    )
concluded IsTold asks tester before mid after answer result never is cause (inr (cut, front)) =
    inl (
      _,
      (is.tells, search_fits IsTold asks tester _ never is.tells (test_cause asks tester answer.status cause)),
      caused_not_lost asks tester answer.status result cause,
      inr (cut, AppendsFront-second before mid after is.written answer.text is.gained front),
    )

-- a run that want of memory cut short ends so
lost_as : (fault : SinkFault) (s result : Status) → IsCutBy fault s → (fault ≡ writes.NoMemory → result ≡ status.NoMemory) → IsLostAs s result
lost_as fault s result (inl e) memory = λ lost. cc (sym e ∙ lost)
lost_as fault s result (inr (e, is)) memory = λ lost. memory is

-- and tells of no failed test
cut_test_cause : (asks : Bool) (tester : TesterMet) (fault : SinkFault) (s : Status) → IsCutBy fault s → HasTestCause asks tester s
cut_test_cause asks tester fault s (inl e) = λ place is. cc (sym e ∙ is)
cut_test_cause asks tester fault s (inr (e, memory)) = λ place is. cc (sym e ∙ is)

pub concluded_cut : (IsTold : Told → Type 0) (asks : Bool) (tester : TesterMet) (fault : SinkFault) (before after : Option (List ℕ)) (result : Status)
    → NeverRefuses IsTold → IsToldCut IsTold fault before after → (result ≡ status.WriteFault) ⊎ (result ≡ status.NoMemory)
    → (fault ≡ writes.NoMemory → result ≡ status.NoMemory)
    → IsConcluded (IsCausedTold asks tester IsTold) before after result
concluded_cut IsTold asks tester fault before after result never is cut memory =
    let fits = search_fits IsTold asks tester is.told never is.is (cut_test_cause asks tester fault is.told.status is.cut) in
    inl (is.told, (is.is, fits), lost_as fault is.told.status result is.cut memory, inr (cut, is.front))

-- ---- an answer without a test

pub said_answer : (command : Command) (met : Met) (result : Status) (answer : Result Answer Fault) → IsUntested met.tester
    → IfOk answer (λ a. command.Tells (told_of a)) → IfOk answer (λ a. IsWhole a.status)
    → (IsErrOf answer Read → IsUnread command met) → (IsErrOf answer Shelf → IsUnloaded command met)
    → SaysAnswer answer met.sink result → Answers command met result
said_answer command met result (Ok answer) untested tells whole no_read no_file written =
    let own = whole_own met.sink.before met.sink.after answer.text answer.status result whole written in
    written_output command met result own.0 own.1
    (mapped (IsCausedTold command.tests met.tester (λ told. told ≡ told_of answer)) (IsCausedTold command.tests met.tester command.Tells)
    met.sink.before met.sink.after result (λ t is. (subst command.Tells (sym is.0) tells, is.1))
    (concluded_answer command.tests met.tester answer met.sink.before met.sink.after result untested whole written))
said_answer command met result (Err Read) untested tells whole no_read no_file (inl (e, a)) =
    subst (Answers command met) (sym e) (no_read refl, a)
said_answer command met result (Err Read) untested tells whole no_read no_file (inr (e, front)) =
    cut_answer command met _ result (inr (inl (no_read refl, refl), untested)) e front
said_answer command met result (Err Shelf) untested tells whole no_read no_file (inl (e, a)) =
    subst (Answers command met) (sym e) (no_file refl, a)
said_answer command met result (Err Shelf) untested tells whole no_read no_file (inr (e, front)) =
    cut_answer command met _ result (inr (inr (no_file refl, refl), untested)) e front
said_answer command met result (Err NoMemory) untested tells whole no_read no_file (e, kept) = subst (Answers command met) (sym e) (inl kept)
