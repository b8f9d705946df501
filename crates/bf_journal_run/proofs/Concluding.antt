-- From what a kept run tells, and what was written of it, to what a call concludes.
use Rattle.std.proofs.Common.{◌≡◌, ◌≢◌, ◌⊎◌, inl, inr, ℕ, ◌≤◌, Bool, true, List, [], ◌++◌, length, codes, Option, Some, None, IfSome, is_some, Result, Ok, Err, IfOk, refl, sym, ap, ◌∙◌, subst}
use Rattle.bf_answers.proofs.Concluding.{concluded, concluded_cut, cut_is_no_test, cut_is_own, own_written, test_written}
use Rattle.bf_answers.specs.Answers.{HasCause, HasTestCause, IsBeforeSearch, IsCaused, IsUntested}
use Rattle.bf_answers.specs.declared.answer.Answer.{Answer}
use Rattle.bf_answers.specs.Devices.{SinkMet, TesterMet}
use Rattle.bf_answers.specs.Ready.{IsCausedTold, IsConcluded}
use Rattle.bf_answers.specs.SoFar.{NeverRefuses}
use Rattle.bf_answers.specs.Writes.{IsWritten}
use Rattle.bf_commands.specs.Journal.{AreImages, AreImagesOf, Continues, DiskMet, IsJournalled, IsKeptIn, IsLeftAlone, IsOpenedAt, IsOpenedTold, IsRunKept, MayBePut, Opens, identity_of, journal_fault}
use Rattle.bf_commands.specs.Journal.OpenedJournal.{Other, Failed}
use Rattle.bf_farm.proofs.Asked.{rose_since}
use Rattle.bf_state.specs.Ends.{HasEnds}
use Rattle.bf_history.specs.Meanings.{History}
use Rattle.bf_io.proofs.Told.{Appends-trans, AppendsFront-second}
use Rattle.bf_io.specs.Causes.{Rose}
use Rattle.bf_io.specs.declared.device.SinkFault.TheVariants as sinks
use Rattle.bf_io.specs.Told.{AppendsFront}
use Rattle.bf_journal.proofs.Moments.{LeavesOnly-none, LeavesOnly-then, LeavesOnly-within}
use Rattle.bf_journal.specs.declared.disk.Disk.{Ghosts}
use Rattle.bf_journal.specs.declared.journal.JournalFault.{JournalFault}
use Rattle.bf_journal.specs.Disk.{LeavesOnly, Only}
use Rattle.bf_journal.specs.Identity.{run_identity}
use Rattle.bf_journal.specs.Image.{table_in}
use Rattle.bf_journal.specs.Journal.{IsAsOpened, Keeping, keeping}
use Rattle.bf_oid.specs.declared.object.Oid.{Oid}
use Rattle.bf_output.specs.Beginning.{Begun}
use Rattle.bf_output.specs.declared.status.Status.{Status}
use Rattle.bf_output.specs.declared.status.Status.TheVariants as status
use Rattle.bf_output.specs.Shown.{TesterShown}
use Rattle.bf_output.specs.Told.{Told}
use Rattle.bf_search.specs.declared.outcomes.Outcome.{Outcome}
use Rattle.bf_search.specs.Outcomes.{outcomes_of_table}
use Rattle.bf_searches.proofs.Untested.{of_search}
use Rattle.bf_words.specs.declared.request.Request.{Request}
use Rattle.bf_words.specs.declared.verb.Verb.TheVariants.{Run}
use Rattle.bf_journal_run.specs.declared.cut.Cut.{Cut}
use Rattle.bf_journal_run.specs.declared.cut.Cut.TheVariants.{Journal, Output, NoMemory}
use Rattle.bf_journal_run.specs.Kept.{AreLasting, Lasts}
use Rattle.bf_journal_run.specs.Legs.{IsCutByDisk, IsEndedKept, met_disk}
use Rattle.bf_journal_run.specs.Searching.{IsBeforeOpening, IsRefusedOnly, SaysKept}
use Rattle.bf_journal_run.proofs.Keeping.{part_itself}

-- ---- the journal that was opened

pub as_meant : (P : Oid → ℕ → Type 0) (i j : Oid) (n m : ℕ) → i ≡ j → n ≡ m → P i n → P j m
as_meant P i j n m same long p = subst (λ (k : ℕ). P j k) long (subst (λ (o : Oid). P o n) same p)

-- the identity that was found is that of the run
pub same_identity : (found : Oid) (names meant : List Oid) (is_lenient : Bool) (command words : List (List ℕ)) → found.0 ≡ run_identity names is_lenient command
    → names ≡ meant → command ≡ words → found ≡ record { 0 = run_identity meant is_lenient words }
same_identity found names meant is_lenient command words is same told = λ i. record {
  0 = (is ∙ ap (λ (n : List Oid). run_identity n is_lenient command) same ∙ ap (run_identity meant is_lenient) told) i;
}

pub own_journal : (result : Result Keeping JournalFault) (identity meant : Oid) → identity ≡ meant
    → IfOk result (λ journal. journal ≡ keeping identity journal.kept true) → IfOk result (λ journal. journal.identity ≡ meant)
own_journal (Ok journal) identity meant same is = ap (λ (k : Keeping). k.identity) is ∙ same
own_journal (Err fault) identity meant same is = tt

pub sound_journal : (result : Result Keeping JournalFault) (identity : Oid)
    → IfOk result (λ journal. journal ≡ keeping identity journal.kept true) → IfOk result (λ journal. journal.is_sound ≡ true)
sound_journal (Ok journal) identity is = ap (λ (k : Keeping). k.is_sound) is
sound_journal (Err fault) identity is = tt

pub long_journal : (result : Result Keeping JournalFault) (n m : ℕ) → n ≡ m → IfOk result (λ journal. length journal.kept ≡ n)
    → IfOk result (λ journal. length journal.kept ≡ m)
long_journal (Ok journal) n m same is = is ∙ same
long_journal (Err fault) n m same is = tt

-- ---- since the journal was opened

module _ {J : Type 0} (by : Ghosts J) where
  -- while it was opened
  pub opened_at : (old new : J) (identity : Oid) (len : ℕ)
      → IfSome (by.told old) (λ bytes. LeavesOnly by.moment by.left_since old new (IsAsOpened (by.may_leave old) identity len bytes))
      → IfSome (by.told old) (IsOpenedAt (met_disk by old new) identity len)
  opened_at old new identity len opens = at (by.told old) opens
    where
      at : (told : Option (List ℕ)) → IfSome told (λ bytes. LeavesOnly by.moment by.left_since old new (IsAsOpened (by.may_leave old) identity len bytes))
          → IfSome told (IsOpenedAt (met_disk by old new) identity len)
      at None opens = tt
      at (Some bytes) opens = opens.each

  -- before it is
  pub unopened_yet : ((disk : J) (image : List ℕ) → by.left_since disk (by.moment disk) image → by.may_leave disk image) → (disk : J) (identity : Oid) (len : ℕ)
      → IfSome (by.told disk) (λ bytes. LeavesOnly by.moment by.left_since disk disk (IsAsOpened (by.may_leave disk) identity len bytes))
  unopened_yet only_now disk identity len = at (by.told disk)
    where
      at : (told : Option (List ℕ)) → IfSome told (λ bytes. LeavesOnly by.moment by.left_since disk disk (IsAsOpened (by.may_leave disk) identity len bytes))
      at None = tt
      at (Some bytes) =
          LeavesOnly-none by.moment by.left_since disk (IsAsOpened (by.may_leave disk) identity len bytes) (λ image left. inl (only_now disk image left))

  -- the journal of another run is left as it was
  pub left_alone : (old new : J) → by.told new ≡ by.told old → IfSome (by.told new) (λ bytes. Only bytes (by.may_leave new))
      → IfSome (by.told old) (λ _. LeavesOnly by.moment by.left_since old new (by.may_leave old))
      → IfSome (by.told old) (IsLeftAlone (met_disk by old new))
  left_alone old new same settled left =
      at (by.told old) (subst (λ (told : Option (List ℕ)). IfSome told (λ bytes. Only bytes (by.may_leave new))) same settled) left
    where
      at : (told : Option (List ℕ)) → IfSome told (λ bytes. Only bytes (by.may_leave new))
          → IfSome told (λ _. LeavesOnly by.moment by.left_since old new (by.may_leave old)) → IfSome told (IsLeftAlone (met_disk by old new))
      at None settled left = tt
      at (Some bytes) settled left = record { now = settled; ever = left.each }

  module _ (old mid new : J) (journal : Keeping) (meant : Oid) (names : List Oid) (tested : TesterShown) (table : List (Option Outcome))
      (own : journal.identity ≡ meant) (long : length journal.kept ≡ length names) where
    abbrev MayPut : ℕ → Outcome → Type 0
    MayPut p x = MayBePut names tested.answers p x

    abbrev IsLeft : List ℕ → Type 0
    IsLeft image = by.may_leave old image ⊎ Continues meant (length names) (MayBePut names tested.answers) journal.kept image

    opened_image : (bytes image : List ℕ) → table_in meant (length names) bytes ≡ Ok journal.kept
        → IsAsOpened (by.may_leave old) meant (length names) bytes image → IsLeft image
    opened_image bytes image found (inl could) = inl could
    opened_image bytes image found (inr stands) =
        inr (record {
          kept = journal.kept;
          reads = stands.same ∙ found;
          opened = part_itself (outcomes_of_table journal.kept);
          only = λ p x was. inl was;
        })

    later_image : (image : List ℕ) → Continues journal.identity (length journal.kept) MayPut journal.kept image → IsLeft image
    later_image image on =
        inr (as_meant (λ (i : Oid) (k : ℕ). Continues i k MayPut journal.kept image) journal.identity meant (length journal.kept) (length names) own long on)

    kept_image : (image : List ℕ) → IsKeptIn journal.identity (length journal.kept) MayPut tested.is_lenient journal.kept table image
        → IsKeptIn meant (length names) MayPut tested.is_lenient journal.kept table image
    kept_image image kept =
        as_meant (λ (i : Oid) (k : ℕ). IsKeptIn i k MayPut tested.is_lenient journal.kept table image) journal.identity meant (length journal.kept)
        (length names) own long kept

    -- the images of the call: while the journal was opened, and since then
    pub images_of_run : is_some (by.told mid) ≡ is_some (by.told old)
        → IfSome (by.told old) (λ bytes. LeavesOnly by.moment by.left_since old mid (IsAsOpened (by.may_leave old) meant (length names) bytes))
        → IfSome (by.told old) (λ bytes. table_in meant (length names) bytes ≡ Ok journal.kept) → AreLasting by mid new journal names tested journal.kept table
        → AreImagesOf (met_disk by old new) meant names tested journal.kept table
    images_of_run same opens found lasting = at (by.told old) (by.told mid) same opens found lasting
      where
        at : (told then_told : Option (List ℕ)) → is_some then_told ≡ is_some told
            → IfSome told (λ bytes. LeavesOnly by.moment by.left_since old mid (IsAsOpened (by.may_leave old) meant (length names) bytes))
            → IfSome told (λ bytes. table_in meant (length names) bytes ≡ Ok journal.kept)
            → IfSome then_told (λ _. Lasts by mid new journal names tested journal.kept table)
            → IfSome told (λ _. AreImages (met_disk by old new) meant (length names) (MayBePut names tested.answers) tested.is_lenient journal.kept table)
        at None then_told same opens found lasting = tt
        at (Some bytes) None same opens found lasting = cc same
        at (Some bytes) (Some then_bytes) same opens found lasting =
            let first : LeavesOnly by.moment by.left_since old mid IsLeft =
            LeavesOnly-within by.moment by.left_since old mid (IsAsOpened (by.may_leave old) meant (length names) bytes) IsLeft opens
            (λ image is. opened_image bytes image found is) in
            let all : LeavesOnly by.moment by.left_since old new IsLeft =
            LeavesOnly-then by.moment by.left_since old mid new IsLeft (Continues journal.identity (length journal.kept) MayPut journal.kept) first lasting.ever
            (λ image on. later_image image on) in
            record { now = λ image may. kept_image image (lasting.now image may); ever = all.each }

-- what a kept run tells is no refusal
pub never_refused : (disk : DiskMet) (identity : Oid) (found : List (Option Outcome)) (request : Request) (words : List (List ℕ)) (tested : TesterShown) (history : History) (first : Begun)
    → HasEnds first.search → NeverRefuses (IsRunKept disk identity found request tested history first)
never_refused disk identity found request words tested history first ends = λ told is refused. by told is refused
  where
    by : (told : Told) → IsRunKept disk identity found request tested history first told → IsBeforeSearch told.status → ⊥
    by told (inl (is, kept)) refused = of_search Run request words tested history first told ends (inl is) refused
    by told (inr (inl (is, kept))) refused = of_search Run request words tested history first told ends (inr (inl is)) refused
    by told (inr (inr (inl (is, kept)))) refused = of_search Run request words tested history first told ends (inr (inr is)) refused
    by told (inr (inr (inr (table, is, kept)))) refused = subst (λ (t : Told). IsBeforeSearch t.status) is.tells refused

module _ (disk now : DiskMet) (meant : Oid) (found : List (Option Outcome)) (Images : List (Option Outcome) → Type 0) (request : Request)
    (words : List (List ℕ)) (tester : TesterMet) (history : History) (first : Begun) (ends : HasEnds first.search)
    (kept_of_table : (table : List (Option Outcome)) → Images table → AreImagesOf disk meant history.names tester.after found table)
    (rose : Rose now.faults now.faults_now → Rose disk.faults disk.faults_now) where
  abbrev Tells : Told → Type 0
  Tells told = IsRunKept disk meant found request tester.after history first told

  never : NeverRefuses Tells
  never = never_refused disk meant found request words tester.after history first ends

  -- the disk failed behind some legs
  of_disk : (before mid after : Option (List ℕ)) (result : Status) → IsCutByDisk Images now request tester.after history first before mid
      → IsWritten mid after (codes "journal fault\n") status.JournalFault result → IsConcluded (IsCausedTold true tester Tells) before after result
  of_disk before mid after result is written =
      let told = journal_fault is.written in
      let tells : Tells told =
      inr (inr (inr (
        is.table,
        record {
          failed = rose is.is.failed;
          known = is.is.known;
          planned = is.is.planned;
          alone = is.is.alone;
          written = is.is.written;
          front = is.is.front;
          tells = is.is.tells;
        },
        kept_of_table is.table is.kept,
      ))) in
      inl (told, (tells, (λ place e. cc e, λ refused. absurd refused)), (λ e. cc e), all_written written)
    where
      all_written : IsWritten mid after (codes "journal fault\n") status.JournalFault result
          → IsWritten before after (is.written ++ codes "journal fault\n") status.JournalFault result
      all_written (inl (e, all)) = inl (e, Appends-trans before mid after is.written (codes "journal fault\n") is.gained all)
      all_written (inr (cut, front)) = inr (cut, AppendsFront-second before mid after is.written (codes "journal fault\n") is.gained front)

  -- what a kept run tells was written, or a front of it
  pub kept_concluded : (before : Option (List ℕ)) (sink : SinkMet) (answer : Result Answer Cut) (result : Status)
      → IsEndedKept Images now request tester.after history first before sink.before answer → IfOk answer (IsCaused true tester)
      → SaysKept answer sink result → IsConcluded (IsCausedTold true tester Tells) before sink.after result
  kept_concluded before sink (Ok answer) result is cause written =
      concluded Tells true tester before sink.before sink.after answer result never
      (record { written = is.written; gained = is.gained; tells = inl (is.is, kept_of_table is.is.table is.kept) }) cause written
  kept_concluded before sink (Err Journal) result is cause written = of_disk before sink.before sink.after result is written
  kept_concluded before sink (Err Output) result is cause (e, kept) =
      concluded_cut Tells true tester sinks.Failed before sink.after result never
      (record {
        told = is.told;
        is = inr (inl (is.is, kept_of_table is.is.table is.kept));
        cut = inl (ap (λ (t : Told). t.status) is.is.tells);
        front = subst (λ (held : Option (List ℕ)). AppendsFront before held is.told.text) (sym kept) is.front;
      }) (inl e) (λ memory. cc memory)
  kept_concluded before sink (Err NoMemory) result is cause (e, kept) =
      concluded_cut Tells true tester sinks.NoMemory before sink.after result never
      (record {
        told = is.told;
        is = inr (inr (inl (is.is, kept_of_table is.is.table is.kept)));
        cut = inr (ap (λ (t : Told). t.status) is.is.tells, refl);
        front = subst (λ (held : Option (List ℕ)). AppendsFront before held is.told.text) (sym kept) is.front;
      }) (inr e) (λ memory. e)

-- ---- the status

-- a journal that failed is answered only where the disk did
module _ (tester : TesterMet) (sink : SinkMet) (result : Status) where
  pub said_own : (answer : Result Answer Cut) → IfOk answer (IsCaused true tester) → SaysKept answer sink result
      → (result ≢ status.ReadFault) × (result ≢ status.ShelfFault)
  said_own (Ok answer) cause written =
      own_written true tester.before.faults tester.after sink.before sink.after answer.text answer.status result cause written
  said_own (Err Journal) cause (inl (e, all)) = (λ is. cc (sym e ∙ is), λ is. cc (sym e ∙ is))
  said_own (Err Journal) cause (inr (cut, front)) = cut_is_own result cut
  said_own (Err Output) cause (e, kept) = (λ is. cc (sym e ∙ is), λ is. cc (sym e ∙ is))
  said_own (Err NoMemory) cause (e, kept) = (λ is. cc (sym e ∙ is), λ is. cc (sym e ∙ is))

  pub said_test : (answer : Result Answer Cut) → IfOk answer (IsCaused true tester) → SaysKept answer sink result → HasTestCause true tester result
  said_test (Ok answer) cause written = λ place e.
      test_written true tester.before.faults tester.after place sink.before sink.after answer.text answer.status result cause written e
  said_test (Err Journal) cause (inl (e, all)) = λ place is. cc (sym e ∙ is)
  said_test (Err Journal) cause (inr (cut, front)) = λ place is. absurd (cut_is_no_test result place cut is)
  said_test (Err Output) cause (e, kept) = λ place is. cc (sym e ∙ is)
  said_test (Err NoMemory) cause (e, kept) = λ place is. cc (sym e ∙ is)

  no_disk_status : (result ≡ status.WriteFault) ⊎ (result ≡ status.NoMemory) → result ≡ status.JournalFault → ⊥
  no_disk_status (inl e) is = cc (sym e ∙ is)
  no_disk_status (inr e) is = cc (sym e ∙ is)

  pub said_disk : (answer : Result Answer Cut) → IfOk answer (IsCaused true tester) → SaysKept answer sink result → result ≡ status.JournalFault
      → answer ≡ Err Journal
  said_disk (Ok answer) cause (inl (e, all)) is = absurd (subst (HasCause true tester.before.faults tester.after) (sym e ∙ is) cause)
  said_disk (Ok answer) cause (inr (cut, front)) is = absurd (no_disk_status cut is)
  said_disk (Err Journal) cause written is = refl
  said_disk (Err Output) cause (e, kept) is = cc (sym e ∙ is)
  said_disk (Err NoMemory) cause (e, kept) is = cc (sym e ∙ is)

pub caused_no_write : (tester : TesterMet) (answer : Result Answer Cut) → IfOk answer (IsCaused true tester)
    → IfOk answer (λ a. a.status ≢ status.WriteFault)
caused_no_write tester (Ok answer) cause = λ e. subst (HasCause true tester.before.faults tester.after) e cause
caused_no_write tester (Err cut) cause = tt

-- a write fault is answered only where the sink failed
pub said_write : (first mid now : ℕ) (Cut : Type 0) → first ≤ mid → Cut ⊎ Rose mid now → (Cut → Rose first mid) → (Cut → now ≡ mid) → Rose first now
said_write first mid now Cut le (inl cut) failed same = subst (λ (n : ℕ). Rose first n) (sym (same cut)) (failed cut)
said_write first mid now Cut le (inr rose) failed same = rose_since first mid now le rose

-- ---- no journal

module _ (disk : DiskMet) (request : Request) (words : List (List ℕ)) (tester : TesterMet) (history : History) (first : Begun) (before after : Option (List ℕ))
    (result : Status) where
  pub of_another : (kept : Oid) → Opens disk (identity_of history request words) (length history.names) (Other kept) → IfSome disk.before (IsLeftAlone disk)
      → IsUntested tester → IsWritten before after (codes "journal of another run\n") (status.JournalRefused kept) result
      → IsConcluded (IsCausedTold true tester (IsJournalled disk request words tester.after history first)) before after result
  of_another kept opened alone untested written =
      let told : Told = record { status = status.JournalRefused kept; text = codes "journal of another run\n" } in
      inl (told, ((Other kept, opened, (refl, alone)), (λ place e. cc e, λ refused. untested)), (λ e. cc e), written)

  pub of_failed : Rose disk.faults disk.faults_now → tester.after.answers ≡ []
      → IfSome disk.before (IsOpenedAt disk (identity_of history request words) (length history.names))
      → IsWritten before after (codes "journal fault\n") status.JournalFault result
      → IsConcluded (IsCausedTold true tester (IsJournalled disk request words tester.after history first)) before after result
  of_failed failed none opened written =
      inl (journal_fault [], ((Failed, failed, (refl, none, opened)), (λ place e. cc e, λ refused. absurd refused)), (λ e. cc e), written)

-- ---- the statuses before a search

-- a run that is told has none of them
pub run_refused : (Is : Told → Type 0) (tester : TesterMet) (before after : Option (List ℕ)) (result : Status) (Same : Type 0) → NeverRefuses Is
    → IsConcluded (IsCausedTold true tester Is) before after result → IsRefusedOnly result Same
run_refused Is tester before after result Same never (inl (told, (is, fits), lost, inl (e, all))) = λ refused. absurd (never told is (subst IsBeforeSearch e refused))
run_refused Is tester before after result Same never (inl (told, is, lost, inr (inl e, front))) = λ refused. absurd (subst IsBeforeSearch e refused)
run_refused Is tester before after result Same never (inl (told, is, lost, inr (inr e, front))) = λ refused. absurd (subst IsBeforeSearch e refused)
run_refused Is tester before after result Same never (inr (e, kept)) = λ refused. absurd (subst IsBeforeSearch e refused)

-- the journal of another run has one
pub another_refused : (before after : Option (List ℕ)) (text : List ℕ) (kept : Oid) (result : Status) (Same : Type 0)
    → IsWritten before after text (status.JournalRefused kept) result → Same → IsRefusedOnly result Same
another_refused before after text kept result Same (inl (e, all)) same = λ refused. (kept, e, same)
another_refused before after text kept result Same (inr (inl e, front)) same = λ refused. absurd (subst IsBeforeSearch e refused)
another_refused before after text kept result Same (inr (inr e, front)) same = λ refused. absurd (subst IsBeforeSearch e refused)

-- a fault has none
pub fault_refused : (before after : Option (List ℕ)) (text : List ℕ) (result : Status) (Same : Type 0)
    → IsWritten before after text status.JournalFault result → IsRefusedOnly result Same
fault_refused before after text result Same (inl (e, all)) = λ refused. absurd (subst IsBeforeSearch e refused)
fault_refused before after text result Same (inr (inl e, front)) = λ refused. absurd (subst IsBeforeSearch e refused)
fault_refused before after text result Same (inr (inr e, front)) = λ refused. absurd (subst IsBeforeSearch e refused)

pub memory_refused : (result : Status) (Same : Type 0) → result ≡ status.NoMemory → IsRefusedOnly result Same
memory_refused result Same e = λ refused. absurd (subst IsBeforeSearch e refused)

before_search : (result : Status) → IsBeforeOpening result → IsBeforeSearch result
before_search (status.JournalRefused kept) before = tt
before_search other before = before

-- what follows of the disk
pub unopened_only : (result : Status) (Same Unopened : Type 0) → IsRefusedOnly result Same → IsBeforeOpening result → Unopened
unopened_only result Same Unopened only before =
    let (kept, e, same) = only (before_search result before) in
    absurd (subst IsBeforeOpening e before)

pub untouched_only : (result : Status) (Same : Type 0) (kept : Oid) → IsRefusedOnly result Same → result ≡ status.JournalRefused kept → Same
untouched_only result Same kept only e =
    let (found, is, same) = only (subst IsBeforeSearch (sym e) tt) in
    same
