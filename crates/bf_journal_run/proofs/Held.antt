-- What a crash leaves on the disk of a journal.
use Rattle.std.proofs.Common.{◌≡◌, ⊎_elim, ◌⊎◌, inl, inr, ℕ, ◌≤◌, List, length, Option, Some, None, IfSome, Result, Ok, Err, IfOk, refl, subst, sym}
use Rattle.bf_answers.specs.declared.answer.Answer.{Answer}
use Rattle.bf_answers.specs.declared.answer.Fault.{Fault}
use Rattle.bf_answers.specs.declared.line.RequestLine.{RequestLine}
use Rattle.bf_answers.specs.declared.started.Ready.{Ready}
use Rattle.bf_answers.specs.declared.started.Ready.TheVariants.{Told as ToldAnswer, Search}
use Rattle.bf_answers.specs.declared.started.Started.{Started}
use Rattle.bf_answers.specs.Tellings.{begun_of}
use Rattle.bf_commands.specs.Journal.{AreImages, AreImagesOf, DiskMet, MayBePut}
use Rattle.bf_grammar.specs.Limits.{standard_limits}
use Rattle.bf_history.specs.declared.fault.ImportFault.{ImportFault}
use Rattle.bf_history.specs.Meanings.{History}
use Rattle.bf_io.specs.declared.shelf.LoadFault.{LoadFault}
use Rattle.bf_io.specs.declared.shelf.ShelfFile.{ShelfFile}
use Rattle.bf_journal.specs.Disk.{LeavesOnly}
use Rattle.bf_journal.specs.Image.{table_in}
use Rattle.bf_journal.specs.Journal.{IsAsOpened}
use Rattle.bf_journal.specs.declared.disk.Disk.{Ghosts}
use Rattle.bf_oid.specs.declared.object.Oid.{Oid}
use Rattle.bf_output.specs.Beginning.{Begun, begun_with_skips}
use Rattle.bf_output.specs.Shown.{TesterShown}
use Rattle.bf_output.specs.Told.{Told}
use Rattle.bf_search.specs.declared.outcomes.Outcome.{Outcome}
use Rattle.bf_tester.specs.declared.answer.Answer.{Answer as Answered}
use Rattle.bf_words.specs.declared.request.Request.{Request}
use Rattle.bf_journal_run.specs.declared.cut.Cut.{Cut}
use Rattle.bf_journal_run.specs.declared.cut.Cut.TheVariants.{Journal, Output, NoMemory}
use Rattle.bf_journal_run.specs.Held.{AreHeld, BeginsBehind, GoesOnFrom, IsHeldBy, IsHeldFor, IsHeldReady}
use Rattle.bf_journal_run.specs.Legs.{IsEndedKept, met_disk}
use Rattle.bf_begin.specs.Opening.{IsBegunBehind, IsBegunLoaded, IsBegunStream, IsReadFrom}

-- ---- while the journal is opened

pub held_opened : {J : Type 0} (by : Ghosts J) → ((disk : J) (t : ℕ) (image : List ℕ) → t ≤ by.moment disk → by.may_leave disk image → by.left_since disk t image)
    → (old mid : J) (identity : Oid) (len : ℕ) (MayPut : ℕ → Outcome → Type 0)
    → IfSome (by.told old) (λ bytes. LeavesOnly by.moment by.left_since old mid (IsAsOpened (by.may_leave old) identity len bytes))
    → IfSome (by.told old) (AreHeld (met_disk by old mid) identity len MayPut)
held_opened by counts_now old mid identity len MayPut left = at (by.told old) left
  where
    at : (told : Option (List ℕ)) → IfSome told (λ bytes. LeavesOnly by.moment by.left_since old mid (IsAsOpened (by.may_leave old) identity len bytes))
        → IfSome told (AreHeld (met_disk by old mid) identity len MayPut)
    at None left = tt
    at (Some bytes) left =
        let each : (image : List ℕ) → by.left_since mid (by.moment old) image → by.may_leave old image ⊎ GoesOnFrom identity len MayPut bytes image =
        λ image was. ⊎_elim (λ could. inl could) (λ same. inr (inl same)) (left.each image was) in
        record { now = λ image may. each image (counts_now mid (by.moment old) image left.later may); ever = each }

-- ---- in a run

-- however a run ended, its images are those of some table
pub ended_images : (images : List (Option Outcome) → Type 0) (disk : DiskMet) (request : Request) (tested : TesterShown) (history : History) (first : Begun)
    (before after : Option (List ℕ)) (result : Result Answer Cut) → IsEndedKept images disk request tested history first before after result
    → (table : List (Option Outcome)) × images table
ended_images images disk request tested history first before after (Ok answer) is = (is.is.table, is.kept)
ended_images images disk request tested history first before after (Err Journal) is = (is.table, is.kept)
ended_images images disk request tested history first before after (Err Output) is = (is.is.table, is.kept)
ended_images images disk request tested history first before after (Err NoMemory) is = (is.is.table, is.kept)

pub held_images : (disk : DiskMet) (identity : Oid) (history : History) (tested : TesterShown) (found table : List (Option Outcome))
    → IfSome disk.before (λ bytes. table_in identity (length history.names) bytes ≡ Ok found)
    → AreImagesOf disk identity history.names tested found table
    → IfSome disk.before (AreHeld disk identity (length history.names) (MayBePut history.names tested.answers))
held_images disk identity history tested found table opened images = at disk.before opened images
  where
    at : (told : Option (List ℕ)) → IfSome told (λ bytes. table_in identity (length history.names) bytes ≡ Ok found)
        → IfSome told (λ _. AreImages disk identity (length history.names) (MayBePut history.names tested.answers) tested.is_lenient found table)
        → IfSome told (AreHeld disk identity (length history.names) (MayBePut history.names tested.answers))
    at None opened images = tt
    at (Some bytes) opened images = record {
      now = λ image may. inr (inr (found, opened, (images.now image may).on));
      ever = λ image left. ⊎_elim (λ could. inl could) (λ on. inr (inr (found, opened, on))) (images.ever image left);
    }

-- ---- what is ready

begins_behind : (replay : Option ℕ) (line : RequestLine) (files : Option (List ShelfFile)) (history : History) (started : Started)
    → IsBegunBehind replay line files history (Search started)
    → BeginsBehind replay line.request.now line.words.now files started.history (begun_of started.first)
begins_behind None line files history started (begun, same) =
    subst (λ (h : History). begun_with_skips line.request.now line.words.now None h ≡ Ok (begun_of started.first)) (sym same) begun
begins_behind (Some i) line None history started begun = tt
begins_behind (Some i) line (Some files) history started (file, at, (begun, same)) =
    subst (λ (h : History). BeginsBehind (Some i) line.request.now line.words.now (Some files) h (begun_of started.first)) (sym same)
    (subst (λ (f : Result (List ℕ) LoadFault). begun_with_skips line.request.now line.words.now (Some f) history ≡ Ok (begun_of started.first)) at begun)

begins_loaded : (line : RequestLine) (files : Option (List ShelfFile)) (result : Result History ImportFault) (started : Started)
    → IsBegunLoaded line files result (Search started)
    → BeginsBehind line.request.now.replay line.request.now line.words.now files started.history (begun_of started.first)
begins_loaded line files (Ok history) started begun = begins_behind line.request.now.replay line files history started begun
begins_loaded line files (Err fault) started begun = absurd begun

begins : (line : RequestLine) (files : Option (List ShelfFile)) (left : Option (List ℕ)) (started : Started) → IsBegunStream line files left (Search started)
    → IfSome left (λ _. BeginsBehind line.request.now.replay line.request.now line.words.now files started.history (begun_of started.first))
begins line files None started begun = tt
begins line files (Some bytes) started (result, loads, begun) = begins_loaded line files result started begun

-- by the words, what is ready is held so
pub held_ready : {J : Type 0} (by : Ghosts J) (old new : J) (line : RequestLine) (files : Option (List ShelfFile)) (left : Option (List ℕ)) (ready : Result Ready Fault)
    (answers : List Answered) → IfOk ready (IsBegunStream line files left) → IfOk ready (IsReadFrom left) → IsHeldReady by old new line ready answers
    → IsHeldBy by old new (Ok line.request.now) line.words.now left files answers
held_ready by old new line files left (Ok (Search started)) answers begun read held =
    inr (record { history = started.history; read = read; first = begun_of started.first; begun = begins line files left started begun; held = held })
held_ready by old new line files left (Ok (ToldAnswer answer)) answers begun read held = inl held
held_ready by old new line files left (Err fault) answers begun read held = inl held

-- with refused words the disk is as it was
pub held_refused : {J : Type 0} (by : Ghosts J) (disk : J) (read : Result Request ℕ) (words : List (List ℕ)) (left : Option (List ℕ))
    (files : Option (List ShelfFile)) (answers : List Answered) → IsHeldBy by disk disk read words left files answers
held_refused by disk (Err word) words left files answers = refl
held_refused by disk (Ok request) words left files answers = inl refl
