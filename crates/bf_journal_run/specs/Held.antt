-- What a crash leaves on the disk of a journal, with whatever status the call ends.
use Rattle.std.specs.Prelude.{◌≡◌, ◌⊎◌, ℕ, List, length, Option, Some, None, IfSome, Result, Ok, Err}
use Rattle.bf_answers.specs.declared.answer.Fault.{Fault}
use Rattle.bf_answers.specs.declared.line.RequestLine.{RequestLine}
use Rattle.bf_answers.specs.declared.started.Ready.{Ready}
use Rattle.bf_answers.specs.declared.started.Ready.TheVariants.{Told as ToldAnswer, Search}
use Rattle.bf_commands.specs.Journal.{Continues, DiskMet, MayBePut, identity_of}
use Rattle.bf_grammar.specs.Limits.{standard_limits}
use Rattle.bf_history.specs.Imports.{MayImport}
use Rattle.bf_history.specs.Meanings.{History}
use Rattle.bf_io.specs.declared.shelf.ShelfFile.{ShelfFile}
use Rattle.bf_journal.specs.Image.{table_in}
use Rattle.bf_journal.specs.Journal.{StandsAs}
use Rattle.bf_journal.specs.declared.disk.Disk.{Ghosts}
use Rattle.bf_oid.specs.declared.object.Oid.{Oid}
use Rattle.bf_output.specs.Beginning.{Begun, begun_with_skips}
use Rattle.bf_output.specs.Inputs.{file_of}
use Rattle.bf_search.specs.declared.outcomes.Outcome.{Outcome}
use Rattle.bf_tester.specs.declared.answer.Answer.{Answer as Answered}
use Rattle.bf_words.specs.declared.request.Request.{Request}
use Rattle.bf_journal_run.specs.Legs.{met_disk}

-- An image goes on from bytes: it stands as they do, and is those bytes where they are the journal of another run; or they are a journal
-- of the run, all of whose outcomes it keeps as they were, and beside them only what may be put.
abbrev pub GoesOnFrom : Oid → ℕ → (ℕ → Outcome → Type 0) → List ℕ → List ℕ → Type 0
GoesOnFrom identity len MayPut bytes image =
    StandsAs identity len bytes image ⊎ ((found : List (Option Outcome)) × (table_in identity len bytes ≡ Ok found) × Continues identity len MayPut found image)

-- Each image that a crash may leave after the call, or might have left at some moment of it, could be left before, or goes on from the bytes
-- from before.
pub record AreHeld (disk : DiskMet) (identity : Oid) (len : ℕ) (MayPut : ℕ → Outcome → Type 0) (bytes : List ℕ) : Type 0 where
  pub now : (image : List ℕ) → disk.may_leave image → disk.could_leave image ⊎ GoesOnFrom identity len MayPut bytes image
  pub ever : (image : List ℕ) → disk.left image → disk.could_leave image ⊎ GoesOnFrom identity len MayPut bytes image

-- where the disk tells its bytes, so it is in a run of these words over a history, on what its tester answered
abbrev pub IsHeld : DiskMet → Request → List (List ℕ) → History → List Answered → Type 0
IsHeld disk request words history answers =
    IfSome disk.before (AreHeld disk (identity_of history request words) (length history.names) (MayBePut history.names answers))

abbrev pub IsHeldIn : DiskMet → RequestLine → History → List Answered → Type 0
IsHeldIn disk line history answers = IsHeld disk line.request.now line.words.now history answers

-- the disk is as it was, unless a search has begun
abbrev pub IsHeldReady : {J : Type 0} → Ghosts J → J → J → RequestLine → Result Ready Fault → List Answered → Type 0
IsHeldReady by before after line (Ok (Search started)) answers = IsHeldIn (met_disk by before after) line started.history answers
IsHeldReady by before after line (Ok (ToldAnswer answer)) answers = after ≡ before
IsHeldReady by before after line (Err fault) answers = after ≡ before

-- ---- by the words

-- the words begin this search over a history, behind the log that they name, where the shelf tells it
abbrev pub BeginsBehind : Option ℕ → Request → List (List ℕ) → Option (List ShelfFile) → History → Begun → Type 0
BeginsBehind None request words files history first = begun_with_skips request words None history ≡ Ok first
BeginsBehind (Some i) request words files history first =
    IfSome files (λ all. begun_with_skips request words (Some (file_of words i all)) history ≡ Ok first)

-- The stream and the words begin a search, and the disk is held in it.
pub record IsHeldFor (disk : DiskMet) (request : Request) (words : List (List ℕ)) (left : Option (List ℕ)) (files : Option (List ShelfFile))
    (answers : List Answered) : Type 0 where
  pub history : History
  pub read : MayImport left standard_limits (Ok history)
  pub first : Begun
  pub begun : IfSome left (λ _. BeginsBehind request.replay request words files history first)
  pub held : IsHeld disk request words history answers

-- The disk is as it was, or the search began.
abbrev pub IsHeldBy : {J : Type 0} → Ghosts J → J → J → Result Request ℕ → List (List ℕ) → Option (List ℕ) → Option (List ShelfFile) → List Answered → Type 0
IsHeldBy by before after (Err word) words left files answers = after ≡ before
IsHeldBy by before after (Ok request) words left files answers =
    (after ≡ before) ⊎ IsHeldFor (met_disk by before after) request words left files answers
