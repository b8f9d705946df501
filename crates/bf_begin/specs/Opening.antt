-- What is open when a command begins, and the search that is ready then.
use Rattle.std.specs.Borrow.{Bor}
use Rattle.std.specs.Prelude.{◌≡◌, ℕ, List, Option, Some, None, IfSome, Result, Ok, Err}
use Rattle.bf_answers.specs.declared.answer.Answer.{Answer}
use Rattle.bf_answers.specs.declared.line.RequestLine.{RequestLine}
use Rattle.bf_answers.specs.declared.started.Ready.{Ready}
use Rattle.bf_answers.specs.declared.started.Ready.TheVariants.{Told as ToldAnswer, Search}
use Rattle.bf_answers.specs.Answers.{IsWhole}
use Rattle.bf_answers.specs.Tellings.{begun_of, told_of}
use Rattle.bf_begin.specs.declared.file.LogFile.{LogFile}
use Rattle.bf_begin.specs.declared.door.FileLine.{FileLine}
use Rattle.bf_begin.specs.declared.door.Opened.{Opened}
use Rattle.bf_begin.specs.declared.door.Opened.TheVariants.{Over, Refused}
use Rattle.bf_begin.specs.declared.door.OpenedText.{OpenedText}
use Rattle.bf_begin.specs.declared.door.OpenedText.TheVariants.{Over as TextOver, Refused as TextRefused}
use Rattle.bf_begin.specs.Files.{IsFileOf}
use Rattle.bf_begin.specs.Lines.{begun_with_line}
use Rattle.bf_grammar.specs.Limits.{standard_limits}
use Rattle.bf_history.specs.declared.fault.ImportFault.{ImportFault}
use Rattle.bf_history.specs.Imports.{MayImport}
use Rattle.bf_history.specs.Meanings.{History}
use Rattle.bf_output.specs.Beginning.{Begun, begun_with_skips}
use Rattle.bf_output.specs.Inputs.{IsImported, IsReadUnder, IsTextTold, file_of}
use Rattle.bf_output.specs.Refusals.{refusal}
use Rattle.bf_output.specs.Told.{Told}
use Rattle.bf_io.specs.declared.shelf.LoadFault.{LoadFault}
use Rattle.bf_io.specs.declared.shelf.ShelfFile.{ShelfFile}

-- ---- a stream and a file

-- the stream is refused with this answer
abbrev pub IsStreamRefused : Option (List ℕ) → Answer → Type 0
IsStreamRefused left answer =
    (fault : ImportFault) × IsImported left standard_limits (Err fault) × (told_of answer ≡ refusal fault) × IsWhole answer.status

-- the history is that of the stream, and the file that of the word, where there is one
abbrev pub IsOpened : Option (List ℕ) → Option (List ShelfFile) → List (List ℕ) → Option ℕ → Opened → Type 0
IsOpened left files words replay (Over history file) = MayImport left standard_limits (Ok history) × IsFileOf files words replay file
IsOpened left files words replay (Refused answer) = IsStreamRefused left answer

-- ---- a stream and the text of a file

-- this is told of the file that the line names, over the stream
abbrev pub IsLineTold : Option (List ℕ) → Option (List ShelfFile) → FileLine → (History → List ℕ → Told) → Told → Type 0
IsLineTold left files line tell told = IsReadUnder line.limits (IsTextTold tell line.words.now line.index files) left told

-- what is told of the text over the history is told by the line, whatever it is; and so is the refusal
abbrev pub IsTextOpened : Option (List ℕ) → Option (List ShelfFile) → FileLine → OpenedText → Type 0
IsTextOpened left files line (TextOver history text) =
    (tell : History → List ℕ → Told) → IsLineTold left files line tell (tell history text)
IsTextOpened left files line (TextRefused answer) =
    (tell : History → List ℕ → Told) → IsLineTold left files line tell (told_of answer)

abbrev pub IsWholeText : OpenedText → Type 0
IsWholeText (TextOver history text) = Unit {0}
IsWholeText (TextRefused answer) = IsWhole answer.status

-- ---- a search

-- a search that has begun so over this history, or its refusal
abbrev pub IsBegunAs : Result Begun Told → History → Ready → Type 0
IsBegunAs begun history (ToldAnswer answer) = begun ≡ Err (told_of answer)
IsBegunAs begun history (Search started) = (begun ≡ Ok (begun_of started.first)) × (started.history ≡ history)

-- by the words of the line and the file that they name
abbrev pub IsBegunFile : RequestLine → Option (Bor LogFile) → History → Ready → Type 0
IsBegunFile line file history ready = IsBegunAs (begun_with_line line file history) history ready

-- behind the log that the words name, or without one
abbrev pub IsBegunBehind : Option ℕ → RequestLine → Option (List ShelfFile) → History → Ready → Type 0
IsBegunBehind None line files history ready = IsBegunAs (begun_with_skips line.request.now line.words.now None history) history ready
IsBegunBehind (Some i) line files history ready =
    (file : Result (List ℕ) LoadFault) × IfSome files (λ all. file ≡ file_of line.words.now i all)
    × IsBegunAs (begun_with_skips line.request.now line.words.now (Some file) history) history ready

abbrev pub IsBegunOver : RequestLine → Option (List ShelfFile) → History → Ready → Type 0
IsBegunOver line files history ready = IsBegunBehind line.request.now.replay line files history ready

-- over what the stream gave
abbrev pub IsBegunLoaded : RequestLine → Option (List ShelfFile) → Result History ImportFault → Ready → Type 0
IsBegunLoaded line files (Ok history) ready = IsBegunOver line files history ready
IsBegunLoaded line files (Err fault) (ToldAnswer answer) = told_of answer ≡ refusal fault
IsBegunLoaded line files (Err fault) (Search started) = ⊥

abbrev pub IsBegunStream : RequestLine → Option (List ShelfFile) → Option (List ℕ) → Ready → Type 0
IsBegunStream line files left ready =
    (result : Result History ImportFault) × IsImported left standard_limits result × IsBegunLoaded line files result ready

-- a search is over the history of the stream
abbrev pub IsReadFrom : Option (List ℕ) → Ready → Type 0
IsReadFrom left (ToldAnswer answer) = Unit {0}
IsReadFrom left (Search started) = MayImport left standard_limits (Ok started.history)

-- it is over this history
abbrev pub IsOf : History → Ready → Type 0
IsOf history (ToldAnswer answer) = Unit {0}
IsOf history (Search started) = started.history ≡ history

-- what is told of what is ready, where this is told of a search that has begun: an answer is told as it is
abbrev pub IsReadyTold : (History → Begun → Told → Type 0) → Ready → Told → Type 0
IsReadyTold IsTold (ToldAnswer answer) told = told ≡ told_of answer
IsReadyTold IsTold (Search started) told = IsTold started.history (begun_of started.first) told
