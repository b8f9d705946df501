-- What a line of words is answered.
use Rattle.std.specs.Borrow.{Bor}
use Rattle.std.specs.Prelude.{ℕ, List, Option, Some, Result}
use Rattle.bf_history.specs.Meanings.{History}
use Rattle.bf_output.specs.Beginning.{Begun}
use Rattle.bf_output.specs.Gen.{made_stream}
use Rattle.bf_output.specs.Next.{asked_once, next_told}
use Rattle.bf_output.specs.Inputs.{IsStreamed}
use Rattle.bf_output.specs.Output.{IsOutputOf, IsOver, IsOverFile, given_to}
use Rattle.bf_output.specs.Told.{Told}
use Rattle.bf_search.specs.State.{ask}
use Rattle.bf_io.specs.declared.shelf.ShelfFile.{ShelfFile}
use Rattle.bf_begin.specs.Files.{file_given}
use Rattle.bf_answers.specs.Ready.{AllTold}
use Rattle.bf_begin.specs.declared.file.LogFile.{LogFile}
use Rattle.bf_answers.specs.declared.line.RequestLine.{RequestLine}
use Rattle.bf_answers.specs.declared.started.Ready.{Ready}

-- the answer of the line, from the stream on
abbrev pub TellsOutput : RequestLine → Option (List ShelfFile) → Option (List ℕ) → Ready → Type 0
TellsOutput line files left ready =
    AllTold line.request.now line.words.now ready (λ tested told.
    IsOutputOf line.request.now.verb line.request.now (given_to line.words.now files tested) left told)

-- over the stream that a number gives
abbrev pub TellsMade : RequestLine → Option (List ShelfFile) → Ready → Type 0
TellsMade line files ready =
    AllTold line.request.now line.words.now ready (λ tested told.
    IsStreamed (IsOver line.request.now (given_to line.words.now files tested)) (Some (made_stream line.request.now)) told)

-- over a stream that is read
abbrev pub TellsStream : RequestLine → Option (List ShelfFile) → Option (List ℕ) → Ready → Type 0
TellsStream line files left ready =
    AllTold line.request.now line.words.now ready (λ tested told.
    IsStreamed (IsOver line.request.now (given_to line.words.now files tested)) left told)

-- over a history and the file that the words name
abbrev pub TellsFile : RequestLine → Option (Bor LogFile) → History → Ready → Type 0
TellsFile line file history ready =
    AllTold line.request.now line.words.now ready (λ tested told.
    IsOverFile line.request.now.verb line.request.now line.words.now tested (file_given file) history told)

-- what `next` tells
abbrev pub next_of_line : RequestLine → Option (Bor LogFile) → History → Result Told Told
next_of_line line file history = next_told line.request.now line.words.now (file_given file) history

-- what a search tells that has begun, and asks once
abbrev pub asked_from : History → Begun → Told
asked_from history first = asked_once history first (ask history.parents first.search).step
