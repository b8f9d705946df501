-- How the search begins that a line of words asks for.
use Rattle.std.specs.Borrow.{Bor}
use Rattle.std.specs.Prelude.{ℕ, List, Option, Result, Ok}
use Rattle.bf_grammar.specs.Forms.{◌>>=◌}
use Rattle.bf_history.specs.Meanings.{History}
use Rattle.bf_io.specs.declared.shelf.LoadFault.{LoadFault}
use Rattle.bf_output.specs.Beginning.{Begun, begun_behind, begun_by, begun_with_skips}
use Rattle.bf_output.specs.Inputs.{IsToldFrom}
use Rattle.bf_output.specs.Logs.{replayed_log}
use Rattle.bf_output.specs.Output.{IsSearched}
use Rattle.bf_output.specs.Told.{Told}
use Rattle.bf_begin.specs.Files.{file_given}
use Rattle.bf_answers.specs.Ready.{AllTold, verb_of}
use Rattle.bf_begin.specs.declared.file.LogFile.{LogFile}
use Rattle.bf_answers.specs.declared.line.RequestLine.{RequestLine}
use Rattle.bf_answers.specs.declared.started.Means.{Means}
use Rattle.bf_answers.specs.declared.started.Ready.{Ready}

-- by the log in a file
abbrev pub begun_by_file : History → Result (List ℕ) LoadFault → Result Begun Told
begun_by_file history file = replayed_log history file >>= λ replayed. Ok (begun_behind replayed)

-- by the words of the line, or by the log that they name
abbrev pub begun_by_line : RequestLine → Option (Bor LogFile) → History → Result Begun Told
begun_by_line line file history = begun_by line.request.now line.words.now (file_given file) history

-- and with the skips that they ask for
abbrev pub begun_with_line : RequestLine → Option (Bor LogFile) → History → Result Begun Told
begun_with_line line file history = begun_with_skips line.request.now line.words.now (file_given file) history

-- of the search that begins so, with these means
abbrev pub TellsSearchFrom : RequestLine → Option (Bor LogFile) → History → Means → Ready → Type 0
TellsSearchFrom line file history means ready =
    AllTold line.request.now line.words.now ready (λ tested told.
    IsToldFrom (IsSearched (verb_of means) line.request.now line.words.now tested history) (begun_with_line line file history) told)
