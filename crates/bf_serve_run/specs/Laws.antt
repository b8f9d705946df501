-- Laws of requests that are served, as statements: `laws.rt` has each as the contract of a function that does nothing.
use Rattle.std.specs.Prelude.{◌≡◌, ℕ, ◌≤◌, List, length, All, Some}
use Rattle.bf_answers.specs.Devices.{HasNotFailed, ShelfMet}
use Rattle.bf_history.specs.Meanings.{History}
use Rattle.bf_io.specs.declared.shelf.ShelfFile.{ShelfFile}
use Rattle.bf_serve.specs.Searches.{no_search}
use Rattle.bf_serve.specs.Serving.{output}
use Rattle.bf_serve_run.specs.Serving.{AreServed}

-- so many bytes are none too many for a request
abbrev pub IsShort : List ℕ → Type 0
IsShort line = length line ≤ 65535

-- Where the shelf tells its files and does not fail, the replies to requests are the output to them.
abbrev pub RepliesAreTheOutput : Type 0
RepliesAreTheOutput =
    (history : History) (shelf : ShelfMet) (files : List ShelfFile) (lines : List (List ℕ)) (replies : List ℕ)
    → shelf.files ≡ Some files
    → HasNotFailed shelf.faults
    → All IsShort lines
    → AreServed history shelf no_search lines replies
    → replies ≡ output history files lines
