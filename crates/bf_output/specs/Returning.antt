-- What a log gives back: the state of the run that it was printed for, and, where it is cut, the rest of that run.
use Rattle.std.specs.Prelude.{◌≡◌, ℕ, true, List, [], ◌∷◌, ◌++◌, Option, Some, None, IfSome, Result, Ok, Err}
use Rattle.bf_history.specs.Meanings.{History}
use Rattle.bf_replay.specs.Laws.{IsLoaded}
use Rattle.bf_log.specs.Back.{GivesBack}
use Rattle.bf_log.specs.Cut.{ends_with_command, GoesOnText}
use Rattle.bf_log.specs.Written.{known_after_all}
use Rattle.bf_reading.specs.Reading.{lines_of}
use Rattle.bf_replay.specs.Meaning.{setting_of}
use Rattle.bf_search.specs.declared.entries.Entry.{Entry}
use Rattle.bf_search.specs.Outcomes.{Outcomes}
use Rattle.bf_search.specs.Run.{Run, run}
use Rattle.bf_io.specs.declared.shelf.LoadFault.{LoadFault}
use Rattle.bf_terms.specs.Texts.{log_from}
use Rattle.bf_terms.specs.Words.{term_fault}
use Rattle.bf_words.specs.declared.request.Request.{Request}
use Rattle.bf_words.specs.Words as words_asked
use Rattle.bf_output.specs.Beginning.{Begun, begun_with_skips, commits_of, log_on}

-- what the shelf gave for the words of --replay, where they name a log
abbrev pub FileGiven : Type 0
FileGiven = Option (Result (List ℕ) LoadFault)

-- the log that stands already: that of the file, with an LF at its end
abbrev pub log_before : FileGiven → List ℕ
log_before None = []
log_before (Some (Err fault)) = []
log_before (Some (Ok bytes)) = bytes ++ 10 ∷ []

-- the whole log of a search that made these entries: what stands already, and the lines that are printed behind it
abbrev pub whole_log : FileGiven → History → Begun → List Entry → List ℕ
whole_log file history first entries = log_before file ++ log_on history first entries

-- the whole log of a run is read and replayed, and leads behind these entries to the state of the run
abbrev pub WholeLogGivesBack : FileGiven → History → Begun → List Entry → Run → Type 0
WholeLogGivesBack file history first before run =
    GivesBack (setting_of history) first.sides (whole_log file history first run.entries) before run

-- The whole log of a run gives its state back. Behind a file, the entries of the file come first.
abbrev pub LogGivesBack : FileGiven → History → Begun → Run → Type 0
LogGivesBack None history first run = WholeLogGivesBack None history first first.entries run
LogGivesBack (Some file) history first run =
    (before : List Entry) × WholeLogGivesBack (Some file) history first (before ++ first.entries) run

-- the lines that a run prints behind those of its start and of the skips before it
abbrev pub lines_of_run : History → Begun → Run → List ℕ
lines_of_run history first run =
    log_from (commits_of history) first.sides (known_after_all first.known first.entries) run.entries

-- A run on these outcomes goes on from its beginning: the lines of the start and of the skips are read and replayed,
-- and from the state that they lead to the run prints all of its own lines.
abbrev pub GoesOnFromStart : History → Begun → Outcomes → Run → Type 0
GoesOnFromStart history first known run =
    GoesOnText (setting_of history) (commits_of history) first.sides known (log_on history first [])
    (lines_of_run history first run) run

-- a front of whole lines, which ends with a command line
abbrev pub EndsWithCommand : List ℕ → Type 0
EndsWithCommand front = ends_with_command (lines_of (front ++ 10 ∷ [])) ≡ true

-- A run on these outcomes goes on from every part of its log that holds the start and the skips and ends with a
-- command line behind them: the part is read and replayed, and from the state that it leads to the run prints the rest
-- of the log and ends alike.
abbrev pub GoesOnFromParts : History → Begun → Outcomes → Run → Type 0
GoesOnFromParts history first known run =
    (front back : List ℕ)
    → lines_of_run history first run ≡ front ++ 10 ∷ back
    → EndsWithCommand front
    → GoesOnText (setting_of history) (commits_of history) first.sides known
    (log_on history first [] ++ (front ++ 10 ∷ [])) back run

-- the terms that a request has, where words give some, may stand for the two sides
abbrev pub HasTerms : Request → Type 0
HasTerms request = IfSome request.terms (λ sides. term_fault sides.new sides.old ≡ None)

-- The log of every run gives the state of the run back, on whatever outcomes it ran and however long its leg was.
abbrev pub LogsGiveBack : Type 0
LogsGiveBack =
    (request : Request) (words : List (List ℕ)) (file : FileGiven) (history : History) (first : Begun)
    (known : Outcomes) (left : Option ℕ)
    → words_asked.request words ≡ Ok request
    → IsLoaded history
    → begun_with_skips request words file history ≡ Ok first
    → LogGivesBack file history first (run history.parents known left first.search)

-- Every run without a leg that words for its ends began goes on from its beginning, and from the parts of its log.
abbrev pub RunsGoOnFromStarts : Type 0
RunsGoOnFromStarts =
    (request : Request) (words : List (List ℕ)) (history : History) (first : Begun) (known : Outcomes)
    → words_asked.request words ≡ Ok request
    → IsLoaded history
    → begun_with_skips request words None history ≡ Ok first
    → GoesOnFromStart history first known (run history.parents known None first.search)

abbrev pub RunsGoOnFromParts : Type 0
RunsGoOnFromParts =
    (request : Request) (words : List (List ℕ)) (history : History) (first : Begun) (known : Outcomes)
    → words_asked.request words ≡ Ok request
    → IsLoaded history
    → begun_with_skips request words None history ≡ Ok first
    → GoesOnFromParts history first known (run history.parents known None first.search)
