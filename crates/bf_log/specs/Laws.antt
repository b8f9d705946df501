-- The laws of logs.
use Rattle.std.specs.Prelude.{◌≡◌, ℕ, true, length, List, [], ◌∷◌, ◌++◌, Option, Some, None}
use Rattle.bf_graph.specs.Graph.{IsGraph}
use Rattle.bf_search.specs.declared.entries.Entry.{Entry}
use Rattle.bf_search.specs.declared.entries.Entry.TheVariants.{Marked}
use Rattle.bf_search.specs.declared.outcomes.Mark.{Mark}
use Rattle.bf_search.specs.Outcomes.{Outcomes}
use Rattle.bf_search.specs.State.{Search, IsSearchOver}
use Rattle.bf_search.specs.Run.{run}
use Rattle.bf_terms.specs.Texts.{Commits, Sides, Known, nothing_known, log_from, log}
use Rattle.bf_reading.specs.Reading.{said, lines_of, read_log}
use Rattle.bf_log.specs.LogState.{LogState, retold, closed, told_by}
use Rattle.bf_log.specs.Written.{AreReadable, AreNamed, words_of_entries, known_after_all}
use Rattle.bf_log.specs.Replay.{Setting}
use Rattle.bf_log.specs.Resolved.{AreResolved, AreRunEntries}
use Rattle.bf_log.specs.Back.{Begin, start_of, told_of, IsReplayable, LeadsTo, GivesBack, GoesOnFrom}
use Rattle.bf_log.specs.Cut.{ends_with_command, AreKnown, CutText, GoesOnText}

-- The entries of a run, told from the state in which it began, lead to its state: behind the last mark where it ended
-- with its leg, and otherwise one ask further. The entries that are told on the way are those of the run.
abbrev pub EntriesTellTheState : Type 0
EntriesTellTheState = (graph : List (List ℕ)) (known : Outcomes) (left : Option ℕ) (s : Search) (before : List Entry)
    → told_by before (run graph known left s)
    ≡ closed graph (run graph known left s).end
    (retold graph (record { search = s; entries = before }) (run graph known left s).entries)

-- Reading the lines of entries gives their command lines and no others.
abbrev pub LogsAreReadBack : Type 0
LogsAreReadBack = (commits : Commits) (sides : Sides) (known : Known) (entries : List Entry)
    → AreReadable commits sides
    → AreNamed commits entries
    → said (read_log (log_from commits sides known entries)) ≡ Some (words_of_entries commits sides entries)

-- Later entries are written from what is known after the earlier ones.
abbrev pub LogsJoin : Type 0
LogsJoin = (commits : Commits) (sides : Sides) (known : Known) (xs ys : List Entry)
    → log_from commits sides known (xs ++ ys)
    ≡ log_from commits sides known xs ++ log_from commits sides (known_after_all known xs) ys

-- A front of the lines of a run that ends with a command line has the lines of the entries up to a mark.
abbrev pub LogsAreCutAtMarks : Type 0
LogsAreCutAtMarks = (commits : Commits) (sides : Sides) (len : ℕ) (known : Known) (entries : List Entry)
    (front back : List ℕ)
    → AreReadable commits sides
    → AreKnown known
    → AreRunEntries len entries
    → ends_with_command (lines_of (front ++ 10 ∷ [])) ≡ true
    → log_from commits sides known entries ≡ front ++ 10 ∷ back
    → CutText commits sides known entries (front ++ 10 ∷ []) back

-- The log of a run gives the state of the run back.
abbrev pub LogsGiveTheStateBack : Type 0
LogsGiveTheStateBack =
    (setting : Setting ℕ) (commits : Commits) (sides : Sides) (b : Begin) (known : Outcomes) (left : Option ℕ)
    (s : Search) (later before : List Entry)
    → IsReplayable setting commits sides b
    → IsGraph setting.graph
    → AreRunEntries (length setting.graph) later
    → retold setting.graph (told_of setting.graph b) later ≡ record { search = s; entries = before }
    → GivesBack setting sides (log commits sides (start_of b ∷ (later ++ (run setting.graph known left s).entries)))
    before (run setting.graph known left s)

-- A run goes on from a part of its log that ends with a mark.
abbrev pub RunsGoOnFromLogs : Type 0
RunsGoOnFromLogs =
    (setting : Setting ℕ) (commits : Commits) (sides : Sides) (b : Begin) (known : Outcomes)
    (s : Search) (later before part rest : List Entry) (m : Mark) (p : ℕ)
    → IsReplayable setting commits sides b
    → IsGraph setting.graph
    → IsSearchOver setting.graph s
    → AreRunEntries (length setting.graph) later
    → retold setting.graph (told_of setting.graph b) later ≡ record { search = s; entries = before }
    → (run setting.graph known None s).entries ≡ part ++ Marked m p ∷ rest
    → GoesOnFrom setting sides (log commits sides (start_of b ∷ (later ++ (part ++ Marked m p ∷ []))))
    known (run setting.graph known None s) rest

-- A file of a log, with an LF at its end, and the lines that a run prints behind it give the state of the run back.
abbrev pub FilesGiveTheStateBack : Type 0
FilesGiveTheStateBack =
    (setting : Setting ℕ) (commits : Commits) (sides : Sides) (now : Known) (file : List ℕ) (told : LogState)
    (known : Outcomes) (left : Option ℕ) (s : Search) (later before : List Entry)
    → AreReadable commits sides
    → AreNamed commits (later ++ (run setting.graph known left s).entries)
    → AreResolved setting commits (later ++ (run setting.graph known left s).entries)
    → LeadsTo setting sides (file ++ 10 ∷ []) told
    → retold setting.graph told later ≡ record { search = s; entries = before }
    → GivesBack setting sides (file ++ 10 ∷ log_from commits sides now
    (later ++ (run setting.graph known left s).entries))
    before (run setting.graph known left s)

-- A run goes on from a part of its printed text that ends with a command line: it prints the rest.
abbrev pub RunsGoOnFromTexts : Type 0
RunsGoOnFromTexts =
    (setting : Setting ℕ) (commits : Commits) (sides : Sides) (b : Begin) (known : Outcomes)
    (s : Search) (later before : List Entry) (front back : List ℕ)
    → IsReplayable setting commits sides b
    → IsGraph setting.graph
    → IsSearchOver setting.graph s
    → AreRunEntries (length setting.graph) later
    → AreKnown (known_after_all nothing_known (start_of b ∷ later))
    → retold setting.graph (told_of setting.graph b) later ≡ record { search = s; entries = before }
    → log_from commits sides (known_after_all nothing_known (start_of b ∷ later))
    (run setting.graph known None s).entries
    ≡ front ++ 10 ∷ back
    → ends_with_command (lines_of (front ++ 10 ∷ [])) ≡ true
    → GoesOnText setting commits sides known (log commits sides (start_of b ∷ later) ++ (front ++ 10 ∷ [])) back
    (run setting.graph known None s)
