-- The laws of the logs of a history.
use Rattle.std.specs.Prelude.{◌≡◌, ℕ, ◌<◌, true, List, [], ◌∷◌, ◌++◌, length, All, Option, None, Ok}
use Rattle.bf_grammar.specs.declared.command.Command.{Command}
use Rattle.bf_grammar.specs.declared.fault.Limits.{Limits}
use Rattle.bf_grammar.specs.declared.fault.StreamFault.{StreamFault}
use Rattle.bf_graph.specs.Graph.{IsGraph}
use Rattle.bf_history.specs.Imports.{loaded}
use Rattle.bf_history.specs.Meanings.{History, nothing_loaded}
use Rattle.bf_replay.specs.Kept.{IsKept, commits_of}
use Rattle.bf_log.specs.Back.{Begin, start_of, told_of, IsReplayable, LeadsTo, GivesBack}
use Rattle.bf_log.specs.Cut.{ends_with_command, AreKnown, GoesOnText}
use Rattle.bf_log.specs.Resolved.{AreRunEntries, FitsStart}
use Rattle.bf_log.specs.LogState.{LogState, retold}
use Rattle.bf_log.specs.Written.{known_after_all}
use Rattle.bf_reading.specs.Reading.{lines_of}
use Rattle.bf_replay.specs.Meaning.{setting_of}
use Rattle.bf_search.specs.declared.entries.Entry.{Entry}
use Rattle.bf_search.specs.Outcomes.{Outcomes}
use Rattle.bf_search.specs.Run.{run}
use Rattle.bf_search.specs.State.{Search, IsSearchOver}
use Rattle.bf_terms.specs.Words.{term_fault}
use Rattle.bf_terms.specs.Texts.{Known, Sides, nothing_known, log, log_from}

-- the commands of a stream lead to this history
abbrev pub IsLoaded : History → Type 0
IsLoaded history = (limits : Limits) × (commands : List Command) × (end : Option StreamFault)
    × (loaded limits (nothing_loaded limits) commands end ≡ Ok history)

-- Every loaded history is kept so.
abbrev pub HistoriesAreKept : Type 0
HistoriesAreKept = (history : History) → IsLoaded history → IsKept history

-- the terms of a search are accepted, and where its start names none they are the standard ones
pub record AreSides (sides : Sides) (b : Begin) : Type 0 where
  pub accepted : term_fault sides.new sides.old ≡ None
  pub fits : FitsStart sides b.terms_given

-- the ends of a start are commits of the history
pub record AreEnds (history : History) (b : Begin) : Type 0 where
  pub bad : b.bad < length history.parents
  pub goods : All (λ p. p < length history.parents) b.goods

-- A log over a loaded history is read and replayed as it was meant.
abbrev pub HistoriesAreReplayable : Type 0
HistoriesAreReplayable = (history : History) (sides : Sides) (b : Begin) → IsLoaded history → AreSides sides b
    → AreEnds history b → IsReplayable (setting_of history) (commits_of history) sides b

-- The log of a run over a loaded history gives the state of the run back; `later` are the skips before the run.
abbrev pub LogsGiveTheStateBack : Type 0
LogsGiveTheStateBack =
    (history : History) (sides : Sides) (b : Begin) (known : Outcomes) (left : Option ℕ) (s : Search) (later before : List Entry)
    → IsLoaded history
    → IsGraph history.parents
    → AreSides sides b
    → AreEnds history b
    → AreRunEntries (length history.parents) later
    → retold history.parents (told_of history.parents b) later ≡ record { search = s; entries = before }
    → GivesBack (setting_of history) sides
    (log (commits_of history) sides (start_of b ∷ (later ++ (run history.parents known left s).entries)))
    before (run history.parents known left s)

-- The same of a file, with an LF at its end, and the lines that a run prints behind it.
abbrev pub FilesGiveTheStateBack : Type 0
FilesGiveTheStateBack =
    (history : History) (sides : Sides) (now : Known) (file : List ℕ) (told : LogState) (known : Outcomes) (left : Option ℕ)
    (s : Search) (later before : List Entry)
    → IsLoaded history
    → IsGraph history.parents
    → term_fault sides.new sides.old ≡ None
    → AreRunEntries (length history.parents) later
    → LeadsTo (setting_of history) sides (file ++ 10 ∷ []) told
    → retold history.parents told later ≡ record { search = s; entries = before }
    → GivesBack (setting_of history) sides
    (file ++ 10 ∷ log_from (commits_of history) sides now (later ++ (run history.parents known left s).entries))
    before (run history.parents known left s)

-- A run over a loaded history goes on from a part of its printed text that ends with a command line: it prints the rest.
abbrev pub RunsGoOnFromTexts : Type 0
RunsGoOnFromTexts =
    (history : History) (sides : Sides) (b : Begin) (known : Outcomes) (s : Search) (later before : List Entry)
    (front back : List ℕ)
    → IsLoaded history
    → IsGraph history.parents
    → AreSides sides b
    → AreEnds history b
    → IsSearchOver history.parents s
    → AreRunEntries (length history.parents) later
    → AreKnown (known_after_all nothing_known (start_of b ∷ later))
    → retold history.parents (told_of history.parents b) later ≡ record { search = s; entries = before }
    → log_from (commits_of history) sides (known_after_all nothing_known (start_of b ∷ later))
    (run history.parents known None s).entries
    ≡ front ++ 10 ∷ back
    → ends_with_command (lines_of (front ++ 10 ∷ [])) ≡ true
    → GoesOnText (setting_of history) (commits_of history) sides known
    (log (commits_of history) sides (start_of b ∷ later) ++ (front ++ 10 ∷ [])) back
    (run history.parents known None s)
