-- What it means that a log gives the state of a run back.
use Rattle.std.specs.Prelude.{◌≡◌, ℕ, ◌<◌, [], length, Bool, false, All, List, Some, None, Ok}
use Rattle.std.specs.List.{slice_index_or}
use Rattle.bf_search.specs.declared.entries.Entry.{Entry}
use Rattle.bf_search.specs.declared.entries.Entry.TheVariants.{Start}
use Rattle.bf_search.specs.Outcomes.{Outcomes}
use Rattle.bf_search.specs.Run.{Run, run}
use Rattle.bf_terms.specs.Texts.{Commits, Sides, hex_of}
use Rattle.bf_log.specs.LogState.{LogState, started, closed, told_by}
use Rattle.bf_reading.specs.Reading.{read_log}
use Rattle.bf_reading.specs.declared.line.LogLine.{LogLine}
use Rattle.bf_log.specs.Written.{AreReadable}
use Rattle.bf_log.specs.Replay.{Setting, replay}
use Rattle.bf_log.specs.Resolved.{FitsStart}

-- a printed start: its ends are known, and each good place stands once
pub record Begin : Type 0 where
  pub first_parent : Bool
  pub terms_given : Bool
  pub bad : ℕ
  pub goods : List ℕ

abbrev pub start_of : Begin → Entry
start_of b = Start b.first_parent b.terms_given (Some b.bad) b.goods

abbrev pub told_of : List (List ℕ) → Begin → LogState
told_of graph b = started graph b.first_parent b.terms_given (Some b.bad) b.goods

-- what a history, terms and a start keep, so that a log is read and replayed as it was meant
pub record IsReplayable {F : Type 0} (setting : Setting F) (commits : Commits) (sides : Sides) (b : Begin) : Type 0
  where
    pub readable : AreReadable commits sides
    pub fits : FitsStart sides b.terms_given
    pub named : (p : ℕ) → p < length setting.graph → slice_index_or commits.names p [] ≡ [] → ⊥
    pub placed : (p : ℕ) → p < length setting.graph → setting.place_of (hex_of commits p) ≡ Ok p
    pub bad : b.bad < length setting.graph
    pub goods : All (λ p. p < length setting.graph) b.goods

-- the text is read and replayed, and leads to this
pub record LeadsTo {F : Type 0} (setting : Setting F) (sides : Sides) (text : List ℕ) (told : LogState) : Type 0 where
  pub lines : List LogLine
  pub read : read_log text ≡ Ok lines
  pub replayed : replay setting lines ≡ Ok (record { told = told; terms = sides; terms_open = false })

-- The text leads to a state on which one ask gives that of the run; behind a leg it is that of the run.
pub record GivesBack {F : Type 0} (setting : Setting F) (sides : Sides) (text : List ℕ) (before : List Entry)
    (r : Run) : Type 0 where
  pub told : LogState
  pub leads : LeadsTo setting sides text told
  pub same : told_by before r ≡ closed setting.graph r.end told

-- The text leads to a state from which the run has these entries left and ends alike.
pub record GoesOnFrom {F : Type 0} (setting : Setting F) (sides : Sides) (text : List ℕ) (known : Outcomes) (r : Run)
    (rest : List Entry) : Type 0 where
  pub told : LogState
  pub leads : LeadsTo setting sides text told
  pub same_rest : (run setting.graph known None told.search).entries ≡ rest
  pub search : (run setting.graph known None told.search).search ≡ r.search
  pub end : (run setting.graph known None told.search).end ≡ r.end
