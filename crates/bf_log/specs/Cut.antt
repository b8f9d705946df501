-- Parts of the text of a log.
use Rattle.std.specs.Prelude.{◌≡◌, ℕ, Bool, true, false, nat_lt, List, [], ◌∷◌, ◌++◌, length, None}
use Rattle.bf_search.specs.declared.entries.Entry.{Entry}
use Rattle.bf_search.specs.declared.entries.Entry.TheVariants.{Marked}
use Rattle.bf_search.specs.declared.outcomes.Mark.{Mark}
use Rattle.bf_search.specs.Outcomes.{Outcomes}
use Rattle.bf_search.specs.Run.{Run, run}
use Rattle.bf_terms.specs.Texts.{Commits, Sides, Known, log_from}
use Rattle.bf_log.specs.LogState.{LogState}
use Rattle.bf_reading.specs.Reading.{Line, PassedOver, Command, NoForm, read_line}
use Rattle.bf_log.specs.Written.{known_after_all}
use Rattle.bf_log.specs.Replay.{Setting}
use Rattle.bf_log.specs.Back.{LeadsTo}

abbrev pub is_command_line : Line → Bool
is_command_line PassedOver = false
is_command_line (Command w) = true
is_command_line NoForm = true

-- whether the last line is a command line
abbrev pub ends_with_command : List (List ℕ) → Bool
ends_with_command [] = false
ends_with_command (l ∷ []) = is_command_line (read_line l)
ends_with_command (l ∷ m ∷ ls) = ends_with_command (m ∷ ls)

-- both ends are known
pub record AreKnown (known : Known) : Type 0 where
  pub bad : known.bad ≡ true
  pub goods : nat_lt 0 (length known.goods) ≡ true

-- entries up to a mark whose text this is, and those whose text is the rest
pub record CutText (commits : Commits) (sides : Sides) (known : Known) (entries : List Entry)
    (front back : List ℕ) : Type 0 where
  pub part : List Entry
  pub mark : Mark
  pub place : ℕ
  pub rest : List Entry
  pub split : entries ≡ part ++ Marked mark place ∷ rest
  pub is_front : front ≡ log_from commits sides known (part ++ Marked mark place ∷ [])
  pub is_back : back ≡ log_from commits sides (known_after_all known (part ++ Marked mark place ∷ [])) rest

-- The text leads to a state from which the run prints this rest, and ends alike.
pub record GoesOnText {F : Type 0} (setting : Setting F) (commits : Commits) (sides : Sides) (known : Outcomes)
    (text back : List ℕ) (r : Run) : Type 0 where
  pub told : LogState
  pub leads : LeadsTo setting sides text told
  pub printed : (now : Known) → AreKnown now → log_from commits sides now
      (run setting.graph known None told.search).entries ≡ back
  pub search : (run setting.graph known None told.search).search ≡ r.search
  pub end : (run setting.graph known None told.search).end ≡ r.end
