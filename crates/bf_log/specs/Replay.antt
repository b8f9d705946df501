-- Replay of a log: a fold of its command lines. What a name resolves to is given.
use Rattle.std.specs.Prelude.{ℕ, ◌&&◌, ◌||◌, not, Bool, true, false, if◌then◌else◌, List, [], ◌∷◌, codes, Option, Some, None, is_some, Result, Ok, Err}
use Rattle.bf_search.specs.declared.outcomes.Mark.{Mark}
use Rattle.bf_search.specs.declared.outcomes.Mark.TheVariants.{Good, Bad, Skip}
use Rattle.bf_terms.specs.Words.{term_fault}
use Rattle.bf_terms.specs.declared.terms.TermFault.{TermFault}
use Rattle.bf_terms.specs.Texts.{Sides, standard_sides}
use Rattle.bf_log.specs.LogState.{LogState, started, marked_on}
use Rattle.bf_reading.specs.Reading.{is_word}
use Rattle.bf_reading.specs.declared.line.LogWord.{LogWord}
use Rattle.bf_reading.specs.declared.line.LogLine.{LogLine}
use Rattle.bf_reading.specs.declared.line.LogWord.TheVariants.{Start, MarkWord}

-- what a replay is given; F is why a text is no name
pub record Setting (F : Type 0) : Type 0 where
  pub graph : List (List ℕ)
  pub place_of : List ℕ → Result ℕ F

-- why a log leads to no state, with the number of the line
pub data ReplayFault (F : Type 0) : Type 0 where
  Name : ℕ → F → ReplayFault F
  NotStarted : ℕ → ReplayFault F
  Term : ℕ → ReplayFault F

-- what a log leads to
pub record Replayed : Type 0 where
  pub told : LogState
  pub terms : Sides
  pub terms_open : Bool

abbrev pub if_ok : {F X Y : Type 0} → Result X (ReplayFault F) → (X → Result Y (ReplayFault F))
    → Result Y (ReplayFault F)
if_ok (Err fault) go = Err fault
if_ok (Ok x) go = go x

abbrev pub named : {F : Type 0} → ℕ → Result ℕ F → Result ℕ (ReplayFault F)
named line (Ok p) = Ok p
named line (Err fault) = Err (Name line fault)

-- the places of names, in order
unfoldable pub places_of : {F : Type 0} → Setting F → ℕ → List (List ℕ) → Result (List ℕ) (ReplayFault F)
places_of setting line [] = Ok []
places_of setting line (name ∷ names) = if_ok (named line (setting.place_of name))
    (λ p. if_ok (places_of setting line names) (λ ps. Ok (p ∷ ps)))

-- ---- a start: its terms are tried first, then its names. The first name is the bad one

abbrev pub term_or : Option (List ℕ) → List ℕ → List ℕ
term_or None word = word
term_or (Some term) word = term

abbrev pub terms_of : Option (List ℕ) → Option (List ℕ) → Sides
terms_of new old = record { new = term_or new standard_sides.new; old = term_or old standard_sides.old }

abbrev pub has_none : List (List ℕ) → Bool
has_none [] = true
has_none (name ∷ names) = false

abbrev pub names_terms : Option (List ℕ) → Option (List ℕ) → Bool
names_terms new old = is_some new || is_some old

abbrev pub tried : {F : Type 0} → ℕ → Sides → Option TermFault → Result Sides (ReplayFault F)
tried line sides None = Ok sides
tried line sides (Some fault) = Err (Term line)

abbrev pub terms_tried : {F : Type 0} → ℕ → Sides → Result Sides (ReplayFault F)
terms_tried line sides = tried line sides (term_fault sides.new sides.old)

abbrev pub bad_of : List ℕ → Option ℕ
bad_of [] = None
bad_of (bad ∷ goods) = Some bad

abbrev pub goods_of : List ℕ → List ℕ
goods_of [] = []
goods_of (bad ∷ goods) = goods

-- a start with neither terms nor names leaves the terms open
abbrev pub leaves_open : Option (List ℕ) → Option (List ℕ) → List (List ℕ) → Bool
leaves_open new old revs = not (names_terms new old) && has_none revs

abbrev pub begun_at : List (List ℕ) → Sides → Bool → Option (List ℕ) → Option (List ℕ) → List (List ℕ) → List ℕ → Replayed
begun_at graph sides first_parent new old revs places = record {
  told = started graph first_parent (names_terms new old) (bad_of places) (goods_of places);
  terms = sides;
  terms_open = leaves_open new old revs;
}

abbrev pub take_start : {F : Type 0} → Setting F → ℕ → Bool → Option (List ℕ) → Option (List ℕ) → List (List ℕ)
    → Result Replayed (ReplayFault F)
take_start setting line first_parent new old revs =
    if_ok (terms_tried line (terms_of new old))
    (λ sides. if_ok (places_of setting line revs)
    (λ places. Ok (begun_at setting.graph sides first_parent new old revs places)))

-- ---- a mark: its word is tried first, then its name

-- a mark, and the terms from then on
pub record Worded : Type 0 where
  pub mark : Mark
  pub terms : Sides

abbrev pub open_sides : Sides
open_sides = record { new = codes "new"; old = codes "old" }

-- the mark that a word makes by its terms
abbrev pub mark_in : Sides → List ℕ → Option Mark
mark_in sides word =
    if is_word sides.new word then Some Bad
    else if is_word sides.old word then Some Good
    else if is_word (codes "skip") word then Some Skip
    else None

abbrev pub by_terms : Sides → Option Mark → Option Worded → Option Worded
by_terms sides (Some mark) other = Some (record { mark = mark; terms = sides })
by_terms sides None other = other

-- while the terms are open, new and old make themselves the terms
abbrev pub mark_of : Sides → Bool → List ℕ → Option Worded
mark_of sides terms_open word =
    by_terms sides (mark_in sides word) (if terms_open then by_terms open_sides (mark_in open_sides word) None else None)

-- the first good or bad mark closes the terms
abbrev pub stays_open : Bool → Mark → Bool
stays_open terms_open Skip = terms_open
stays_open terms_open Good = false
stays_open terms_open Bad = false

abbrev pub worded : {F : Type 0} → ℕ → Option Worded → Result Worded (ReplayFault F)
worded line None = Err (Term line)
worded line (Some w) = Ok w

abbrev pub take_mark : {F : Type 0} → Setting F → ℕ → Replayed → List ℕ → List ℕ → Result Replayed (ReplayFault F)
take_mark setting line before term rev =
    if_ok (worded line (mark_of before.terms before.terms_open term))
    (λ w. if_ok (named line (setting.place_of rev)) (λ p. Ok (record {
      told = marked_on setting.graph before.told w.mark p;
      terms = w.terms;
      terms_open = stays_open before.terms_open w.mark;
    })))

-- ---- lines

-- a start begins anew, and a mark goes on from what came before
abbrev pub take_line : {F : Type 0} → Setting F → Option Replayed → ℕ → LogWord → Result Replayed (ReplayFault F)
take_line setting before line (Start first_parent new old revs) = take_start setting line first_parent new old revs
take_line setting None line (MarkWord term rev) = Err (NotStarted line)
take_line setting (Some before) line (MarkWord term rev) = take_mark setting line before term rev

unfoldable pub replay_from : {F : Type 0} → Setting F → Option Replayed → List LogLine
    → Result Replayed (ReplayFault F)
replay_from setting None [] = Err (NotStarted 1)
replay_from setting (Some replayed) [] = Ok replayed
replay_from setting before (l ∷ lines) = if_ok (take_line setting before l.line l.word)
    (λ replayed. replay_from setting (Some replayed) lines)

abbrev pub replay : {F : Type 0} → Setting F → List LogLine → Result Replayed (ReplayFault F)
replay setting lines = replay_from setting None lines
