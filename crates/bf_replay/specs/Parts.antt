-- What the lines of a log and their parts mean over a history.
use Rattle.std.specs.Prelude.{◌≡◌, ℕ, ◌<◌, Bool, List, length, ◌++◌, [], ◌∷◌, Option, Some, Result, Ok, Vec, All, IfSome}
use Rattle.bf_history.specs.Meanings.{History}
use Rattle.bf_names.specs.Names.{name}
use Rattle.bf_names.specs.Leaps.{IsIndexOf}
use Rattle.bf_names.specs.declared.fault.NameFault.{NameFault}
use Rattle.bf_reading.specs.declared.line.LogLine.{LogLine}
use Rattle.bf_search.specs.declared.entries.Entry.{Entry}
use Rattle.bf_search.specs.declared.entries.Entry.TheVariants.{Marked}
use Rattle.bf_search.specs.declared.outcomes.Mark.{Mark}
use Rattle.bf_search.specs.Run.{warnings}
use Rattle.bf_state.specs.Session.{Session}
use Rattle.bf_terms.specs.Texts.{Sides}
use Rattle.bf_log.specs.Replay as replay
use Rattle.bf_replay.specs.declared.fold.Replayed.{Replayed}
use Rattle.bf_replay.specs.declared.fold.Setting.{Setting}
use Rattle.bf_replay.specs.declared.start.Start.{Start}
use Rattle.bf_replay.specs.Meaning.{setting_of, replayed_of, replayed_before, text_of}

-- what a part of a log gives, or how it is refused
abbrev pub Given : Type 0 → Type 0
Given X = Result X (replay.ReplayFault NameFault)

-- what it gives is this value, this list, or what a log led to
abbrev pub Gives : {X : Type 0} → Given X → X → Type 0
Gives given x = given ≡ Ok x

abbrev pub GivesAll : {A : Type 0} → Given (List ℕ) → Vec ℕ A → Type 0
GivesAll given xs = given ≡ Ok xs.items

abbrev pub LeadsTo : Given replay.Replayed → Replayed → Type 0
LeadsTo given r = given ≡ Ok (replayed_of r)

-- what a log led to means this
abbrev pub Means : replay.Replayed → Replayed → Type 0
Means meaning r = replayed_of r ≡ meaning

-- a number is a place of the history, and so is each of a list
abbrev pub IsPlaceOf : History → ℕ → Type 0
IsPlaceOf history place = place < length history.parents

abbrev pub ArePlacesOf : {A : Type 0} → History → Vec ℕ A → Type 0
ArePlacesOf history places = All (IsPlaceOf history) places.items

-- the index that a setting has is of its history
abbrev pub HasIndex : Setting → Type 0
HasIndex setting = IsIndexOf setting.history.now setting.index.now

-- what the history of a setting makes of a name, and of the names of a line
abbrev pub named_in : Setting → ℕ → List ℕ → Given ℕ
named_in setting line text = replay.named line (name setting.history.now text)

abbrev pub places_in : Setting → ℕ → List (List ℕ) → Given (List ℕ)
places_in setting line names = replay.places_of (setting_of setting.history.now) line names

-- the terms of a start line
abbrev pub terms_in : ℕ → Option (List ℕ) → Option (List ℕ) → Given Sides
terms_in line new old = replay.terms_tried line (replay.terms_of new old)

-- whether a start line names a term, and whether a mark may still choose the terms behind it
abbrev pub names_terms : Start → Bool
names_terms start = replay.names_terms (text_of start.new) (text_of start.old)

abbrev pub leaves_open : Start → Bool
leaves_open start = replay.leaves_open (text_of start.new) (text_of start.old) start.revs.now

-- what a start line leads to, and what a search that begins with these terms and places does
abbrev pub start_in : Setting → ℕ → Start → Given replay.Replayed
start_in setting line start =
    replay.take_start (setting_of setting.history.now) line start.first_parent (text_of start.new)
    (text_of start.old) start.revs.now

abbrev pub begun_in : Setting → Sides → Start → List ℕ → replay.Replayed
begun_in setting terms start places =
    replay.begun_at setting.history.now.parents terms start.first_parent (text_of start.new) (text_of start.old)
    start.revs.now places

-- what a mark line leads to, and what any line does
abbrev pub mark_in : Setting → ℕ → Replayed → List ℕ → List ℕ → Given replay.Replayed
mark_in setting line before term rev =
    replay.take_mark (setting_of setting.history.now) line (replayed_of before) term rev

abbrev pub line_in : Setting → Option Replayed → LogLine → Given replay.Replayed
line_in setting before line =
    replay.take_line (setting_of setting.history.now) (replayed_before before) line.line line.word

-- the mark that a word makes in a session, if it makes one, with the terms from then on
abbrev pub word_in : Session → List ℕ → Option replay.Worded
word_in session word = replay.mark_of session.terms session.terms_open word

-- a word makes this mark in a session, which has the terms of the other one from then on
abbrev pub MakesMark : Session → List ℕ → Session → Mark → Type 0
MakesMark before word after mark = word_in before word ≡ Some (record { mark = mark; terms = after.terms })

-- the entries of a mark were added: the warnings that came with it, and then the mark
abbrev pub AddsMark : List Entry → List Entry → List ℕ → Mark → ℕ → Type 0
AddsMark before after warned mark place = after ≡ before ++ (warnings warned ++ Marked mark place ∷ [])
