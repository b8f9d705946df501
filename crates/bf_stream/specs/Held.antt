-- What a window holds of a source, and where a reading through it stands.
use Rattle.std.specs.Prelude.{◌≡◌, ℕ, ◌+◌, ◌<◌, Bool, true, false, ◌||◌, nat_lt, List, [], ◌++◌, length, take, drop, count_by, Option, Some, None, IsTrue, ◌⊎◌}
use Rattle.std.specs.Option.{IfSome, option_map}
use Rattle.bf_grammar.specs.Place.{Place, is_end_of_line}
use Rattle.bf_grammar.specs.Lines.{front_line, has_end_of_line, is_passed_over, past_line}

-- the line of the first byte, the bytes that were read and not yet taken, how many more may be read from the
-- source, whether a byte behind those was seen, this byte, and whether `feature done` was read
pub record Held : Type 0 where
  pub line : ℕ
  pub bytes : List ℕ
  pub quota : ℕ
  pub past : Bool
  pub beyond : List ℕ
  pub done_due : Bool

-- nothing was read yet
abbrev pub nothing_held : ℕ → Held
nothing_held limit = record { line = 1; bytes = []; quota = limit; past = false; beyond = []; done_due = false }

-- the place where a reading stands, with these bytes left in the source
abbrev pub place_in : Held → List ℕ → Place
place_in held left = record {
  line = held.line;
  rest = held.bytes ++ take held.quota left;
  more = held.past || nat_lt held.quota (length left);
  done_due = held.done_due;
}

-- the same where the source tells what it has left
abbrev pub place_of : Held → Option (List ℕ) → Option Place
place_of held None = None
place_of held (Some left) = Some (place_in held left)

-- the bytes behind the limit on the stream: one that was seen, and those that are left behind so many
unfoldable pub past_limit : ℕ → List ℕ → List ℕ → List ℕ
past_limit quota beyond left = beyond ++ drop quota left

-- the same where the source tells what it has left
abbrev pub beyond_of : Held → Option (List ℕ) → Option (List ℕ)
beyond_of held left = option_map (past_limit held.quota held.beyond) left

-- how many bytes a reading may still take
abbrev pub remaining : Held → ℕ
remaining held = length held.bytes + held.quota

-- the bytes that are held behind the line in front, and one that was seen behind the limit
abbrev pub rest_in : Held → List ℕ
rest_in held = drop (length (front_line held.bytes) + 1) held.bytes ++ held.beyond

-- a byte behind the limit was seen only where no more may be read
abbrev pub IsSpent : Held → Type 0
IsSpent held = (held.beyond ≡ []) ⊎ (held.quota ≡ 0)

-- A line is in front, and all of it is held: with its LF, or nothing of the source comes behind it.
abbrev pub IsAll : Held → Option (List ℕ) → Type 0
IsAll held None = Unit {0}
IsAll held (Some left) = take held.quota left ≡ []

abbrev pub IsWhole : Held → Option (List ℕ) → Type 0
IsWhole held left = IsTrue (has_end_of_line held.bytes) ⊎ IsAll held left

pub record HasLine (held : Held) (left : Option (List ℕ)) : Type 0 where
  pub some : 0 < length held.bytes
  pub whole : IsWhole held left

-- the window so many bytes further on, among which are so many LFs
abbrev pub advanced : ℕ → ℕ → Held → Held
advanced n lines held = record held { line = held.line + lines; bytes = drop n held.bytes }

abbrev pub moved_held : ℕ → Held → Held
moved_held n held = advanced n (count_by is_end_of_line (take n held.bytes)) held

-- the window behind the line in front
abbrev pub past_held_line : Held → Held
past_held_line held = moved_held (length (front_line held.bytes) + 1) held

-- a line in front has this text
abbrev pub IsLineOf : Held → List ℕ → Type 0
IsLineOf held text = (left : Option (List ℕ)) → HasLine held left → IfSome (place_of held left) (λ p. text ≡ front_line p.rest)

-- a line in front was taken
abbrev pub GoesPast : Held → Held → Type 0
GoesPast old new = (left : Option (List ℕ)) → HasLine old left → place_of new left ≡ option_map past_line (place_of old left)

-- the place stays, whatever the window and its source gained and lost
abbrev pub Stays : {S : Type 0} → (S → Option (List ℕ)) → Held → S → Held → S → Type 0
Stays left old source new source_now = place_of new (left source_now) ≡ place_of old (left source)

-- the bytes behind the limit on the stream stay, where nothing was read
abbrev pub KeepsBeyond : Held → Held → Type 0
KeepsBeyond old new = (left : Option (List ℕ)) → beyond_of new left ≡ beyond_of old left

-- the same, whatever the window and its source gained and lost
abbrev pub StaysBeyond : {S : Type 0} → (S → Option (List ℕ)) → Held → S → Held → S → Type 0
StaysBeyond left old source new source_now = beyond_of new (left source_now) ≡ beyond_of old (left source)

-- the line in front is held with its LF, has this text, and is no comment
pub record IsPlain (bytes text : List ℕ) : Type 0 where
  pub line : text ≡ front_line bytes
  pub ended : has_end_of_line bytes ≡ true
  pub plain : is_passed_over false text ≡ false
