-- The requests of what a reader holds and its source has left: the lines that end with LF.
use Rattle.std.specs.Prelude.{◌≡◌, ℕ, ◌+◌, ◌≤◌, ◌<◌, Bool, true, false, ◌==◌, List, [], ◌∷◌, ◌++◌, length, take, drop, Option, Some, None}
use Rattle.std.specs.Prelude.{Result, Ok, Err, if◌then◌else◌}
use Rattle.std.specs.List.{list_any}
use Rattle.std.specs.Io.KnownBytes.{IsAtEnd}
use Rattle.bf_io.specs.declared.device.Failed.{Failed}
use Rattle.bf_io.specs.Told.{ReadTakes, Takes}
use Rattle.bf_lines.specs.declared.lines.Found.{Found}
use Rattle.bf_lines.specs.declared.lines.Found.TheVariants as found
use Rattle.bf_lines.specs.declared.lines.Length.{Length}
use Rattle.bf_lines.specs.declared.lines.Length.TheVariants.{Short, Long}

abbrev pub is_end : ℕ → Bool
is_end byte = byte == 10

-- no LF is among these bytes
abbrev pub HasNoEnd : List ℕ → Type 0
HasNoEnd bytes = list_any is_end bytes ≡ false

-- ---- the lines of an input

-- lines with one byte more in front: it begins the first of them, where there is one
abbrev pub begun_with : ℕ → List (List ℕ) → List (List ℕ)
begun_with byte [] = []
begun_with byte (line ∷ lines) = (byte ∷ line) ∷ lines

-- the lines of an input that end with LF, without it; what stands behind the last LF was torn, and is no line
unfoldable pub ended_lines : List ℕ → List (List ℕ)
ended_lines [] = []
ended_lines (byte ∷ bytes) = if is_end byte then [] ∷ ended_lines bytes else begun_with byte (ended_lines bytes)

-- ---- what is left

-- the bytes that are held, and then those that the source has left, where it tells them
abbrev pub told : List ℕ → Option (List ℕ) → Option (List ℕ)
told held None = None
told held (Some left) = Some (held ++ left)

-- they stay, whatever was read
abbrev pub Stays : {S : Type 0} → (S → Option (List ℕ)) → List ℕ → S → List ℕ → S → Type 0
Stays left old source new source_now = told new (left source_now) ≡ told old (left source)

-- the bytes begin with this line and its LF, and these are behind it
abbrev pub IsInFront : List ℕ → List ℕ → List ℕ → Type 0
IsInFront line all rest = HasNoEnd line × (all ≡ line ++ 10 ∷ rest)

-- what was left was torn, and nothing is left
abbrev pub IsTorn : List ℕ → List ℕ → Type 0
IsTorn all rest = HasNoEnd all × (rest ≡ [])

-- a line was read, and what is left is behind it; or what was left has no LF
abbrev pub NextIs : Option (List ℕ) → Option (List ℕ) → List ℕ → Option Length → Type 0
NextIs None now line next = now ≡ None
NextIs (Some all) None line next = ⊥
NextIs (Some all) (Some rest) line None = IsTorn all rest
NextIs (Some all) (Some rest) line (Some Short) = IsInFront line all rest
NextIs (Some all) (Some rest) line (Some Long) = (long : List ℕ) × (65535 < length long) × IsInFront long all rest

-- some bytes in front were lost, which are all of one line
abbrev pub Loses : Option (List ℕ) → Option (List ℕ) → Type 0
Loses None now = now ≡ None
Loses (Some all) None = ⊥
Loses (Some all) (Some rest) = (lost : List ℕ) × HasNoEnd lost × (all ≡ lost ++ rest)

-- ---- steps

-- what is told of a long line that was passed over, where it ended
abbrev pub long_if : Bool → Option Length
long_if true = Some Long
long_if false = None

-- the line in front was passed over with its LF, or what was left has none
abbrev pub Passes : Option (List ℕ) → Option (List ℕ) → Bool → Type 0
Passes None now ended = now ≡ None
Passes (Some all) None ended = ⊥
Passes (Some all) (Some rest) true = (line : List ℕ) × IsInFront line all rest
Passes (Some all) (Some rest) false = IsTorn all rest

-- the first LF stands here, or there is none and this is the length
pub record IsEnd (bytes : List ℕ) (end : ℕ) : Type 0 where
  pub within : end ≤ length bytes
  pub none : HasNoEnd (take end bytes)
  pub here : end < length bytes → bytes ≡ take end bytes ++ 10 ∷ drop (end + 1) bytes

-- a line of so many bytes and its LF are in front, all of which are held
pub record IsLine (held : List ℕ) (size : ℕ) : Type 0 where
  pub short : size ≤ 65535
  pub ended : size < length held
  pub end : IsEnd held size

abbrev pub IsFound : List ℕ → Option (List ℕ) → Found → Type 0
IsFound held left found.Nothing = HasNoEnd held × IsAtEnd left
IsFound held left (found.Line size) = IsLine held size
IsFound held left found.Long = (n : ℕ) × (65535 < n) × (n ≤ length held) × HasNoEnd (take n held)

-- what one more read does to what is held and left
abbrev pub Fills : List ℕ → List ℕ → Option (List ℕ) → Option (List ℕ) → Result ℕ Failed → Type 0
Fills old new left left_now (Ok n) =
    (bytes : List ℕ) × (new ≡ old ++ bytes) × (length bytes ≡ n) × Takes left left_now bytes × (n ≡ 0 → IsAtEnd left_now)
Fills old new left left_now (Err fault) = (new ≡ old) × (left_now ≡ left)

-- so many items from one place are now at another place
abbrev pub KeepsPart : ℕ → ℕ → List ℕ → ℕ → List ℕ → Type 0
KeepsPart size start items at moved = take size (drop at moved) ≡ take size (drop start items)

-- a read put bytes behind this place of the items
abbrev pub ReadsBehind : ℕ → Option (List ℕ) → Option (List ℕ) → Result ℕ Failed → List ℕ → Type 0
ReadsBehind at left left_now result items = ReadTakes left left_now result (drop at items)
