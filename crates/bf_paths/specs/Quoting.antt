-- Paths as they are written, plain or between quotes (git-fast-import(1), `filemodify`).
use Rattle.std.specs.Prelude.{ℕ, zero, suc, ◌<◌, ◌≤◌, ◌+◌, ◌-◌, ◌*◌, ◌/◌, ◌%◌, Bool, ◌==◌, ◌&&◌, ◌||◌, nat_lt, nat_le, List, [], ◌∷◌, ◌++◌, length, Option, Some, None, option_and_then, if◌then◌else◌}
use Rattle.std.specs.List.{flat_map}
use Rattle.std.specs.Option.{option_map}
use Rattle.bf_paths.specs.declared.spelling.Piece.{Piece}
use Rattle.bf_paths.specs.declared.spelling.Piece.TheVariants.{Byte, Closed, Bad}
use Rattle.bf_paths.specs.Components.{path_text, path_of}

-- ---- reading

-- the byte that a letter behind a backslash stands for: \a \b \t \n \v \f \r \" \\
unfoldable pub letter_value : ℕ → Option ℕ
letter_value letter =
    if letter == 97 then Some 7
    else if letter == 98 then Some 8
    else if letter == 116 then Some 9
    else if letter == 110 then Some 10
    else if letter == 118 then Some 11
    else if letter == 102 then Some 12
    else if letter == 114 then Some 13
    else if letter == 34 then Some 34
    else if letter == 92 then Some 92
    else None

abbrev pub is_octal : ℕ → Bool
is_octal digit = nat_le 48 digit && nat_le digit 55

abbrev pub octal_number : ℕ → ℕ → ℕ → ℕ
octal_number a b c = (a - 48) * 64 + (b - 48) * 8 + (c - 48)

-- a backslash and three octal digits of value at most 255
unfoldable pub octal_piece : List ℕ → Piece
octal_piece (a ∷ b ∷ c ∷ rest) =
    if is_octal a && is_octal b && is_octal c && nat_le (octal_number a b c) 255 then Byte (octal_number a b c) 4 else Bad
octal_piece text = Bad

-- what a backslash and the text behind it spell
abbrev pub letter_piece : Option ℕ → List ℕ → Piece
letter_piece (Some value) text = Byte value 2
letter_piece None text = octal_piece text

unfoldable pub escape_piece : List ℕ → Piece
escape_piece [] = Bad
escape_piece (letter ∷ text) = letter_piece (letter_value letter) (letter ∷ text)

-- What stands in front between quotes: a byte, in so many bytes of the text, or the quote that ends it. A
-- quote ends the text, and LF has no place in it.
unfoldable pub piece_of : List ℕ → Piece
piece_of [] = Bad
piece_of (byte ∷ text) =
    if byte == 34 then (if length text == 0 then Closed else Bad)
    else if byte == 92 then escape_piece text
    else if byte == 10 then Bad
    else Byte byte 1

-- a piece, and what the text behind it spells
abbrev pub behind_piece : Piece → (ℕ → Option (List ℕ)) → Option (List ℕ)
behind_piece (Byte value count) behind = option_map (λ bytes. value ∷ bytes) (behind (count - 1))
behind_piece Closed behind = Some []
behind_piece Bad behind = None

-- The bytes that a text spells behind its first quote, where the first of its bytes, as many as `passed`, belong
-- to an escape that was read.
abbrev pub unquoted : List ℕ → ℕ → Option (List ℕ)
unquoted [] passed = None
unquoted (byte ∷ text) (suc passed) = unquoted text passed
unquoted (byte ∷ text) zero = behind_piece (piece_of (byte ∷ text)) (unquoted text)

-- the bytes of a path that a text spells, between quotes or as they are
abbrev pub plain : List ℕ → Option (List ℕ)
plain [] = Some []
plain (byte ∷ text) = if byte == 34 then unquoted text 0 else Some (byte ∷ text)

-- the path that a text writes; a text that is no path has none
unfoldable pub path_value : List ℕ → Option (List (List ℕ))
path_value text = option_and_then path_of (plain text)

-- ---- writing

-- the letter that stands for a byte behind a backslash
unfoldable pub letter_of : ℕ → Option ℕ
letter_of byte =
    if byte == 7 then Some 97
    else if byte == 8 then Some 98
    else if byte == 9 then Some 116
    else if byte == 10 then Some 110
    else if byte == 11 then Some 118
    else if byte == 12 then Some 102
    else if byte == 13 then Some 114
    else if byte == 34 then Some 34
    else if byte == 92 then Some 92
    else None

abbrev pub octal_digits : ℕ → List ℕ
octal_digits byte = (48 + byte / 64) ∷ (48 + byte / 8 % 8) ∷ (48 + byte % 8) ∷ []

-- a byte without a letter is written as it is, or in octal below 32 and from 127 on
abbrev pub spelled_by : Option ℕ → ℕ → List ℕ
spelled_by (Some letter) byte = 92 ∷ letter ∷ []
spelled_by None byte = if nat_lt byte 32 || nat_le 127 byte then 92 ∷ octal_digits byte else byte ∷ []

unfoldable pub spelled : ℕ → List ℕ
spelled byte = spelled_by (letter_of byte) byte

-- the quoted text of a path
unfoldable pub quoted : List (List ℕ) → List ℕ
quoted path = 34 ∷ flat_map spelled (path_text path) ++ 34 ∷ []

-- a byte takes some of the bytes of the text
abbrev pub PieceWithin : ℕ → Piece → Type 0
PieceWithin most (Byte value count) = (0 < count) × (count ≤ most)
PieceWithin most Closed = Unit {0}
PieceWithin most Bad = Unit {0}
