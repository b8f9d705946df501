-- The parts of a line that stands before the certificate.
use Rattle.std.specs.Prelude.{◌≡◌, ℕ, ◌+◌, ◌-◌, ◌==◌, nat_lt, nat_le, Bool, ◌&&◌, if◌then◌else◌, List, length, take, drop, codes, Option, Some, None, option_and_then}
use Rattle.std.specs.Borrow.{Bor}
use Rattle.std.specs.List.{position, starts_with}
use Rattle.bf_reading.specs.Reading.{behind}
use Rattle.bf_io.specs.Decimal.{decimal_value}
use Rattle.bf_claims.specs.declared.kind.Kind.{Kind}
use Rattle.bf_claims.specs.Kinds.{kind_named, is_text}

-- what a line says, without its LF
unfoldable pub without_end : List ℕ → Option (List ℕ)
without_end line =
    if is_text (drop (length line - 1) line) (codes "\n") then Some (take (length line - 1) line) else None

abbrev pub is_blank : ℕ → Bool
is_blank byte = byte == 32

-- the kind of a line whose first word has this many letters, and what stands behind it
abbrev pub split_at : List ℕ → ℕ → Option (Kind × List ℕ)
split_at text end = option_and_then (λ kind. Some (kind, drop (end + 1) text)) (kind_named (take end text))

-- the kind of a line, and what stands behind its first word
unfoldable pub kind_in : List ℕ → Option (Kind × List ℕ)
kind_in text = option_and_then (split_at text) (position is_blank text)

-- a call found a kind and what stands behind it, as the definition has them
abbrev pub IsSplit : Option (Kind × List ℕ) → Option (Kind × Bor (List ℕ)) → Type 0
IsSplit found None = found ≡ None
IsSplit found (Some split) = found ≡ Some (split.0, split.1.now)

abbrev pub is_printable : ℕ → Bool
is_printable byte = nat_le 32 byte && nat_le byte 126

-- whether a zero stands before other digits
abbrev pub is_padded : List ℕ → Bool
is_padded text = starts_with ◌==◌ text (codes "0") && nat_lt 1 (length text)

-- the number that a text writes, without zeros before it
unfoldable pub number : List ℕ → Option ℕ
number text = if is_padded text then None else decimal_value text

-- the status behind a name
unfoldable pub status_in : List ℕ → Option ℕ
status_in text = option_and_then number (behind (codes " ") text)
