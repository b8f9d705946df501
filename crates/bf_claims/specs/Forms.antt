-- The forms of what stands behind the first word of a line.
use Rattle.std.specs.Prelude.{ℕ, ◌==◌, nat_lt, nat_le, Bool, false, ◌&&◌, ◌||◌, not, if◌then◌else◌, List, length, take, drop, codes, Option, Some, None}
use Rattle.std.specs.Char.{is_ascii_alphanumeric, is_ascii_digit}
use Rattle.std.specs.List.{list_all, position, starts_with}
use Rattle.bf_reading.specs.Reading.{behind}
use Rattle.bf_cert.specs.Lines.{◌>>=◌}
use Rattle.bf_claims.specs.declared.kind.Kind.{Kind}
use Rattle.bf_claims.specs.declared.kind.Kind.TheVariants.{TermNew, TermOld, Retry, Repeat, Made}
use Rattle.bf_claims.specs.Lines.{is_blank, is_printable, number}

-- ---- words and numbers

abbrev pub is_term_letter : ℕ → Bool
is_term_letter byte = is_ascii_alphanumeric byte || (byte == 45)

-- 1 to 40 letters, digits or `-`, of which the first is no `-`
abbrev pub is_term : List ℕ → Bool
is_term text =
    nat_lt 0 (length text) && nat_le (length text) 40 && list_all is_term_letter text && not (starts_with ◌==◌ text (codes "-"))

-- 1 to 99
abbrev pub is_few : Option ℕ → Bool
is_few (Some n) = nat_le 1 n && nat_le n 99
is_few None = false

-- ---- a time in UTC, as 2026-11-30T10:00:00Z

-- what stands behind so many digits and a mark
unfoldable pub behind_digits : ℕ → List ℕ → List ℕ → Option (List ℕ)
behind_digits count mark text =
    if nat_lt (length text) count then None
    else if list_all is_ascii_digit (take count text) then behind mark (drop count text)
    else None

-- what stands behind a date
unfoldable pub behind_date : List ℕ → Option (List ℕ)
behind_date text =
    behind_digits 4 (codes "-") text >>= behind_digits 2 (codes "-") >>= behind_digits 2 (codes "T")

-- and behind a time of day
unfoldable pub behind_clock : List ℕ → Option (List ℕ)
behind_clock text =
    behind_digits 2 (codes ":") text >>= behind_digits 2 (codes ":") >>= behind_digits 2 (codes "Z")

abbrev pub is_end : Option (List ℕ) → Bool
is_end (Some rest) = length rest == 0
is_end None = false

unfoldable pub is_time : List ℕ → Bool
is_time text = is_end (behind_date text >>= behind_clock)

-- ---- tests that were counted

-- how many tests, and that no more of them were as the line says
abbrev pub is_part : ℕ → ℕ → Bool
is_part times runs = nat_lt 0 runs && nat_le times runs

-- so many of so many tests: the second number, where it may follow the first
abbrev pub tally_of : ℕ → ℕ → Option ℕ
tally_of times runs = if is_part times runs then Some runs else None

-- `N of M`
unfoldable pub tally_in : List ℕ → Option ℕ
tally_in text =
    position is_blank text
    >>= λ end. number (take end text)
    >>= λ times. behind (codes " of ") (drop end text)
    >>= number
    >>= tally_of times

-- ---- lines that name no commit

-- whether what stands behind the first word of a line of this kind has its form
unfoldable pub has_form : Kind → List ℕ → Bool
has_form TermNew text = is_term text
has_form TermOld text = is_term text
has_form Retry text = is_few (number text)
has_form Repeat text = is_few (number text)
has_form Made text = is_time text
has_form other text = list_all is_printable text
