-- Decimal numbers as text.
use Rattle.std.specs.Prelude.{ℕ, ◌+◌, ◌-◌, ◌*◌, ◌^◌, nat_lt, nat_le, Bool, ◌&&◌, if◌then◌else◌, List, [], ◌∷◌, length, Option, Some, None}
use Rattle.std.specs.Char.{is_ascii_digit}
use Rattle.std.specs.List.{list_all}

-- the number that decimal digits write behind digits that write n
abbrev pub number_after : ℕ → List ℕ → ℕ
number_after n [] = n
number_after n (digit ∷ digits) = number_after (n * 10 + (digit - 48)) digits

-- 1 to 20 decimal digits; the first may be zeros
abbrev pub is_decimal : List ℕ → Bool
is_decimal text = nat_le 1 (length text) && nat_le (length text) 20 && list_all is_ascii_digit text

-- the number that 1 to 20 decimal digits write, where it is below 2 ^ 64; any other text has none
unfoldable pub decimal_value : List ℕ → Option ℕ
decimal_value text =
    if is_decimal text && nat_lt (number_after 0 text) (2 ^ 64) then Some (number_after 0 text) else None
