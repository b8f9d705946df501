-- The sum of an answer.
use Rattle.std.specs.Prelude.{ℕ, ◌==◌, Bool, List, ◌++◌, codes}
use Rattle.std.specs.Cmp.Lexicographic.{pointwise}
use Rattle.hex.specs.Hex.{encode_lower}
use Rattle.sha2.specs.Sha256.{sha256}

-- the line of the sum of what stands below it
abbrev pub sum_line : List ℕ → List ℕ
sum_line below = codes "sum " ++ encode_lower (sha256 below) ++ codes "\n"

-- whether a line is that of the sum of what stands below it
abbrev pub is_sum : List ℕ → List ℕ → Bool
is_sum line below = pointwise ◌==◌ line (sum_line below)
