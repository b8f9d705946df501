-- The names of commits in the order of their digits.
use Rattle.std.specs.Prelude.{◌≡◌, ℕ, true, false, List, [], length, take, map, IsPermutation, IsSortedByKey}
use Rattle.std.specs.Char.{to_ascii_lowercase}
use Rattle.std.specs.Cmp.Lexicographic.{slice_cmp}
use Rattle.std.specs.List.{range_with_len, slice_index_or}
use Rattle.std.specs.List.Sorted.{IsPartitionPoint}
use Rattle.std.specs.Ordering.{is_lt, is_le, nat_cmp}
use Rattle.std.specs.declared.cmp.Ordering.{Ordering}
use Rattle.hex.specs.Hex.{encode_lower}
use Rattle.bf_oid.specs.declared.object.Oid.{Oid}
use Rattle.bf_names.specs.declared.order.Spelled.{Spelled}

-- a name in digits, with the place of its commit
abbrev pub spelled_as : Oid → ℕ → Spelled
spelled_as name place = record { digits = encode_lower name.0; place = place }

-- the names of all commits in digits, by place
abbrev pub spelled : List Oid → List Spelled
spelled names = map (λ place. spelled_as (slice_index_or names place (record { 0 = [] })) place) (range_with_len 0 (length names))

-- names in the order of their digits
abbrev pub Ascend : List Spelled → Type 0
Ascend order = IsSortedByKey (λ name. name.digits) (slice_cmp nat_cmp) order

-- the names of all commits, in the order of their digits
pub record IsOrderOf (names : List Oid) (order : List Spelled) : Type 0 where
  pub all : IsPermutation (spelled names) order
  pub ascend : Ascend order

-- digits in lower case
abbrev pub lowered : List ℕ → List ℕ
lowered digits = map to_ascii_lowercase digits

-- how the first digits of a name, as many as these, compare with these
abbrev pub compared : List ℕ → Spelled → Ordering
compared digits name = slice_cmp nat_cmp (take (length digits) name.digits) digits

-- so many of the first names come before these digits, and no other one does
abbrev pub ComeBefore : List ℕ → List Spelled → ℕ → Type 0
ComeBefore digits names count =
    IsPartitionPoint (λ name. is_lt (compared digits name) ≡ true) (λ name. is_lt (compared digits name) ≡ false) names count

-- so many of the first names come before these digits or begin with them, and no other one does
abbrev pub ComeBeforeOrBegin : List ℕ → List Spelled → ℕ → Type 0
ComeBeforeOrBegin digits names count =
    IsPartitionPoint (λ name. is_le (compared digits name) ≡ true) (λ name. is_le (compared digits name) ≡ false) names count
