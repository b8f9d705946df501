use Rattle.std.proofs.Common.{◌≡◌, ℕ, ◌-◌, ◌<◌, ◌≤◌, true, false, length}
use Rattle.bf_forest.specs.Rests.{is_before_key}
use Rattle.bf_forest.proofs.tail.place_of.Given as goal

abbrev pub decreases-loop-low : goal.decreases-loop-low
decreases-loop-low l = l.high - l.low

abbrev pub invariant-loop-low : goal.invariant-loop-low
invariant-loop-low l = record {
  order : l.low ≤ l.high;
  within : l.high ≤ length l.numbers;
  before : (k : ℕ) → k < l.low → is_before_key l.table l.numbers l.key k ≡ true;
  behind : (k : ℕ) → l.high ≤ k → k < length l.numbers → is_before_key l.table l.numbers l.key k ≡ false;
}
