use Rattle.std.proofs.Common.{◌≡◌, ◌^◌, ◌<◌, ◌≤◌, true, length, take}
use Rattle.std.specs.Char.{is_ascii_digit}
use Rattle.std.specs.List.{list_all}
use Rattle.bf_io.specs.Decimal.{number_after}
use Rattle.bf_io.proofs.text.decimal.Given as goal

abbrev pub invariant-loop-digit : goal.invariant-loop-digit
invariant-loop-digit l = record {
  nonempty : 0 < length l.bytes;
  short : length l.bytes ≤ 20;
  digits : list_all is_ascii_digit (take l.digit-index l.bytes) ≡ true;
  small : l.value < 2 ^ 64;
  value : l.value ≡ number_after 0 (take l.digit-index l.bytes);
}
