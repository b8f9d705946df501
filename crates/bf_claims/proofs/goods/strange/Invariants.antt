use Rattle.std.proofs.Common.{◌≡◌, length, drop}
use Rattle.bf_claims.specs.Goods.{strange}
use Rattle.bf_claims.proofs.goods.strange.Given as goal

-- the places from here on are beside those that are left
abbrev pub invariant-loop-index : goal.invariant-loop-index
invariant-loop-index l = record {
  len : length l.claimed ≡ length l.fn.claimed;
  same : strange l.fn.claimed 0 l.listed ≡ strange l.claimed l.index (drop l.index l.listed);
}
