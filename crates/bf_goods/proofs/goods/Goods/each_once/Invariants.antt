use Rattle.std.proofs.Common.{◌≡◌, [], drop}
use Rattle.bf_terms.specs.Texts.{with_goods}
use Rattle.bf_goods.proofs.goods.Goods.each_once.Given as goal

abbrev pub invariant-loop-place : goal.invariant-loop-place
invariant-loop-place l = with_goods l.goods (drop l.place-index l.places) ≡ with_goods [] l.places
