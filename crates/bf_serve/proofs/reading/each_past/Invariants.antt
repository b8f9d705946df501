use Rattle.std.proofs.Common.{◌≡◌, map, take}
use Rattle.bf_serve.specs.Begins.{index_past}
use Rattle.bf_serve.proofs.reading.each_past.Given as goal

abbrev pub invariant-loop-index : goal.invariant-loop-index
invariant-loop-index l = l.all ≡ map (index_past l.at) (take l.index-index l.indexes)
