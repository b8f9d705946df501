use Rattle.std.proofs.Common.{◌≡◌, ◌∷◌, take}
use Rattle.std.specs.List.{flat_map}
use Rattle.bf_paths.specs.Quoting.{spelled}
use Rattle.bf_paths.proofs.spelling.quote.Given as goal

abbrev pub invariant-loop-byte : goal.invariant-loop-byte
invariant-loop-byte l = l.text ≡ 34 ∷ flat_map spelled (take l.byte-index l.byte-items)
