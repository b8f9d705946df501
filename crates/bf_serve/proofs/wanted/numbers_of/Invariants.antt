use Rattle.std.proofs.Common.{◌≡◌, ◌+◌, ℕ, map, take}
use Rattle.bf_serve.proofs.wanted.numbers_of.Given as goal

abbrev pub invariant-loop-search : goal.invariant-loop-search
invariant-loop-search l = l.numbers ≡ map (λ (search : ℕ). search + 1) (take l.search-index l.searches)
