use Rattle.std.proofs.Common.{suc}
use Rattle.std.specs.Option.{option_map_or}
use Rattle.bf_reach.proofs.Chains.{ChainTo}
use Rattle.bf_reach.proofs.reach.Reach.fill_first_parent.Given as goal

abbrev pub invariant-loop-next : goal.invariant-loop-next
invariant-loop-next l = ChainTo l.self-inside.graph l.fn.place l.out l.next

abbrev pub decreases-loop-next : goal.decreases-loop-next
decreases-loop-next l = option_map_or (λ place. suc place) l.next 0
