use Rattle.std.proofs.Common.{◌≡◌, ℕ, ◌<◌}
use Rattle.std.specs.List.{slice_index_or}
use Rattle.bf_spec.specs.Nodes.{path_of}
use Rattle.bf_spec.specs.declared.node.Node.{Node}
use Rattle.bf_spec.proofs.walk.find.Given as goal

-- no node up to here has the path
abbrev pub invariant-loop-i : goal.invariant-loop-i
invariant-loop-i l = (k : ℕ) (d : Node) → k < l.i → path_of (slice_index_or l.nodes k d) ≡ l.path → ⊥
