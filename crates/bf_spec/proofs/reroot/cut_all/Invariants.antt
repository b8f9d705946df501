use Rattle.std.proofs.Common.{◌≡◌, ℕ, ◌<◌, ◌≤◌, length}
use Rattle.std.specs.List.{slice_index_or}
use Rattle.bf_spec.specs.Reroot.{IsCut}
use Rattle.bf_spec.specs.declared.node.Node.{Node}
use Rattle.bf_spec.proofs.reroot.cut_all.Given as goal

abbrev pub invariant-loop-node : goal.invariant-loop-node
invariant-loop-node l = record {
  len : length l.node-items ≡ length l.fn.nodes.items;
  done : (k : ℕ) (d : Node) → k < l.node-index → IsCut l.count (slice_index_or l.fn.nodes.items k d) (slice_index_or l.node-items k d);
  rest : (k : ℕ) (d : Node) → l.node-index ≤ k → slice_index_or l.node-items k d ≡ slice_index_or l.fn.nodes.items k d;
}
