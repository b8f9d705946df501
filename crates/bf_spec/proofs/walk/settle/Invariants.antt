use Rattle.std.proofs.Common.{◌≡◌, ◌<◌, ◌≤◌, length}
use Rattle.std.specs.List.{slice_index_or}
use Rattle.bf_search.specs.Outcomes.{outcomes_of_table}
use Rattle.bf_spec.specs.Nodes.{AreNodes, Extends, left_at, best_at}
use Rattle.bf_spec.specs.declared.node.Node.{Node}
use Rattle.bf_spec.proofs.walk.settle.Given as goal

-- the best open path below the node is the one below the start
abbrev pub invariant-loop-place : goal.invariant-loop-place
invariant-loop-place l = record {
  within : l.index < length l.nodes.items;
  nodes : AreNodes l.reach l.nodes.items;
  extends : Extends l.reach l.fn.nodes.items l.nodes.items;
  fewer : left_at l.reach l.nodes.items l.index ≤ left_at l.reach l.fn.nodes.items l.start;
  same : (d : Node) → best_at l.reach (outcomes_of_table l.table) l.claims (slice_index_or l.fn.nodes.items l.start d) ≡ best_at l.reach
      (outcomes_of_table l.table) l.claims (slice_index_or l.nodes.items l.index d);
}

abbrev pub decreases-loop-place : goal.decreases-loop-place
decreases-loop-place l = left_at l.reach l.nodes.items l.index
