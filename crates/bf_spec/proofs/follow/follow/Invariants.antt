use Rattle.std.proofs.Common.{◌≡◌, ◌<◌, false, length}
use Rattle.std.specs.List.{slice_index_or}
use Rattle.bf_search.specs.Outcomes.{outcomes_of_table}
use Rattle.bf_spec.specs.Nodes.{path_of, AreNodes, Extends, left_at}
use Rattle.bf_state.specs.Ends.{marks_of}
use Rattle.bf_spec.specs.Walks.{is_over, run_below, LeadsInto}
use Rattle.bf_spec.specs.declared.node.Node.{Node}
use Rattle.bf_spec.proofs.follow.follow.Given as goal

-- the run below the start leads into the one below the node, by the entries that were made so far
abbrev pub invariant-loop-place : goal.invariant-loop-place
invariant-loop-place l = record {
  within : l.index < length l.nodes.items;
  nodes : AreNodes l.reach l.nodes.items;
  extends : Extends l.reach l.fn.nodes.items l.nodes.items;
  on : is_over l.left ≡ false;
  path : (d : Node) → path_of (slice_index_or l.nodes.items l.index d) ≡ marks_of l.entries.items;
  same : (d : Node) → LeadsInto l.entries.items (run_below l.reach (outcomes_of_table l.table) l.left (slice_index_or l.nodes.items l.index d))
      (run_below l.reach (outcomes_of_table l.table) l.fn.left (slice_index_or l.fn.nodes.items l.start d));
}

abbrev pub decreases-loop-place : goal.decreases-loop-place
decreases-loop-place l = left_at l.reach l.nodes.items l.index
