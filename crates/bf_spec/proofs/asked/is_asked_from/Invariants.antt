use Rattle.std.proofs.Common.{◌<◌, length}
use Rattle.std.specs.List.{slice_index_or}
use Rattle.bf_search.specs.Outcomes.{outcomes_of_table}
use Rattle.bf_spec.specs.Nodes.{AreNodes, Extends, left_at}
use Rattle.bf_spec.specs.Ways.{IsAsked}
use Rattle.bf_spec.specs.declared.node.Node.{Node}
use Rattle.bf_spec.proofs.asked.is_asked_from.Given as goal

-- a path from the start asks for the place exactly where one from the node does
abbrev pub invariant-loop-asked : goal.invariant-loop-asked
invariant-loop-asked l = record {
  within : l.index < length l.nodes.items;
  nodes : AreNodes l.reach l.nodes.items;
  extends : Extends l.reach l.fn.nodes.items l.nodes.items;
  to : (d : Node) → IsAsked l.reach (outcomes_of_table l.table) (slice_index_or l.fn.nodes.items l.start d).state.search l.place
      → IsAsked l.reach (outcomes_of_table l.table) (slice_index_or l.nodes.items l.index d).state.search l.place;
  from : (d : Node) → IsAsked l.reach (outcomes_of_table l.table) (slice_index_or l.nodes.items l.index d).state.search l.place
      → IsAsked l.reach (outcomes_of_table l.table) (slice_index_or l.fn.nodes.items l.start d).state.search l.place;
}

abbrev pub decreases-loop-asked : goal.decreases-loop-asked
decreases-loop-asked l = left_at l.reach l.nodes.items l.index
