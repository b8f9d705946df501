use Rattle.std.proofs.Common.{◌≡◌, ◌+◌, ◌<◌, length, Option}
use Rattle.std.specs.List.{slice_index_or}
use Rattle.bf_search.specs.Outcomes.{outcomes_of_table}
use Rattle.bf_search.specs.OpenPaths.{OpenPath}
use Rattle.bf_spec.specs.Nodes.{AreNodes, Extends, IsFound, left_at, best_at, better_path}
use Rattle.bf_spec.specs.declared.node.Node.{Node}
use Rattle.bf_spec.proofs.Pending.{AreWithin, best_of, best_with, visits, visits_of}
use Rattle.bf_spec.proofs.walk.best_from.Given as goal

-- the best open path below the start is that of what was found, of the node and of what is pending
abbrev pub invariant-loop-pending : goal.invariant-loop-pending
invariant-loop-pending l = record {
  within : l.index < length l.nodes.items;
  pending : AreWithin l.nodes.items l.pending.items;
  nodes : AreNodes l.reach l.nodes.items;
  extends : Extends l.reach l.fn.nodes.items l.nodes.items;
  found : (d : Node) → (path : Option OpenPath) × IsFound l.nodes.items l.best path
      × (best_at l.reach (outcomes_of_table l.table) l.claims (slice_index_or l.fn.nodes.items l.start d)
      ≡ best_with l.reach (outcomes_of_table l.table) l.claims d l.nodes.items
      (better_path path (best_of l.reach (outcomes_of_table l.table) l.claims d l.nodes.items l.index)) l.pending.items);
}

abbrev pub decreases-loop-pending : goal.decreases-loop-pending
decreases-loop-pending l = visits (left_at l.reach l.nodes.items l.index) + visits_of l.reach l.nodes.items l.pending.items
