use Rattle.std.proofs.Common.{◌≡◌, ◌≤◌, List, length}
use Rattle.bf_forest.specs.Files.{Files}
use Rattle.bf_forest.specs.Nodes.{StaysIn, stood}
use Rattle.bf_forest.specs.Opened.{IsFrame, IsSettling, heft}
use Rattle.bf_forest.specs.Rests.{slots_in}
use Rattle.bf_forest.proofs.Walking.{Slots}
use Rattle.bf_forest.proofs.pool.Trees.advance.Given as goal

abbrev pub decreases-loop-key : goal.decreases-loop-key
decreases-loop-key l = length l.top.rest.changes.entries

abbrev pub invariant-loop-key : goal.invariant-loop-key
invariant-loop-key l = record {
  frame : IsFrame l.self l.top;
  settling : (trees : List Files) (slots : Slots)
      → IsSettling trees slots l.initial.self.trees (stood l.initial.self.table l.initial.top.numbers) (slots_in l.initial.self.table l.initial.top.rest)
      → IsSettling trees slots l.self.trees (stood l.self.table l.top.numbers) (slots_in l.self.table l.top.rest);
  kept : StaysIn l.initial.self l.self;
  trees : l.self.trees ≡ l.initial.self.trees;
  heft : heft (slots_in l.self.table l.top.rest) ≤ heft (slots_in l.initial.self.table l.initial.top.rest);
}
