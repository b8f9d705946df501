use Rattle.std.proofs.Common.{◌≡◌, ◌+◌, true, length, ◌++◌}
use Rattle.std.specs.List.{list_all}
use Rattle.bf_paths.specs.Components.{is_component}
use Rattle.bf_forest.specs.Nodes.{files_in, stood, are_within}
use Rattle.bf_forest.proofs.Leveled.{lefts, IsLevel, AreLevels, length_of, lengths_of}
use Rattle.bf_forest.proofs.Tabled.{levels_of}
use Rattle.bf_forest.proofs.pool.Trees.files.Given as goal

abbrev pub decreases-loop-entry : goal.decreases-loop-entry
decreases-loop-entry l = lengths_of l.self.trees (levels_of l.self.table l.below.items) + length_of (files_in l.self.trees (stood l.self.table l.rest))

abbrev pub invariant-loop-entry : goal.invariant-loop-entry
invariant-loop-entry l = record {
  walked : l.files.items ++ lefts l.self.trees (levels_of l.self.table l.below.items) l.names.items (stood l.self.table l.rest) ≡ files_in l.self.trees
      (stood l.self.table l.fn.numbers);
  level : IsLevel l.self.trees (stood l.self.table l.rest);
  levels : AreLevels l.self.trees (levels_of l.self.table l.below.items);
  names : list_all is_component l.names.items ≡ true;
  depth : length l.below.items ≡ length l.names.items;
  within : are_within (length l.self.table) l.rest ≡ true;
  all_within : list_all (are_within (length l.self.table)) l.below.items ≡ true;
}
