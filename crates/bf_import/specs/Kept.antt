-- How a history is kept: of each commit, by place, one name, one subject, and the number of its tree in a pool of trees.
use Rattle.std.specs.Prelude.{◌≡◌, ◌<◌, ◌≤◌, [], length, map, All}
use Rattle.bf_grammar.specs.Limits.{IsWithin}
use Rattle.bf_forest.specs.Trees.{files_at}
use Rattle.bf_history.specs.Meanings.{History}
use Rattle.bf_import.specs.Growing.{Growing}
use Rattle.bf_import.specs.declared.growth.Growth.TheInside.{Inside}

abbrev pub history_of : Inside → History
history_of g = record {
  refs = g.refs;
  parents = g.graph;
  files = map (files_at g.forest.trees) g.trees.items;
  subjects = g.subjects.items;
  names = g.names;
  directories = g.forest.trees;
  original_names = g.limits.original_names;
}

abbrev pub growing_of : Inside → Growing
growing_of g = record { history = history_of g; limits = g.limits }

-- One of each for each commit, all refs and trees are there, tree 0 is that without files, and the limits are kept.
pub record IsKept (g : Inside) : Type 0 where
  pub one_name : length g.names ≡ length g.graph
  pub one_subject : length g.subjects.items ≡ length g.graph
  pub one_tree : length g.trees.items ≡ length g.graph
  pub refs_stand : All (λ ref. ref.1 < length g.graph) g.refs
  pub trees_stand : All (λ tree. tree < length g.forest.trees) g.trees.items
  pub has_empty : 0 < length g.forest.trees
  pub empty : files_at g.forest.trees 0 ≡ []
  pub within : IsWithin g.limits
  pub entries : g.forest.limit ≡ g.limits.entries
  pub commits : length g.graph ≤ g.limits.commits
