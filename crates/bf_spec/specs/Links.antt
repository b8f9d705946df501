-- The ways from node to node.
use Rattle.std.specs.Prelude.{ℕ, ◌<◌, IfSome, List, length, Option, Some, None}
use Rattle.std.specs.List.{slice_index_or}
use Rattle.bf_search.specs.declared.outcomes.Mark.{Mark}
use Rattle.bf_search.specs.declared.outcomes.Mark.TheVariants.{Good, Bad, Skip}
use Rattle.bf_spec.specs.declared.node.Node.{Node}
use Rattle.bf_spec.specs.declared.nodes.Links.{Links}
use Rattle.bf_spec.specs.Nodes.{Follows}

-- what contracts see of the nodes of a tree
pub record Listed : Type 0 where
  pub items : List Node

-- the number of the node that follows by a mark
abbrev pub link_by : Links → Mark → Option ℕ
link_by links Good = links.good
link_by links Bad = links.bad
link_by links Skip = links.skip

abbrev pub with_link : Links → Mark → ℕ → Links
with_link links Good child = record links { good = Some child }
with_link links Bad child = record links { bad = Some child }
with_link links Skip child = record links { skip = Some child }

abbrev pub no_links : Links
no_links = record { good = None; bad = None; skip = None; moved = 0 }

-- a mark leads from the node of a number to that of another one
abbrev pub LeadsTo : List Node → ℕ → Mark → ℕ → Type 0
LeadsTo nodes parent m child = (parent < length nodes) × Follows nodes parent m nodes child

-- each link of a node leads to a node that follows it
abbrev pub IsLinked : List Node → ℕ → Links → Type 0
IsLinked nodes parent links = (m : Mark) → IfSome (link_by links m) (LeadsTo nodes parent m)

-- each link of each node leads to a node that follows it
abbrev pub AreLinked : List Node → List Links → Type 0
AreLinked nodes links = (i : ℕ) → IsLinked nodes i (slice_index_or links i no_links)
