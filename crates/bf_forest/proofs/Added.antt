-- One more tree, or one more entry, in a pool.
use Rattle.std.proofs.Common.{◌≡◌, ℕ, ◌<◌, true, List, [], ◌∷◌, ◌++◌, length, take, Option, Some, sym, ap, ◌∙◌, subst, arith}
use Rattle.std.specs.BTreeMap.{BTreeMap}
use Rattle.std.proofs.lemmas.Bool.{ltb-true}
use Rattle.bf_oid.specs.declared.object.Oid.{Oid}
use Rattle.bf_forest.specs.declared.nodes.Entry.{Entry}
use Rattle.bf_forest.specs.declared.pool.KeptTree.{KeptTree}
use Rattle.bf_forest.specs.Files.{Files}
use Rattle.bf_forest.specs.Index.{IsIndexed}
use Rattle.bf_forest.specs.Nodes.{World, Node, AreNodes, StaysIn, nodes_of, kept_trees, world_of, trees_from, stood, files_in, are_kept_within, HaveJoined}
use Rattle.bf_forest.specs.Slots.{base_files, base_directories, is_base}
use Rattle.bf_forest.specs.Trees.{entries_of}
use Rattle.bf_forest.proofs.Joining.{kept_refl}
use Rattle.bf_forest.proofs.Pooled.{length-trees, trees_pushed, closed_in, joined_base}
use Rattle.bf_forest.proofs.Settling.{kept_length}
use Rattle.bf_forest.proofs.Tabled.{length-nodes, nodes-push, nodes_kept, kept_within_more}

-- ---- a tree more

-- the tree with a name of these entries
abbrev pub node_in : World → List ℕ → Oid → Node
node_in world numbers name = record { entries = stood world.table numbers; name = name }

-- the trees with one more
pub record IsPushed (table : List Entry) (kept next : List KeptTree) (trees : List Files) (node : Node) : Type 0 where
  pub nodes : nodes_of table next ≡ nodes_of table kept ++ node ∷ []
  pub trees_are : kept_trees table next ≡ trees ++ files_in trees node.entries ∷ []

pub pushed : (table : List Entry) (kept next : List KeptTree) (world : World) (numbers : List ℕ) (name : Oid) → world_of table kept ≡ world
    → next ≡ kept ++ record { numbers = numbers; name = name } ∷ [] → IsPushed table kept next world.trees (node_in world numbers name)
pushed table kept next world numbers name view is =
    let tree : KeptTree = record { numbers = numbers; name = name } in
    let before = nodes_of table kept in
    let nodes : nodes_of table next ≡ before ++ node_in world numbers name ∷ [] =
    ap (nodes_of table) is ∙ nodes-push table kept tree
    ∙ ap {A = List Entry} {B = List Node} (λ v. before ++ record { entries = stood v numbers; name = name } ∷ []) (ap (λ (w : World). w.table) view) in
    record {
      nodes = nodes;
      trees_are = trees_pushed before (nodes_of table next) world.trees (node_in world numbers name) nodes (ap (λ (w : World). w.trees) view);
    }

pub count_kept : (table : List Entry) (kept : List KeptTree) (world : World) → world_of table kept ≡ world → length kept ≡ length world.trees
count_kept table kept world view =
    let all : length (kept_trees table kept) ≡ length world.trees = ap (λ (w : World). length w.trees) view in
    omega (arith, length-trees [] (nodes_of table kept), length-nodes table kept, all)

-- ---- an entry more

-- what a pool keeps true of its trees
abbrev pub IsPool : ℕ → BTreeMap (List ℕ) ℕ → List Entry → List KeptTree → Type 0
IsPool entries index table kept =
    (entries ≡ entries_of (kept_trees table kept)) × IsIndexed index (kept_trees table kept) × AreNodes [] (nodes_of table kept)
    × (are_kept_within (length table) kept ≡ true)

pub pool_grown : (entries : ℕ) (index : BTreeMap (List ℕ) ℕ) (old new : List Entry) (kept : List KeptTree) → take (length old) new ≡ old
    → IsPool entries index old kept → IsPool entries index new kept
pool_grown entries index old new kept grown h =
    let P : List Node → Type 0 = λ v. (entries ≡ entries_of (trees_from [] v)) × IsIndexed index (trees_from [] v) × AreNodes [] v in
    let all = subst P (sym (nodes_kept old new kept grown h.3)) (h.0, h.1, h.2) in
    (all.0, all.1, all.2, kept_within_more (length old) (length new) kept (kept_length old new grown) h.3)

-- the table has grown, and the trees are the same
pub record IsGrown (new : List Entry) (kept : List KeptTree) (world : World) : Type 0 where
  pub table_is : take (length world.table) new ≡ world.table
  pub trees_are : kept_trees new kept ≡ world.trees
  pub stays : StaysIn world (world_of new kept)

pub grown_in : (old new : List Entry) (kept : List KeptTree) (world : World) → world_of old kept ≡ world → take (length old) new ≡ old
    → are_kept_within (length old) kept ≡ true
    → IsGrown new kept world
grown_in old new kept world view grown within =
    let P : List Entry → Type 0 = λ v. take (length v) new ≡ v in
    let table = subst P (ap (λ (w : World). w.table) view) grown in
    let trees : kept_trees new kept ≡ world.trees = ap (trees_from []) (nodes_kept old new kept grown within) ∙ ap (λ (w : World). w.trees) view in
    record { table_is = table; trees_are = trees; stays = (table, ap (take (length world.trees)) trees ∙ kept_refl world.trees) }

-- ---- a tree that is there

pub based_number : (count : ℕ) (base : Option ℕ) (number : ℕ) → base ≡ Some number → is_base count base ≡ true → number < count
based_number count base number is h = ltb-true number count (sym (ap (is_base count) is) ∙ h)

-- the trees of its directories are there
pub filled_joined : (table : List Entry) (kept : List KeptTree) (world : World) (base : Option ℕ) (number : ℕ) → world_of table kept ≡ world
    → AreNodes [] (nodes_of table kept)
    → base ≡ Some number → is_base (length world.trees) base ≡ true → HaveJoined world.trees (base_directories world.trees base)
filled_joined table kept world base number view nodes is h =
    joined_base world.trees (base_files world.trees base) number (closed_in (nodes_of table kept) world.trees nodes (ap (λ (w : World). w.trees) view))
    (based_number (length world.trees) base number is h) (ap (base_files world.trees) is)
