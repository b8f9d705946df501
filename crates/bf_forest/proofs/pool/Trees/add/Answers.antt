use Rattle.std.proofs.Common.{◌≡◌, ℕ, List, Option, IsSome, refl, subst, ◌++◌, ◌∷◌, [], true, false, length, take, sym, ap, ◌∙◌, length-append, arith}
use Rattle.std.specs.List.{list_any}
use Rattle.std.specs.Ordering.{nat_cmp}
use Rattle.std.specs.Cmp.Lexicographic.{slice_cmp}
use Rattle.std.specs.BTreeMap.{get}
use Rattle.bf_forest.specs.declared.nodes.Entry.{Entry}
use Rattle.bf_forest.specs.declared.pool.KeptTree.{KeptTree}
use Rattle.bf_forest.specs.Files.{Files}
use Rattle.bf_forest.specs.Index.{IsIndexed}
use Rattle.bf_forest.specs.Nodes.{World, Node, AreNodes, nodes_of, stood, files_in, trees_from, directory_files, IsPosition, are_within, are_kept_within}
use Rattle.bf_forest.specs.Trees.{entries_of, tree_name, are_same, files_at}
use Rattle.bf_forest.proofs.Added.{node_in, pushed, count_kept}
use Rattle.bf_forest.proofs.Indexed.{IsIndexed-insert, IsIndexed-push}
use Rattle.bf_forest.proofs.Joining.{entries_of-push, with_tree-new, at_push, take_front}
use Rattle.bf_forest.proofs.Pooled.{count_names, position_there, nodes_pushed}
use Rattle.bf_forest.proofs.Tabled.{length-stood, kept_within_push}
use Rattle.bf_forest.proofs.pool.Trees.add.Goals as goal

pub returns-in-Some-clause-ok : goal.returns-in-Some-clause-ok
returns-in-Some-clause-ok c =
    let trees = c.args.self.now.trees in
    position_there trees (files_in trees (stood c.args.self.now.table c.args.numbers)) c.in_ok-number.field-0 c.in-Some.number c.in-Some.is
    c.in_ok-number.ensures

pub invariant_of-self-2 : goal.invariant_of-self-2
invariant_of-self-2 c =
    let table = c.self.inside.table in
    let kept = c.self.inside.nodes.items in
    let nodes = nodes_of table kept in
    let now = c.args.self.now in
    let trees = now.trees in
    let numbers = c.args.numbers in
    let entries = stood now.table numbers in
    let files = files_in trees entries in
    let next = c.push.new.self.items in
    let tree : KeptTree = record { numbers = numbers; name = c.in_ok-name.name } in
    let node : Node = node_in now numbers c.in_ok-name.name in
    let same : table ≡ now.table = ap (λ (w : World). w.table) c.self.view_is in
    let view : trees_from [] nodes ≡ trees = ap (λ (w : World). w.trees) c.self.view_is in
    let more = pushed table kept next now numbers c.in_ok-name.name c.self.view_is c.in_ok-push.ensures.items in
    let list : trees_from [] (nodes_of table next) ≡ trees ++ files ∷ [] = more.trees_are in
    let total = rw c.in_ok-total.ensures.ok_part at c.checked_add.ensures in
    let old = c.self.invariant.0 ∙ ap entries_of view in
    let all = ap entries_of list ∙ entries_of-push trees files in
    let count = ap length c.as_slice-count.ensures in
    let size : length entries ≡ length numbers = length-stood now.table numbers in
    let sum : c.in_ok-total.total ≡ entries_of (trees_from [] (nodes_of table next)) = omega
    (arith, all, total.1, old, count, size, count_names trees entries c.requires.node) in
    let index = c.insert.new.self in
    let key : tree_name files ≡ c.in_ok-name.name.0 = sym c.in_ok-name.ensures in
    let Holds : List ℕ → Type 0 = λ k. IsSome (get (slice_cmp nat_cmp) index k) in
    let Present : Option ℕ → Type 0 = λ o. IsSome o in
    let here : IsSome (get (slice_cmp nat_cmp) index c.in_ok-name.name.0) = subst Present (sym c.in_ok-insert.ensures.updates.1) refl in
    let Indexed : List Files → Type 0 = IsIndexed c.self.inside.index in
    let still = IsIndexed-insert c.self.inside.index index trees c.in_ok-name.name.0 c.len-number.result c.in_ok-insert.ensures.updates
    (subst Indexed view c.self.invariant.1) in
    let P : List Files → Type 0 = IsIndexed index in
    let Q : List KeptTree → Type 0 = λ v. are_kept_within (length table) v ≡ true in
    let R : List Entry → Type 0 = λ v. are_within (length v) numbers ≡ true in (
      sum,
      subst P (sym list) (IsIndexed-push index trees files still (subst Holds (sym key) here)),
      nodes_pushed nodes (nodes_of table next) trees node more.nodes view c.self.invariant.2 c.requires.node c.in_ok-name.ensures,
      subst Q (sym c.in_ok-push.ensures.items) (kept_within_push (length table) kept tree c.self.invariant.3 (subst R (sym same) c.requires.within)),
    )

-- where there is no memory for the tree, the index has one name more than there are trees
pub invariant_of-self-in_err-push : goal.invariant_of-self-in_err-push
invariant_of-self-in_err-push c =
    let table = c.self.inside.table in
    let index = c.insert.new.self in
    let trees = trees_from [] (nodes_of table c.self.inside.nodes.items) in
    let still = IsIndexed-insert c.self.inside.index index trees c.in_ok-name.name.0 c.len-number.result c.in_ok-insert.ensures.updates c.self.invariant.1 in
    let P : List KeptTree → Type 0 = λ v. (c.self.inside.entries ≡ entries_of (trees_from [] (nodes_of table v))) × IsIndexed index
    (trees_from [] (nodes_of table v))
    × AreNodes [] (nodes_of table v) × (are_kept_within (length table) v ≡ true) in
    subst P (sym c.in_err-push.ensures.items) (c.self.invariant.0, still, c.self.invariant.2, c.self.invariant.3)

pub returns-clause-ok : goal.returns-clause-ok
returns-clause-ok c =
    let trees = c.args.self.now.trees in
    let files = directory_files c.args.self.now c.args.numbers in
    let more = pushed c.self.inside.table c.self.inside.nodes.items c.push.new.self.items c.args.self.now c.args.numbers c.in_ok-name.name c.self.view_is
    c.in_ok-push.ensures.items in
    let P : Option ℕ → Type 0 = λ v. IsPosition trees files v in
    let none : list_any (λ tree. are_same tree files) trees ≡ false = subst P c.in_default.is c.in_ok-number.ensures in
    more.trees_are ∙ sym (with_tree-new trees files none)

pub returns-clause-number : goal.returns-clause-number
returns-clause-number c =
    let trees = c.args.self.now.trees in
    let files = directory_files c.args.self.now c.args.numbers in
    let more = pushed c.self.inside.table c.self.inside.nodes.items c.push.new.self.items c.args.self.now c.args.numbers c.in_ok-name.name c.self.view_is
    c.in_ok-push.ensures.items in
    let count = count_kept c.self.inside.table c.self.inside.nodes.items c.args.self.now c.self.view_is in
    omega (arith, ap length more.trees_are, length-append trees (files ∷ []), count, c.len-number.ensures, c.self.inside.nodes.ok.0)

pub returns-clause-files : goal.returns-clause-files
returns-clause-files c =
    let trees = c.args.self.now.trees in
    let files = directory_files c.args.self.now c.args.numbers in
    let more = pushed c.self.inside.table c.self.inside.nodes.items c.push.new.self.items c.args.self.now c.args.numbers c.in_ok-name.name c.self.view_is
    c.in_ok-push.ensures.items in
    let count = count_kept c.self.inside.table c.self.inside.nodes.items c.args.self.now c.self.view_is in
    let place : c.len-number.result ≡ length trees = omega (arith, count, c.len-number.ensures, c.self.inside.nodes.ok.0) in
    ap (λ v. files_at v c.len-number.result) more.trees_are ∙ ap (files_at (trees ++ files ∷ [])) place ∙ at_push trees files

pub returns-clause-kept : goal.returns-clause-kept
returns-clause-kept c =
    let trees = c.args.self.now.trees in
    let files = directory_files c.args.self.now c.args.numbers in
    let more = pushed c.self.inside.table c.self.inside.nodes.items c.push.new.self.items c.args.self.now c.args.numbers c.in_ok-name.name c.self.view_is
    c.in_ok-push.ensures.items in
    ap (take (length trees)) more.trees_are ∙ take_front trees (files ∷ [])

pub returns-clause-table : goal.returns-clause-table
returns-clause-table c = ap (λ (w : World). w.table) c.self.view_is
