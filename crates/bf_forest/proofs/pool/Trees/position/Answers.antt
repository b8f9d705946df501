use Rattle.std.proofs.Common.{◌≡◌, List, None, sym, ap, ◌∙◌, subst}
use Rattle.std.specs.Ordering.{nat_cmp}
use Rattle.std.specs.Cmp.Lexicographic.{slice_cmp}
use Rattle.std.specs.BTreeMap.{get}
use Rattle.bf_forest.specs.Files.{Files}
use Rattle.bf_forest.specs.Index.{IsIndexed}
use Rattle.bf_forest.specs.Nodes.{World, files_in, stood}
use Rattle.bf_forest.specs.Trees.{tree_name}
use Rattle.bf_forest.proofs.Indexed.{not_indexed}
use Rattle.bf_forest.proofs.pool.Trees.position.Goals as goal

pub returns-in_default : goal.returns-in_default
returns-in_default c =
    let index = c.self.inside.index in
    let trees = c.args.self.now.trees in
    let files = files_in trees (stood c.args.self.now.table c.args.numbers.now) in
    let P : List Files → Type 0 = IsIndexed index in
    let key : c.args.name.0 ≡ tree_name files = c.requires.named in
    let none : get (slice_cmp nat_cmp) index (tree_name files) ≡ None = ap (get (slice_cmp nat_cmp) index) (sym key) ∙ sym c.in_default.ensures.value in
    not_indexed index trees files (subst P (ap (λ (w : World). w.trees) c.self.view_is) c.self.invariant.1) none
