use Rattle.std.proofs.Common.{◌≡◌, true, not, sym, ap, ◌∙◌}
use Rattle.std.proofs.lemmas.Bool.{false≢true, false_from_ne_true}
use Rattle.bf_forest.specs.Files.{is_same}
use Rattle.bf_forest.specs.Trees.{tree_name, are_same, files_at}
use Rattle.bf_forest.proofs.Ordered.{is_same-refl}
use Rattle.bf_forest.proofs.Sameness.{same_files}
use Rattle.bf_forest.proofs.pool.Trees.has_files.Goals as goal

pub returns-then-ne : goal.returns-then-ne
returns-then-ne c =
    let others = files_at c.args.self.now.trees c.args.number in
    let files = c.args.files.now in
    let name = c.as_slice.result.now in
    let differ : are_same others files ≡ true → ⊥ =
    λ same.
    let equal : name ≡ c.as_slice-2.result.now =
    c.as_slice.ensures ∙ c.name.ensures ∙ ap tree_name (same_files others files same) ∙ sym c.requires.named ∙ sym c.as_slice-2.ensures in
    false≢true (sym (ap not (ap (is_same name) (sym equal) ∙ is_same-refl name)) ∙ sym c.ne.ensures ∙ c.if-ne.true) in
    sym (false_from_ne_true (are_same others files) differ)
