use Rattle.std.proofs.Common.{sym, ap, ◌∙◌}
use Rattle.bf_forest.specs.Nodes.{files_in, stood}
use Rattle.bf_forest.proofs.Sameness.{same_name}
use Rattle.bf_forest.proofs.pool.Trees.is_at.Goals as goal

pub returns-then-number-len-clause-same : goal.returns-then-number-len-clause-same
returns-then-number-len-clause-same c =
    λ same.
    let now = c.args.self.now in
    let equal = same_name c.as_slice.result.now c.as_slice-then-number-len.result.now (sym c.eq.ensures ∙ same) in
    sym c.node.ensures.files ∙ ap (λ v. files_in now.trees (stood now.table v)) (sym c.as_slice.ensures ∙ equal ∙ c.as_slice-then-number-len.ensures)
