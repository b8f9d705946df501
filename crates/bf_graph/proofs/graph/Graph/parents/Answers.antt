use Rattle.std.proofs.Common.{◌≡◌, length, arith, sym, ap, ◌∙◌}
use Rattle.bf_graph.proofs.Layouts.{length-lists_from}
use Rattle.bf_graph.proofs.graph.Graph.parents.Goals as goal

pub list_at-requires-clause-place : goal.list_at-requires-clause-place
list_at-requires-clause-place c =
    let same : length c.args.self.now ≡ length c.self.inside.ends.items = ap length (sym c.self.view_is) ∙ length-lists_from 0 _ _ in
    rw c.as_slice.ensures.value (omega arith)
