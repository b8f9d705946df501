use Rattle.std.proofs.Common.{sym, ap, ◌∙◌, length}
use Rattle.bf_graph.proofs.Layouts.{length-lists_from}
use Rattle.bf_graph.proofs.graph.Graph.len.Goals as goal

pub returns-clause-len : goal.returns-clause-len
returns-clause-len c = c.len.ensures ∙ c.self.inside.ends.ok.0 ∙ sym (length-lists_from 0 _ _) ∙ ap length c.self.view_is
