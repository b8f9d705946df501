use Rattle.std.proofs.Common.{sym, ◌∙◌}
use Rattle.bf_graph.proofs.Layouts.{lists_from-at, EndsRise-at}
use Rattle.bf_graph.proofs.graph.list_at.Goals as goal

pub between-requires : goal.between-requires
between-requires c = rw c.start_of.ensures (let h = EndsRise-at 0 _ _ _ c.requires.rise c.requires.place in record { order = h.0; within = h.1 })

pub returns : goal.returns
returns c = c.between.ensures ∙ rw c.start_of.ensures (sym (lists_from-at 0 _ _ _ c.requires.place))
