use Rattle.std.proofs.Common.{sym, ◌∙◌}
use Rattle.bf_spec.proofs.Keeping.{alone_kept, alone_is}
use Rattle.bf_spec.proofs.kept.Kept.new.Goals as goal

pub invariant_of-result : goal.invariant_of-result
invariant_of-result c = alone_kept _ _ _ (c.in_ok-new.ensures.ok ∙ sym c.state.view_is) c.new-2.ensures.items c.state.invariant

pub returns : goal.returns
returns c = alone_is _ _ _ (c.in_ok-new.ensures.ok ∙ sym c.state.view_is) c.new-2.ensures.items ∙ c.state.view_is
