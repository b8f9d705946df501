use Rattle.std.proofs.Common.{List, ℕ, length, ap, sym, ◌∙◌}
use Rattle.bf_search.specs.Choice.{best}
use Rattle.bf_search.proofs.CandidateLemmas.{length-candidate_row}
use Rattle.bf_state.specs.Session.{Session}
use Rattle.bf_state.proofs.Asks.{best_by_row}
use Rattle.bf_state.proofs.Weighing.{length-weights, weights_within}
use Rattle.bf_state.proofs.asking.best.Goals as goal

pub choose-requires-clause-weight_each : goal.choose-requires-clause-weight_each
choose-requires-clause-weight_each c =
    ap length (c.as_slice.ensures.value ∙ c.in_ok-weights.ensures) ∙ length-weights _ _ _ ∙ sym (ap length c.requires.mask ∙ length-candidate_row _ _ _ _)

pub choose-requires-clause-skip_each : goal.choose-requires-clause-skip_each
choose-requires-clause-skip_each c =
    c.state.invariant.skips ∙ ap (λ (s : Session). s.len) c.state.view_is ∙ sym c.requires.len ∙ sym (ap length c.requires.mask ∙ length-candidate_row _ _ _ _)

pub choose-requires-clause-within : goal.choose-requires-clause-within
choose-requires-clause-within c =
    rw (c.as_slice.ensures.value ∙ c.in_ok-weights.ensures) (weights_within _ _ _ (ap length c.requires.mask ∙ length-candidate_row _ _ _ _))

pub returns : goal.returns
returns c =
    c.choose.ensures ∙ ap (λ (w : List ℕ). best c.args.mask.now w c.args.bad c.state.inside.skips) (c.as_slice.ensures.value ∙ c.in_ok-weights.ensures)
    ∙ best_by_row c.args.reach.now c.args.state.now.search c.args.bad c.args.mask.now c.state.inside.skips c.state.inside.first_parent c.requires.mask
    (ap (λ (s : Session). s.search.first_parent) c.state.view_is) (ap (λ (s : Session). s.search.skips) c.state.view_is)
