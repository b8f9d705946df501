use Rattle.std.proofs.Common.{List, Bool, length, sym, ap, ◌∙◌}
use Rattle.bf_search.proofs.CandidateLemmas.{length-candidate_row}
use Rattle.bf_state.specs.Session.{Session}
use Rattle.bf_serve.proofs.Running.{none_remaining, some_remaining}
use Rattle.bf_serve.proofs.remaining.remaining_in.Goals as goal

pub and_from-requires : goal.and_from-requires
and_from-requires c =
    ap (λ (r : List Bool). length r) c.in_ok-row-in-Some.ensures.row ∙ length-candidate_row c.args.reach.now _ _ _
    ∙ sym c.requires.skips ∙ sym (ap (λ (s : Session). length s.search.skips) c.state.view_is)

pub returns-in-None : goal.returns-in-None
returns-in-None c =
    none_remaining c.args.reach.now c.args.state.now.search (sym (ap (λ (s : Session). s.search.bad) c.state.view_is) ∙ c.in-None.is)

pub returns-in_ok-row-in-Some : goal.returns-in_ok-row-in-Some
returns-in_ok-row-in-Some c =
    some_remaining c.args.reach.now c.args.state.now.search c.in-Some.bad c.as_slice-goods.result.now c.state.inside.first_parent
    c.in_ok-row-in-Some.row c.state.inside.skips c.and_from.new.self c.count-left.result c.count-away.result c.requires.skips
    (sym (ap (λ (s : Session). s.search.bad) c.state.view_is) ∙ c.in-Some.is)
    (c.as_slice-goods.ensures ∙ ap (λ (s : Session). s.search.goods) c.state.view_is)
    (ap (λ (s : Session). s.search.first_parent) c.state.view_is)
    (ap (λ (s : Session). s.search.skips) c.state.view_is)
    c.in_ok-row-in-Some.ensures.row c.and_from.ensures c.count-left.ensures c.count-away.ensures
