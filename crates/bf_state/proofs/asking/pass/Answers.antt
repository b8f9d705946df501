use Rattle.std.proofs.Common.{List, ℕ, [], ap, sym, ◌∙◌}
use Rattle.std.proofs.lemmas.Bool.{both_ways}
use Rattle.bf_search.specs.declared.asks.Ask.{Ask}
use Rattle.bf_search.specs.Bases.{check}
use Rattle.bf_state.specs.Session.{Session}
use Rattle.bf_state.proofs.Asks.{decision_same, decide_wait_both, decide_wait_bad, decide_wait_good}
use Rattle.bf_state.proofs.Passing.{stopped_without_bad, stopped_without_good, passes_checked, passes_by_check}
use Rattle.bf_state.proofs.asking.pass.Goals as goal
use Rattle.bf_state.proofs.asking.pass.Goals.{then-is_empty, else-is_empty}

pub returns-in_default-clause-passes : goal.returns-in_default-clause-passes
returns-in_default-clause-passes c =
    let bad = sym (ap (λ (x : Session). x.search.bad) c.state.view_is) ∙ c.in_default.is in
    let goods = ap (λ (x : Session). x.search.goods) c.state.view_is in
    let same = ap (λ (x : Session). x.search.checked) (λ i. c.args.state.now) in
    stopped_without_bad _ _ _ bad
    (elim c.if-is_empty.branch [
      | then-is_empty w ↦ decision_same same (c.step_of.ensures ∙ ap (λ (a : Ask). record { warned = []; ask = a }) w.ask-is)
          (decide_wait_both _ _ bad (sym goods ∙ c.is_empty.ensures.0 w.if-is_empty.true))
      | else-is_empty w ↦ decision_same same (c.step_of.ensures ∙ ap (λ (a : Ask). record { warned = []; ask = a }) w.ask-is)
          (decide_wait_bad _ _ bad (λ e. both_ways _ w.if-is_empty.false (c.is_empty.ensures.1 (goods ∙ e))))
    ])

pub returns-then-is_empty-2-clause-passes : goal.returns-then-is_empty-2-clause-passes
returns-then-is_empty-2-clause-passes c =
    let bad = sym (ap (λ (x : Session). x.search.bad) c.state.view_is) ∙ c.in-Some.is in
    let goods = ap (λ (x : Session). x.search.goods) c.state.view_is in
    let same = ap (λ (x : Session). x.search.checked) (λ i. c.args.state.now) in
    let none = sym goods ∙ c.is_empty-2.ensures.0 c.if-is_empty-2.true in
    stopped_without_good _ _ _ none (decision_same same c.step_of-then-is_empty-2.ensures (decide_wait_good _ _ _ bad none))

pub passage_of-requires-clause-goods : goal.passage_of-requires-clause-goods
passage_of-requires-clause-goods c = λ e. both_ways _ c.if-is_empty-2.false (c.is_empty-2.ensures.1 (ap (λ (x : Session). x.search.goods) c.state.view_is ∙ e))

pub returns-then-state-clause-passes : goal.returns-then-state-clause-passes
returns-then-state-clause-passes c =
    let bad = sym (ap (λ (x : Session). x.search.bad) c.state.view_is) ∙ c.in-Some.is in
    let goods = ap (λ (x : Session). x.search.goods) c.state.view_is in
    passes_checked _ _ _ _ bad (λ e. both_ways _ c.if-is_empty-2.false (c.is_empty-2.ensures.1 (goods ∙ e)))
    (sym (ap (λ (x : Session). x.search.checked) c.state.view_is) ∙ c.if-state.true) c.new.ensures

pub returns-clause-passes : goal.returns-clause-passes
returns-clause-passes c =
    let bad = sym (ap (λ (x : Session). x.search.bad) c.state.view_is) ∙ c.in-Some.is in
    let goods = ap (λ (x : Session). x.search.goods) c.state.view_is in
    let answer = c.in_ok-answer.ensures ∙ ap (λ (gs : List ℕ). check c.args.reach.now c.in-Some.bad gs c.state.inside.skips) c.as_slice.ensures
    ∙ ap (λ (x : Session). check c.args.reach.now c.in-Some.bad x.search.goods x.search.skips) c.state.view_is in
    passes_by_check c.args.reach.now c.args.state.now.search c.in-Some.bad c.in_ok-answer.answer c.passage_of.result bad
    (λ e. both_ways _ c.if-is_empty-2.false (c.is_empty-2.ensures.1 (goods ∙ e)))
    (sym (ap (λ (x : Session). x.search.checked) c.state.view_is) ∙ c.if-state.false) answer (c.passage_of.ensures c.args.reach.now)
