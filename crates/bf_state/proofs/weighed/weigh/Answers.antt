use Rattle.std.proofs.Common.{List, ℕ, Some, ap, sym, ◌∙◌, subst}
use Rattle.bf_search.specs.State.{ask}
use Rattle.bf_state.specs.declared.asking.Passage.{Passage}
use Rattle.bf_state.specs.Steps.{IsPassage}
use Rattle.bf_state.proofs.Passing.{decide_over, length-mask, length-all, all_within, needs_none, needs_all}
use Rattle.bf_state.proofs.weighed.weigh.Goals as goal

pub ask_over-requires-clause-len : goal.ask_over-requires-clause-len
ask_over-requires-clause-len c = length-mask _ _ _ c.requires.mask ∙ c.requires.len

pub ask_over-requires-clause-weights : goal.ask_over-requires-clause-weights
ask_over-requires-clause-weights c =
    length-all c.args.reach.now c.args.state.now.search _ _ c.requires.mask
    (c.as_slice.ensures.value ∙ c.in_ok-weights-in-Passed.ensures)

pub ask_over-requires-clause-within : goal.ask_over-requires-clause-within
ask_over-requires-clause-within c =
    all_within c.args.reach.now c.args.state.now.search _ _ c.requires.mask
    (c.as_slice.ensures.value ∙ c.in_ok-weights-in-Passed.ensures)

pub returns-in-Asks-clause-weights : goal.returns-in-Asks-clause-weights
returns-in-Asks-clause-weights c =
    sym (needs_none c.args.reach.now c.args.state.now.search c.in-Asks.step
    (subst (λ (p : Passage). IsPassage c.args.reach.now (ask c.args.reach.now c.args.state.now.search) c.args.state.now.search p) c.in-Asks.is
    c.in_ok-step.ensures.passes))

pub returns-in_ok-ask-in-Passed-clause-decides : goal.returns-in_ok-ask-in-Passed-clause-decides
returns-in_ok-ask-in-Passed-clause-decides c =
    decide_over c.args.reach.now c.args.state.now.search _ _ _ _ _
    (subst (λ (p : Passage). IsPassage c.args.reach.now (ask c.args.reach.now c.args.state.now.search) c.args.state.now.search p) c.in-Passed.is
    c.in_ok-step.ensures.passes)
    c.requires.mask
    (c.as_slice.ensures.value ∙ c.in_ok-weights-in-Passed.ensures)
    c.in_ok-ask-in-Passed.ensures

pub returns-in_ok-ask-in-Passed-clause-weights : goal.returns-in_ok-ask-in-Passed-clause-weights
returns-in_ok-ask-in-Passed-clause-weights c =
    ap (λ (ws : List ℕ). Some ws) c.in_ok-weights-in-Passed.ensures
    ∙ sym (needs_all c.args.reach.now c.args.state.now.search _ _
    (subst (λ (p : Passage). IsPassage c.args.reach.now (ask c.args.reach.now c.args.state.now.search) c.args.state.now.search p) c.in-Passed.is
    c.in_ok-step.ensures.passes))
