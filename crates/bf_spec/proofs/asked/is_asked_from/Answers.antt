use Rattle.std.proofs.Common.{rules, refl}
use Rattle.bf_search.specs.Outcomes.{outcomes_of_table}
use Rattle.bf_spec.proofs.Growing.{extends_trans, extends_nodes}
use Rattle.bf_spec.proofs.Asking.{walk_here, walk_nowhere, mask_within, by_known, by_guess, known_asks, guess_asks, walk_less, walk_below, walk_above}
use Rattle.bf_spec.proofs.Certain.{skips_within, walk_sure}
use Rattle.bf_spec.proofs.asked.is_asked_from.Goals as goal

pub way_at-requires : goal.way_at-requires
way_at-requires c = mask_within c.args.reach.now (outcomes_of_table c.args.table.now) c.args.place c.loop-asked.nodes.items c.loop-asked.index c.index.result.now
    c.loop-asked.invariant.nodes c.loop-asked.invariant.within c.index.ensures c.requires.place

pub returns-in-Here-clause-asked : goal.returns-in-Here-clause-asked
returns-in-Here-clause-asked c = λ d. (
  λ yes. c.loop-asked.invariant.from d (walk_here c.args.reach.now (outcomes_of_table c.args.table.now) c.args.place c.loop-asked.nodes.items c.loop-asked.index c.index.result.now
      c.loop-asked.invariant.nodes c.loop-asked.invariant.within c.index.ensures d c.in-Here.ensures),
  λ asked. refl,
)

pub returns-in-Nowhere-clause-asked : goal.returns-in-Nowhere-clause-asked
returns-in-Nowhere-clause-asked c = λ d. (
  λ yes. absurd (search rules),
  λ asked. absurd (walk_nowhere c.args.reach.now (outcomes_of_table c.args.table.now) c.args.place c.loop-asked.nodes.items c.loop-asked.index c.index.result.now
      c.loop-asked.invariant.nodes c.loop-asked.invariant.within c.index.ensures d c.requires.place c.in-Nowhere.ensures (c.loop-asked.invariant.to d asked)),
)

pub child-requires-clause-asks : goal.child-requires-clause-asks
child-requires-clause-asks c = λ d. known_asks c.args.reach.now (outcomes_of_table c.args.table.now) c.args.place c.loop-asked.nodes.items c.loop-asked.index c.index.result.now
    c.loop-asked.invariant.nodes c.loop-asked.invariant.within c.index.ensures d c.in-Goes.asked c.in-Goes.mark c.in-Goes.ensures

pub child_towards-requires-clause-asks : goal.child_towards-requires-clause-asks
child_towards-requires-clause-asks c = λ d. guess_asks c.args.reach.now (outcomes_of_table c.args.table.now) c.args.place c.loop-asked.nodes.items c.loop-asked.index c.index.result.now
    c.loop-asked.invariant.nodes c.loop-asked.invariant.within c.index.ensures d c.in-Guesses.asked c.in-Guesses.ensures

pub returns-in_err-index-in-Goes-clause-extends : goal.returns-in_err-index-in-Goes-clause-extends
returns-in_err-index-in-Goes-clause-extends c = extends_trans c.args.reach.now c.args.nodes.now.items c.loop-asked.nodes.items c.child.new.nodes.items
    c.loop-asked.invariant.extends c.in_err-index-in-Goes.ensures.extends

pub loop-asked-smaller-in-Goes : goal.loop-asked-smaller-in-Goes
loop-asked-smaller-in-Goes c =
    walk_less c.args.reach.now (outcomes_of_table c.args.table.now) c.args.place c.loop-asked.nodes.items c.loop-asked.index c.index.result.now
    c.loop-asked.invariant.nodes c.loop-asked.invariant.within c.index.ensures
    c.child.new.nodes.items c.in_ok-index-in-Goes.index c.in-Goes.asked c.in-Goes.mark
    (by_known c.args.reach.now (outcomes_of_table c.args.table.now) c.args.place c.loop-asked.nodes.items c.loop-asked.index c.index.result.now
    c.loop-asked.invariant.nodes c.loop-asked.invariant.within c.index.ensures c.in-Goes.asked c.in-Goes.mark c.in-Goes.ensures) c.in_ok-index-in-Goes.ensures.extends c.in_ok-index-in-Goes.ensures.child

pub loop-asked-preserved-in-Goes : goal.loop-asked-preserved-in-Goes
loop-asked-preserved-in-Goes c = record {
  within = c.in_ok-index-in-Goes.ensures.child.0;
  nodes = extends_nodes c.args.reach.now c.loop-asked.nodes.items c.child.new.nodes.items c.in_ok-index-in-Goes.ensures.extends c.loop-asked.invariant.nodes;
  extends = extends_trans c.args.reach.now c.args.nodes.now.items c.loop-asked.nodes.items c.child.new.nodes.items c.loop-asked.invariant.extends
      c.in_ok-index-in-Goes.ensures.extends;
  to = λ d asked. walk_below c.args.reach.now (outcomes_of_table c.args.table.now) c.args.place c.loop-asked.nodes.items c.loop-asked.index c.index.result.now
      c.loop-asked.invariant.nodes c.loop-asked.invariant.within c.index.ensures
      c.child.new.nodes.items c.in_ok-index-in-Goes.index c.in-Goes.asked c.in-Goes.mark
      (by_known c.args.reach.now (outcomes_of_table c.args.table.now) c.args.place c.loop-asked.nodes.items c.loop-asked.index c.index.result.now
      c.loop-asked.invariant.nodes c.loop-asked.invariant.within c.index.ensures c.in-Goes.asked c.in-Goes.mark c.in-Goes.ensures) c.in_ok-index-in-Goes.ensures.extends c.in_ok-index-in-Goes.ensures.child d (c.loop-asked.invariant.to d asked);
  from = λ d asked. c.loop-asked.invariant.from d
      (walk_above c.args.reach.now (outcomes_of_table c.args.table.now) c.args.place c.loop-asked.nodes.items c.loop-asked.index c.index.result.now
      c.loop-asked.invariant.nodes c.loop-asked.invariant.within c.index.ensures
      c.child.new.nodes.items c.in_ok-index-in-Goes.index c.in-Goes.asked c.in-Goes.mark
      (by_known c.args.reach.now (outcomes_of_table c.args.table.now) c.args.place c.loop-asked.nodes.items c.loop-asked.index c.index.result.now
      c.loop-asked.invariant.nodes c.loop-asked.invariant.within c.index.ensures c.in-Goes.asked c.in-Goes.mark c.in-Goes.ensures) c.in_ok-index-in-Goes.ensures.extends c.in_ok-index-in-Goes.ensures.child d asked);
}

pub returns-in_err-index-in-Guesses-clause-extends : goal.returns-in_err-index-in-Guesses-clause-extends
returns-in_err-index-in-Guesses-clause-extends c = extends_trans c.args.reach.now c.args.nodes.now.items c.loop-asked.nodes.items c.child_towards.new.nodes.items
    c.loop-asked.invariant.extends c.in_err-index-in-Guesses.ensures.extends

pub loop-asked-smaller : goal.loop-asked-smaller
loop-asked-smaller c =
    walk_less c.args.reach.now (outcomes_of_table c.args.table.now) c.args.place c.loop-asked.nodes.items c.loop-asked.index c.index.result.now
    c.loop-asked.invariant.nodes c.loop-asked.invariant.within c.index.ensures
    c.child_towards.new.nodes.items c.in_ok-index-in-Guesses.index c.in-Guesses.asked c.in_ok-index-in-Guesses.ensures.child.0
    (by_guess c.args.reach.now (outcomes_of_table c.args.table.now) c.args.place c.loop-asked.nodes.items c.loop-asked.index c.index.result.now
    c.loop-asked.invariant.nodes c.loop-asked.invariant.within c.index.ensures c.in-Guesses.asked c.in_ok-index-in-Guesses.ensures.child.0 c.in-Guesses.ensures c.in_ok-index-in-Guesses.ensures.child.2) c.in_ok-index-in-Guesses.ensures.extends (c.in_ok-index-in-Guesses.ensures.child.1)

pub loop-asked-preserved : goal.loop-asked-preserved
loop-asked-preserved c = record {
  within = (c.in_ok-index-in-Guesses.ensures.child.1).0;
  nodes = extends_nodes c.args.reach.now c.loop-asked.nodes.items c.child_towards.new.nodes.items c.in_ok-index-in-Guesses.ensures.extends c.loop-asked.invariant.nodes;
  extends = extends_trans c.args.reach.now c.args.nodes.now.items c.loop-asked.nodes.items c.child_towards.new.nodes.items c.loop-asked.invariant.extends
      c.in_ok-index-in-Guesses.ensures.extends;
  to = λ d asked. walk_below c.args.reach.now (outcomes_of_table c.args.table.now) c.args.place c.loop-asked.nodes.items c.loop-asked.index c.index.result.now
      c.loop-asked.invariant.nodes c.loop-asked.invariant.within c.index.ensures
      c.child_towards.new.nodes.items c.in_ok-index-in-Guesses.index c.in-Guesses.asked c.in_ok-index-in-Guesses.ensures.child.0
      (by_guess c.args.reach.now (outcomes_of_table c.args.table.now) c.args.place c.loop-asked.nodes.items c.loop-asked.index c.index.result.now
      c.loop-asked.invariant.nodes c.loop-asked.invariant.within c.index.ensures c.in-Guesses.asked c.in_ok-index-in-Guesses.ensures.child.0 c.in-Guesses.ensures c.in_ok-index-in-Guesses.ensures.child.2) c.in_ok-index-in-Guesses.ensures.extends (c.in_ok-index-in-Guesses.ensures.child.1) d (c.loop-asked.invariant.to d asked);
  from = λ d asked. c.loop-asked.invariant.from d
      (walk_above c.args.reach.now (outcomes_of_table c.args.table.now) c.args.place c.loop-asked.nodes.items c.loop-asked.index c.index.result.now
      c.loop-asked.invariant.nodes c.loop-asked.invariant.within c.index.ensures
      c.child_towards.new.nodes.items c.in_ok-index-in-Guesses.index c.in-Guesses.asked c.in_ok-index-in-Guesses.ensures.child.0
      (by_guess c.args.reach.now (outcomes_of_table c.args.table.now) c.args.place c.loop-asked.nodes.items c.loop-asked.index c.index.result.now
      c.loop-asked.invariant.nodes c.loop-asked.invariant.within c.index.ensures c.in-Guesses.asked c.in_ok-index-in-Guesses.ensures.child.0 c.in-Guesses.ensures c.in_ok-index-in-Guesses.ensures.child.2) c.in_ok-index-in-Guesses.ensures.extends (c.in_ok-index-in-Guesses.ensures.child.1) d asked);
}

pub is_sure-requires-clause-mask : goal.is_sure-requires-clause-mask
is_sure-requires-clause-mask c = mask_within c.args.reach.now (outcomes_of_table c.args.table.now) c.args.place c.loop-asked.nodes.items c.loop-asked.index c.index-then-is_edge.result.now
    c.loop-asked.invariant.nodes c.loop-asked.invariant.within c.index-then-is_edge.ensures c.requires.place

pub is_sure-requires-clause-skips : goal.is_sure-requires-clause-skips
is_sure-requires-clause-skips c = skips_within c.args.reach.now c.loop-asked.nodes.items c.loop-asked.index c.index-then-is_edge.result.now
    c.loop-asked.invariant.nodes c.loop-asked.invariant.within c.index-then-is_edge.ensures

pub returns-then-branch-clause-asked : goal.returns-then-branch-clause-asked
returns-then-branch-clause-asked c = λ d. (
  λ yes. c.loop-asked.invariant.from d (walk_sure c.args.reach.now c.args.table.now c.args.place c.loop-asked.nodes.items c.loop-asked.index
      c.index-then-is_edge.result.now c.loop-asked.invariant.nodes c.loop-asked.invariant.within c.index-then-is_edge.ensures c.requires.place
      (c.in_ok-is_sure-in-Guesses.ensures c.if-branch.true) d),
  λ asked. refl,
)
