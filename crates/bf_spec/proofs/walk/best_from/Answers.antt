use Rattle.std.proofs.Common.{slice_index_or, ◌∙◌, sym}
use Rattle.std.proofs.lemmas.List.{nil_from_length}
use Rattle.bf_search.specs.Outcomes.{outcomes_of_table}
use Rattle.bf_spec.specs.Nodes.{best_at}
use Rattle.bf_spec.proofs.Growing.{extends_trans, extends_nodes}
use Rattle.bf_spec.proofs.Walking.{first_of}
use Rattle.bf_spec.proofs.Pending.{last_leaf, next_leaf, next_within, next_less, fork_best, fork_within, fork_less}
use Rattle.bf_spec.proofs.walk.best_from.Goals as goal

pub returns-in_err-found-clause-extends : goal.returns-in_err-found-clause-extends
returns-in_err-found-clause-extends c = extends_trans c.args.reach.now c.args.nodes.now.items c.loop-pending.nodes.items c.visited.new.nodes.items c.loop-pending.invariant.extends
    c.in_err-found.ensures.extends

pub loop-pending-smaller-in-Some : goal.loop-pending-smaller-in-Some
loop-pending-smaller-in-Some c = next_less c.args.reach.now (outcomes_of_table c.args.table.now) c.args.claims.now c.loop-pending.nodes.items c.visited.new.nodes.items c.loop-pending.index
    c.in_ok-found.field-0 c.loop-pending.pending.items c.in_ok-found.ensures.visit c.in_ok-found.ensures.extends c.loop-pending.invariant.pending
    c.pop.new.self.items c.in-Some.next c.in-Some.ensures.items c.loop-pending.invariant.within

pub loop-pending-preserved-in-Some : goal.loop-pending-preserved-in-Some
loop-pending-preserved-in-Some c =
    let inside = next_within c.args.reach.now (outcomes_of_table c.args.table.now) c.args.claims.now c.loop-pending.nodes.items c.visited.new.nodes.items c.loop-pending.index
    c.in_ok-found.field-0 c.loop-pending.pending.items c.in_ok-found.ensures.visit c.in_ok-found.ensures.extends c.loop-pending.invariant.pending
    c.pop.new.self.items c.in-Some.next c.in-Some.ensures.items in
    record {
      within = inside.1;
      pending = inside.0;
      nodes = extends_nodes c.args.reach.now c.loop-pending.nodes.items c.visited.new.nodes.items c.in_ok-found.ensures.extends c.loop-pending.invariant.nodes;
      extends = extends_trans c.args.reach.now c.args.nodes.now.items c.loop-pending.nodes.items c.visited.new.nodes.items c.loop-pending.invariant.extends
          c.in_ok-found.ensures.extends;
      found = λ d. let before = c.loop-pending.invariant.found d in
          next_leaf c.args.reach.now (outcomes_of_table c.args.table.now) c.args.claims.now c.loop-pending.nodes.items c.visited.new.nodes.items c.loop-pending.index
          c.in_ok-found.field-0 c.loop-pending.pending.items c.in_ok-found.ensures.visit c.in_ok-found.ensures.extends c.loop-pending.invariant.pending
          d c.in-Leaf.found c.loop-pending.best c.better-best.result before.0
          (best_at c.args.reach.now (outcomes_of_table c.args.table.now) c.args.claims.now (slice_index_or c.args.nodes.now.items c.args.start d))
          c.pop.new.self.items c.in-Some.next c.in-Leaf.is c.in-Some.ensures.items c.better-best.ensures before.1 before.2;
    }

pub returns-in-None-clause-extends : goal.returns-in-None-clause-extends
returns-in-None-clause-extends c = extends_trans c.args.reach.now c.args.nodes.now.items c.loop-pending.nodes.items c.visited.new.nodes.items c.loop-pending.invariant.extends
    c.in_ok-found.ensures.extends

pub returns-in-None-clause-found : goal.returns-in-None-clause-found
returns-in-None-clause-found c = λ d. let before = c.loop-pending.invariant.found d in
    last_leaf c.args.reach.now (outcomes_of_table c.args.table.now) c.args.claims.now c.loop-pending.nodes.items c.visited.new.nodes.items c.loop-pending.index
    c.in_ok-found.field-0 c.loop-pending.pending.items c.in_ok-found.ensures.visit c.in_ok-found.ensures.extends c.loop-pending.invariant.pending
    d c.in-Leaf.found c.loop-pending.best c.better-best.result before.0
    (best_at c.args.reach.now (outcomes_of_table c.args.table.now) c.args.claims.now (slice_index_or c.args.nodes.now.items c.args.start d))
    c.in-Leaf.is (nil_from_length c.loop-pending.pending.items (sym c.loop-pending.pending.ok.0 ∙ c.in-None.ensures.cases.0)) c.better-best.ensures before.1 before.2

pub returns-in_err-push-in-Fork-clause-extends : goal.returns-in_err-push-in-Fork-clause-extends
returns-in_err-push-in-Fork-clause-extends c = extends_trans c.args.reach.now c.args.nodes.now.items c.loop-pending.nodes.items c.visited.new.nodes.items c.loop-pending.invariant.extends
    c.in_ok-found.ensures.extends

pub loop-pending-smaller : goal.loop-pending-smaller
loop-pending-smaller c = fork_less c.args.reach.now (outcomes_of_table c.args.table.now) c.args.claims.now c.loop-pending.nodes.items c.visited.new.nodes.items c.loop-pending.index
    c.in_ok-found.field-0 c.loop-pending.pending.items c.in_ok-found.ensures.visit c.in_ok-found.ensures.extends c.loop-pending.invariant.pending
    (first_of c.loop-pending.nodes.items c.loop-pending.index c.loop-pending.invariant.within) c.in-Fork.good c.in-Fork.bad c.push.new.self.items c.in-Fork.is c.in_ok-push-in-Fork.ensures.items

pub loop-pending-preserved : goal.loop-pending-preserved
loop-pending-preserved c =
    let inside = fork_within c.args.reach.now (outcomes_of_table c.args.table.now) c.args.claims.now c.loop-pending.nodes.items c.visited.new.nodes.items c.loop-pending.index
    c.in_ok-found.field-0 c.loop-pending.pending.items c.in_ok-found.ensures.visit c.in_ok-found.ensures.extends c.loop-pending.invariant.pending
    (first_of c.loop-pending.nodes.items c.loop-pending.index c.loop-pending.invariant.within) c.in-Fork.good c.in-Fork.bad c.push.new.self.items c.in-Fork.is c.in_ok-push-in-Fork.ensures.items in
    record {
      within = inside.0;
      pending = inside.1;
      nodes = extends_nodes c.args.reach.now c.loop-pending.nodes.items c.visited.new.nodes.items c.in_ok-found.ensures.extends c.loop-pending.invariant.nodes;
      extends = extends_trans c.args.reach.now c.args.nodes.now.items c.loop-pending.nodes.items c.visited.new.nodes.items c.loop-pending.invariant.extends
          c.in_ok-found.ensures.extends;
      found = λ d. let before = c.loop-pending.invariant.found d in
          fork_best c.args.reach.now (outcomes_of_table c.args.table.now) c.args.claims.now c.loop-pending.nodes.items c.visited.new.nodes.items c.loop-pending.index
          c.in_ok-found.field-0 c.loop-pending.pending.items c.in_ok-found.ensures.visit c.in_ok-found.ensures.extends c.loop-pending.invariant.pending
          d c.in-Fork.good c.in-Fork.bad c.push.new.self.items c.loop-pending.best before.0
          (best_at c.args.reach.now (outcomes_of_table c.args.table.now) c.args.claims.now (slice_index_or c.args.nodes.now.items c.args.start d))
          c.in-Fork.is c.in_ok-push-in-Fork.ensures.items before.1 before.2;
    }
