use Rattle.std.proofs.Common.{ap, ◌∙◌, List, ℕ, Vec, Global, subst}
use Rattle.std.proofs.lemmas.List.{take_all}
use Rattle.bf_search.specs.declared.farm.Claim.{Claim}
use Rattle.bf_core.specs.Claims.{IsIdle}
use Rattle.bf_core.proofs.Joining.{same_tree_trans}
use Rattle.bf_core.proofs.Picking.{Picked, idle_more, asked_more, listed, rising}
use Rattle.bf_core.proofs.claims.withdrawn.Goals as goal
use Rattle.bf_core.proofs.claims.withdrawn.Goals.{then-branch+in_ok-push, else-branch}

pub returns-in_err-push-clause-tree : goal.returns-in_err-push-clause-tree
returns-in_err-push-clause-tree c = same_tree_trans c.args.tree.now c.loop-claim.tree c.is_idle.new.tree c.loop-claim.invariant.tree
    c.in_ok-is_idle.ensures.tree

pub loop-claim-preserved : goal.loop-claim-preserved
loop-claim-preserved c = record {
  tree = same_tree_trans c.args.tree.now c.loop-claim.tree c.is_idle.new.tree c.loop-claim.invariant.tree c.in_ok-is_idle.ensures.tree;
  picked = elim c.if-branch.branch [
    | then-branch+in_ok-push w ↦ idle_more c.args.tree.now c.loop-claim.tree c.args.table.now c.args.ended c.args.claims.now c.loop-claim.claim-index _
        c.loop-claim.workers.items c.loop-claim-test.true c.loop-claim.invariant.tree
        c.in_ok-is_idle.field-0 _ w.if-branch.true c.in_ok-is_idle.ensures.idle (ap (λ (v : Vec ℕ Global). v.items) w.workers-is ∙ w.in_ok-push.ensures.items)
        c.loop-claim.invariant.picked
    | else-branch w ↦ asked_more c.args.tree.now c.loop-claim.tree c.args.table.now c.args.ended c.args.claims.now c.loop-claim.claim-index _
        c.loop-claim.workers.items c.loop-claim-test.true c.loop-claim.invariant.tree
        c.in_ok-is_idle.field-0 _ w.if-branch.false c.in_ok-is_idle.ensures.idle (ap (λ (v : Vec ℕ Global). v.items) w.workers-is) c.loop-claim.invariant.picked
  ];
}

pub returns-clause-ascending : goal.returns-clause-ascending
returns-clause-ascending c =
    rising (λ k. IsIdle c.args.tree.now c.args.table.now c.args.ended k.place) c.args.claims.now c.loop-claim.workers.items c.sort_unstable.new.self.items
    c.requires.apart
    (subst (λ (xs : List Claim). Picked (λ k. IsIdle c.args.tree.now c.args.table.now c.args.ended k.place) xs c.loop-claim.workers.items)
    (take_all c.loop-claim.claim-index c.args.claims.now c.loop-claim-test.false) c.loop-claim.invariant.picked)
    c.sort_unstable.ensures.permutation c.sort_unstable.ensures.sorted

pub returns-clause-idle : goal.returns-clause-idle
returns-clause-idle c = λ worker.
    listed c.args.tree.now c.args.table.now c.args.ended c.args.claims.now c.loop-claim.workers.items c.sort_unstable.new.self.items worker
    (subst (λ (xs : List Claim). Picked (λ k. IsIdle c.args.tree.now c.args.table.now c.args.ended k.place) xs c.loop-claim.workers.items)
    (take_all c.loop-claim.claim-index c.args.claims.now c.loop-claim-test.false) c.loop-claim.invariant.picked)
    c.sort_unstable.ensures.permutation
