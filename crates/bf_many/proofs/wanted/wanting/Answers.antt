use Rattle.std.proofs.Common.{ℕ, ◌+◌, ◌<◌, List, Vec, Global, get_or, length, sym, ap, subst, ◌∙◌, arith}
use Rattle.std.proofs.lemmas.Bool.{both_ways}
use Rattle.bf_core.specs.Machine.{Machine}
use Rattle.bf_many.proofs.Nexts.{same_here}
use Rattle.bf_many.proofs.Stepping.{all_same}
use Rattle.bf_many.proofs.Wanting.{AreFound, IsOnceAt, none_found, passed_by, found_one, all_found, once_at, wants_here, wants_then}
use Rattle.bf_many.proofs.wanted.wanting.Goals as goal
use Rattle.bf_many.proofs.wanted.wanting.Goals.{then-branch+in_ok-push, else-branch}

pub loop-index-init : goal.loop-index-init
loop-index-init c = record {
  same = all_same c.args.cores.now;
  found = subst (λ (ks : List ℕ). AreFound c.args.cores.now c.args.place 0 ks) (sym c.new-searches.ensures.items) (none_found c.args.cores.now c.args.place);
}

pub loop-index-preserved : goal.loop-index-preserved
loop-index-preserved c =
    let below : c.loop-index.index < length c.loop-index.cores = omega (arith, c.loop-index.auto.cores, c.loop-index-test.true) in
    let core : Machine = get_or c.loop-index.cores c.loop-index.index c.index-cores-index.result in
    let once : IsOnceAt c.args.cores.now c.loop-index.index core
    = once_at c.args.cores.now c.loop-index.cores c.loop-index.index c.index-cores-index.result c.loop-index.invariant.same below in
    record {
      same = same_here c.args.cores.now c.loop-index.cores c.loop-index.index c.index-cores-index.result c.loop-index.invariant.same below
          c.wants.new.self c.in_ok-wants.ensures.same;
      found = elim c.if-branch.branch [
        | then-branch+in_ok-push w ↦ subst (λ (ks : List ℕ). AreFound c.args.cores.now c.args.place (c.loop-index.index + 1) ks)
            (sym (ap (λ (v : Vec ℕ Global). v.items) w.searches-is ∙ w.in_ok-push.ensures.items))
            (found_one c.args.cores.now c.args.place c.loop-index.index c.loop-index.searches.items
            (wants_here c.args.cores.now c.args.place c.loop-index.index core once (c.in_ok-wants.ensures.wanted.0 w.if-branch.true))
            c.loop-index.invariant.found)
        | else-branch w ↦ subst (λ (ks : List ℕ). AreFound c.args.cores.now c.args.place (c.loop-index.index + 1) ks)
            (sym (ap (λ (v : Vec ℕ Global). v.items) w.searches-is))
            (passed_by c.args.cores.now c.args.place c.loop-index.index c.loop-index.searches.items
            (λ wants. both_ways c.in_ok-wants.field-0 w.if-branch.false
            (c.in_ok-wants.ensures.wanted.1 (wants_then c.args.cores.now c.args.place c.loop-index.index core once wants)))
            c.loop-index.invariant.found)
      ];
    }

pub returns-in_err-wants-clause-same : goal.returns-in_err-wants-clause-same
returns-in_err-wants-clause-same c =
    same_here c.args.cores.now c.loop-index.cores c.loop-index.index c.index-cores-index.result c.loop-index.invariant.same
    (omega (arith, c.loop-index.auto.cores, c.loop-index-test.true)) c.wants.new.self c.in_err-wants.ensures.same

pub returns-in_err-push-clause-same : goal.returns-in_err-push-clause-same
returns-in_err-push-clause-same c =
    same_here c.args.cores.now c.loop-index.cores c.loop-index.index c.index-cores-index.result c.loop-index.invariant.same
    (omega (arith, c.loop-index.auto.cores, c.loop-index-test.true)) c.wants.new.self c.in_ok-wants.ensures.same

pub returns-clause-wanted : goal.returns-clause-wanted
returns-clause-wanted c =
    all_found c.args.cores.now c.args.place c.loop-index.index c.loop-index.searches.items (omega (arith, c.loop-index-test.false))
    c.loop-index.invariant.found

pub returns-clause-ascending : goal.returns-clause-ascending
returns-clause-ascending c = c.loop-index.invariant.found.rising
