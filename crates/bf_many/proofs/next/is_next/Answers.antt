use Rattle.std.proofs.Common.{◌≡◌, ℕ, ◌<◌, ◌==◌, false, List, Some, length, get_or, refl, ap, subst, sym, ◌∙◌, arith}
use Rattle.std.proofs.lemmas.Bool.{both_ways}
use Rattle.std.proofs.lemmas.List.{length-map}
use Rattle.std.proofs.lemmas.Option.{slice_get-get_or}
use Rattle.std.specs.Option.{is_some}
use Rattle.bf_search.specs.declared.farm.Claim.{Claim}
use Rattle.bf_core.specs.Machine.{Machine}
use Rattle.bf_many.specs.Cores.{machine_of, machines_of}
use Rattle.bf_many.specs.Many.{GoesBefore, has_place, load}
use Rattle.bf_many.proofs.Lists.{get-map}
use Rattle.bf_many.proofs.Nexts.{alone_is_next, closed_before_more, same_here, same_truth}
use Rattle.bf_many.proofs.Stepping.{all_same, same_itself}
use Rattle.bf_many.proofs.next.is_next.Goals as goal

pub returns-in_default-clause-same : goal.returns-in_default-clause-same
returns-in_default-clause-same c = all_same c.args.cores.now

pub loop-index-init : goal.loop-index-init
loop-index-init c = record { same = all_same c.args.cores.now; closed = λ k s l at goes. absurd (omega (arith, l)) }

pub loop-index-preserved-then-not-goes_before : goal.loop-index-preserved-then-not-goes_before
loop-index-preserved-then-not-goes_before c =
    let below : c.loop-index.index < length c.loop-index.cores = omega (arith, c.loop-index.auto.cores, c.loop-index-test.true) in
    let core : Machine = get_or c.loop-index.cores c.loop-index.index c.index-cores-index.result in
    let claims : length c.claims.result.now ≡ length core.claims = ap (λ (l : List Claim). length l) c.claims.ensures.claims in
    record {
      same = same_here c.args.cores.now c.loop-index.cores c.loop-index.index c.index-cores-index.result c.loop-index.invariant.same below core
          (same_itself core);
      closed = closed_before_more c.args.cores.now c.loop-index.cores c.loop-index.index c.index-cores-index.result c.loop-index.invariant.same below
          (length c.claims-claims.result.now) c.args.search (λ goes. absurd (both_ways false refl (c.if-not-goes_before.ensures.1
          (subst (λ (n : ℕ). GoesBefore n c.loop-index.index (length c.claims-claims.result.now) c.args.search) (sym claims) goes)))) c.loop-index.invariant.closed;
    }

pub returns-in_err-best_place-clause-same : goal.returns-in_err-best_place-clause-same
returns-in_err-best_place-clause-same c =
    same_here c.args.cores.now c.loop-index.cores c.loop-index.index c.index-cores-index.result c.loop-index.invariant.same
    (omega (arith, c.loop-index.auto.cores, c.loop-index-test.true)) c.best_place.new.self c.in_err-best_place.ensures.same

pub returns-then-is_some-other-clause-same : goal.returns-then-is_some-other-clause-same
returns-then-is_some-other-clause-same c =
    same_here c.args.cores.now c.loop-index.cores c.loop-index.index c.index-cores-index.result c.loop-index.invariant.same
    (omega (arith, c.loop-index.auto.cores, c.loop-index-test.true)) c.best_place.new.self c.in_ok-best_place.ensures.same

pub loop-index-preserved : goal.loop-index-preserved
loop-index-preserved c =
    let below : c.loop-index.index < length c.loop-index.cores = omega (arith, c.loop-index.auto.cores, c.loop-index-test.true) in
    let core : Machine = get_or c.loop-index.cores c.loop-index.index c.index-cores-index.result in
    let place : has_place (machine_of core) ≡ c.is_some.result = ap is_some (sym c.in_ok-best_place.ensures.best) ∙ sym c.is_some.ensures in
    record {
      same = same_here c.args.cores.now c.loop-index.cores c.loop-index.index c.index-cores-index.result c.loop-index.invariant.same below
          c.best_place.new.self c.in_ok-best_place.ensures.same;
      closed = closed_before_more c.args.cores.now c.loop-index.cores c.loop-index.index c.index-cores-index.result c.loop-index.invariant.same below
          (length c.claims-claims.result.now) c.args.search (λ goes. place ∙ same_truth c.is_some.result (c.loop-index.index == c.args.search) c.if-is_some-other.false) c.loop-index.invariant.closed;
    }

pub returns-clause-next : goal.returns-clause-next
returns-clause-next c = λ yes'.
    let claims : length c.claims-claims.result.now ≡ length c.in-Some.own.now.claims = ap (λ (l : List Claim). length l) c.claims-claims.ensures.claims in
    let long = length-map c.args.cores.now machine_of in
    alone_is_next (machines_of c.args.cores.now) c.args.search (machine_of c.in-Some.own.now)
    (get-map machine_of c.args.cores.now c.args.search c.in-Some.own.now
    (slice_get-get_or c.args.cores.now c.args.search c.in-Some.own.now c.in-Some.ensures.lookup.3.0
    ∙ ap (λ (m : Machine). Some m) (sym (c.in-Some.ensures.lookup.3.1 c.in-Some.own.now))))
    (λ k s l at goes. c.loop-index.invariant.closed k s (omega (arith, l, long, c.loop-index-test.false)) at
    (subst (λ (n : ℕ). GoesBefore (load s) k n c.args.search) (sym claims) goes))
