use Rattle.std.proofs.Common.{◌≡◌, ◌<◌, List, length, get_or, ap, sym, ◌∙◌, arith, rules}
use Rattle.bf_search.specs.declared.farm.Claim.{Claim}
use Rattle.bf_search.specs.declared.farm.Event.{Event as EventValue}
use Rattle.bf_core.specs.Machine.{Machine, IsStep}
use Rattle.bf_many.specs.Loads.{HasNoPlace}
use Rattle.bf_many.proofs.Nexts.{all_closed, claims_first, closed_more, consumed_here, found_at, found_none, free_here, same_here}
use Rattle.bf_many.proofs.Picking.{cores_set}
use Rattle.bf_many.proofs.Stepping.{all_same, same_cores, same_itself}
use Rattle.bf_many.proofs.next.claim_first.Goals as goal

pub loop-index-init : goal.loop-index-init
loop-index-init c = record { same = all_same c.args.cores.now; closed = λ k s l at is. absurd (omega (arith, l)) }

pub loop-index-preserved-then-claims : goal.loop-index-preserved-then-claims
loop-index-preserved-then-claims c =
    let below : c.loop-index.index < length c.loop-index.cores = omega (arith, c.loop-index.auto.cores, c.loop-index-test.true) in
    let core : Machine = get_or c.loop-index.cores c.loop-index.index c.index-cores-index.result in
    let claims : length c.claims.result.now ≡ length core.claims = ap (λ (l : List Claim). length l) c.claims.ensures.claims in
    record {
      same = same_here c.args.cores.now c.loop-index.cores c.loop-index.index c.index-cores-index.result c.loop-index.invariant.same below core
          (same_itself core);
      closed = closed_more c.args.cores.now c.loop-index.cores c.loop-index.index c.index-cores-index.result c.loop-index.invariant.same below
          c.args.claims (λ is. absurd (c.if-claims.true (claims ∙ is))) c.loop-index.invariant.closed;
    }

pub claim_best-requires-clause-free : goal.claim_best-requires-clause-free
claim_best-requires-clause-free c =
    free_here c.args.cores.now c.loop-index.cores c.loop-index.index c.index-cores-index.result c.loop-index.invariant.same
    (omega (arith, c.loop-index.auto.cores, c.loop-index-test.true)) c.args.worker c.requires.free

pub claim_best-requires-clause-consumed : goal.claim_best-requires-clause-consumed
claim_best-requires-clause-consumed c =
    consumed_here c.args.cores.now c.loop-index.cores c.loop-index.index c.index-cores-index.result c.loop-index.invariant.same
    (omega (arith, c.loop-index.auto.cores, c.loop-index-test.true)) c.requires.cores

pub returns-in_err-place-clause-cores : goal.returns-in_err-place-clause-cores
returns-in_err-place-clause-cores c =
    cores_set c.loop-index.cores c.loop-index.index c.claim_best.new.core
    (same_cores c.args.cores.now c.loop-index.cores c.loop-index.invariant.same c.requires.cores) c.in_err-place.ensures.consumed

pub returns-in_err-place-clause-err : goal.returns-in_err-place-clause-err
returns-in_err-place-clause-err c =
    let same = same_here c.args.cores.now c.loop-index.cores c.loop-index.index c.index-cores-index.result c.loop-index.invariant.same
    (omega (arith, c.loop-index.auto.cores, c.loop-index-test.true)) c.claim_best.new.core c.in_err-place.ensures.err in
    search rules

pub returns-in-Some-clause-claimed : goal.returns-in-Some-clause-claimed
returns-in-Some-clause-claimed c =
    let below : c.loop-index.index < length c.loop-index.cores = omega (arith, c.loop-index.auto.cores, c.loop-index-test.true) in
    let core : Machine = get_or c.loop-index.cores c.loop-index.index c.index-cores-index.result in
    let claims : length c.claims.result.now ≡ length core.claims = ap (λ (l : List Claim). length l) c.claims.ensures.claims in
    claims_first c.args.cores.now c.loop-index.cores c.loop-index.index c.index-cores-index.result c.loop-index.invariant.same below
    c.args.worker c.in-Some.place c.args.claims c.claim_best.new.core (sym claims ∙ c.if-claims.false)
    (found_at (HasNoPlace core c.claim_best.new.core) (λ p. IsStep core (EventValue.Claim c.args.worker p) c.claim_best.new.core) c.in_ok-place.field-0
    c.in-Some.place c.in-Some.is c.in_ok-place.ensures.claim) c.loop-index.invariant.closed

pub returns-in-Some-clause-cores : goal.returns-in-Some-clause-cores
returns-in-Some-clause-cores c =
    cores_set c.loop-index.cores c.loop-index.index c.claim_best.new.core
    (same_cores c.args.cores.now c.loop-index.cores c.loop-index.invariant.same c.requires.cores) c.in_ok-place.ensures.consumed

pub loop-index-preserved : goal.loop-index-preserved
loop-index-preserved c =
    let below : c.loop-index.index < length c.loop-index.cores = omega (arith, c.loop-index.auto.cores, c.loop-index-test.true) in
    let core : Machine = get_or c.loop-index.cores c.loop-index.index c.index-cores-index.result in
    let none = found_none (HasNoPlace core c.claim_best.new.core) (λ p. IsStep core (EventValue.Claim c.args.worker p) c.claim_best.new.core)
    c.in_ok-place.field-0 c.in_default.is c.in_ok-place.ensures.claim in
    record {
      same = same_here c.args.cores.now c.loop-index.cores c.loop-index.index c.index-cores-index.result c.loop-index.invariant.same below
          c.claim_best.new.core none.same;
      closed = closed_more c.args.cores.now c.loop-index.cores c.loop-index.index c.index-cores-index.result c.loop-index.invariant.same below
          c.args.claims (λ is. none.none) c.loop-index.invariant.closed;
    }

pub returns-clause-none : goal.returns-clause-none
returns-clause-none c = (
  all_closed c.args.cores.now c.args.claims
      (λ k s l at is. c.loop-index.invariant.closed k s (omega (arith, l, c.loop-index-test.false)) at is),
  c.loop-index.invariant.same,
)

pub returns-clause-cores : goal.returns-clause-cores
returns-clause-cores c = same_cores c.args.cores.now c.loop-index.cores c.loop-index.invariant.same c.requires.cores
