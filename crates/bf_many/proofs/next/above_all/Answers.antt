use Rattle.std.proofs.Common.{◌≡◌, ℕ, ◌+◌, ◌<◌, List, All, get_or, length, take, ap, subst, sym, ◌∙◌, arith}
use Rattle.std.proofs.lemmas.List.{take_all}
use Rattle.bf_search.specs.declared.farm.Claim.{Claim}
use Rattle.bf_core.specs.Machine.{Machine}
use Rattle.bf_many.proofs.Nexts.{above_more}
use Rattle.bf_many.proofs.next.above_all.Goals as goal
use Rattle.bf_many.proofs.next.above_all.Goals.{then-claims-above, else-claims-above}

pub loop-core-preserved : goal.loop-core-preserved
loop-core-preserved c =
    let i = c.loop-core.core-index in
    let cores = c.args.cores.now in
    let core : Machine = get_or cores i c.core-item.result in
    let claims : length c.claims-claims.result.now ≡ length core.claims = ap (λ (l : List Claim). length l) c.claims-claims.ensures.claims
    ∙ ap (λ (m : Machine). length m.claims) c.core-item.is in
    elim c.if-claims-above.branch [
      | then-claims-above w ↦ subst (λ (n : ℕ). All (λ core. length core.claims < n) (take (i + 1) cores)) (sym w.above-is)
          (above_more cores i c.loop-core.above (length c.claims-claims.result.now + 1) c.core-item.result (omega (arith, c.loop-core-test.true))
          (let more = w.if-claims-above.true in omega (arith, more)) (omega (arith, claims)) c.loop-core.invariant)
      | else-claims-above w ↦ subst (λ (n : ℕ). All (λ core. length core.claims < n) (take (i + 1) cores)) (sym w.above-is)
          (above_more cores i c.loop-core.above c.loop-core.above c.core-item.result (omega (arith, c.loop-core-test.true))
          (omega arith) (let less = w.if-claims-above.false in omega (arith, claims, less)) c.loop-core.invariant)
    ]

pub returns : goal.returns
returns c =
    subst (λ (l : List Machine). All (λ core. length core.claims < c.loop-core.above) l)
    (take_all c.loop-core.core-index c.args.cores.now (omega (arith, c.loop-core-test.false))) c.loop-core.invariant
