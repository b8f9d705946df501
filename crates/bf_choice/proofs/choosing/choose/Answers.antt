use Rattle.std.proofs.Common.{◌≡◌, ◌≢◌, ℕ, ◌+◌, Bool, List, slice_index, false, Some, length, refl, sym, ap, subst, ◌∙◌, arith}
use Rattle.bf_search.specs.Candidates.{is_in}
use Rattle.bf_search.specs.Choice.{is_eligible, value_of}
use Rattle.bf_choice.proofs.Leading.{Leader, value_at, leader_stays, leader_meets, inside, not_candidate, bad_place, skipped_place, may_be_asked}
use Rattle.bf_choice.proofs.Leading.{leader_is_best}
use Rattle.bf_choice.proofs.choosing.choose.Goals as goal
use Rattle.bf_choice.proofs.choosing.choose.Goals.{then-place-bad+then-not-get, else-place-bad, else-place-bad-via-then-place-bad+else-not-get}
use Rattle.bf_choice.proofs.choosing.choose.Goals.{else-place-bad-via-else-place-bad}

pub loop-place-preserved : goal.loop-place-preserved
loop-place-preserved c =
    let mask : List Bool = c.args.mask.now in
    let weights : List ℕ = c.args.weights.now in
    let skips : List Bool = c.args.skips.now in
    let place : ℕ = c.in-Some.place in
    let may : ℕ → Bool = is_eligible mask c.args.bad skips in
    let value : ℕ → ℕ = value_at mask weights in
    let next = c.in-Some.ensures.next in
    let before : Leader may value place c.loop-place.leader =
    leader_stays may value c.loop-place.from place c.loop-place.leader c.loop-place.invariant.led next.from_low
    (λ q low high. not_candidate mask skips c.args.bad q (next.false_before q low high)) in
    let passed : may place ≡ false → Leader may value (place + 1) c.loop-place.leader =
    λ fails. leader_stays may value place (place + 1) c.loop-place.leader before (omega arith)
    (λ q low high. let same : q ≡ place = omega arith in ap may same ∙ fails) in
    record {
      within = omega (arith, inside mask place next.is_true);
      led = elim c.if-place-bad.branch [
        | then-place-bad+then-not-get w ↦ (
            let kept : is_in skips place ≡ false = sym w.get.ensures ∙ w.if-not-get.true in
            let other : place ≢ c.args.bad = w.if-place-bad.true in
            let valued : w.value_of_weight-value.result ≡ value place = w.value_of_weight-value.ensures ∙ ap (λ n. value_of n (slice_index weights place))
            c.count-count.ensures in
            subst (Leader may value (place + 1)) (sym (w.leader-is ∙ ap Some w.better.ensures))
            (leader_meets may value place (place + 1) c.loop-place.leader (record { place = place; value = w.value_of_weight-value.result }) before refl refl
            (may_be_asked mask skips c.args.bad place next.is_true other kept) valued)
            )
        | else-place-bad w ↦ subst (Leader may value (place + 1)) (sym w.leader-is) (passed (elim w.else-place-bad.branch [
          | else-place-bad-via-then-place-bad+else-not-get v ↦ skipped_place mask skips c.args.bad place (sym v.get.ensures ∙ v.if-not-get.false)
          | else-place-bad-via-else-place-bad v ↦ bad_place mask skips c.args.bad place v.if-place-bad.false
        ]))
      ];
    }

pub returns : goal.returns
returns c =
    let mask : List Bool = c.args.mask.now in
    let skips : List Bool = c.args.skips.now in
    let may : ℕ → Bool = is_eligible mask c.args.bad skips in
    let value : ℕ → ℕ = value_at mask c.args.weights.now in
    c.place_of.ensures ∙ leader_is_best mask c.args.weights.now c.args.bad skips c.loop-place.leader
    (leader_stays may value c.loop-place.from (length mask) c.loop-place.leader c.loop-place.invariant.led c.loop-place.invariant.within
    (λ q low high. not_candidate mask skips c.args.bad q (c.in_default.ensures.next q low)))
