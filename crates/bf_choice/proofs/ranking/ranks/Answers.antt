use Rattle.std.proofs.Common.{◌≡◌, ℕ, ◌+◌, ◌-◌, List, Bool, length, slice_index, refl, sym, ap, subst, ◌∙◌, arith}
use Rattle.bf_search.specs.Choice.{value_of}
use Rattle.bf_choice.specs.declared.ranking.Rank.{Rank}
use Rattle.bf_choice.specs.Ranking.{AreRanks, IsRank, IsOther}
use Rattle.bf_choice.proofs.Leading.{inside, never}
use Rattle.bf_choice.proofs.Ranked.{ranks_stay, ranks_meet}
use Rattle.bf_choice.proofs.ranking.ranks.Goals as goal
use Rattle.bf_choice.proofs.ranking.ranks.Goals.{then-place-bad+in_ok-push, else-place-bad}

pub loop-place-preserved : goal.loop-place-preserved
loop-place-preserved c =
    let mask : List Bool = c.args.mask.now in
    let weights : List ℕ = c.args.weights.now in
    let place : ℕ = c.in-Some.place in
    let next = c.in-Some.ensures.next in
    let ranks : List Rank = c.loop-place.ranks.items in
    let before : AreRanks mask weights c.args.bad place ranks =
    ranks_stay mask weights c.args.bad c.loop-place.from place ranks c.loop-place.invariant.ranked
    (λ q low high other. never (next.false_before q low high) other.0) in
    record {
      within = omega (arith, inside mask place next.is_true);
      ranked = elim c.if-place-bad.branch [
        | then-place-bad+in_ok-push w ↦ (
            let other : IsOther mask c.args.bad place = (next.is_true, w.if-place-bad.true) in
            let count = c.count-count.ensures in
            let is : IsRank mask weights c.args.bad (record { left = c.count-count.result - w.value_of_weight-value.result; place = place }) = record {
              of = other;
              left = ap (λ v. c.count-count.result - v) w.value_of_weight-value.ensures ∙ ap (λ n. n - value_of n (slice_index weights place)) count;
            } in
            subst (AreRanks mask weights c.args.bad (place + 1)) (sym (ap (λ v. v.items) w.ranks-is ∙ w.in_ok-push.ensures.items))
            (ranks_meet mask weights c.args.bad place ranks _ before refl is)
            )
        | else-place-bad w ↦ subst (λ v. AreRanks mask weights c.args.bad (place + 1) v.items) (sym w.ranks-is)
            (ranks_stay mask weights c.args.bad place (place + 1) ranks before
            (λ q low high other. let same : q ≡ place = omega arith in other.1 (same ∙ w.if-place-bad.false)))
      ];
    }

pub returns : goal.returns
returns c =
    let mask : List Bool = c.args.mask.now in
    ranks_stay mask c.args.weights.now c.args.bad c.loop-place.from (length mask) c.loop-place.ranks.items c.loop-place.invariant.ranked
    (λ q low high other. never (c.in_default.ensures.next q low) other.0)
