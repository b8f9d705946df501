use Rattle.std.proofs.Common.{◌≡◌, Bool, List, Some, slice_index, sym, ap, subst, ◌∙◌, arith, ⊎_elim}
use Rattle.std.proofs.lemmas.Bool.{cases_lt}
use Rattle.bf_search.specs.Candidates.{is_in}
use Rattle.bf_choice.specs.Ranking.{IsOther}
use Rattle.bf_choice.proofs.Ranked.{ranked_best, ranked_none}
use Rattle.bf_choice.proofs.ranking.Ranking.choose.Goals as goal

pub returns-then-not-get-clause-best : goal.returns-then-not-get-clause-best
returns-then-not-get-clause-best c = λ mask weights bad ranking.
    let skips : List Bool = c.args.skips.now in
    let at = c.in-Some.ensures.some in
    ap Some (sym at.1) ∙ sym (ranked_best mask skips weights c.args.self.now bad c.loop-place.at ranking c.loop-place.invariant at.0
    (ap (is_in skips) at.1 ∙ sym c.if-not-get.ensures))

pub returns-then-not-get-clause-other : goal.returns-then-not-get-clause-other
returns-then-not-get-clause-other c = λ mask weights bad ranking.
    let at = c.in-Some.ensures.some in
    subst (IsOther mask bad) at.1 (ranking.each c.loop-place.at 0 at.0)

pub loop-place-preserved : goal.loop-place-preserved
loop-place-preserved c =
    let skips : List Bool = c.args.skips.now in
    let at = c.in-Some.ensures.some in
    record {
      within = omega (arith, at.0);
      skipped = λ k less. ⊎_elim
          (λ before. c.loop-place.invariant.skipped k before)
          (λ here. let same : k ≡ c.loop-place.at = omega (arith, less, here) in ap (λ n. is_in skips (slice_index c.args.self.now n)) same ∙ ap (is_in skips)
          at.1 ∙ sym c.if-not-get.ensures)
          (cases_lt k c.loop-place.at);
    }

pub returns-clause-best : goal.returns-clause-best
returns-clause-best c = λ mask weights bad ranking. sym
    (ranked_none mask c.args.skips.now weights c.args.self.now bad c.loop-place.at ranking c.loop-place.invariant c.in_default.ensures.none)
