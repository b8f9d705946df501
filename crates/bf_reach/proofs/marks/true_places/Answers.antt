use Rattle.std.proofs.Common.{ℕ, Bool, List, [], ◌∷◌, ◌++◌, length, ap, sym, ◌∙◌, arith}
use Rattle.bf_search.specs.Candidates.{is_in}
use Rattle.bf_search.proofs.RowLemmas.{is_in-lt}
use Rattle.bf_reach.proofs.Listed.{filter_next, filter_quiet}
use Rattle.bf_reach.proofs.marks.true_places.Goals as goal

pub loop-place-preserved : goal.loop-place-preserved
loop-place-preserved c =
    let row : List Bool = c.args.row.now in
    let next = c.in-Some.ensures.next in
    record {
      within = omega (arith, is_in-lt row c.in-Some.place next.is_true);
      listed = c.in_ok-push.ensures.items ∙ ap (λ (ps : List ℕ). ps ++ c.in-Some.place ∷ []) c.loop-place.invariant.listed
          ∙ sym (filter_next (λ p. is_in row p) c.loop-place.from c.in-Some.place next.from_low next.is_true next.false_before);
    }

pub returns : goal.returns
returns c =
    let row : List Bool = c.args.row.now in
    c.from_vec.ensures ∙ c.loop-place.invariant.listed ∙ sym
    (filter_quiet (λ p. is_in row p) c.loop-place.from (length row) c.loop-place.invariant.within (λ q low high. c.in_default.ensures.next q low))
