-- Lemmas on the row of the parents of a row's places.
use Rattle.std.proofs.Common.{◌≡◌, ℕ, ◌+◌, ◌<◌, Bool, true, false, List, length, replicate, ap, sym, ◌∙◌, subst, ⊎_elim, arith}
use Rattle.std.proofs.lemmas.Bool.{cases_eq, both_ways}
use Rattle.std.proofs.lemmas.List.{length-replicate}
use Rattle.std.specs.List.{All, Contains}
use Rattle.bf_graph.specs.Graph.{parents_of}
use Rattle.bf_search.specs.Candidates.{is_in}
use Rattle.bf_reach.specs.Marks.{marked}
use Rattle.bf_reach.proofs.Marking.{length-marked, marked-tells, marked-kept, marked-true, none_marked}
use Rattle.bf_choice.specs.Parents.{IsParentsBelow}

pub IsParentsBelow-none : (graph : List (List ℕ)) (row : List Bool) (n : ℕ) → n ≡ length row → IsParentsBelow graph row 0 (replicate n false)
IsParentsBelow-none graph row n e = record {
  same_length = length-replicate n false ∙ e;
  has_child = λ q h. absurd (none_marked n q h);
  complete = λ q h l. absurd (omega arith);
}

-- a place that is false has no part
pub IsParentsBelow-skip : {graph : List (List ℕ)} {row parents : List Bool} {place : ℕ} → is_in row place ≡ false → IsParentsBelow graph row place parents
    → IsParentsBelow graph row (place + 1) parents
IsParentsBelow-skip {graph} {row} {parents} {place} unmarked m = record {
  same_length = m.same_length;
  has_child = m.has_child;
  complete = λ q h l.
      ⊎_elim
      (λ e. absurd (both_ways (is_in row place) unmarked (subst (λ (x : ℕ). is_in row x ≡ true) e h.is_true)))
      (λ n. m.complete q h (omega arith))
      (cases_eq h.child place);
}

-- the parents of one more place are marked
pub IsParentsBelow-more : {graph : List (List ℕ)} {row parents : List Bool} {place : ℕ} → (ps : List ℕ) → ps ≡ parents_of graph place → is_in row place ≡ true
    → All (λ p. p < length parents) ps
    → IsParentsBelow graph row place parents → IsParentsBelow graph row (place + 1) (marked parents ps)
IsParentsBelow-more {graph} {row} {parents} {place} ps are here within m = record {
  same_length = length-marked parents ps ∙ m.same_length;
  has_child = λ q h.
      ⊎_elim
      (λ k. m.has_child q k)
      (λ k. record { child = place; is_true = here; step = subst (λ (xs : List ℕ). Contains xs q) are k })
      (marked-tells parents ps q h);
  complete = λ q h l.
      ⊎_elim
      (λ e. marked-true parents ps q within (subst (λ (xs : List ℕ). Contains xs q) (ap (λ (x : ℕ). parents_of graph x) e ∙ sym are) h.step))
      (λ n. marked-kept parents ps q (m.complete q h (omega arith)))
      (cases_eq h.child place);
}
