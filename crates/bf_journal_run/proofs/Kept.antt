-- The answers that a tester is to remember, by place.
use Rattle.std.proofs.Common.{◌≡◌, ℕ, zero, suc, ◌+◌, ◌<◌, ◌≤◌, List, [], ◌∷◌, ◌++◌, length, drop, get_or, Option, Some, None, refl, sym, ap, ◌∙◌, subst, arith, add-one, drop-cons, append_assoc, append-nil}
use Rattle.std.proofs.lemmas.Bool.Decides.{nat_tests}
use Rattle.bf_oid.specs.declared.object.Oid.{Oid}
use Rattle.bf_journal.specs.Remembered.{AreNew, outcome_at}
use Rattle.bf_journal.proofs.Remembering.{outcome_at-push}
use Rattle.bf_search.specs.declared.outcomes.Outcome.{Outcome}
use Rattle.bf_search.specs.Outcomes.{outcomes_of_table}
use Rattle.bf_tester.specs.declared.answer.Answer.{Answer}
use Rattle.bf_journal_run.specs.Kept.{answer_if, answers_from, answers_of}

-- ---- while they are gathered

next_both : (names : List Oid) (kept : List (Option Outcome)) (i : ℕ) (d : Oid) → i < length names → i < length kept
    → answers_from i (drop i names) (drop i kept)
    ≡ answers_from i (get_or names i d ∷ drop (i + 1) names) (get_or kept i None ∷ drop (i + 1) kept)
next_both names kept i d low high =
    ap (λ (ns : List Oid). answers_from i ns (drop i kept))
    (drop-cons names i d low ∙ ap (λ (n : ℕ). get_or names i d ∷ drop n names) (sym (add-one i)))
    ∙ ap (λ (ks : List (Option Outcome)). answers_from i (get_or names i d ∷ drop (i + 1) names) ks)
    (drop-cons kept i None high ∙ ap (λ (n : ℕ). get_or kept i None ∷ drop n kept) (sym (add-one i)))

-- the answer of the next place, where its outcome is kept
pub next_gathered : (names : List Oid) (kept : List (Option Outcome)) (i : ℕ) (d name : Oid) (o : Option Outcome) (items more all : List Answer)
    → i < length names → i < length kept → get_or names i d ≡ name → o ≡ get_or kept i None
    → more ≡ items ++ answer_if i name o
    → items ++ answers_from i (drop i names) (drop i kept) ≡ all
    → more ++ answers_from (i + 1) (drop (i + 1) names) (drop (i + 1) kept) ≡ all
next_gathered names kept i d name o items more all low high named is pushed so_far =
    let rest = answers_from (i + 1) (drop (i + 1) names) (drop (i + 1) kept) in
    ap (λ (l : List Answer). l ++ rest) pushed
    ∙ append_assoc items (answer_if i name o) rest
    ∙ ap (λ (l : List Answer). items ++ l)
    (sym (next_both names kept i d low high
    ∙ ap (λ (n : Oid). answers_from i (n ∷ drop (i + 1) names) (get_or kept i None ∷ drop (i + 1) kept)) named
    ∙ ap (λ (x : Option Outcome). answers_from i (name ∷ drop (i + 1) names) (x ∷ drop (i + 1) kept)) (sym is)))
    ∙ so_far

none_left : (i : ℕ) (names : List Oid) (kept : List (Option Outcome)) → length names ≡ i → answers_from i (drop i names) (drop i kept) ≡ []
none_left i names kept long = subst (λ (ns : List Oid). answers_from i ns (drop i kept) ≡ []) (sym (nothing names i long)) refl
  where
    nothing : (names : List Oid) (i : ℕ) → length names ≡ i → drop i names ≡ []
    nothing [] zero e = refl
    nothing [] (suc i) e = refl
    nothing (n ∷ names) zero e = absurd (omega (arith, e))
    nothing (n ∷ names) (suc i) e = nothing names i (omega (arith, e))

-- at the end they are all
pub all_gathered : (names : List Oid) (kept : List (Option Outcome)) (items : List Answer)
    → items ++ answers_from (length names) (drop (length names) names) (drop (length names) kept) ≡ answers_of names kept
    → items ≡ answers_of names kept
all_gathered names kept items so_far =
    sym (append-nil items) ∙ ap (λ (l : List Answer). items ++ l) (sym (none_left (length names) names kept refl)) ∙ so_far

-- ---- once they are remembered

outcome_before : (p q : ℕ) (names : List Oid) (kept : List (Option Outcome)) → q < p → outcome_at (answers_from p names kept) q ≡ None
outcome_before p q (name ∷ names) (Some outcome ∷ kept) low =
    let rest = outcome_before (p + 1) q names kept (omega (arith, low)) in grind (arith, nat_tests, rest)
outcome_before p q (name ∷ names) (None ∷ kept) low = outcome_before (p + 1) q names kept (omega (arith, low))
outcome_before p q (name ∷ names) [] low = refl
outcome_before p q [] kept low = refl

outcome_from : (p k q : ℕ) (names : List Oid) (kept : List (Option Outcome)) → length names ≡ length kept → q ≡ p + k
    → outcome_at (answers_from p names kept) q ≡ outcomes_of_table kept k
outcome_from p k q [] [] long at = refl
outcome_from p k q [] (o ∷ kept) long at = absurd (omega (arith, long))
outcome_from p k q (name ∷ names) [] long at = absurd (omega (arith, long))
outcome_from p zero q (name ∷ names) (None ∷ kept) long at = outcome_before (p + 1) q names kept (omega (arith, at))
outcome_from p (suc k) q (name ∷ names) (None ∷ kept) long at = outcome_from (p + 1) k q names kept (omega (arith, long)) (omega (arith, at))
outcome_from p zero q (name ∷ names) (Some outcome ∷ kept) long at = grind (arith, nat_tests)
outcome_from p (suc k) q (name ∷ names) (Some outcome ∷ kept) long at =
    let rest = outcome_from (p + 1) k q names kept (omega (arith, long)) (omega (arith, at)) in grind (arith, nat_tests, rest)

-- each place is remembered as it was kept
pub outcome_of : (names : List Oid) (kept : List (Option Outcome)) (p : ℕ) → length names ≡ length kept
    → outcome_at (answers_of names kept) p ≡ outcomes_of_table kept p
outcome_of names kept p long = outcome_from 0 p p names kept long (omega arith)

new_from : (remembered : List Answer) (p : ℕ) (names : List Oid) (kept : List (Option Outcome))
    → ((q : ℕ) → p ≤ q → outcome_at remembered q ≡ None) → AreNew remembered (answers_from p names kept)
new_from remembered p (name ∷ names) (Some outcome ∷ kept) none =
    let one : Answer = record { place = p; name = name; outcome = outcome } in (
      none p (omega arith),
      new_from (remembered ++ one ∷ []) (p + 1) names kept
          (λ q high. let pushed = outcome_at-push remembered one q (none p (omega arith)) in
          let old = none q (omega (arith, high)) in grind (arith, nat_tests, pushed, old)),
    )
new_from remembered p (name ∷ names) (None ∷ kept) none = new_from remembered (p + 1) names kept (λ q high. none q (omega (arith, high)))
new_from remembered p (name ∷ names) [] none = tt
new_from remembered p [] kept none = tt

-- no place stands twice
pub all_new : (names : List Oid) (kept : List (Option Outcome)) (remembered : List Answer) → remembered ≡ [] → AreNew remembered (answers_of names kept)
all_new names kept remembered none =
    subst (λ (r : List Answer). AreNew r (answers_of names kept)) (sym none) (new_from [] 0 names kept (λ q high. refl))
