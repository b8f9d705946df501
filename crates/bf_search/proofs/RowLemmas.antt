-- Lemmas on rows of truth values: a place that is set.
use Rattle.std.proofs.Common.{◌≡◌, ℕ, ◌<◌, ◌⊎◌, Bool, true, false, List, length, set, sym, ◌∙◌, subst, inl, inr, ⊎_elim}
use Rattle.std.proofs.lemmas.Bool.{cases_eq, cases_lt, both_ways}
use Rattle.std.proofs.lemmas.List.{get_or-set_same, get_or-set_other, get_or_past}
use Rattle.bf_search.specs.Candidates.{is_in}

pub is_in-lt : (row : List Bool) (q : ℕ) → is_in row q ≡ true → q < length row
is_in-lt row q h = ⊎_elim (λ l. l) (λ l. absurd (both_ways (is_in row q) (get_or_past row q false l) h)) (cases_lt q (length row))

pub is_in-set : (row : List Bool) (p q : ℕ) → is_in (set row p true) q ≡ true → (is_in row q ≡ true) ⊎ (p ≡ q)
is_in-set row p q h = ⊎_elim (λ e. inr (sym e)) (λ n. inl (sym (get_or-set_other row p q true false n) ∙ h)) (cases_eq q p)

pub set-kept : (row : List Bool) (p q : ℕ) → is_in row q ≡ true → is_in (set row p true) q ≡ true
set-kept row p q h =
    ⊎_elim
    (λ e. subst (λ (x : ℕ). is_in (set row p true) x ≡ true) (sym e)
    (get_or-set_same row p true false (subst (λ (x : ℕ). x < length row) e (is_in-lt row q h))))
    (λ n. get_or-set_other row p q true false n ∙ h)
    (cases_eq q p)
