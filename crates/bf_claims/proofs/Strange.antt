-- Lemmas on listed places beside claimed ones.
use Rattle.std.proofs.Common.{◌≡◌, ℕ, ◌+◌, ◌<◌, ◌≤◌, ◌==◌, Bool, true, false, List, ◌∷◌, length, drop, get_or, slice_set, count_by, Some, None, ◌∙◌}
use Rattle.std.proofs.lemmas.Bool.{cond-true, cond-false}
use Rattle.std.proofs.lemmas.List.{at_drop_more, at_drop_all}
use Rattle.bf_search.specs.Candidates.{is_in}
use Rattle.bf_claims.specs.Goods.{strange}

at_first : (row : List Bool) (n : ℕ) (p : ℕ) (ps : List ℕ) → is_in row p ≡ false → strange row n (p ∷ ps) ≡ Some n
unfolding strange
at_first row n p ps out = cond-false (is_in row p) (strange (slice_set row p false) (n + 1) ps) (Some n) out

past_first : (row : List Bool) (n : ℕ) (p : ℕ) (ps : List ℕ) → is_in row p ≡ true → strange row n (p ∷ ps) ≡ strange (slice_set row p false) (n + 1) ps
unfolding strange
past_first row n p ps inside = cond-true (is_in row p) (strange (slice_set row p false) (n + 1) ps) (Some n) inside

-- a place that is not claimed
pub strange_here : (row : List Bool) (n i : ℕ) (ps : List ℕ) → i < length ps → is_in row (get_or ps i 0) ≡ false → strange row n (drop i ps) ≡ Some n
strange_here row n i ps lt out = at_drop_more (strange row n) ps i 0 lt ∙ at_first row n (get_or ps i 0) (drop (i + 1) ps) out

-- a place that is
pub strange_next : (row : List Bool) (n i : ℕ) (ps : List ℕ) → i < length ps → is_in row (get_or ps i 0) ≡ true
    → strange row n (drop i ps) ≡ strange (slice_set row (get_or ps i 0) false) (n + 1) (drop (i + 1) ps)
strange_next row n i ps lt inside = at_drop_more (strange row n) ps i 0 lt ∙ past_first row n (get_or ps i 0) (drop (i + 1) ps) inside

-- behind the last place, where none is left
pub none_strange : (row : List Bool) (n i : ℕ) (ps : List ℕ) → length ps ≤ i → (count_by (λ value. value) row == 0) ≡ true → strange row n (drop i ps) ≡ None
unfolding strange
none_strange row n i ps all none = at_drop_all (strange row n) ps i all ∙ cond-true (count_by (λ value. value) row == 0) None (Some n) none

-- and where one is
pub strange_behind : (row : List Bool) (n i : ℕ) (ps : List ℕ) → length ps ≤ i → (count_by (λ value. value) row == 0) ≡ false → strange row n (drop i ps) ≡ Some n
unfolding strange
strange_behind row n i ps all some = at_drop_all (strange row n) ps i all ∙ cond-false (count_by (λ value. value) row == 0) None (Some n) some
