-- Ones are counted in eight lanes, from the front on.
use Rattle.std.proofs.Common.{◌≡◌, ℕ, ◌+◌, ◌*◌, ◌^◌, ◌<◌, ◌≤◌, suc, List, [], ◌∷◌, length, get_or, take, map, refl, sym, ap, subst, ◌∙◌, arith, ⊎_elim}
use Rattle.std.proofs.Common.{count_ones, w64}
use Rattle.std.specs.List.{sum_by}
use Rattle.std.specs.Simd.Lanes.{zip2, chunk, sum_l, Each2, Steps}
use Rattle.std.proofs.lemmas.Simd.{sum-zip2, length-zip2, length-chunk, get_or-chunk, adds_fit, sum_fits}
use Rattle.std.proofs.lemmas.List.{length-map, get_or_past}
use Rattle.std.proofs.lemmas.Bool.{cases_lt}
use Rattle.std.proofs.lemmas.List.Sums.{sum_by-cons, sum_by-append, sum_by-take-le}
use Rattle.std.proofs.lemmas.Nat.{ones-le}
use Rattle.std.proofs.Math.Seq.{take-add}
use mir.Val.{Fits}

-- the lanes sum up to the ones of the first n words
pub record Counted (words lanes : List ℕ) (n : ℕ) : Type 0 where
  pub counted : sum_l lanes ≡ sum_by count_ones (take n words)
  pub whole : length lanes ≡ 8

sum_l-map : (f : ℕ → ℕ) (xs : List ℕ) → sum_l (map f xs) ≡ sum_by f xs
sum_l-map f [] = refl
sum_l-map f (x ∷ xs) = ap (λ n. f x + n) (sum_l-map f xs) ∙ sym (sum_by-cons f x xs)

ones_bound : (words : List ℕ) → ((k : ℕ) → get_or words k 0 < 2 ^ 64) → sum_by count_ones words ≤ 64 * length words
ones_bound [] fits = omega arith
ones_bound (w ∷ ws) fits = omega (arith, sum_by-cons count_ones w ws, ones-le 64 w (fits 0), ones_bound ws (λ k. fits (suc k)))

-- no count comes near the end of its type
pub ones_small : (words : List ℕ) (n : ℕ) → ((k : ℕ) → get_or words k 0 < 2 ^ 64) → length words < 2 ^ 32 → sum_by count_ones (take n words) < 2 ^ 40
ones_small words n fits short = omega (arith, sum_by-take-le count_ones words n, ones_bound words fits)

pub ones_more : (words : List ℕ) (n m : ℕ) → m ≡ n + 8
    → sum_by count_ones (take m words) ≡ sum_by count_ones (take n words) + sum_by count_ones (chunk n 8 words)
ones_more words n m e = ap (λ k. sum_by count_ones (take k words)) e ∙ ap (sum_by count_ones) (take-add n 8 words) ∙ sum_by-append count_ones (take n words)
    (chunk n 8 words)

pub lane_sum : (words counts : List ℕ) (n : ℕ) → counts ≡ map count_ones (chunk n 8 words) → sum_l counts ≡ sum_by count_ones (chunk n 8 words)
lane_sum words counts n e = ap sum_l e ∙ sum_l-map count_ones (chunk n 8 words)

pub lanes_fit : (words lanes counts : List ℕ) (n : ℕ) → Counted words lanes n → counts ≡ map count_ones (chunk n 8 words)
    → ((k : ℕ) → get_or words k 0 < 2 ^ 64) → length words < 2 ^ 32
    → Each2 (λ a b. Fits w64 (a + b)) lanes counts
lanes_fit words lanes counts n h e fits short =
    adds_fit w64 lanes counts (omega (arith, h.counted, lane_sum words counts n e, ones_more words n (n + 8) refl, ones_small words (n + 8) fits short))

pub counted_lanes : (words lanes counts : List ℕ) (n m : ℕ) → Counted words lanes n → counts ≡ map count_ones (chunk n 8 words) → n + 8 ≤ length words
    → m ≡ n + 8
    → Counted words (zip2 (λ a b. a + b) lanes counts) m
counted_lanes words lanes counts n m h e room more =
    let eight : length counts ≡ 8 = ap length e ∙ length-map (chunk n 8 words) count_ones ∙ length-chunk n 8 words room in
    let same : length lanes ≡ length counts = h.whole ∙ sym eight in
    record {
      counted = sum-zip2 lanes counts same ∙ omega (arith, h.counted, lane_sum words counts n e, ones_more words n m more);
      whole = length-zip2 (λ a b. a + b) lanes counts same ∙ h.whole;
    }

pub total_fits : (words lanes : List ℕ) (n : ℕ) → Counted words lanes n → ((k : ℕ) → get_or words k 0 < 2 ^ 64) → length words < 2 ^ 32
    → Steps (λ s x. Fits w64 (s + x)) (λ s x. s + x) 0 lanes
total_fits words lanes n h fits short = sum_fits w64 0 lanes (omega (arith, h.counted, ones_small words n fits short))

pub ones_of_vector : (words : List ℕ) (at : ℕ) → at + 8 ≤ length words → ((k : ℕ) → get_or words k 0 < 2 ^ 64) → sum_by count_ones (chunk at 8 words) ≤ 512
ones_of_vector words at room fits =
    let row : List ℕ = chunk at 8 words in
    let row_fits : (i : ℕ) → get_or row i 0 < 2 ^ 64 = λ i. ⊎_elim
    (λ low. subst (λ w. w < 2 ^ 64) (sym (get_or-chunk at 8 words i 0 low)) (fits (at + i)))
    (λ past. subst (λ w. w < 2 ^ 64) (sym (get_or_past row i 0 (omega (arith, length-chunk at 8 words room)))) (omega arith))
    (cases_lt i 8) in
    omega (arith, ones_bound row row_fits, length-chunk at 8 words room)
