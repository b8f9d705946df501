-- Candidates in one line: the best of them halves them.
use Rattle.std.proofs.Common.{◌≡◌, ℕ, zero, suc, ◌+◌, ◌-◌, ◌<◌, ◌≤◌, ◌⊎◌, min, Bool, true, false, ◌&&◌, cond, List, [], ◌∷◌, ◌++◌, length, map, Some, refl, sym}
use Rattle.std.proofs.Common.{ap, ◌∙◌, inl, inr, ⊎_elim, arith, zero-add}
use Rattle.std.proofs.Math.Nat.{min-le_left, min-le_right, le-min}
use Rattle.std.proofs.lemmas.Bool.{and_parts, and_from, not_from_false, false_from_ne_true, cases_Bool, cond-true, ne_eqb, leb-true}
use Rattle.std.proofs.lemmas.Bool.Decides.{leb_tells}
use Rattle.std.proofs.lemmas.List.Elements.{All-contains}
use Rattle.std.proofs.lemmas.List.FromFn.{length-range_with_len, get_or-range_with_len, get_or-map-range_with_len}
use Rattle.std.proofs.lemmas.List.Sums.{sum_by-cons, sum_by-append, AllPass-from_list_all}
use Rattle.std.specs.List.{count_by, list_all, range_with_len}
use Rattle.std.specs.Prelude.{slice_index, nat_le}
use Rattle.bf_graph.specs.Graph.{IsGraph}
use Rattle.bf_search.specs.Reach.{places, in_mode, Reaches, reaches}
use Rattle.bf_search.specs.Candidates.{is_in, is_candidate, candidate_row, weight, weights}
use Rattle.bf_search.specs.Choice.{count_in, value_of, is_eligible, eligible, best}
use Rattle.bf_search.specs.Guesses.{IsParted}
use Rattle.bf_search.specs.State.{Search, best_of}
use Rattle.bf_search.proofs.Reaching.{Reaches-from_test, reaches-true, Reaches-refl, Reaches-trans, Reaches-le, Reaches-same}
use Rattle.bf_search.proofs.Modes.{IsGraph-in_mode, Reaches-in_mode, length-in_mode}
use Rattle.bf_search.proofs.CandidateLemmas.{SomeReaches, IsCandidate, IsCandidate-from_test, is_candidate-true, is_in-candidate_row, length-candidate_row}
use Rattle.bf_search.proofs.Turns.{find_tells}
use Rattle.bf_state.proofs.OnePath.{filter_has}

-- ---- counting in a range

range_more : (a n j : ℕ) → a + n ≡ j → range_with_len a (suc n) ≡ range_with_len a n ++ j ∷ []
range_more a zero j e = let same : a ≡ j = omega arith in ap (λ x. x ∷ []) same
range_more a (suc n) j e = ap (λ xs. a ∷ xs) (range_more (a + 1) n j (omega arith))

abbrev as_number : Bool → ℕ
as_number b = cond b 1 0

-- how many of the first n places pass a test
abbrev pub first_of : (ℕ → Bool) → ℕ → ℕ
first_of f n = count_by f (range_with_len 0 n)

pub first_more : (f : ℕ → Bool) (n : ℕ) → first_of f (suc n) ≡ first_of f n + cond (f n) 1 0
first_more f n =
    omega (
      arith,
      ap (count_by f) (range_more 0 n n (omega arith)),
      sum_by-append (λ x. cond (f x) 1 0) (range_with_len 0 n) (n ∷ []),
      sum_by-cons
          (λ x. cond (f x) 1 0) n [],
    )

pub first_same : (f h : ℕ → Bool) (n : ℕ) → ((r : ℕ) → r < n → f r ≡ h r) → first_of f n ≡ first_of h n
first_same f h zero e = refl
first_same f h (suc n) e = omega (arith, first_more f n, first_more h n, first_same f h n (λ r l. e r (omega arith)), ap as_number (e n (omega arith)))

first_quiet : (f : ℕ → Bool) (m k n : ℕ) → m + k ≡ n → ((r : ℕ) → m ≤ r → r < n → f r ≡ false) → first_of f n ≡ first_of f m
first_quiet f m zero n e h = let same : n ≡ m = omega arith in ap (λ (x : ℕ). first_of f x) same
first_quiet f m (suc k) n e h =
    let same : n ≡ suc (m + k) = omega arith in
    omega (
      arith,
      ap (λ (x : ℕ). first_of f x) same,
      first_more f (m + k),
      ap as_number (h (m + k) (omega arith) (omega arith)),
      first_quiet f m k (m + k) refl
          (λ r l k'. h r l (omega arith)),
    )

first_mono : (f : ℕ → Bool) (m k n : ℕ) → m + k ≡ n → first_of f m ≤ first_of f n
first_mono f m zero n e = let same : n ≡ m = omega arith in omega (arith, ap (λ (x : ℕ). first_of f x) same)
first_mono f m (suc k) n e = let same : n ≡ suc (m + k) = omega arith in omega
    (arith, ap (λ (x : ℕ). first_of f x) same, first_more f (m + k), first_mono f m k (m + k) refl)

-- where so many pass, some place is the h-th that does
found_at : (f : ℕ → Bool) (n h : ℕ) → 1 ≤ h → h ≤ first_of f n → (p : ℕ) × (p < n) × (f p ≡ true) × (first_of f (suc p) ≡ h)
found_at f zero h low high = absurd (omega arith)
found_at f (suc n) h low high =
    ⊎_elim
    (λ (within : h ≤ first_of f n). let found = found_at f n h low within in (found.0, omega (arith, found.1), found.2, found.3))
    (λ (past : first_of f n < h).
    ⊎_elim
    (λ yes. (n, omega arith, yes, omega (arith, first_more f n, ap as_number yes)))
    (λ fails. absurd (omega (arith, first_more f n, ap as_number fails)))
    (cases_Bool (f n)))
    (cases_le h (first_of f n))
  where
    cases_le : (a b : ℕ) → (a ≤ b) ⊎ (b < a)
    cases_le a b = ⊎_elim (λ t. inl t.1) (λ t. inr t.1) (leb_tells a b)

pub parts_count : (whole one other : ℕ → Bool) (xs : List ℕ) → ((p : ℕ) → IsParted (whole p) (one p) (other p))
    → count_by one xs + count_by other xs ≡ count_by whole xs
parts_count whole one other [] h = refl
parts_count whole one other (x ∷ xs) h =
    omega (
      arith,
      sum_by-cons (λ y. cond (whole y) 1 0) x xs,
      sum_by-cons (λ y. cond (one y) 1 0) x xs,
      sum_by-cons (λ y. cond (other y) 1 0) x xs,
      at (whole x)
          (one x) (other x) (h x),
      parts_count whole one other xs h,
    )
  where
    at : (w a b : Bool) → IsParted w a b → cond a 1 0 + cond b 1 0 ≡ cond w 1 0
    at true true true k = let e = k.apart in cc
    at true true false k = refl
    at true false true k = refl
    at true false false k = let e = k.all in cc
    at false true b k = let e = k.all in cc
    at false false true k = let e = k.all in cc
    at false false false k = refl

halves_of : (n : ℕ) → (h : ℕ) × (h + h ≤ n) × (n ≤ h + h + 1)
halves_of zero = (0, omega arith, omega arith)
halves_of (suc zero) = (0, omega arith, omega arith)
halves_of (suc (suc n)) = let rest = halves_of n in (suc rest.0, omega (arith, rest.1), omega (arith, rest.2))

-- ---- the weights in a line

module _ (graph : List (List ℕ)) (s : Search) (bad : ℕ) (g : IsGraph graph) where
  abbrev Mode : List (List ℕ)
  Mode = in_mode graph s.first_parent

  abbrev Row : List Bool
  Row = candidate_row graph bad s.goods s.first_parent

  abbrev Has : ℕ → Bool
  Has p = is_candidate graph bad s.goods s.first_parent p

  abbrev Line : Type 0
  Line = (p q : ℕ) → Has p ≡ true → Has q ≡ true → Reaches Mode p q ⊎ Reaches Mode q p

  abbrev count_all : ℕ
  count_all = first_of Has (length graph)

  mode_is : IsGraph Mode
  mode_is = IsGraph-in_mode graph s.first_parent g

  weight_is : (p : ℕ) → Line → p < length graph → Has p ≡ true → weight Mode Row p ≡ first_of Has (suc p)
  unfolding weight
  weight_is p line place here =
      ap (λ (n : ℕ). count_by (λ q. is_in Row q && reaches Mode p q) (range_with_len 0 n)) (length-in_mode graph s.first_parent)
      ∙ first_quiet (λ q. is_in Row q && reaches Mode p q) (suc p) (length graph - suc p) (length graph) (omega arith) later
      ∙ first_same (λ q. is_in Row q && reaches Mode p q) Has (suc p) (λ r l. earlier r l (cases_Bool (Has r)))
    where
      later : (r : ℕ) → suc p ≤ r → r < length graph → (is_in Row r && reaches Mode p r) ≡ false
      later r l m = false_from_ne_true (is_in Row r && reaches Mode p r) (λ k.
          let down : r ≤ p = Reaches-le mode_is (Reaches-from_test Mode p r (and_parts (is_in Row r) (reaches Mode p r) k).1) in omega arith)

      reached : (r : ℕ) → r < suc p → Has r ≡ true → Reaches Mode p r
      reached r l k = ⊎_elim (λ down. down) (λ (up : Reaches Mode r p). let high : p ≤ r = Reaches-le mode_is up in Reaches-same Mode p r (omega arith))
          (line p r here k)

      earlier : (r : ℕ) → r < suc p → (Has r ≡ true) ⊎ (Has r ≡ false) → (is_in Row r && reaches Mode p r) ≡ Has r
      earlier r l (inl k) = and_from _ _ (is_in-candidate_row graph bad s.goods s.first_parent r (omega arith) ∙ k)
          (reaches-true Mode p r mode_is (reached r l k)) ∙ sym k
      earlier r l (inr k) = ap (λ (b : Bool). b && reaches Mode p r) (is_in-candidate_row graph bad s.goods s.first_parent r (omega arith) ∙ k) ∙ sym k

  -- all candidates stand at or below the bad place
  all_below : bad < length graph → first_of Has (length graph) ≡ first_of Has (suc bad)
  all_below place = first_quiet Has (suc bad) (length graph - suc bad) (length graph) (omega arith)
      (λ r l m. false_from_ne_true (Has r) (λ k.
      let down : r ≤ bad = Reaches-le mode_is (IsCandidate-from_test graph bad s.goods s.first_parent r g k).reached in omega arith))

  -- where there is a candidate, the bad place is one
  bad_is_one : (q : ℕ) → Has q ≡ true → Has bad ≡ true
  bad_is_one q k =
      let c : IsCandidate graph bad s.goods s.first_parent q = IsCandidate-from_test graph bad s.goods s.first_parent q g k in
      is_candidate-true graph bad s.goods s.first_parent bad g
      (record {
        reached = Reaches-refl Mode bad;
        not_good =
            λ (x : SomeReaches graph s.goods bad).
            let leads = Reaches-trans x.leads (Reaches-in_mode graph s.first_parent bad q c.reached) in
            c.not_good (record { source = x.source; among = x.among; leads = leads });
      })

  two_at_least : (q : ℕ) → Has q ≡ true → (q ≡ bad → ⊥) → bad < length graph → 2 ≤ count_all
  two_at_least q k other place =
      let low : q ≤ bad = Reaches-le mode_is (IsCandidate-from_test graph bad s.goods s.first_parent q g k).reached in
      let below : suc q ≤ bad = under low in
      omega (
        arith,
        all_below place,
        first_more Has bad,
        ap as_number (bad_is_one q k),
        first_mono Has (suc q) (bad - suc q) bad (omega arith),
        first_more Has
            q,
        ap as_number k,
      )
    where
      under : q ≤ bad → suc q ≤ bad
      under low = ⊎_elim (λ t. t.1) (λ t. let high : bad < suc q = t.1 in absurd (other (omega arith))) (leb_tells (suc q) bad)

  count_row : count_in Row ≡ count_all
  unfolding candidate_row
  count_row = count_by-map Has (places graph)
    where
      count_by-map : (f : ℕ → Bool) (qs : List ℕ) → count_by (λ v. v) (map f qs) ≡ count_by f qs
      count_by-map f [] = refl
      count_by-map f (q ∷ qs) =
          sum_by-cons (λ v. cond v 1 0) (f q) (map f qs) ∙ ap (λ n. cond (f q) 1 0 + n) (count_by-map f qs) ∙ sym (sum_by-cons (λ y. cond (f y) 1 0) q qs)

  abbrev Value : ℕ → ℕ
  Value p = value_of (count_in Row) (slice_index (weights graph Row s.first_parent) p)

  weight_at : (p : ℕ) → Line → p < length graph → Has p ≡ true → slice_index (weights graph Row s.first_parent) p ≡ first_of Has (suc p)
  unfolding weights
  weight_at p line place here =
      get_or-map-range_with_len (λ q. cond (is_in Row q) (weight Mode Row q) 0) 0 (length graph) p p 0 place (zero-add p)
      ∙ cond-true (is_in Row p) (weight Mode Row p) 0 (is_in-candidate_row graph bad s.goods s.first_parent p place ∙ here)
      ∙ weight_is p line place here

  -- no candidate has a greater value than the best
  best_leads : (p q : ℕ) → ((r : ℕ) → is_in s.skips r ≡ false) → best_of graph s bad ≡ Some q → p < length graph → Has p ≡ true → (p ≡ bad → ⊥)
      → Value p ≤ Value q
  unfolding best_of best
  best_leads p q unskipped chosen place here other =
      leb-true (Value p) (Value q)
      (All-contains (λ x. nat_le (Value x) (Value q) ≡ true) (eligible Row bad s.skips) p
      (AllPass-from_list_all (λ x. nat_le (Value x) (Value q)) (eligible Row bad s.skips)
      (find_tells (λ y. list_all (λ x. nat_le (Value x) (Value y)) (eligible Row bad s.skips)) (eligible Row bad s.skips) q chosen).1)
      (filter_has (λ x. is_eligible Row bad s.skips x) (range_with_len 0 (length Row)) p (
        p,
        omega (arith, length-range_with_len 0 (length Row), length-candidate_row graph bad s.goods s.first_parent),
        get_or-range_with_len 0 (length Row) p p
            (omega (arith, length-candidate_row graph bad s.goods s.first_parent)) ∙ zero-add p,
      )
      (and_from _ _ (and_from _ _ (is_in-candidate_row graph bad s.goods s.first_parent p place ∙ here) (not_from_false _ (ne_eqb p bad other)))
      (not_from_false _ (unskipped p)))))

  -- what the best candidate leaves on both sides
  pub best_halves : (q : ℕ) → Line → ((r : ℕ) → is_in s.skips r ≡ false) → best_of graph s bad ≡ Some q → q < length graph → bad < length graph → Has q ≡ true
      → (q ≡ bad → ⊥)
      → (h : ℕ) × (1 ≤ h) × (h + h ≤ first_of Has (length graph)) × (first_of Has (length graph) ≤ h + h + 1) × (h ≤ first_of Has (suc q))
      × (h + first_of Has (suc q) ≤ first_of Has (length graph))
  best_halves q line unskipped chosen place bad_place here other =
      (h, some_half, half.1, half.2, omega (arith, left_side), omega (arith, right_side, some_half))
    where
      half : (x : ℕ) × (x + x ≤ first_of Has (length graph)) × (first_of Has (length graph) ≤ x + x + 1)
      half = halves_of (first_of Has (length graph))

      h : ℕ
      h = half.0

      some_half : 1 ≤ h
      some_half = omega (arith, two_at_least q here other bad_place, half.2)

      middle : (p : ℕ) × (p < length graph) × (Has p ≡ true) × (first_of Has (suc p) ≡ h)
      middle = found_at Has (length graph) h some_half (omega (arith, half.1))

      not_bad : middle.0 ≡ bad → ⊥
      not_bad e = let same = ap (λ (x : ℕ). first_of Has (suc x)) e in omega (arith, same, all_below bad_place, middle.3, half.1, some_half)

      at_middle : Value middle.0 ≡ min h (first_of Has (length graph) - h)
      at_middle =
          ap (λ (w : ℕ). value_of (count_in Row) w) (weight_at middle.0 line middle.1 middle.2 ∙ middle.3)
          ∙ ap (λ (n : ℕ). min h (n - h)) count_row

      at_best : Value q ≡ min (first_of Has (suc q)) (first_of Has (length graph) - first_of Has (suc q))
      at_best =
          ap (λ (w : ℕ). value_of (count_in Row) w) (weight_at q line place here)
          ∙ ap (λ (n : ℕ). min (first_of Has (suc q)) (n - first_of Has (suc q))) count_row

      reaches_half : h ≤ min (first_of Has (suc q)) (first_of Has (length graph) - first_of Has (suc q))
      reaches_half =
          let low : h ≤ min h (first_of Has (length graph) - h) = le-min (omega arith) (omega (arith, half.1)) in
          omega (arith, low, at_middle, at_best, best_leads middle.0 q unskipped chosen middle.1 middle.2 not_bad)

      left_side : h ≤ first_of Has (suc q)
      left_side = omega (arith, reaches_half, min-le_left (first_of Has (suc q)) (first_of Has (length graph) - first_of Has (suc q)))

      right_side : h ≤ first_of Has (length graph) - first_of Has (suc q)
      right_side = omega (arith, reaches_half, min-le_right (first_of Has (suc q)) (first_of Has (length graph) - first_of Has (suc q)))

  -- how many candidates the place reaches in the mode, counted in the whole graph
  pub reached_count : (q : ℕ) → Line → q < length graph → Has q ≡ true → first_of (λ p. Has p && reaches Mode q p) (length graph) ≡ first_of Has (suc q)
  unfolding weight
  reached_count q line place here =
      first_same (λ p. Has p && reaches Mode q p) (λ p. is_in Row p && reaches Mode q p) (length graph)
      (λ r l. ap (λ (b : Bool). b && reaches Mode q r) (sym (is_in-candidate_row graph bad s.goods s.first_parent r l)))
      ∙ sym (ap (λ (n : ℕ). count_by (λ p. is_in Row p && reaches Mode q p) (range_with_len 0 n)) (length-in_mode graph s.first_parent))
      ∙ weight_is q line place here
