-- The best candidate in short is the best candidate.
use Rattle.std.proofs.Common.{◌≡◌, ℕ, zero, suc, ◌+◌, ◌-◌, ◌<◌, ◌≤◌, min, Bool, true, false, not, ◌&&◌, ◌==◌, cond, List, [], ◌∷◌, length, map, Option}
use Rattle.std.proofs.Common.{Some, refl, ap, sym, ◌∙◌, subst, arith, get_or}
use Rattle.std.proofs.lemmas.Bool.{cond-true}
use Rattle.std.proofs.lemmas.List.Elements.{All-filter, filter_passes, All-contains}
use Rattle.std.proofs.lemmas.List.FromFn.{get_or-map-range_with_len}
use Rattle.std.proofs.lemmas.List.Sums.{length-filter, sum_by-cons}
use Rattle.std.specs.Prelude.{nat_le}
use Rattle.std.specs.List.{All, Contains, filter, find, list_all, count_by, range_with_len}
use Rattle.bf_search.specs.Reach.{in_mode, reaches}
use Rattle.bf_search.specs.Candidates.{is_in, is_candidate, candidates, candidate_row, weight, weights}
use Rattle.bf_search.specs.Choice.{best, eligible, value_of, count_in}
use Rattle.bf_search.specs.State.{Search, best_of}
use Rattle.bf_search.proofs.CandidateLemmas.{is_in-candidate_row, length-candidate_row}
use Rattle.bf_search.proofs.Modes.{length-in_mode}
use Rattle.bf_search.proofs.Turns.{range_within}
use Rattle.bf_headline.proofs.Reaching.{reaches-is}
use Rattle.bf_headline.specs.Headline as short
use Rattle.bf_headline.specs.Links.{standing_of}

-- ---- lists

filter_agree_on : (f g : ℕ → Bool) (a n : ℕ) → ((k : ℕ) → a ≤ k → k < a + n → f k ≡ g k) → filter f (range_with_len a n) ≡ filter g (range_with_len a n)
filter_agree_on f g a zero h = refl
filter_agree_on f g a (suc n) h =
    let rest : filter f (range_with_len (a + 1) n) ≡ filter g (range_with_len (a + 1) n) = filter_agree_on f g (a + 1) n
    (λ k l m. h k (omega arith) (omega arith)) in
    rw (h a (omega arith) (omega arith), rest)

count_agree_on : (f g : ℕ → Bool) (a n : ℕ) → ((k : ℕ) → a ≤ k → k < a + n → f k ≡ g k) → count_by f (range_with_len a n) ≡ count_by g (range_with_len a n)
count_agree_on f g a n h = sym (length-filter f (range_with_len a n)) ∙ ap length (filter_agree_on f g a n h) ∙ length-filter g (range_with_len a n)

both_head : (b : Bool) (g : ℕ → Bool) (x : ℕ) (fs rest : List ℕ) → filter g fs ≡ rest → filter g (cond b (x ∷ fs) fs) ≡ cond (b && g x) (x ∷ rest) rest
both_head true g x fs rest h = ap (λ (r : List ℕ). cond (g x) (x ∷ r) r) h
both_head false g x fs rest h = h

filter_both : (f g : ℕ → Bool) (xs : List ℕ) → filter g (filter f xs) ≡ filter (λ x. f x && g x) xs
filter_both f g [] = refl
filter_both f g (x ∷ xs) = both_head (f x) g x (filter f xs) (filter (λ y. f y && g y) xs) (filter_both f g xs)

count_filter : (f g : ℕ → Bool) (xs : List ℕ) → count_by g (filter f xs) ≡ count_by (λ x. f x && g x) xs
count_filter f g xs = sym (length-filter g (filter f xs)) ∙ ap length (filter_both f g xs) ∙ length-filter (λ x. f x && g x) xs

count_map : (f : ℕ → Bool) (xs : List ℕ) → count_by (λ (b : Bool). b) (map f xs) ≡ count_by f xs
count_map f [] = refl
count_map f (x ∷ xs) =
    sum_by-cons (λ (b : Bool). cond b 1 0) (f x) (map f xs)
    ∙ ap (λ (v : ℕ). cond (f x) 1 0 + v) (count_map f xs)
    ∙ sym (sum_by-cons (λ y. cond (f y) 1 0) x xs)

all_agree : (f g : ℕ → Bool) (xs : List ℕ) → ((x : ℕ) → Contains xs x → f x ≡ g x) → list_all f xs ≡ list_all g xs
all_agree f g [] h = refl
all_agree f g (x ∷ xs) h =
    ap (λ (b : Bool). b && list_all f xs) (h x (0, omega arith, refl))
    ∙ ap (λ (b : Bool). g x && b) (all_agree f g xs (λ y c. h y (suc c.0, omega (arith, c.1), c.2)))

find_agree : (f g : ℕ → Bool) (xs : List ℕ) → ((x : ℕ) → Contains xs x → f x ≡ g x) → find f xs ≡ find g xs
find_agree f g [] h = refl
find_agree f g (x ∷ xs) h =
    ap (λ (b : Bool). cond b (Some x) (find f xs)) (h x (0, omega arith, refl))
    ∙ ap (λ (o : Option ℕ). cond (g x) (Some x) o) (find_agree f g xs (λ y c. h y (suc c.0, omega (arith, c.1), c.2)))

and_assoc : (a b c : Bool) → (a && b && c) ≡ (a && (b && c))
and_assoc true b c = refl
and_assoc false b c = refl

-- ---- the best candidate

module _ (graph : List (List ℕ)) (s : Search) (bad : ℕ) where
  abbrev pub mask : List Bool
  mask = candidate_row graph bad s.goods s.first_parent

  abbrev pub left : List ℕ
  left = candidates graph bad s.goods s.first_parent

  abbrev pub is_left : ℕ → Bool
  is_left p = is_candidate graph bad s.goods s.first_parent p

  abbrev pub may : ℕ → Bool
  may p = not (p == bad) && not (is_in s.skips p)

  left_are : left ≡ filter is_left (range_with_len 0 (length graph))
  unfolding candidates
  left_are = refl

  row_is : (k : ℕ) → k < length graph → is_in mask k ≡ is_left k
  row_is k h = is_in-candidate_row graph bad s.goods s.first_parent k h

  length_row : length mask ≡ length graph
  length_row = length-candidate_row graph bad s.goods s.first_parent

  eligible_are : eligible mask bad s.skips ≡ filter may left
  eligible_are =
      ap (λ (n : ℕ). filter (λ p. is_in mask p && not (p == bad) && not (is_in s.skips p)) (range_with_len 0 n)) length_row
      ∙ filter_agree_on (λ p. is_in mask p && not (p == bad) && not (is_in s.skips p)) (λ p. is_left p && (not (p == bad) && not (is_in s.skips p))) 0 (length graph)
      (λ k l m. and_assoc (is_in mask k) (not (k == bad)) (not (is_in s.skips k)) ∙ ap (λ (b : Bool). b && (not (k == bad) && not (is_in s.skips k))) (row_is k (omega arith)))
      ∙ sym (filter_both is_left (λ p. not (p == bad) && not (is_in s.skips p)) (range_with_len 0 (length graph)))
      ∙ ap (λ (ps : List ℕ). filter (λ p. not (p == bad) && not (is_in s.skips p)) ps) (sym left_are)

  -- how many there are
  count_are : count_in mask ≡ length left
  unfolding candidate_row
  count_are =
      count_map (λ p. is_candidate graph bad s.goods s.first_parent p) (range_with_len 0 (length graph))
      ∙ sym (length-filter is_left (range_with_len 0 (length graph)))
      ∙ ap length (sym left_are)

  -- the weight of a candidate
  abbrev pub reached : ℕ → ℕ → Bool
  reached p q = reaches (in_mode graph s.first_parent) p q

  weight_in : (p : ℕ) → weight (in_mode graph s.first_parent) mask p ≡ count_by (reached p) left
  unfolding weight
  weight_in p =
      ap (λ (n : ℕ). count_by (λ q. is_in mask q && reached p q) (range_with_len 0 n)) (length-in_mode graph s.first_parent)
      ∙ count_agree_on (λ q. is_in mask q && reached p q) (λ q. is_left q && reached p q) 0 (length graph)
      (λ k l m. ap (λ (b : Bool). b && reached p k) (row_is k (omega arith)))
      ∙ sym (count_filter is_left (reached p) (range_with_len 0 (length graph)))
      ∙ ap (λ (ps : List ℕ). count_by (reached p) ps) (sym left_are)

  weight_is : (p : ℕ) → p < length graph → is_left p ≡ true → get_or (weights graph mask s.first_parent) p 0 ≡ count_by (reached p) left
  unfolding weights
  weight_is p within h =
      get_or-map-range_with_len (λ q. cond (is_in mask q) (weight (in_mode graph s.first_parent) mask q) 0) 0 (length graph) p p 0 within (omega arith)
      ∙ cond-true (is_in mask p) (weight (in_mode graph s.first_parent) mask p) 0 (row_is p within ∙ h)
      ∙ weight_in p

  abbrev pub worth : ℕ → ℕ
  worth p = value_of (count_in mask) (get_or (weights graph mask s.first_parent) p 0)

  abbrev pub worth_here : ℕ → ℕ
  worth_here p = let w = count_by (reached p) left in min w (length left - w)

  value_is : (p : ℕ) → p < length graph → is_left p ≡ true → worth p ≡ worth_here p
  value_is p within h =
      ap (λ (w : ℕ). min w (count_in mask - w)) (weight_is p within h)
      ∙ ap (λ (n : ℕ). min (count_by (reached p) left) (n - count_by (reached p) left)) count_are

  left_within : All (λ q. q < length graph) left
  left_within = subst (λ (ps : List ℕ). All (λ q. q < length graph) ps) (sym left_are)
      (All-filter is_left (λ q. q < length graph) (range_with_len 0 (length graph)) (range_within (length graph)))

  left_pass : All (λ q. is_left q ≡ true) left
  left_pass = subst (λ (ps : List ℕ). All (λ q. is_left q ≡ true) ps) (sym left_are) (filter_passes is_left (range_with_len 0 (length graph)))

  -- a candidate is one, and a place of the graph
  left_tells : (p : ℕ) → Contains left p → (p < length graph) × (is_left p ≡ true)
  left_tells p c = (
    All-contains (λ q. q < length graph) left p left_within c,
    All-contains (λ q. is_left q ≡ true) left p left_pass c,
  )

  -- so is one that may be asked
  eligible_tells : (p : ℕ) → Contains (filter may left) p → (p < length graph) × (is_left p ≡ true)
  eligible_tells p c = (
    All-contains (λ q. q < length graph) (filter may left) p (All-filter may (λ q. q < length graph) left left_within) c,
    All-contains (λ q. is_left q ≡ true) (filter may left) p (All-filter may (λ q. is_left q ≡ true) left left_pass) c,
  )

  worth_is : (p : ℕ) → Contains (filter may left) p → worth p ≡ worth_here p
  worth_is p c = let there = eligible_tells p c in value_is p there.0 there.1

  abbrev chosen : (ℕ → ℕ) → Option ℕ
  chosen value = find (λ p. list_all (λ q. nat_le (value q) (value p)) (filter may left)) (filter may left)

  chosen_is : best_of graph s bad ≡ chosen worth_here
  unfolding best_of best
  chosen_is =
      ap (λ (ps : List ℕ). find (λ p. list_all (λ q. nat_le (worth q) (worth p)) ps) ps) eligible_are
      ∙ find_agree (λ p. list_all (λ q. nat_le (worth q) (worth p)) (filter may left)) (λ p. list_all (λ q. nat_le (worth_here q) (worth_here p)) (filter may left))
      (filter may left)
      (λ p c. all_agree (λ q. nat_le (worth q) (worth p)) (λ q. nat_le (worth_here q) (worth_here p)) (filter may left)
      (λ q d. ap (λ (v : ℕ). nat_le v (worth p)) (worth_is q d) ∙ ap (λ (v : ℕ). nat_le (worth_here q) v) (worth_is p c)))

value-is : (graph : List (List ℕ)) (s : Search) (bad : ℕ) → short.value graph (standing_of s bad) (left graph s bad) ≡ worth_here graph s bad
value-is graph s bad =
    λ i p. let w = count_by (λ q. reaches-is (in_mode graph s.first_parent) i p q) (left graph s bad) in min w (length (left graph s bad) - w)

pub best-is : (graph : List (List ℕ)) (s : Search) (bad : ℕ) → best_of graph s bad ≡ short.best graph (standing_of s bad) (left graph s bad)
best-is graph s bad = chosen_is graph s bad ∙ ap (chosen graph s bad) (sym (value-is graph s bad))

-- the value of a candidate
pub value_of-is : (graph : List (List ℕ)) (s : Search) (bad p : ℕ) → Contains (left graph s bad) p
    → worth graph s bad p ≡ short.value graph (standing_of s bad) (left graph s bad) p
value_of-is graph s bad p c =
    let there = left_tells graph s bad p c in
    value_is graph s bad p there.0 there.1 ∙ ap (λ (value : ℕ → ℕ). value p) (sym (value-is graph s bad))
