-- Rankings, and what is chosen in them.
use Rattle.std.proofs.Common.{◌≡◌, ◌⊎◌, inl, inr, ℕ, ◌+◌, ◌-◌, ◌<◌, ◌≤◌, Bool, true, false, List, ◌++◌, ◌∷◌, [], map, Some, None, length, slice_index}
use Rattle.std.proofs.Common.{slice_index_or, sym, ap, subst, ◌∙◌, arith, ⊎_elim}
use Rattle.std.specs.List.{All, Contains}
use Rattle.std.specs.List.Sorted.{IsPermutation, IsSorted}
use Rattle.std.specs.Cmp.{IsTotalOrder, nat_cmp_is}
use Rattle.std.proofs.Common.{Ordering}
use Rattle.std.specs.declared.cmp.Ordering.TheVariants.{Less, Equal}
use Rattle.std.specs.Ordering.{is_lt, nat_cmp, ordering_then}
use Rattle.std.proofs.lemmas.Cmp.{then_total, on_total, nat_cmp_total}
use Rattle.std.proofs.lemmas.Bool.{cases_lt, cases_eq, cases_Bool, true≢false}
use Rattle.std.proofs.lemmas.List.{get_or_default, get_or-map, map-append, length-map}
use Rattle.std.proofs.lemmas.List.Elements.{All-map, All-weaker, All-push, Contains-append_left, Contains-push}
use Rattle.std.proofs.lemmas.List.Sorted.{All-permutation, IsPermutation-map, Contains-permutation, sorted_far, ranks_by}
use Rattle.std.proofs.Math.Nat.{min-le_right}
use Rattle.std.proofs.lemmas.Map.Keys.{ge_from_not_lt}
use Rattle.bf_search.specs.Candidates.{is_in}
use Rattle.bf_search.specs.Choice.{best, count_in, is_eligible}
use Rattle.bf_choice.specs.declared.ranking.Rank.{Rank}
use Rattle.bf_choice.specs.Ranking.{value_at, IsOther, ComesBefore, IsRanking, IsPassed, IsRank, AreRanks}
use Rattle.bf_choice.proofs.Greatest.{greatest_of_none, greatest_is}
use Rattle.bf_choice.proofs.Leading.{inside, not_candidate, bad_place, skipped_place, may_be_asked, never}

-- ---- what is chosen

-- a place that may be asked
record MayAsk (mask skips : List Bool) (bad p : ℕ) : Type 0 where
  pub other : IsOther mask bad p
  pub kept : is_in skips p ≡ false

may_ask : (mask skips : List Bool) (bad p : ℕ) → is_eligible mask bad skips p ≡ true → MayAsk mask skips bad p
may_ask mask skips bad p passes = record {
  other = (
    ⊎_elim (λ h. h) (λ fails. never (not_candidate mask skips bad p fails) passes) (cases_Bool (is_in mask p)),
    λ same. never
        (bad_place mask skips bad p same) passes,
  );
  kept = ⊎_elim (λ skipped. never (skipped_place mask skips bad p skipped) passes) (λ h. h) (cases_Bool (is_in skips p));
}

-- a place that may be asked does not come before those that are passed
stands_behind : (mask skips : List Bool) (weights ps : List ℕ) (bad i q : ℕ) → IsRanking mask weights bad ps → IsPassed skips ps i
    → is_eligible mask bad skips q ≡ true
    → (k : ℕ) × (i ≤ k) × (k < length ps) × (slice_index ps k ≡ q)
stands_behind mask skips weights ps bad i q ranking passed passes =
    let may : MayAsk mask skips bad q = may_ask mask skips bad q passes in
    let among : Contains ps q = ranking.whole q may.other in
    let here : slice_index ps among.0 ≡ q = get_or_default ps among.0 0 q among.1 ∙ among.2 in
    ⊎_elim
    (λ before. absurd (true≢false (sym (passed.skipped among.0 before) ∙ ap (is_in skips) here ∙ may.kept)))
    (λ behind. (among.0, behind, among.1, here))
    (cases_lt among.0 i)

pub ranked_best : (mask skips : List Bool) (weights ps : List ℕ) (bad i : ℕ) → IsRanking mask weights bad ps → IsPassed skips ps i → i < length ps
    → is_in skips (slice_index ps i) ≡ false
    → best mask weights bad skips ≡ Some (slice_index ps i)
unfolding best
ranked_best mask skips weights ps bad i ranking passed within kept =
    let b : ℕ = slice_index ps i in
    let value : ℕ → ℕ = value_at mask weights in
    let other : IsOther mask bad b = ranking.each i 0 within in
    let before : (q : ℕ) → is_eligible mask bad skips q ≡ true → ComesBefore value b q =
    λ q passes. let at = stands_behind mask skips weights ps bad i q ranking passed passes in subst (ComesBefore value b) at.3
    (ranking.in_order i at.0 at.1 at.2) in
    greatest_is (is_eligible mask bad skips) value (length mask) b (inside mask b other.0) (may_be_asked mask skips bad b other.0 other.1 kept)
    (λ q _ passes. ⊎_elim (λ less. omega (arith, less)) (λ same. omega (arith, same.0)) (before q passes))
    (λ q less passes. ⊎_elim (λ more. more) (λ same. absurd (omega (arith, less, same.1))) (before q passes))

pub ranked_none : (mask skips : List Bool) (weights ps : List ℕ) (bad i : ℕ) → IsRanking mask weights bad ps → IsPassed skips ps i → length ps ≤ i
    → best mask weights bad skips ≡ None
unfolding best
ranked_none mask skips weights ps bad i ranking passed past =
    greatest_of_none (is_eligible mask bad skips) (value_at mask weights) (length mask)
    (λ q _. ⊎_elim (λ passes. let at = stands_behind mask skips weights ps bad i q ranking passed passes in absurd (omega (arith, at.1, at.2))) (λ fails. fails)
    (cases_Bool (is_eligible mask bad skips q)))

-- ---- how the ranks are listed

pub ranks_stay : (mask : List Bool) (weights : List ℕ) (bad n m : ℕ) (ranks : List Rank) → AreRanks mask weights bad n ranks
    → ((q : ℕ) → n ≤ q → q < m → IsOther mask bad q → ⊥) → AreRanks mask weights bad m ranks
ranks_stay mask weights bad n m ranks are none = record {
  each = are.each;
  whole = λ p less other. ⊎_elim (λ below. are.whole p below other) (λ above. absurd (none p above less other)) (cases_lt p n);
}

pub ranks_meet : (mask : List Bool) (weights : List ℕ) (bad n : ℕ) (ranks : List Rank) (rank : Rank) → AreRanks mask weights bad n ranks → rank.place ≡ n
    → IsRank mask weights bad rank
    → AreRanks mask weights bad (n + 1) (ranks ++ rank ∷ [])
ranks_meet mask weights bad n ranks rank are here is =
    let place : Rank → ℕ = λ r. r.place in
    let listed : map place (ranks ++ rank ∷ []) ≡ map place ranks ++ rank.place ∷ [] = map-append place ranks (rank ∷ []) in
    record {
      each = All-push (IsRank mask weights bad) ranks rank are.each is;
      whole = λ p less other. subst (λ ps. Contains ps p) (sym listed) (⊎_elim
          (λ below. Contains-append_left (map place ranks) (rank.place ∷ []) p (are.whole p below other))
          (λ above. let same : rank.place ≡ p = omega (arith, here) in subst (λ x. Contains (map place ranks ++ x ∷ []) p) (sym same)
          (Contains-push (map place ranks) p))
          (cases_lt p n));
    }

-- ---- how they are ordered

abbrev pub rank_cmp : Rank → Rank → Ordering
rank_cmp x y = ordering_then (nat_cmp x.left y.left) (nat_cmp x.place y.place)

-- the one rank is the worse, or it is the same and comes no earlier
abbrev IsLate : Rank → Rank → Type 0
IsLate x y = (y.left < x.left) ⊎ ((x.left ≡ y.left) × (y.place ≤ x.place))

then_is : (a b c d : ℕ) (o : Ordering) → nat_cmp a b ≡ o → ordering_then (nat_cmp a b) (nat_cmp c d) ≡ ordering_then o (nat_cmp c d)
then_is a b c d o e = ap (λ o. ordering_then o (nat_cmp c d)) e

late_from : (x y : Rank) → is_lt (rank_cmp x y) ≡ false → IsLate x y
late_from x y fails =
    ⊎_elim
    (λ less. absurd (true≢false (ap is_lt (sym (then_is x.left y.left x.place y.place Less (sym (nat_cmp_is x.left y.left Less less)))) ∙ fails)))
    (λ more. ⊎_elim
    (λ same. inr (
      same,
      ge_from_not_lt x.place y.place
          (ap is_lt (sym (then_is x.left y.left x.place y.place Equal (sym (nat_cmp_is x.left y.left Equal same)))) ∙ fails),
    ))
    (λ other. inl (omega (arith, more, other)))
    (cases_eq x.left y.left))
    (cases_lt x.left y.left)

value_within : (mask : List Bool) (weights : List ℕ) (p : ℕ) → value_at mask weights p ≤ count_in mask
value_within mask weights p = omega (arith, min-le_right (slice_index weights p) (count_in mask - slice_index weights p))

in_order : (mask : List Bool) (weights : List ℕ) (bad : ℕ) (x y : Rank) → IsRank mask weights bad x → IsRank mask weights bad y → IsLate y x
    → ComesBefore (value_at mask weights) x.place y.place
in_order mask weights bad x y of_x of_y late =
    let x_is = of_x.left in
    let y_is = of_y.left in
    ⊎_elim
    (λ worse. inl (omega (arith, worse, x_is, y_is)))
    (λ same. ⊎_elim
    (λ less. inl less)
    (λ no_less. inr (omega (arith, same.0, x_is, y_is, no_less, value_within mask weights x.place, value_within mask weights y.place), same.1))
    (cases_lt (value_at mask weights y.place) (value_at mask weights x.place)))
    late

pub sorted_ranking : (mask : List Bool) (weights : List ℕ) (bad : ℕ) (listed sorted : List Rank) → AreRanks mask weights bad (length mask) listed
    → IsPermutation listed sorted → IsSorted rank_cmp sorted
    → IsRanking mask weights bad (map (λ rank. rank.place) sorted)
sorted_ranking mask weights bad listed sorted are moved up =
    let place : Rank → ℕ = λ rank. rank.place in
    let each : All (IsRank mask weights bad) sorted = All-permutation (IsRank mask weights bad) listed sorted moved are.each in
    let total : IsTotalOrder rank_cmp = then_total (on_total (λ (rank : Rank). rank.left) nat_cmp_total)
    (on_total (λ (rank : Rank). rank.place) nat_cmp_total) in
    record {
      each = All-map (IsOther mask bad) place sorted (All-weaker (IsRank mask weights bad) (λ rank. IsOther mask bad rank.place) (λ _ is. is.of) sorted each);
      whole = λ p other. Contains-permutation (map place listed) (map place sorted) p (IsPermutation-map place listed sorted moved)
          (are.whole p (inside mask p other.0) other);
      in_order = λ i j up_to within.
          let d : Rank = record { left = 0; place = 0 } in
          let less : j < length sorted = subst (λ n. j < n) (length-map sorted place) within in
          let x : Rank = slice_index_or sorted i d in
          let y : Rank = slice_index_or sorted j d in
          let x_at : slice_index (map place sorted) i ≡ x.place = get_or-map place sorted i d 0 (omega arith) in
          let y_at : slice_index (map place sorted) j ≡ y.place = get_or-map place sorted j d 0 less in
          let late : IsLate y x = late_from y x (sorted_far (λ x y. is_lt (rank_cmp x y)) (ranks_by total (λ rank. rank)) sorted up i j d up_to less) in
          subst (λ p. ComesBefore (value_at mask weights) p (slice_index (map place sorted) j)) (sym x_at)
          (subst (ComesBefore (value_at mask weights) x.place) (sym y_at) (in_order mask weights bad x y (each i d (omega arith)) (each j d less) late));
    }
