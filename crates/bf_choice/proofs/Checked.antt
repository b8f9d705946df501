-- What the check says, by the rows of the bases, of those that are not good, and of those that are open.
use Rattle.std.proofs.Common.{◌≡◌, ℕ, ◌<◌, Bool, true, false, not, ◌&&◌, List, [], ◌∷◌, length, replicate, Option, refl, ap, sym, ◌∙◌, arith}
use Rattle.std.proofs.lemmas.Bool.{and_parts, and_from, both_ways, cond-true, cond-false, false_from_ne_true}
use Rattle.std.proofs.lemmas.List.{length-replicate}
use Rattle.std.proofs.lemmas.List.Elements.{All-head, All-tail}
use Rattle.std.specs.List.{All, filter, list_all, range_with_len}
use Rattle.std.specs.Simd.Lanes.{zip2}
use Rattle.bf_search.specs.declared.asks.Check.TheVariants.{Passed, Bad, Test}
use Rattle.bf_search.specs.Candidates.{is_in, places_of}
use Rattle.bf_search.specs.Bases.{has_place, merge_bases, reaches_all, check_open, check_bases, check}
use Rattle.bf_search.specs.Reach.{reaches, reach_row}
use Rattle.bf_search.proofs.RowLemmas.{is_in-lt}
use Rattle.bf_search.proofs.CandidateLemmas.{is_in-reach_row}
use Rattle.bf_reach.specs.Marks.{marked}
use Rattle.bf_reach.proofs.Marking.{length-marked}
use Rattle.bf_choice.proofs.Listed.{filter_twice, filter_same, find_first, find_none, has_place-places_of}
use Rattle.bf_choice.proofs.BaseRows.{length-joined, is_in-without, is_in-marked}

-- the bad place is a base
pub check-at_bad : (bases : List Bool) (bad : ℕ) (goods : List ℕ) (skips : List Bool) → bad < length bases → is_in bases bad ≡ true
    → check_bases (places_of bases) bad goods skips ≡ Bad bad
unfolding check_bases
check-at_bad bases bad goods skips l h = cond-true (has_place (places_of bases) bad) (Bad bad) _ (has_place-places_of bases bad l ∙ h)

-- the bases that are not good, and those of them that are not skipped
pub record IsSorted (bases : List Bool) (goods : List ℕ) (skips unknown untested : List Bool) : Type 0 where
  pub long : length unknown ≡ length bases
  pub unknown_is : (q : ℕ) → is_in unknown q ≡ (is_in bases q && not (has_place goods q))
  pub untested_is : (q : ℕ) → is_in untested q ≡ (is_in unknown q && not (is_in skips q))

-- the rows as the lanes make them: the good places are marked in a cleared row
pub IsSorted-from_rows : (bases : List Bool) (goods : List ℕ) (skips marks unknown copied untested : List Bool) (n : ℕ) → n ≡ length bases
    → length skips ≡ length bases → All (λ p. p < length bases) goods
    → marks ≡ marked (replicate n false) goods
    → unknown ≡ zip2 (λ mine theirs. mine && not theirs) bases marks
    → copied ≡ unknown
    → untested ≡ zip2 (λ mine theirs. mine && not theirs) copied skips
    → IsSorted bases goods skips unknown untested
IsSorted-from_rows bases goods skips marks unknown copied untested n long skips_long all marks_are unknown_is copied_is untested_is = record {
  long = unknown_long;
  unknown_is = λ q. is_in-without bases marks unknown (sym marks_long) unknown_is q ∙ ap (λ b. is_in bases q && not b)
      (ap (λ row. is_in row q) marks_are ∙ is_in-marked n goods q (rw long all));
  untested_is = λ q. is_in-without copied skips untested (ap length copied_is ∙ unknown_long ∙ sym skips_long) untested_is q ∙ ap
      (λ row. is_in row q && not (is_in skips q)) copied_is;
}
  where
    marks_long : length marks ≡ length bases
    marks_long = ap length marks_are ∙ length-marked (replicate n false) goods ∙ length-replicate n false ∙ long

    unknown_long : length unknown ≡ length bases
    unknown_long = length-joined (λ mine theirs. mine && not theirs) bases marks unknown (sym marks_long) unknown_is

-- a base that is neither good nor skipped
abbrev is_untested : List ℕ → List Bool → ℕ → Bool
is_untested goods skips p = not (has_place goods p) && not (is_in skips p)

untested_true : {bases : List Bool} {goods : List ℕ} {skips unknown untested : List Bool} → IsSorted bases goods skips unknown untested → (q : ℕ)
    → is_in bases q ≡ true → is_untested goods skips q ≡ true → is_in untested q ≡ true
untested_true {bases} {goods} {skips} {unknown} {untested} s q h k =
    let parts = and_parts (not (has_place goods q)) (not (is_in skips q)) k in
    s.untested_is q ∙ and_from (is_in unknown q) (not (is_in skips q)) (s.unknown_is q ∙ and_from (is_in bases q) (not (has_place goods q)) h parts.0) parts.1

untested_false : {bases : List Bool} {goods : List ℕ} {skips unknown untested : List Bool} → IsSorted bases goods skips unknown untested → (q : ℕ)
    → is_in bases q ≡ true → is_in untested q ≡ false → is_untested goods skips q ≡ false
untested_false {bases} {goods} {skips} {unknown} {untested} s q h fails = false_from_ne_true (is_untested goods skips q)
    (λ k. both_ways (is_in untested q) fails (untested_true s q h k))

-- the first base that is to be tested
pub check-at_untested : {bases : List Bool} {goods : List ℕ} {skips unknown untested : List Bool} (bad p : ℕ) → bad < length bases → is_in bases bad ≡ false
    → IsSorted bases goods skips unknown untested
    → is_in untested p ≡ true → ((q : ℕ) → q < p → is_in untested q ≡ false) → check_bases (places_of bases) bad goods skips ≡ Test p
unfolding check_bases
check-at_untested {bases} {goods} {skips} {unknown} {untested} bad p l not_base s here before =
    let both = and_parts (is_in unknown p) (not (is_in skips p)) (sym (s.untested_is p) ∙ here) in
    let parts = and_parts (is_in bases p) (not (has_place goods p)) (sym (s.unknown_is p) ∙ both.0) in
    cond-false (has_place (places_of bases) bad) (Bad bad) _ (has_place-places_of bases bad l ∙ not_base)
    ∙ ap (λ (o : Option ℕ). check_open o (places_of bases) goods skips)
    (find_first (λ q. is_in bases q) (is_untested goods skips) 0 (length bases) p (omega arith) (omega (arith, is_in-lt bases p parts.0)) parts.0
    (and_from (not (has_place goods p)) (not (is_in skips p)) parts.1 both.1)
    (λ q below h. untested_false s q h (before q below)))

-- where none is to be tested, a base that is not good is skipped
all_skipped : {bases : List Bool} {goods : List ℕ} {skips unknown untested : List Bool} → IsSorted bases goods skips unknown untested
    → ((q : ℕ) → is_in untested q ≡ false) → (q : ℕ)
    → is_in unknown q ≡ (is_in bases q && (is_in skips q && not (has_place goods q)))
all_skipped {bases} {goods} {skips} {unknown} {untested} s none q =
    tests (is_in bases q) (has_place goods q) (is_in skips q) (is_in unknown q) (s.unknown_is q) (sym (s.untested_is q) ∙ none q)
  where
    tests : (base good skip known : Bool) → known ≡ (base && not good) → (known && not skip) ≡ false → known ≡ (base && (skip && not good))
    tests true good true known e fails = e
    tests true true false known e fails = e
    tests true false false known e fails = e ∙ ap (λ b. b && true) (sym e) ∙ fails
    tests false good skip known e fails = e

-- no base is to be tested
pub check-passes : {bases : List Bool} {goods : List ℕ} {skips unknown untested : List Bool} (bad : ℕ) → bad < length bases → is_in bases bad ≡ false
    → IsSorted bases goods skips unknown untested
    → ((q : ℕ) → is_in untested q ≡ false) → check_bases (places_of bases) bad goods skips ≡ Passed (places_of unknown)
unfolding check_bases
check-passes {bases} {goods} {skips} {unknown} {untested} bad l not_base s none =
    cond-false (has_place (places_of bases) bad) (Bad bad) _ (has_place-places_of bases bad l ∙ not_base)
    ∙ ap (λ (o : Option ℕ). check_open o (places_of bases) goods skips)
    (find_none (λ q. is_in bases q) (is_untested goods skips) 0 (length bases) (λ q low high h. untested_false s q h (none q)))
    ∙ ap Passed
    (sym (filter_twice (λ q. is_in bases q) (λ q. is_in skips q && not (has_place goods q)) (range_with_len 0 (length bases)))
    ∙ filter_same (λ q. is_in bases q && (is_in skips q && not (has_place goods q))) (λ q. is_in unknown q) 0 (length bases)
    (λ q low high. sym (all_skipped s none q))
    ∙ ap (λ n. filter (λ q. is_in unknown q) (range_with_len 0 n)) (sym s.long))

-- ---- the whole check

-- the row of the bad place tells of each good one whether it is reached
pub reaches_all-by_row : (graph : List (List ℕ)) (bad : ℕ) (goods : List ℕ) → All (λ good. good < length graph) goods
    → list_all (λ good. is_in (reach_row graph bad) good) goods ≡ reaches_all graph bad goods
unfolding reaches_all
reaches_all-by_row graph bad [] all = refl
reaches_all-by_row graph bad (good ∷ goods) all =
    let rest : list_all (λ g. is_in (reach_row graph bad) g) goods ≡ list_all (λ g. reaches graph bad g) goods = reaches_all-by_row graph bad goods
    (All-tail (λ g. g < length graph) good goods all) in
    rw (is_in-reach_row graph bad good (All-head (λ g. g < length graph) good goods all), rest)

pub check-of_reached : (graph : List (List ℕ)) (bad : ℕ) (goods : List ℕ) (skips : List Bool) → reaches_all graph bad goods ≡ true
    → check graph bad goods skips ≡ Passed []
unfolding check
check-of_reached graph bad goods skips h = cond-true (reaches_all graph bad goods) (Passed []) _ h

pub check-of_bases : (graph : List (List ℕ)) (bad : ℕ) (goods : List ℕ) (skips : List Bool) → reaches_all graph bad goods ≡ false
    → check graph bad goods skips ≡ check_bases (merge_bases graph bad goods) bad goods skips
unfolding check
check-of_bases graph bad goods skips h = cond-false (reaches_all graph bad goods) (Passed []) _ h
