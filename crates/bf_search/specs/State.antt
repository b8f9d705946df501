-- The state of a search, what it asks, and what a mark leaves.
use Rattle.std.specs.Prelude.{◌≡◌, ℕ, ◌<◌, Bool, true, false, ◌&&◌, ◌==◌, if◌then◌else◌, List, [], ◌∷◌, ◌++◌, length, slice_set, All, IfSome, Option, Some, None}
use Rattle.bf_search.specs.declared.asks.Ask.{Ask}
use Rattle.bf_search.specs.declared.asks.Ask.TheVariants.{WaitBoth, WaitBad, WaitGood, Test, MergeBaseBad, GoodNotAncestor, BothSides, FirstBad, OnlySkipped}
use Rattle.bf_search.specs.declared.asks.Check.{Check}
use Rattle.bf_search.specs.declared.asks.Check.TheVariants.{Passed, Bad as BaseIsBad, Test as TestBase}
use Rattle.bf_search.specs.declared.asks.Step.{Step}
use Rattle.bf_search.specs.declared.outcomes.Mark.{Mark}
use Rattle.bf_search.specs.declared.outcomes.Mark.TheVariants.{Good, Bad, Skip}
use Rattle.bf_search.specs.Candidates.{candidates, candidate_row, weights}
use Rattle.bf_search.specs.Choice.{best}
use Rattle.bf_search.specs.Bases.{has_place, check}

-- What a search knows: its ends, the skipped places, whether the check of the merge bases has passed, the place that
-- was asked last, and whether the last mark said that an asked place is bad.
pub record Search : Type 0 where
  pub first_parent : Bool
  pub bad : Option ℕ
  pub goods : List ℕ
  pub skips : List Bool
  pub checked : Bool
  pub expected : Option ℕ
  pub bad_asked : Bool

-- the places of a search are places of the graph
pub record IsSearchOver (graph : List (List ℕ)) (s : Search) : Type 0 where
  pub bad : IfSome s.bad (λ bad. bad < length graph)
  pub goods : All (λ good. good < length graph) s.goods
  pub skips : length s.skips ≡ length graph
  pub expected : IfSome s.expected (λ p. p < length graph)

-- what an ask leaves: the state, and the step with the skipped bases to warn of
pub record Asked : Type 0 where
  pub search : Search
  pub step : Step

-- a test is asked: its place is then expected
abbrev pub with_test : Search → List ℕ → ℕ → Asked
with_test s warned p = record { search = record s { expected = Some p }; step = record { warned = warned; ask = Test p } }

-- no test is asked: no place is expected
abbrev pub without_test : Search → List ℕ → Ask → Asked
without_test s warned a = record { search = record s { expected = None }; step = record { warned = warned; ask = a } }

abbrev pub ask_best : Search → List ℕ → List ℕ → Option ℕ → Asked
ask_best s warned ps (Some p) = with_test s warned p
ask_best s warned ps None = without_test s warned (OnlySkipped ps)

abbrev pub ask_among : Search → ℕ → List ℕ → List ℕ → Option ℕ → Asked
ask_among s bad warned [] chosen = without_test s warned (BothSides bad)
ask_among s bad warned (p ∷ []) chosen = if p == bad then without_test s warned (FirstBad bad) else ask_best s warned (p ∷ []) chosen
ask_among s bad warned (p ∷ q ∷ ps) chosen = ask_best s warned (p ∷ q ∷ ps) chosen

-- the best candidate of a search
unfoldable pub best_of : List (List ℕ) → Search → ℕ → Option ℕ
best_of graph s bad =
    let mask = candidate_row graph bad s.goods s.first_parent in
    best mask (weights graph mask s.first_parent) bad s.skips

abbrev pub ask_candidates : List (List ℕ) → Search → ℕ → List ℕ → Asked
ask_candidates graph s bad warned = ask_among s bad warned (candidates graph bad s.goods s.first_parent) (best_of graph s bad)

abbrev pub ask_checked : List (List ℕ) → Search → ℕ → Check → Asked
ask_checked graph s bad (TestBase p) = with_test s [] p
ask_checked graph s bad (BaseIsBad p) = without_test s [] (if s.bad_asked then MergeBaseBad p else GoodNotAncestor p)
ask_checked graph s bad (Passed warned) = ask_candidates graph (record s { checked = true }) bad warned

abbrev pub ask_ends : List (List ℕ) → Search → Option ℕ → List ℕ → Asked
ask_ends graph s None [] = without_test s [] WaitBoth
ask_ends graph s None (good ∷ goods) = without_test s [] WaitBad
ask_ends graph s (Some bad) [] = without_test s [] WaitGood
ask_ends graph s (Some bad) (good ∷ goods) =
    if s.checked then ask_candidates graph s bad []
    else ask_checked graph s bad (check graph bad s.goods s.skips)

-- The ask. Where both ends are known the merge bases are checked, until the check has passed, and then the best
-- candidate is asked.
unfoldable pub ask : List (List ℕ) → Search → Asked
ask graph s = ask_ends graph s s.bad s.goods

abbrev pub is_place : Option ℕ → ℕ → Bool
is_place None p = false
is_place (Some q) p = q == p

-- whether this place was asked last
abbrev pub is_expected : Search → ℕ → Bool
is_expected s p = is_place s.expected p

-- What a mark leaves. A good or bad mark of a place that was not asked makes the check necessary again.
unfoldable pub mark : Search → Mark → ℕ → Search
mark s Good p = record s {
  goods = if has_place s.goods p then s.goods else s.goods ++ p ∷ [];
  checked = s.checked && is_expected s p;
  expected = None;
  bad_asked = false;
}
mark s Bad p = record s { bad = Some p; checked = s.checked && is_expected s p; expected = None; bad_asked = is_expected s p }
mark s Skip p = record s { skips = slice_set s.skips p true; expected = None }
