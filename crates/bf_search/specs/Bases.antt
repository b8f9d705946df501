-- The merge bases of the bad place with the good ones (git-merge-base(1)), and what the check of them says
-- (git-bisect-lk2009, "Checking merge bases").
use Rattle.std.specs.Prelude.{ℕ, Bool, not, ◌&&◌, ◌==◌, if◌then◌else◌, List, [], filter, find, Option, Some, None}
use Rattle.std.specs.List.{list_any, list_all}
use Rattle.bf_search.specs.declared.asks.Check.{Check}
use Rattle.bf_search.specs.declared.asks.Check.TheVariants.{Passed, Bad, Test}
use Rattle.bf_search.specs.Reach.{places, reaches, any_reaches}
use Rattle.bf_search.specs.Candidates.{is_in}

-- whether a place is in a list
abbrev pub has_place : List ℕ → ℕ → Bool
has_place ps p = list_any (λ q. q == p) ps

-- the places that the bad one and some good one both reach, in order
unfoldable pub common_places : List (List ℕ) → ℕ → List ℕ → List ℕ
common_places graph bad goods = filter (λ p. reaches graph bad p && any_reaches graph goods p) (places graph)

-- those of these places that no other of them reaches
abbrev pub tops : List (List ℕ) → List ℕ → List ℕ
tops graph ps = filter (λ p. not (list_any (λ q. not (q == p) && reaches graph q p) ps)) ps

-- the merge bases, in order
unfoldable pub merge_bases : List (List ℕ) → ℕ → List ℕ → List ℕ
merge_bases graph bad goods = tops graph (common_places graph bad goods)

-- whether the bad place reaches every good one
unfoldable pub reaches_all : List (List ℕ) → ℕ → List ℕ → Bool
reaches_all graph bad goods = list_all (λ good. reaches graph bad good) goods

abbrev pub check_open : Option ℕ → List ℕ → List ℕ → List Bool → Check
check_open (Some p) bases goods skips = Test p
check_open None bases goods skips = Passed (filter (λ p. is_in skips p && not (has_place goods p)) bases)

unfoldable pub check_bases : List ℕ → ℕ → List ℕ → List Bool → Check
check_bases bases bad goods skips =
    if has_place bases bad then Bad bad
    else check_open (find (λ p. not (has_place goods p) && not (is_in skips p)) bases) bases goods skips

-- What the check says. It passes where the bad place reaches every good one. Otherwise the bad place may be a base
-- itself; the first base that is neither good nor skipped is to be tested; and where all are known, the skipped ones
-- that are not good are warned of.
unfoldable pub check : List (List ℕ) → ℕ → List ℕ → List Bool → Check
check graph bad goods skips =
    if reaches_all graph bad goods then Passed []
    else check_bases (merge_bases graph bad goods) bad goods skips
