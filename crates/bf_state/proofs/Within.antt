-- The places that an ask tells of are places of the graph.
use Rattle.std.proofs.Common.{◌≡◌, ℕ, ◌<◌, Bool, true, false, not, ◌&&◌, ◌==◌, cond, List, [], ◌∷◌, length, Option, Some, None, subst, sym, arith}
use Rattle.std.proofs.lemmas.List.Elements.{All-filter}
use Rattle.std.specs.List.{All, list_any, filter, find}
use Rattle.std.specs.Option.{IfSome}
use Rattle.bf_search.specs.declared.asks.Ask.{Ask}
use Rattle.bf_search.specs.declared.asks.Ask.TheVariants.{Test, MergeBaseBad, GoodNotAncestor, BothSides, FirstBad, OnlySkipped}
use Rattle.bf_search.specs.declared.asks.Check.{Check}
use Rattle.bf_search.specs.declared.asks.Check.TheVariants.{Passed, Bad as BaseIsBad, Test as TestBase}
use Rattle.bf_search.specs.Reach.{places, reaches, any_reaches}
use Rattle.bf_search.specs.Candidates.{is_in, is_candidate, candidates}
use Rattle.bf_search.specs.Bases.{has_place, common_places, merge_bases, reaches_all, check_open, check_bases, check}
use Rattle.bf_search.specs.State.{Search, Asked, without_test, ask_best, ask_among, best_of, ask_candidates, ask_checked, ask_ends, ask}
use Rattle.bf_search.proofs.Turns.{range_within}
use Rattle.bf_state.specs.Session.{Session, IsSearchBelow}

abbrev pub AllBelow : ℕ → List ℕ → Type 0
AllBelow len ps = All (λ p. p < len) ps

none_below : (len : ℕ) → AllBelow len []
none_below len = λ k d l. absurd (omega arith)

candidates_within : (graph : List (List ℕ)) (bad : ℕ) (goods : List ℕ) (first_parent : Bool) → AllBelow (length graph) (candidates graph bad goods first_parent)
unfolding candidates
candidates_within graph bad goods first_parent =
    All-filter (λ p. is_candidate graph bad goods first_parent p) (λ p. p < length graph) (places graph) (range_within (length graph))

bases_within : (graph : List (List ℕ)) (bad : ℕ) (goods : List ℕ) → AllBelow (length graph) (merge_bases graph bad goods)
unfolding merge_bases common_places
bases_within graph bad goods =
    All-filter (λ p. not (list_any (λ q. not (q == p) && reaches graph q p) common)) (λ p. p < length graph) common
    (All-filter (λ p. reaches graph bad p && any_reaches graph goods p) (λ p. p < length graph) (places graph) (range_within (length graph)))
  where
    common : List ℕ
    common = filter (λ p. reaches graph bad p && any_reaches graph goods p) (places graph)

-- ---- the check of the merge bases

-- the places that a check tells of, but for one that it asks to test
abbrev IsCheckWithin : ℕ → Check → Type 0
IsCheckWithin len (Passed warned) = AllBelow len warned
IsCheckWithin len (BaseIsBad p) = p < len
IsCheckWithin len (TestBase p) = Unit {0}

open_within : (len : ℕ) (o : Option ℕ) (bases goods : List ℕ) (skips : List Bool) → AllBelow len bases → IsCheckWithin len (check_open o bases goods skips)
open_within len (Some p) bases goods skips h = tt
open_within len None bases goods skips h = All-filter (λ p. is_in skips p && not (has_place goods p)) (λ p. p < len) bases h

cond_check : (len : ℕ) (b : Bool) (x y : Check) → IsCheckWithin len x → IsCheckWithin len y → IsCheckWithin len (cond b x y)
cond_check len true x y h k = h
cond_check len false x y h k = k

check_within : (graph : List (List ℕ)) (bad : ℕ) (goods : List ℕ) (skips : List Bool) → bad < length graph
    → IsCheckWithin (length graph) (check graph bad goods skips)
unfolding check check_bases
check_within graph bad goods skips h =
    cond_check (length graph) (reaches_all graph bad goods) (Passed []) _ (none_below (length graph))
    (cond_check (length graph) (has_place (merge_bases graph bad goods) bad) (BaseIsBad bad) _ h
    (open_within (length graph) (find (λ p. not (has_place goods p) && not (is_in skips p)) (merge_bases graph bad goods)) (merge_bases graph bad goods) goods
    skips (bases_within graph bad goods)))

-- ---- the ask

-- the places that an ask tells of, but for one that it asks to test
abbrev pub IsToldWithin : ℕ → Ask → Type 0
IsToldWithin len (Test p) = Unit {0}
IsToldWithin len (MergeBaseBad p) = p < len
IsToldWithin len (GoodNotAncestor p) = p < len
IsToldWithin len (BothSides p) = p < len
IsToldWithin len (FirstBad p) = p < len
IsToldWithin len (OnlySkipped ps) = AllBelow len ps
IsToldWithin len other = Unit {0}

pub record IsAskedWithin (len : ℕ) (asked : Asked) : Type 0 where
  pub warned : AllBelow len asked.step.warned
  pub told : IsToldWithin len asked.step.ask

best_within : (len : ℕ) (s : Search) (warned ps : List ℕ) (chosen : Option ℕ) → AllBelow len warned → AllBelow len ps
    → IsAskedWithin len (ask_best s warned ps chosen)
best_within len s warned ps (Some p) w h = record { warned = w; told = tt }
best_within len s warned ps None w h = record { warned = w; told = h }

one_within : (len : ℕ) (b : Bool) (s : Search) (bad : ℕ) (warned ps : List ℕ) (chosen : Option ℕ) → bad < len → AllBelow len warned → AllBelow len ps
    → IsAskedWithin len (cond b (without_test s warned (FirstBad bad)) (ask_best s warned ps chosen))
one_within len true s bad warned ps chosen b w h = record { warned = w; told = b }
one_within len false s bad warned ps chosen b w h = best_within len s warned ps chosen w h

among_within : (len : ℕ) (s : Search) (bad : ℕ) (warned ps : List ℕ) (chosen : Option ℕ) → bad < len → AllBelow len warned → AllBelow len ps
    → IsAskedWithin len (ask_among s bad warned ps chosen)
among_within len s bad warned [] chosen b w h = record { warned = w; told = b }
among_within len s bad warned (p ∷ []) chosen b w h = one_within len (p == bad) s bad warned (p ∷ []) chosen b w h
among_within len s bad warned (p ∷ q ∷ ps) chosen b w h = best_within len s warned (p ∷ q ∷ ps) chosen w h

among_candidates : (graph : List (List ℕ)) (s : Search) (bad : ℕ) (warned : List ℕ) → bad < length graph → AllBelow (length graph) warned
    → IsAskedWithin (length graph) (ask_candidates graph s bad warned)
among_candidates graph s bad warned b w =
    among_within (length graph) s bad warned (candidates graph bad s.goods s.first_parent) (best_of graph s bad) b w
    (candidates_within graph bad s.goods s.first_parent)

bad_base_within : (len : ℕ) (b : Bool) (p : ℕ) → p < len → IsToldWithin len (cond b (MergeBaseBad p) (GoodNotAncestor p))
bad_base_within len true p h = h
bad_base_within len false p h = h

checked_within : (graph : List (List ℕ)) (s : Search) (bad : ℕ) (c : Check) → bad < length graph → IsCheckWithin (length graph) c
    → IsAskedWithin (length graph) (ask_checked graph s bad c)
checked_within graph s bad (TestBase p) b h = record { warned = none_below (length graph); told = tt }
checked_within graph s bad (BaseIsBad p) b h = record { warned = none_below (length graph); told = bad_base_within (length graph) s.bad_asked p h }
checked_within graph s bad (Passed warned) b h = among_candidates graph (record s { checked = true }) bad warned b h

known_within : (b : Bool) (graph : List (List ℕ)) (s : Search) (bad : ℕ) → bad < length graph
    → IsAskedWithin (length graph) (cond b (ask_candidates graph s bad []) (ask_checked graph s bad (check graph bad s.goods s.skips)))
known_within true graph s bad b = among_candidates graph s bad [] b (none_below (length graph))
known_within false graph s bad b = checked_within graph s bad (check graph bad s.goods s.skips) b (check_within graph bad s.goods s.skips b)

ends_within : (graph : List (List ℕ)) (s : Search) (bad : Option ℕ) (goods : List ℕ) → IfSome bad (λ p. p < length graph)
    → IsAskedWithin (length graph) (ask_ends graph s bad goods)
ends_within graph s None [] h = record { warned = none_below (length graph); told = tt }
ends_within graph s None (good ∷ goods) h = record { warned = none_below (length graph); told = tt }
ends_within graph s (Some bad) [] h = record { warned = none_below (length graph); told = tt }
ends_within graph s (Some bad) (good ∷ goods) h = known_within s.checked graph s bad h

pub asked_within : (graph : List (List ℕ)) (s : Search) → IfSome s.bad (λ p. p < length graph) → IsAskedWithin (length graph) (ask graph s)
unfolding ask
asked_within graph s h = ends_within graph s s.bad s.goods h

-- the bases that an ask warns of are places of the graph
pub warned_within : (graph : List (List ℕ)) (s : Search) → IfSome s.bad (λ p. p < length graph) → All (λ p. p < length graph) (ask graph s).step.warned
warned_within graph s h = (asked_within graph s h).warned

-- the same, by the number of commits of a session
pub warned_in_session : (graph : List (List ℕ)) (session : Session) → length graph ≡ session.len → IsSearchBelow session.len session.search
    → All (λ p. p < session.len) (ask graph session.search).step.warned
warned_in_session graph session e h =
    subst (λ (n : ℕ). All (λ p. p < n) (ask graph session.search).step.warned) e
    (warned_within graph session.search (subst (λ (n : ℕ). IfSome session.search.bad (λ p. p < n)) (sym e) h.bad))
