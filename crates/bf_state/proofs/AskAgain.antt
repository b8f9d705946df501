-- Asking again asks the same.
use Rattle.std.proofs.Common.{◌≡◌, ℕ, Bool, true, false, ◌==◌, cond, List, [], ◌∷◌, Option, Some, None, refl, sym, ap, ◌∙◌}
use Rattle.bf_search.specs.declared.asks.Ask.TheVariants.{FirstBad}
use Rattle.bf_search.specs.declared.asks.Check.{Check}
use Rattle.bf_search.specs.declared.asks.Check.TheVariants.{Passed, Bad as BaseIsBad, Test as TestBase}
use Rattle.bf_search.specs.Bases.{check}
use Rattle.bf_search.specs.Candidates.{candidates}
use Rattle.bf_search.specs.State.{Search, Asked, without_test, ask_best, ask_among, best_of, ask_candidates, ask_checked, ask_ends, ask}
use Rattle.bf_state.specs.Steps.{tested}
use Rattle.bf_state.proofs.Asks.{candidates_settle, ends_are, known_ends}

-- the same ask, without warnings
abbrev pub quiet : Asked → Asked
quiet asked = record { search = asked.search; step = record { warned = []; ask = asked.step.ask } }

-- a search and a place that is expected
abbrev expecting : Search → Option ℕ → Search
expecting s e = record s { expected = e }

best_again : (s : Search) (e : Option ℕ) (warned ps : List ℕ) (chosen : Option ℕ) → ask_best (expecting s e) [] ps chosen ≡ quiet (ask_best s warned ps chosen)
best_again s e warned ps (Some p) = refl
best_again s e warned ps None = refl

one_again : (b : Bool) (s : Search) (e : Option ℕ) (bad : ℕ) (warned ps : List ℕ) (chosen : Option ℕ)
    → cond b (without_test (expecting s e) [] (FirstBad bad)) (ask_best (expecting s e) [] ps chosen) ≡ quiet
    (cond b (without_test s warned (FirstBad bad)) (ask_best s warned ps chosen))
one_again true s e bad warned ps chosen = refl
one_again false s e bad warned ps chosen = best_again s e warned ps chosen

among_again : (s : Search) (e : Option ℕ) (bad : ℕ) (warned ps : List ℕ) (chosen : Option ℕ)
    → ask_among (expecting s e) bad [] ps chosen ≡ quiet (ask_among s bad warned ps chosen)
among_again s e bad warned [] chosen = refl
among_again s e bad warned (p ∷ []) chosen = one_again (p == bad) s e bad warned (p ∷ []) chosen
among_again s e bad warned (p ∷ q ∷ ps) chosen = best_again s e warned (p ∷ q ∷ ps) chosen

candidates_again : (graph : List (List ℕ)) (s : Search) (e : Option ℕ) (bad : ℕ) (warned : List ℕ)
    → ask_candidates graph (expecting s e) bad [] ≡ quiet (ask_candidates graph s bad warned)
unfolding best_of
candidates_again graph s e bad warned = among_again s e bad warned (candidates graph bad s.goods s.first_parent) (best_of graph s bad)

-- an ask among candidates, once the check has passed
settled_again : (graph : List (List ℕ)) (s : Search) (bad : ℕ) (warned : List ℕ) → s.bad ≡ Some bad → (s.goods ≡ [] → ⊥) → s.checked ≡ true
    → ask graph (ask_candidates graph s bad warned).search ≡ quiet (ask_candidates graph s bad warned)
settled_again graph s bad warned b g passed =
    ap (λ (t : Search). ask graph t) (candidates_settle graph s bad warned)
    ∙ known_ends graph (expecting s e) bad b g
    ∙ ap (λ (v : Bool). cond v (ask_candidates graph (expecting s e) bad []) (ask_checked graph (expecting s e) bad (check graph bad s.goods s.skips))) passed
    ∙ candidates_again graph s e bad warned
  where
    e : Option ℕ
    e = tested (ask_candidates graph s bad warned).step.ask

-- an ask while no check has passed
unchecked : (graph : List (List ℕ)) (s : Search) (e : Option ℕ) (bad : ℕ) (c : Check) → s.bad ≡ Some bad → (s.goods ≡ [] → ⊥) → s.checked ≡ false
    → c ≡ check graph bad s.goods s.skips → ask graph (expecting s e) ≡ ask_checked graph (expecting s e) bad c
unchecked graph s e bad c b g unpassed same =
    known_ends graph (expecting s e) bad b g
    ∙ ap (λ (v : Bool). cond v (ask_candidates graph (expecting s e) bad []) (ask_checked graph (expecting s e) bad (check graph bad s.goods s.skips))) unpassed
    ∙ ap (λ (k : Check). ask_checked graph (expecting s e) bad k) (sym same)

checked_again : (graph : List (List ℕ)) (s : Search) (bad : ℕ) (c : Check) → s.bad ≡ Some bad → (s.goods ≡ [] → ⊥) → s.checked ≡ false
    → c ≡ check graph bad s.goods s.skips → ask graph (ask_checked graph s bad c).search ≡ quiet (ask_checked graph s bad c)
checked_again graph s bad (TestBase p) b g unpassed same = unchecked graph s (Some p) bad (TestBase p) b g unpassed same
checked_again graph s bad (BaseIsBad p) b g unpassed same = unchecked graph s None bad (BaseIsBad p) b g unpassed same
checked_again graph s bad (Passed warned) b g unpassed same = settled_again graph (record s { checked = true }) bad warned b g refl

known_again : (v : Bool) (graph : List (List ℕ)) (s : Search) (bad : ℕ) → s.bad ≡ Some bad → (s.goods ≡ [] → ⊥) → s.checked ≡ v
    → ask graph (cond v (ask_candidates graph s bad []) (ask_checked graph s bad (check graph bad s.goods s.skips))).search ≡ quiet
    (cond v (ask_candidates graph s bad []) (ask_checked graph s bad (check graph bad s.goods s.skips)))
known_again true graph s bad b g is = settled_again graph s bad [] b g is
known_again false graph s bad b g is = checked_again graph s bad (check graph bad s.goods s.skips) b g is refl

nonempty : {goods : List ℕ} {good : ℕ} {others : List ℕ} → goods ≡ good ∷ others → goods ≡ [] → ⊥
nonempty h e = cc

ends_again : (graph : List (List ℕ)) (s : Search) (bad : Option ℕ) (goods : List ℕ) → s.bad ≡ bad → s.goods ≡ goods
    → ask graph (ask_ends graph s bad goods).search ≡ quiet (ask_ends graph s bad goods)
ends_again graph s None [] b g = ends_are graph (expecting s None) None [] b g
ends_again graph s None (good ∷ goods) b g = ends_are graph (expecting s None) None (good ∷ goods) b g
ends_again graph s (Some bad) [] b g = ends_are graph (expecting s None) (Some bad) [] b g
ends_again graph s (Some bad) (good ∷ goods) b g = known_again s.checked graph s bad b (nonempty g) refl

-- Asking again asks the same, without warnings.
pub ask_again : (graph : List (List ℕ)) (s : Search) → ask graph (ask graph s).search ≡ quiet (ask graph s)
ask_again graph s =
    ap (λ (a : Asked). ask graph a.search) whole ∙ ends_again graph s s.bad s.goods refl refl ∙ ap quiet (sym whole)
  where
    whole : ask graph s ≡ ask_ends graph s s.bad s.goods
    whole = ends_are graph s s.bad s.goods refl refl
