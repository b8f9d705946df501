-- An ask in short is an ask.
use Rattle.std.proofs.Common.{◌≡◌, ℕ, zero, suc, ◌<◌, Bool, true, false, not, ◌&&◌, ◌||◌, ◌==◌, cond, List, [], ◌∷◌, length, Option}
use Rattle.std.proofs.Common.{Some, None, refl, ap, sym, ◌∙◌, subst, arith, eq-eqb}
use Rattle.std.proofs.lemmas.Bool.{cond-true, both_ways}
use Rattle.std.proofs.lemmas.List.Elements.{filter_passes}
use Rattle.std.proofs.lemmas.List.FromFn.{length-range_with_len, get_or-range_with_len}
use Rattle.std.specs.List.{All, Contains, filter, find, list_all, range_with_len}
use Rattle.std.specs.Option.{option_map_or}
use Rattle.bf_graph.specs.Graph.{IsGraph}
use Rattle.bf_search.specs.declared.asks.Ask.{Ask}
use Rattle.bf_search.specs.declared.asks.Ask.TheVariants.{Test, MergeBaseBad, GoodNotAncestor, FirstBad, OnlySkipped}
use Rattle.bf_search.specs.declared.asks.Check.TheVariants.{Passed, Bad as BaseIsBad}
use Rattle.bf_search.specs.Candidates.{is_in, is_candidate, candidates}
use Rattle.bf_search.specs.Bases.{has_place, merge_bases, reaches_all, check_open, check_bases, check}
use Rattle.bf_search.specs.State.{Search, Asked, ask, ask_ends, ask_among, ask_best, ask_candidates, ask_checked, without_test}
use Rattle.bf_search.proofs.CandidateLemmas.{IsCandidate, IsCandidate-from_test, is_candidate-true}
use Rattle.bf_search.proofs.Modes.{Reaches-in_mode}
use Rattle.bf_search.proofs.Reaching.{Reaches-refl, Reaches-trans}
use Rattle.bf_headline.proofs.Reaching.{reaches-is, candidates-is, merge_bases-is}
use Rattle.bf_headline.proofs.Choosing.{best-is}
use Rattle.bf_headline.specs.Headline as short
use Rattle.bf_headline.specs.Links.{standing_of, IsSameAsk}

-- ---- one candidate alone is the bad commit

keep_head : (b : Bool) (y x : ℕ) (rest : List ℕ) → b ≡ true → y ≡ x → Contains (cond b (y ∷ rest) rest) x
keep_head true y x rest e at = (0, omega arith, at)
keep_head false y x rest e at = absurd (both_ways false refl e)

keep_tail : (b : Bool) (y x : ℕ) (rest : List ℕ) → Contains rest x → Contains (cond b (y ∷ rest) rest) x
keep_tail true y x rest (k, l, at) = (suc k, omega arith, at)
keep_tail false y x rest h = h

Contains-filter : (f : ℕ → Bool) (xs : List ℕ) (x : ℕ) → Contains xs x → f x ≡ true → Contains (filter f xs) x
Contains-filter f [] x (k, l, at) e = absurd (omega arith)
Contains-filter f (y ∷ xs) x (zero, l, at) e = keep_head (f y) y x (filter f xs) (ap f at ∙ e) at
Contains-filter f (y ∷ xs) x (suc k, l, at) e = keep_tail (f y) y x (filter f xs) (Contains-filter f xs x (k, omega arith, at) e)

Contains-places : (n p : ℕ) → p < n → Contains (range_with_len 0 n) p
Contains-places n p h = (p, omega (arith, length-range_with_len 0 n), omega (arith, get_or-range_with_len 0 n p p h))

-- the bad commit is a candidate where there is one
bad_is_left : (graph : List (List ℕ)) (bad : ℕ) (goods : List ℕ) (first_parent : Bool) (p : ℕ) → IsGraph graph
    → is_candidate graph bad goods first_parent p ≡ true → is_candidate graph bad goods first_parent bad ≡ true
bad_is_left graph bad goods first_parent p g h =
    let it : IsCandidate graph bad goods first_parent p = IsCandidate-from_test graph bad goods first_parent p g h in
    is_candidate-true graph bad goods first_parent bad g
    (record {
      reached = Reaches-refl (short.in_mode graph first_parent) bad;
      not_good = λ s. it.not_good (record {
        source = s.source;
        among = s.among;
        leads = Reaches-trans s.leads (Reaches-in_mode graph first_parent bad p it.reached);
      });
    })

only_one : (xs : List ℕ) (p q : ℕ) → xs ≡ p ∷ [] → Contains xs q → p ≡ q
only_one xs p q e h = single (subst (λ (ys : List ℕ). Contains ys q) e h)
  where
    single : Contains (p ∷ []) q → p ≡ q
    single (zero, l, at) = at
    single (suc k, l, at) = absurd (omega arith)

pub one_left : (graph : List (List ℕ)) (bad : ℕ) (goods : List ℕ) (first_parent : Bool) (p : ℕ) → IsGraph graph → bad < length graph
    → candidates graph bad goods first_parent ≡ p ∷ [] → p ≡ bad
unfolding candidates
one_left graph bad goods first_parent p g within e =
    let is_left : ℕ → Bool = λ q. is_candidate graph bad goods first_parent q in
    let here : is_left p ≡ true = (subst (λ (ps : List ℕ). All (λ q. is_left q ≡ true) ps) e (filter_passes is_left (range_with_len 0 (length graph)))) 0 0 (omega arith) in
    only_one (filter is_left (range_with_len 0 (length graph))) p bad e
    (Contains-filter is_left (range_with_len 0 (length graph)) bad (Contains-places (length graph) bad within)
    (bad_is_left graph bad goods first_parent p g here))

-- ---- the ask among the candidates

-- an ask is this one, with these warnings, and changes nothing but what was expected
pub record IsAsk (s : Search) (bad : ℕ) (warned : List ℕ) (a : Ask) (long : Asked) : Type 0 where
  pub asks : long.step.ask ≡ a
  pub warns : long.step.warned ≡ warned
  pub state : standing_of long.search bad ≡ standing_of s bad
  pub bad_is : long.search.bad ≡ s.bad

best_alike : (s : Search) (bad : ℕ) (warned ps : List ℕ) (chosen : Option ℕ)
    → IsAsk s bad warned (option_map_or Test chosen (OnlySkipped ps)) (ask_best s warned ps chosen)
best_alike s bad warned ps (Some p) = record { asks = refl; warns = refl; state = refl; bad_is = refl }
best_alike s bad warned ps None = record { asks = refl; warns = refl; state = refl; bad_is = refl }

one_alike : (s : Search) (bad : ℕ) (warned : List ℕ) (p : ℕ) (other : Asked) → p ≡ bad
    → IsAsk s bad warned (FirstBad p) (cond (p == bad) (without_test s warned (FirstBad bad)) other)
one_alike s bad warned p other e =
    subst (λ (long : Asked). IsAsk s bad warned (FirstBad p) long)
    (sym (cond-true (p == bad) (without_test s warned (FirstBad bad)) other (eq-eqb p bad e)))
    (record { asks = ap (λ (q : ℕ). FirstBad q) (sym e); warns = refl; state = refl; bad_is = refl })

among_alike : (graph : List (List ℕ)) (s : Search) (bad : ℕ) (warned ps : List ℕ) → ((p : ℕ) → ps ≡ p ∷ [] → p ≡ bad)
    → IsAsk s bad warned (short.ask_among graph (standing_of s bad) ps) (ask_among s bad warned ps (short.best graph (standing_of s bad) ps))
among_alike graph s bad warned [] one = record { asks = refl; warns = refl; state = refl; bad_is = refl }
among_alike graph s bad warned (p ∷ []) one =
    one_alike s bad warned p (ask_best s warned (p ∷ []) (short.best graph (standing_of s bad) (p ∷ []))) (one p refl)
among_alike graph s bad warned (p ∷ q ∷ ps) one = best_alike s bad warned (p ∷ q ∷ ps) (short.best graph (standing_of s bad) (p ∷ q ∷ ps))

candidates_alike : (graph : List (List ℕ)) (s : Search) (bad : ℕ) (warned : List ℕ) → IsGraph graph → bad < length graph
    → IsAsk s bad warned (short.ask_among graph (standing_of s bad) (short.candidates graph (standing_of s bad))) (ask_candidates graph s bad warned)
candidates_alike graph s bad warned g within =
    let left = candidates graph bad s.goods s.first_parent in
    subst (λ (ps : List ℕ). IsAsk s bad warned (short.ask_among graph (standing_of s bad) ps) (ask_candidates graph s bad warned))
    (sym (candidates-is graph (standing_of s bad)))
    (subst (λ (o : Option ℕ). IsAsk s bad warned (short.ask_among graph (standing_of s bad) left) (ask_among s bad warned left o))
    (sym (best-is graph s bad))
    (among_alike graph s bad warned left (λ p e. one_left graph bad s.goods s.first_parent p g within e)))

-- ---- the ask

-- those that are warned of are skipped, since there is none to test
warned_are : (good skip : ℕ → Bool) (ps : List ℕ) → find (λ p. not (good p) && not (skip p)) ps ≡ None
    → filter (λ p. skip p && not (good p)) ps ≡ filter (λ p. not (good p)) ps
warned_are good skip [] e = refl
warned_are good skip (p ∷ ps) e = by_case (good p) (skip p) e (warned_are good skip ps)
  where
    by_case : (a b : Bool) → cond (not a && not b) (Some p) (find (λ q. not (good q) && not (skip q)) ps) ≡ None
        → (find (λ q. not (good q) && not (skip q)) ps ≡ None → filter (λ q. skip q && not (good q)) ps ≡ filter (λ q. not (good q)) ps)
        → cond (b && not a) (p ∷ filter (λ q. skip q && not (good q)) ps) (filter (λ q. skip q && not (good q)) ps)
        ≡ cond (not a) (p ∷ filter (λ q. not (good q)) ps) (filter (λ q. not (good q)) ps)
    by_case true true e rest = rest e
    by_case true false e rest = rest e
    by_case false true e rest = ap (λ (qs : List ℕ). p ∷ qs) (rest e)
    by_case false false e rest = cc

module _ (graph : List (List ℕ)) (g : IsGraph graph) (s : Search) (bad : ℕ) (within : bad < length graph) where
  -- the check has passed by now
  passed_alike : (warned : List ℕ) → IsSameAsk s bad (ask_candidates graph (record s { checked = true }) bad warned) (short.once_checked graph (standing_of s bad) warned)
  passed_alike warned =
      let it = candidates_alike graph (record s { checked = true }) bad warned g within in
      record { asks = it.asks ∙ same (short.candidates graph (standing_of s bad)); warns = it.warns; state = it.state; bad_is = it.bad_is }
    where
      same : (ps : List ℕ) → short.ask_among graph (standing_of (record s { checked = true }) bad) ps ≡ short.ask_among graph (standing_of s bad) ps
      same [] = refl
      same (p ∷ []) = refl
      same (p ∷ q ∷ ps) = refl

  -- it had passed before
  known_alike : s.checked ≡ true → IsSameAsk s bad (ask_candidates graph s bad []) (short.once_checked graph (standing_of s bad) [])
  known_alike e =
      let it = candidates_alike graph s bad [] g within in
      record { asks = it.asks; warns = it.warns; state = it.state ∙ ap (λ (b : Bool). record (standing_of s bad) { checked = b }) e; bad_is = it.bad_is }

  -- the rest of a short ask, by the bases
  abbrev brief_open : List ℕ → Option ℕ → short.Asked
  brief_open bases o =
      option_map_or (λ p. short.while_checking (Test p)) o (short.once_checked graph (standing_of s bad) (filter (λ p. not (has_place s.goods p)) bases))

  open_alike : (bases : List ℕ) (o : Option ℕ) → find (λ p. not (has_place s.goods p) && not (is_in s.skips p)) bases ≡ o → s.checked ≡ false
      → IsSameAsk s bad (ask_checked graph s bad (check_open o bases s.goods s.skips)) (brief_open bases o)
  open_alike bases (Some p) e not_yet = record {
    asks = refl;
    warns = refl;
    state = ap (λ (b : Bool). record (standing_of s bad) { checked = b }) not_yet;
    bad_is = refl;
  }
  open_alike bases None e not_yet =
      subst (λ (ps : List ℕ). IsSameAsk s bad (ask_candidates graph (record s { checked = true }) bad (filter (λ p. is_in s.skips p && not (has_place s.goods p)) bases))
      (short.once_checked graph (standing_of s bad) ps))
      (warned_are (λ p. has_place s.goods p) (λ p. is_in s.skips p) bases e)
      (passed_alike (filter (λ p. is_in s.skips p && not (has_place s.goods p)) bases))

  abbrev brief_bases : Bool → List ℕ → Option ℕ → short.Asked
  brief_bases h bases o = cond h (short.while_checking (cond s.bad_asked (MergeBaseBad bad) (GoodNotAncestor bad))) (brief_open bases o)

  bases_alike : (h : Bool) (bases : List ℕ) (o : Option ℕ) → find (λ p. not (has_place s.goods p) && not (is_in s.skips p)) bases ≡ o → s.checked ≡ false
      → IsSameAsk s bad (ask_checked graph s bad (cond h (BaseIsBad bad) (check_open o bases s.goods s.skips))) (brief_bases h bases o)
  bases_alike true bases o e not_yet = record {
    asks = refl;
    warns = refl;
    state = ap (λ (b : Bool). record (standing_of s bad) { checked = b }) not_yet;
    bad_is = refl;
  }
  bases_alike false bases o e not_yet = open_alike bases o e not_yet

  abbrev brief_of : Bool → Bool → Bool → List ℕ → Option ℕ → short.Asked
  brief_of c r h bases o = cond (c || r) (short.once_checked graph (standing_of s bad) []) (brief_bases h bases o)

  whole_alike : (c r h : Bool) (bases : List ℕ) (o : Option ℕ) → s.checked ≡ c → find (λ p. not (has_place s.goods p) && not (is_in s.skips p)) bases ≡ o
      → IsSameAsk s bad
      (cond c (ask_candidates graph s bad []) (ask_checked graph s bad (cond r (Passed []) (cond h (BaseIsBad bad) (check_open o bases s.goods s.skips)))))
      (brief_of c r h bases o)
  whole_alike true r h bases o c e = known_alike c
  whole_alike false true h bases o c e = passed_alike []
  whole_alike false false h bases o c e = bases_alike h bases o e c

  abbrev open_of : List ℕ → Option ℕ
  open_of bases = find (λ p. not (has_place s.goods p) && not (is_in s.skips p)) bases

  -- the short ask over the long reach
  brief-is : short.ask graph (standing_of s bad)
      ≡ brief_of s.checked (reaches_all graph bad s.goods) (has_place (merge_bases graph bad s.goods) bad) (merge_bases graph bad s.goods)
      (open_of (merge_bases graph bad s.goods))
  unfolding short.ask reaches_all
  brief-is =
      λ i. let bases = merge_bases-is graph (standing_of s bad) i in
      brief_of s.checked (list_all (λ p. reaches-is graph i bad p) s.goods) (has_place bases bad) bases (open_of bases)

  ends_alike : (goods : List ℕ) → (goods ≡ [] → ⊥) → IsSameAsk s bad (ask_ends graph s (Some bad) goods) (short.ask graph (standing_of s bad))
  unfolding check check_bases
  ends_alike [] some = absurd (some refl)
  ends_alike (good ∷ goods) some =
      let bases = merge_bases graph bad s.goods in
      subst (λ (brief : short.Asked). IsSameAsk s bad (ask_ends graph s (Some bad) (good ∷ goods)) brief) (sym brief-is)
      (whole_alike s.checked (reaches_all graph bad s.goods) (has_place bases bad) bases (open_of bases) refl refl)

  -- With both ends an ask is as the short one.
  pub ask-is : s.bad ≡ Some bad → (s.goods ≡ [] → ⊥) → IsSameAsk s bad (ask graph s) (short.ask graph (standing_of s bad))
  unfolding ask
  ask-is bad_is some =
      subst (λ (b : Option ℕ). IsSameAsk s bad (ask_ends graph s b s.goods) (short.ask graph (standing_of s bad))) (sym bad_is)
      (ends_alike s.goods some)
