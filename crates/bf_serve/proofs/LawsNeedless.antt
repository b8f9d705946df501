-- The list of the needless workers has those whose commits no path asks for, in ascending order.
use Rattle.std.proofs.Common.{◌≡◌, inl, inr, ⊎_elim, ◌⊎◌, ℕ, zero, suc, ◌<◌, Bool, true, false, not, List, [], ◌∷◌, length, map, filter, get_or, refl, sym, ◌∙◌, ap, subst, arith}
use Rattle.std.proofs.lemmas.Bool.{both_ways, not-true}
use Rattle.std.specs.List.{Contains}
use Rattle.bf_graph.specs.Graph.{IsGraph}
use Rattle.bf_many.specs.Many.{FarmMachine}
use Rattle.bf_search.specs.declared.farm.Claim.{Claim}
use Rattle.bf_search.specs.State.{IsSearchOver}
use Rattle.bf_spec.proofs.Rerooting.{filter_from, filter_has}
use Rattle.bf_serve.specs.Laws.{AreNeedlessIn, IsNeedlessIn}
use Rattle.bf_serve.specs.Searches.{ascending, is_asked, needless}
use Rattle.bf_serve.proofs.LawsAsking.{asked_in, in_asked}
use Rattle.bf_serve.proofs.Rising.{contained_has, has_ascending, has_contained, pairs_rise, rises_ascending}

-- ---- elements of a list

has_first : {X : Type 0} (x : X) (xs : List X) (y : X) → x ≡ y → Contains (x ∷ xs) y
has_first x xs y e = (0, omega arith, e)

has_later : {X : Type 0} (x : X) (xs : List X) (y : X) → Contains xs y → Contains (x ∷ xs) y
has_later x xs y c = (suc c.0, (let l = c.1 in omega (arith, l)), c.2)

has_at : {X : Type 0} (x : X) (xs : List X) (y : X) (k : ℕ) → k < length (x ∷ xs) → get_or (x ∷ xs) k y ≡ y → (x ≡ y) ⊎ Contains xs y
has_at x xs y zero l e = inl e
has_at x xs y (suc k) l e = inr (k, omega (arith, l), e)

has_one : {X : Type 0} (x : X) (xs : List X) (y : X) → Contains (x ∷ xs) y → (x ≡ y) ⊎ Contains xs y
has_one x xs y c = has_at x xs y c.0 c.1 c.2

has_none : {X : Type 0} (y : X) → Contains [] y → ⊥
has_none y c = absurd (let l = c.1 in omega (arith, l))

-- ---- workers in ascending order

ascending_has : (ws : List ℕ) (w : ℕ) → Contains ws w → Contains (ascending ws) w
ascending_has ws w c = contained_has w (ascending ws) (has_ascending ws w ∙ has_contained w ws c)

ascending_from : (ws : List ℕ) (w : ℕ) → Contains (ascending ws) w → Contains ws w
ascending_from ws w c = contained_has w ws (sym (has_ascending ws w) ∙ has_contained w (ascending ws) c)

-- ---- the workers of claims

worker_has : (cs : List Claim) (c : Claim) → Contains cs c → Contains (map (λ (x : Claim). x.worker) cs) c.worker
worker_has [] c h = absurd (has_none c h)
worker_has (x ∷ cs) c h = ⊎_elim
    (λ (e : x ≡ c). has_first x.worker (map (λ (y : Claim). y.worker) cs) c.worker (ap (λ (y : Claim). y.worker) e))
    (λ rest. has_later x.worker (map (λ (y : Claim). y.worker) cs) c.worker (worker_has cs c rest))
    (has_one x cs c h)

worker_claims : (cs : List Claim) (w : ℕ) → Contains (map (λ (x : Claim). x.worker) cs) w → (c : Claim) × Contains cs c × (c.worker ≡ w)
worker_claims [] w h = absurd (has_none w h)
worker_claims (x ∷ cs) w h = ⊎_elim
    (λ (e : x.worker ≡ w). (x, has_first x cs x refl, e))
    (λ rest. let found = worker_claims cs w rest in (found.0, has_later x cs found.0 found.1, found.2))
    (has_one x.worker (map (λ (y : Claim). y.worker) cs) w h)

-- ---- the needless workers

not_asked : (b : Bool) → (b ≡ true → ⊥) → not b ≡ true
not_asked true h = absurd (h refl)
not_asked false h = refl

module _ (m : FarmMachine) (g : IsGraph m.setting.graph) (over : IsSearchOver m.setting.graph m.setting.start) where
  abbrev is_dropped : Claim → Bool
  is_dropped c = not (is_asked m c.place)

  needless_is : (w : ℕ) → Contains (needless m) w → IsNeedlessIn m w
  needless_is w h =
      let found = worker_claims (filter is_dropped m.farm.claims) w (ascending_from (map (λ (c : Claim). c.worker) (filter is_dropped m.farm.claims)) w h) in
      let claim = filter_from is_dropped m.farm.claims found.0 found.1 in
      record {
        claim = found.0;
        among = claim.0;
        by = found.2;
        dropped = λ is. both_ways (is_asked m found.0.place) (not-true (is_asked m found.0.place) claim.1) (in_asked m found.0.place g over is);
      }

  is_needless : (w : ℕ) → IsNeedlessIn m w → Contains (needless m) w
  is_needless w is =
      let passes : is_dropped is.claim ≡ true = not_asked (is_asked m is.claim.place) (λ asked. is.dropped (asked_in m is.claim.place g asked)) in
      ascending_has (map (λ (c : Claim). c.worker) (filter is_dropped m.farm.claims)) w
      (subst (λ (x : ℕ). Contains (map (λ (c : Claim). c.worker) (filter is_dropped m.farm.claims)) x) is.by
      (worker_has (filter is_dropped m.farm.claims) is.claim (filter_has is_dropped m.farm.claims is.claim is.among passes)))

  pub are_needless : AreNeedlessIn m (needless m)
  are_needless = record {
    are = λ w. (needless_is w, is_needless w);
    ascend =
        let workers = map (λ (c : Claim). c.worker) (filter is_dropped m.farm.claims) in
        pairs_rise (ascending workers) (rises_ascending workers);
  }
