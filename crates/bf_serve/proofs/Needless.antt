-- The workers whose commits no path asks for: what a core tells of them, and what a claim and a giving back leave of them.
use Rattle.std.proofs.Common.{◌≡◌, ℕ, zero, suc, ◌<◌, Bool, true, false, cond, not, ◌&&◌, ◌||◌, ◌==◌, List, [], ◌∷◌, ◌++◌, length, map, filter, get_or, None, refl, sym, ap, subst, ◌∙◌, eqb-true, eq-eqb, arith}
use Rattle.std.proofs.lemmas.Bool.{both_ways}
use Rattle.std.proofs.lemmas.List.{append-nil}
use Rattle.std.proofs.lemmas.List.Elements.{filter-append}
use Rattle.std.specs.List.Sorted.{IsStrictlyIncreasing}
use Rattle.bf_graph.specs.Graph.{IsGraph}
use Rattle.bf_search.specs.declared.farm.Claim.{Claim}
use Rattle.bf_search.specs.Farm.{without}
use Rattle.bf_search.specs.Outcomes.{outcomes_of_table}
use Rattle.bf_search.specs.State.{IsSearchOver}
use Rattle.bf_core.specs.Claims.{AreClaims}
use Rattle.bf_core.specs.Machine.{AreWithdrawn, IsConsumed, IsWanted, IsWithdrawn, Machine, run_of as core_run}
use Rattle.bf_many.specs.Cores.{machine_of}
use Rattle.bf_many.specs.Many.{FarmMachine}
use Rattle.bf_serve.specs.Searches.{ascending, is_asked, needless}
use Rattle.bf_serve.specs.Steps.{IsOver, others_than}
use Rattle.bf_serve.proofs.Asking.{asked_is_wanted, wanted_is_asked}
use Rattle.bf_serve.proofs.Rising.{both_true, contained_has, has, has_ascending, has_contained, rises_ascending, rises_of, rises_some, same_members}
use Rattle.bf_serve.proofs.Running.{search_over}

abbrev pub idle_claims : FarmMachine → List Claim → List Claim
idle_claims m claims = filter (λ (c : Claim). not (is_asked m c.place)) claims

abbrev pub idle_workers : FarmMachine → List Claim → List ℕ
idle_workers m claims = map (λ c. c.worker) (idle_claims m claims)

-- ---- a claim of a worker that no path asks for

not_true : (b : Bool) → not b ≡ true → b ≡ false
not_true true h = cc h
not_true false h = refl

where_not : (b : Bool) → (b ≡ true → ⊥) → b ≡ false
where_not true none = absurd (none refl)
where_not false none = refl

record IsIdleClaim (m : FarmMachine) (claims : List Claim) (w : ℕ) : Type 0 where
  claim : Claim
  index : ℕ
  within : index < length claims
  at : (d : Claim) → get_or claims index d ≡ claim
  by : claim.worker ≡ w
  idle : is_asked m claim.place ≡ false

later : (m : FarmMachine) (c : Claim) (cs : List Claim) (w : ℕ) → IsIdleClaim m cs w → IsIdleClaim m (c ∷ cs) w
later m c cs w h = record {
  claim = h.claim;
  index = suc h.index;
  within = (let l = h.within in omega (arith, l));
  at = h.at;
  by = h.by;
  idle = h.idle;
}

found_idle : (m : FarmMachine) (claims : List Claim) (w : ℕ) → has (idle_workers m claims) w ≡ true → IsIdleClaim m claims w
found_idle m [] w h = cc h
found_idle m (c ∷ cs) w h = by (λ there. later m c cs w (found_idle m cs w there)) (not (is_asked m c.place)) refl (c.worker == w) refl h
  where
    by : (has (idle_workers m cs) w ≡ true → IsIdleClaim m (c ∷ cs) w) → (a : Bool) → not (is_asked m c.place) ≡ a → (b : Bool) → (c.worker == w) ≡ b
        → has (map (λ (x : Claim). x.worker) (cond a (c ∷ idle_claims m cs) (idle_claims m cs))) w ≡ true → IsIdleClaim m (c ∷ cs) w
    by rest false e b f there = rest there
    by rest true e true f there = record {
      claim = c;
      index = 0;
      within = omega arith;
      at = λ d. refl;
      by = eqb-true c.worker w f;
      idle = not_true (is_asked m c.place) e;
    }
    by rest true e false f there = rest (sym (ap (λ (b : Bool). b || has (idle_workers m cs) w) f) ∙ there)

idle_found : (m : FarmMachine) (claims : List Claim) (k w : ℕ) (d : Claim) → k < length claims → (get_or claims k d).worker ≡ w
    → is_asked m (get_or claims k d).place ≡ false → has (idle_workers m claims) w ≡ true
idle_found m [] k w d l same idle = absurd (omega (arith, l))
idle_found m (c ∷ cs) zero w d l same idle =
    ap (λ (b : Bool). has (map (λ (x : Claim). x.worker) (cond (not b) (c ∷ idle_claims m cs) (idle_claims m cs))) w) idle
    ∙ ap (λ (b : Bool). b || has (idle_workers m cs) w) (eq-eqb c.worker w same)
idle_found m (c ∷ cs) (suc k) w d l same idle =
    by (not (is_asked m c.place)) (idle_found m cs k w d (omega (arith, l)) same idle)
  where
    or_right : (a b : Bool) → b ≡ true → (a || b) ≡ true
    or_right true b h = refl
    or_right false b h = h

    by : (a : Bool) → has (idle_workers m cs) w ≡ true
        → has (map (λ (x : Claim). x.worker) (cond a (c ∷ idle_claims m cs) (idle_claims m cs))) w ≡ true
    by true rest = or_right (c.worker == w) (has (idle_workers m cs) w) rest
    by false rest = rest

-- ---- what a core tells

module _ (core : Machine) (g : IsGraph core.graph) (starts : IsSearchOver core.graph core.first.search) (whole : core.leg ≡ 0)
    (over : IsSearchOver core.graph (core_run core).search) (consumed : IsConsumed core) (claims : AreClaims core.table core.claims) where
  told_idle : (w : ℕ) → IsWithdrawn core w → has (idle_workers (machine_of core) core.claims) w ≡ true
  told_idle w h =
      let k : ℕ = h.among.0 in
      idle_found (machine_of core) core.claims k w h.claim h.among.1
      (ap (λ (c : Claim). c.worker) h.among.2 ∙ h.by)
      (where_not (is_asked (machine_of core) (get_or core.claims k h.claim).place)
      (λ asked. h.dropped (subst (λ (c : Claim). IsWanted core c.place) h.among.2 (asked_is_wanted core (get_or core.claims k h.claim).place g consumed asked))))

  idle_told : (w : ℕ) → IsIdleClaim (machine_of core) core.claims w → IsWithdrawn core w
  idle_told w h = record {
    claim = h.claim;
    among = (h.index, h.within, h.at h.claim);
    by = h.by;
    dropped = λ wanted. both_ways (is_asked (machine_of core) h.claim.place) h.idle
        (wanted_is_asked core h.claim.place g starts whole over consumed
        (subst (λ (c : Claim). outcomes_of_table core.table c.place ≡ None) (h.at h.claim) (claims.unknown h.index h.claim h.within)) wanted);
  }

  pub withdrawn_are_needless : (workers : List ℕ) → IsStrictlyIncreasing workers → AreWithdrawn core workers → workers ≡ needless (machine_of core)
  withdrawn_are_needless workers rising withdrawn =
      same_members workers (needless (machine_of core)) (rises_of workers rising) (rises_ascending (idle_workers (machine_of core) core.claims))
      (λ w. both_true (has workers w) (has (needless (machine_of core)) w)
      (λ there. has_ascending (idle_workers (machine_of core) core.claims) w ∙ told_idle w ((withdrawn w).0 (contained_has w workers there)))
      (λ idle. has_contained w workers ((withdrawn w).1 (idle_told w (found_idle (machine_of core) core.claims w
      (sym (has_ascending (idle_workers (machine_of core) core.claims) w) ∙ idle))))))

pub core_needless : (graph : List (List ℕ)) (core : Machine) (workers : List ℕ) → IsGraph graph → IsOver graph (machine_of core) → IsConsumed core
    → AreClaims core.table core.claims → IsStrictlyIncreasing workers → AreWithdrawn core workers → workers ≡ needless (machine_of core)
core_needless graph core workers g over consumed claims rising withdrawn =
    withdrawn_are_needless core (subst IsGraph (sym over.graph_is) g)
    (subst (λ (x : List (List ℕ)). IsSearchOver x core.first.search) (sym over.graph_is) over.start) over.no_leg
    (subst (λ (x : List (List ℕ)). IsSearchOver x (core_run core).search) (sym over.graph_is) (search_over graph (machine_of core) g over))
    consumed claims workers rising withdrawn

-- ---- a claim, and a giving back

-- a claim of a place that is asked for
pub claimed_needless : (m : FarmMachine) (c : Claim) → is_asked m c.place ≡ true
    → needless (record m { farm = record m.farm { claims = m.farm.claims ++ c ∷ [] } }) ≡ needless m
claimed_needless m c asked =
    ap (λ (cs : List Claim). ascending (map (λ (x : Claim). x.worker) cs))
    (filter-append (λ (x : Claim). not (is_asked m x.place)) m.farm.claims (c ∷ [])
    ∙ ap (λ (b : Bool). idle_claims m m.farm.claims ++ cond (not b) (c ∷ []) []) asked
    ∙ append-nil (idle_claims m m.farm.claims))

has_others : (w u : ℕ) (xs : List ℕ) → has (others_than w xs) u ≡ (not (u == w) && has xs u)
has_others w u [] = and_none (not (u == w))
  where
    and_none : (b : Bool) → false ≡ (b && false)
    and_none true = refl
    and_none false = refl
has_others w u (x ∷ xs) = by (has_others w u xs) (x == w) refl (x == u) refl (u == w) refl
  where
    or_of : (b c d : Bool) → d ≡ (not c && b) → (false || d) ≡ (not c && (false || b))
    or_of b c d h = h

    by : (has (others_than w xs) u ≡ (not (u == w) && has xs u)) → (a : Bool) → (x == w) ≡ a → (b : Bool) → (x == u) ≡ b → (c : Bool) → (u == w) ≡ c
        → has (cond (not a) (x ∷ others_than w xs) (others_than w xs)) u ≡ (not c && (b || has xs u))
    by rest true e true f true h = rest ∙ ap (λ (z : Bool). not z && has xs u) h
    by rest true e true f false h = absurd (both_ways (u == w) h (eq-eqb u w (sym (eqb-true x u f) ∙ eqb-true x w e)))
    by rest true e false f c h = rest ∙ ap (λ (z : Bool). not z && has xs u) h
    by rest false e true f true h = absurd (both_ways (x == w) e (eq-eqb x w (eqb-true x u f ∙ eqb-true u w h)))
    by rest false e true f false h = ap (λ (z : Bool). z || has (others_than w xs) u) f
    by rest false e false f c h = ap (λ (z : Bool). z || has (others_than w xs) u) f ∙ rest ∙ ap (λ (z : Bool). not z && has xs u) h

idle_others : (m : FarmMachine) (w : ℕ) (cs : List Claim) → idle_workers m (without cs w) ≡ others_than w (idle_workers m cs)
idle_others m w [] = refl
idle_others m w (c ∷ cs) = by (idle_others m w cs) (c.worker == w) refl (not (is_asked m c.place)) refl
  where
    by : (idle_workers m (without cs w) ≡ others_than w (idle_workers m cs)) → (a : Bool) → (c.worker == w) ≡ a → (b : Bool) → not (is_asked m c.place) ≡ b
        → idle_workers m (cond (not a) (c ∷ without cs w) (without cs w))
        ≡ others_than w (map (λ (x : Claim). x.worker) (cond b (c ∷ idle_claims m cs) (idle_claims m cs)))
    by rest true e true f = rest ∙ ap (λ (z : Bool). cond (not z) (c.worker ∷ others_than w (idle_workers m cs)) (others_than w (idle_workers m cs))) (sym e)
    by rest true e false f = rest
    by rest false e true f =
        ap (λ (z : Bool). map (λ (x : Claim). x.worker) (cond z (c ∷ idle_claims m (without cs w)) (idle_claims m (without cs w)))) f
        ∙ ap (λ (l : List ℕ). c.worker ∷ l) rest
        ∙ ap (λ (z : Bool). cond (not z) (c.worker ∷ others_than w (idle_workers m cs)) (others_than w (idle_workers m cs))) (sym e)
    by rest false e false f =
        ap (λ (z : Bool). map (λ (x : Claim). x.worker) (cond z (c ∷ idle_claims m (without cs w)) (idle_claims m (without cs w)))) f ∙ rest

pub given_needless : (m : FarmMachine) (w : ℕ)
    → others_than w (needless m) ≡ needless (record m { farm = record m.farm { claims = without m.farm.claims w } })
given_needless m w =
    same_members (others_than w (needless m)) (ascending (idle_workers m (without m.farm.claims w)))
    (rises_some (λ v. not (v == w)) (needless m) (rises_ascending (idle_workers m m.farm.claims)))
    (rises_ascending (idle_workers m (without m.farm.claims w)))
    (λ u. has_others w u (needless m)
    ∙ ap (λ (b : Bool). not (u == w) && b) (has_ascending (idle_workers m m.farm.claims) u)
    ∙ sym (has_others w u (idle_workers m m.farm.claims))
    ∙ ap (λ (l : List ℕ). has l u) (sym (idle_others m w m.farm.claims))
    ∙ sym (has_ascending (idle_workers m (without m.farm.claims w)) u))
