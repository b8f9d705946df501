-- The claims that stand: what a claim, a post and a giving back leave of them.
use Rattle.std.proofs.Common.{◌≡◌, ◌≢◌, ℕ, ◌<◌, ◌⊎◌, Bool, true, false, not, ◌&&◌, ◌==◌, List, [], ◌∷◌, ◌++◌, length, get_or, set, Option, Some, None, refl}
use Rattle.std.proofs.Common.{cond, sym, ap, ◌∙◌, subst, inl, inr, ⊎_elim, arith, eqb-true, eq-eqb}
use Rattle.std.proofs.lemmas.Bool.{cases_Bool, cases_order, both_ways, and_parts, not-true, cond-true, false_from_ne_true}
use Rattle.std.proofs.lemmas.List.{length-set, get_or-set_other, set-set, set-get_or, get_or_default}
use Rattle.std.proofs.lemmas.List.Elements.{All-filter, All-push, All-contains, All-weaker, filter_passes}
use Rattle.std.proofs.lemmas.List.Folds.{Any-from_list_any, list_any_at}
use Rattle.std.proofs.lemmas.List.Kept.{AllPairs-filter}
use Rattle.std.proofs.lemmas.List.Quantifiers.{all_pairs_push}
use Rattle.std.specs.List.{All, Any, Contains, list_any}
use Rattle.std.specs.Option.{IfSome}
use Rattle.bf_search.specs.declared.farm.Claim.{Claim}
use Rattle.bf_search.specs.declared.farm.Event.TheVariants.{Claim as Claimed, Post as Posted, Give as Given}
use Rattle.bf_search.specs.declared.outcomes.Outcome.{Outcome}
use Rattle.bf_search.specs.Outcomes.{outcomes_of_table}
use Rattle.bf_search.specs.OpenPaths.{is_claimed}
use Rattle.bf_search.specs.Farm.{Setting, Farm, has_claim, stands, without, is_best, best_place, step}
use Rattle.bf_state.specs.Runs.{IsPartOf}
use Rattle.bf_core.specs.Claims.{IsApart, AreClaims}

-- ---- tables

pub part_put : (table : List (Option Outcome)) (p : ℕ) (outcome : Outcome) → outcomes_of_table table p ≡ None
    → IsPartOf (outcomes_of_table table) (outcomes_of_table (set table p (Some outcome)))
part_put table p outcome unknown = λ q. ⊎_elim
    (λ same. subst (λ (o : Option Outcome). IfSome o (λ x. outcomes_of_table (set table p (Some outcome)) q ≡ Some x))
    (sym (ap (outcomes_of_table table) (eqb-true q p same) ∙ unknown)) tt)
    (λ apart. kept q (outcomes_of_table table q) refl (get_or-set_other table p q (Some outcome) None (λ e. both_ways (q == p) apart (eq-eqb q p e))))
    (cases_Bool (q == p))
  where
    kept : (q : ℕ) (o : Option Outcome) → outcomes_of_table table q ≡ o → outcomes_of_table (set table p (Some outcome)) q ≡ outcomes_of_table table q
        → IfSome o (λ x. outcomes_of_table (set table p (Some outcome)) q ≡ Some x)
    kept q None is e = tt
    kept q (Some x) is e = e ∙ is

pub put_elsewhere : (table : List (Option Outcome)) (p q : ℕ) (outcome : Outcome) → q ≢ p
    → outcomes_of_table (set table p (Some outcome)) q ≡ outcomes_of_table table q
put_elsewhere table p q outcome apart = get_or-set_other table p q (Some outcome) None apart

-- an outcome that is taken out again
pub put_back : (table : List (Option Outcome)) (p : ℕ) (outcome : Outcome) → outcomes_of_table table p ≡ None → set (set table p (Some outcome)) p None ≡ table
put_back table p outcome unknown = set-set table p (Some outcome) None ∙ ap (λ (o : Option Outcome). set table p o) (sym unknown) ∙ set-get_or table p None

-- ---- claims

record Stands (claims : List Claim) (worker p : ℕ) : Type 0 where
  claim : Claim
  at : ℕ
  below : at < length claims
  is : (d : Claim) → get_or claims at d ≡ claim
  by : claim.worker ≡ worker
  of : claim.place ≡ p

standing : (claims : List Claim) (worker p : ℕ) → stands claims worker p ≡ true → Stands claims worker p
standing claims worker p h =
    let found : Any (λ c. ((c.worker == worker) && (c.place == p)) ≡ true) claims = Any-from_list_any (λ c. (c.worker == worker) && (c.place == p)) claims h in
    let both = and_parts (found.1.worker == worker) (found.1.place == p) found.4 in
    record {
      claim = found.1;
      at = found.0;
      below = found.2;
      is = λ d. get_or_default claims found.0 d found.1 found.2 ∙ found.3;
      by = eqb-true found.1.worker worker both.0;
      of = eqb-true found.1.place p both.1;
    }

among : (claims : List Claim) (worker p : ℕ) (s : Stands claims worker p) → Contains claims s.claim
among claims worker p s = (s.at, s.below, s.is s.claim)

-- the place of a claim that stands
pub standing_place : (table : List (Option Outcome)) (claims : List Claim) (worker p : ℕ) → AreClaims table claims → stands claims worker p ≡ true
    → (p < length table) × (outcomes_of_table table p ≡ None)
standing_place table claims worker p h st =
    let s = standing claims worker p st in (
      subst (λ (q : ℕ). q < length table) s.of (All-contains (λ c. c.place < length table) claims s.claim h.within (among claims worker p s)),
      subst (λ (q : ℕ). outcomes_of_table table q ≡ None) s.of
          (All-contains (λ c. outcomes_of_table table c.place ≡ None) claims s.claim h.unknown (among claims worker p s)),
    )

-- the claims without those of a worker
pub claims_without : (table : List (Option Outcome)) (claims : List Claim) (worker : ℕ) → AreClaims table claims → AreClaims table (without claims worker)
claims_without table claims worker h = record {
  within = All-filter (λ c. not (c.worker == worker)) (λ c. c.place < length table) claims h.within;
  unknown = All-filter (λ c. not (c.worker == worker)) (λ c. outcomes_of_table table c.place ≡ None) claims h.unknown;
  apart = AllPairs-filter (λ c d. (c.worker ≢ d.worker) × (c.place ≢ d.place)) (λ c. not (c.worker == worker)) claims h.apart;
}

-- a claim of the worker, or of another place
abbrev IsOther : ℕ → ℕ → Claim → Type 0
IsOther worker p c = (c.worker ≡ worker) ⊎ (c.place ≢ p)

-- the claims of the other workers are of other places
others_apart : (claims : List Claim) (worker p : ℕ) → IsApart claims → Stands claims worker p → All (IsOther worker p) claims
others_apart claims worker p apart s = λ k d l.
    ⊎_elim
    (λ (same : k ≡ s.at). inl (ap (λ (c : Claim). c.worker) (ap (λ (i : ℕ). get_or claims i d) same ∙ s.is d) ∙ s.by))
    (λ rest. ⊎_elim
    (λ (before : k < s.at).
    let far = apart k s.at d before s.below in
    inr (λ e. far.1 (e ∙ sym s.of ∙ ap (λ (c : Claim). c.place) (sym (s.is d)))))
    (λ (after : s.at < k).
    let far = apart s.at k d after l in
    inr (λ e. far.1 (ap (λ (c : Claim). c.place) (s.is d) ∙ s.of ∙ sym e)))
    rest)
    (cases_order k s.at)

-- after a post the claims that are left are still of places without an outcome
pub claims_posted : (table : List (Option Outcome)) (claims : List Claim) (worker p : ℕ) (outcome : Outcome) → AreClaims table claims
    → stands claims worker p ≡ true → AreClaims (set table p (Some outcome)) (without claims worker)
claims_posted table claims worker p outcome h st =
    let rest = claims_without table claims worker h in
    let other : All (λ c. not (c.worker == worker) ≡ true) (without claims worker) = filter_passes (λ c. not (c.worker == worker)) claims in
    let far : All (IsOther worker p) (without claims worker) = All-filter (λ c. not (c.worker == worker)) (IsOther worker p) claims
    (others_apart claims worker p h.apart (standing claims worker p st)) in
    record {
      within = All-weaker (λ c. c.place < length table) (λ c. c.place < length (set table p (Some outcome)))
          (λ c l. omega (arith, l, length-set table p (Some outcome))) (without claims worker) rest.within;
      unknown = λ k d l.
          let c : Claim = get_or (without claims worker) k d in
          ⊎_elim
          (λ same. absurd (both_ways (c.worker == worker) (not-true _ (other k d l)) (eq-eqb c.worker worker same)))
          (λ apart. put_elsewhere table p c.place outcome apart ∙ rest.unknown k d l)
          (far k d l);
      apart = rest.apart;
    }

fails_at : (test : Claim → Bool) (claims : List Claim) (k : ℕ) (d : Claim) → list_any test claims ≡ false → k < length claims → test (get_or claims k d) ≡ false
fails_at test claims k d h l = false_from_ne_true (test (get_or claims k d))
    (λ passes. both_ways (list_any test claims) h (list_any_at test claims k d l passes))

-- the claims stand over the outcome of a place that nobody tests
pub claims_beside : (table : List (Option Outcome)) (claims : List Claim) (p : ℕ) (outcome : Outcome) → AreClaims table claims → is_claimed claims p ≡ false
    → AreClaims (set table p (Some outcome)) claims
claims_beside table claims p outcome h free = record {
  within = All-weaker (λ c. c.place < length table) (λ c. c.place < length (set table p (Some outcome)))
      (λ c l. omega (arith, l, length-set table p (Some outcome))) claims h.within;
  unknown = λ k d l.
      put_elsewhere table p (get_or claims k d).place outcome
      (λ e. both_ways _ (fails_at (λ c. c.place == p) claims k d free l) (eq-eqb (get_or claims k d).place p e))
      ∙ h.unknown k d l;
  apart = h.apart;
}

-- one more claim
pub claims_pushed : (table : List (Option Outcome)) (claims : List Claim) (worker p : ℕ) → AreClaims table claims → has_claim claims worker ≡ false
    → is_claimed claims p ≡ false → p < length table → outcomes_of_table table p ≡ None
    → AreClaims table (claims ++ record { worker = worker; place = p } ∷ [])
claims_pushed table claims worker p h idle free within unknown = record {
  within = All-push (λ c. c.place < length table) claims (record { worker = worker; place = p }) h.within within;
  unknown = All-push (λ c. outcomes_of_table table c.place ≡ None) claims (record { worker = worker; place = p }) h.unknown unknown;
  apart = all_pairs_push (λ c d. (c.worker ≢ d.worker) × (c.place ≢ d.place)) claims (record { worker = worker; place = p }) h.apart
      (λ k d l. (
        λ e. both_ways _ (fails_at (λ c. c.worker == worker) claims k d idle l) (eq-eqb (get_or claims k d).worker worker e),
        λ e. both_ways _ (fails_at (λ c. c.place == p) claims k d free l) (eq-eqb (get_or claims k d).place p e),
      ));
}

-- no claims
pub no_claims : (table : List (Option Outcome)) → AreClaims table []
no_claims table = record { within = λ k d l. absurd (omega arith); unknown = λ k d l. absurd (omega arith); apart = λ i j d l m. absurd (omega arith) }

-- those that are asked for, where any are
pub claims_asked : (table : List (Option Outcome)) (claims asked : List Claim) (asks : Bool) → AreClaims table claims → asked ≡ cond asks claims []
    → AreClaims table asked
claims_asked table claims asked true h e = subst (λ (cs : List Claim). AreClaims table cs) (sym e) h
claims_asked table claims asked false h e = subst (λ (cs : List Claim). AreClaims table cs) (sym e) (no_claims table)

-- ---- steps

pub step_post : (setting : Setting) (farm : Farm) (worker p : ℕ) (outcome : Outcome) → stands farm.claims worker p ≡ true
    → step setting farm (Posted worker p outcome) ≡ Some (record { table = set farm.table p (Some outcome); claims = without farm.claims worker })
step_post setting farm worker p outcome h = cond-true (stands farm.claims worker p)
    (Some (record { table = set farm.table p (Some outcome); claims = without farm.claims worker })) None h

pub step_give : (setting : Setting) (farm : Farm) (worker p : ℕ) → stands farm.claims worker p ≡ true
    → step setting farm (Given worker p) ≡ Some (record farm { claims = without farm.claims worker })
step_give setting farm worker p h = cond-true (stands farm.claims worker p) (Some (record farm { claims = without farm.claims worker })) None h

pub step_claim : (setting : Setting) (farm : Farm) (worker p : ℕ) → has_claim farm.claims worker ≡ false → best_place setting farm ≡ Some p
    → step setting farm (Claimed worker p) ≡ Some (record farm { claims = farm.claims ++ record { worker = worker; place = p } ∷ [] })
step_claim setting farm worker p idle best =
    cond-true (not (has_claim farm.claims worker) && is_best (best_place setting farm) p)
    (Some (record farm { claims = farm.claims ++ record { worker = worker; place = p } ∷ [] })) None
    (ap (λ (b : Bool). not b && is_best (best_place setting farm) p) idle ∙ ap (λ (o : Option ℕ). is_best o p) best ∙ eq-eqb p p refl)
