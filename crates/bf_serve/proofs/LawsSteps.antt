-- What the requests make of the machine of one search: a pick and a giving back leave its run, and an outcome lengthens it.
use Rattle.std.proofs.Common.{◌≡◌, ◌≢◌, ℕ, zero, suc, Bool, true, false, cond, not, ◌&&◌, ◌==◌, List, [], ◌∷◌, ◌++◌, map, filter, set, get_or, Option, Some, None, refl, sym, ap, subst, ◌∙◌, eq-eqb}
use Rattle.std.proofs.lemmas.Bool.{both_ways, or_parts}
use Rattle.std.proofs.lemmas.List.{append-nil, get_or-set_other}
use Rattle.std.proofs.lemmas.List.Elements.{All-cons, All-nil, filter-append}
use Rattle.std.specs.List.{All}
use Rattle.std.specs.Option.{IfSome, is_some, unwrap_or}
use Rattle.bf_many.specs.Many.{FarmMachine}
use Rattle.bf_search.specs.declared.farm.Claim.{Claim}
use Rattle.bf_search.specs.declared.farm.Event.{Event}
use Rattle.bf_search.specs.declared.farm.Event.TheVariants.{Claim as Claimed, Post as Posted, Give as Given}
use Rattle.bf_search.specs.declared.outcomes.Outcome.{Outcome}
use Rattle.bf_search.specs.Farm.{Farm, best_place, has_claim, is_best, stands, step, without}
use Rattle.bf_search.specs.OpenPaths.{is_claimed}
use Rattle.bf_search.specs.Outcomes.{Outcomes, outcomes_of_table}
use Rattle.bf_state.specs.Runs.{IsPartOf}
use Rattle.bf_state.specs.Tidy.{IsTidy}
use Rattle.bf_state.proofs.Legal.{events_keep_tidy, untold_at}
use Rattle.bf_serve.specs.Searches.{ascending, is_asked, learned, needless, run_of}
use Rattle.bf_serve.specs.Serving.{stepped}
use Rattle.bf_serve.proofs.LawsAsking.{best_place_is_asked}

-- ---- an outcome more

self_part : (o : Option Outcome) → IfSome o (λ x. o ≡ Some x)
self_part None = tt
self_part (Some x) = refl

all_part : (known : Outcomes) → IsPartOf known known
all_part known p = self_part (known p)

part_put : (table : List (Option Outcome)) (p : ℕ) (outcome : Outcome) → outcomes_of_table table p ≡ None
    → IsPartOf (outcomes_of_table table) (outcomes_of_table (set table p (Some outcome)))
part_put [] p outcome none q = tt
part_put (x ∷ t) zero outcome none zero = subst (λ (o : Option Outcome). IfSome o (λ y. Some outcome ≡ Some y)) (sym none) tt
part_put (x ∷ t) zero outcome none (suc q) = self_part (get_or t q None)
part_put (x ∷ t) (suc p) outcome none zero = self_part x
part_put (x ∷ t) (suc p) outcome none (suc q) = part_put t p outcome none q

-- a machine knows no less than another
abbrev pub KnowsOn : FarmMachine → Farm → Type 0
KnowsOn m farm = IsPartOf (outcomes_of_table m.farm.table) (outcomes_of_table farm.table)

abbrev pub farm_behind : FarmMachine → Event → Farm
farm_behind m event = unwrap_or (step m.setting m.farm event) m.farm

pub post_knows_on : (m : FarmMachine) (worker p : ℕ) (outcome : Outcome) → IsTidy m.farm → KnowsOn m (farm_behind m (Posted worker p outcome))
post_knows_on m worker p outcome tidy = by (stands m.farm.claims worker p) refl
  where
    after : Farm
    after = record { table = set m.farm.table p (Some outcome); claims = without m.farm.claims worker }

    by : (b : Bool) → stands m.farm.claims worker p ≡ b → KnowsOn m (unwrap_or (cond b (Some after) None) m.farm)
    by true e = part_put m.farm.table p outcome (untold_at m.farm worker p tidy e)
    by false e = all_part (outcomes_of_table m.farm.table)

pub give_knows_on : (m : FarmMachine) (worker p : ℕ) → KnowsOn m (farm_behind m (Given worker p))
give_knows_on m worker p = by (stands m.farm.claims worker p)
  where
    by : (b : Bool) → KnowsOn m (unwrap_or (cond b (Some (record m.farm { claims = without m.farm.claims worker })) None) m.farm)
    by true = all_part (outcomes_of_table m.farm.table)
    by false = all_part (outcomes_of_table m.farm.table)

none_of : (o : Option Outcome) → is_some o ≡ false → o ≡ None
none_of None e = refl
none_of (Some x) e = cc e

pub learn_knows_on : (m : FarmMachine) (p : ℕ) (outcome : Outcome) → is_some (outcomes_of_table m.farm.table p) ≡ false
    → KnowsOn m (learned m p outcome).farm
learn_knows_on m p outcome none = part_put m.farm.table p outcome (none_of (outcomes_of_table m.farm.table p) none)

-- ---- the claims

pub tidy_behind : (m : FarmMachine) (event : Event) → IsTidy m.farm → IsTidy (farm_behind m event)
tidy_behind m event tidy = by (step m.setting m.farm event) refl
  where
    by : (o : Option Farm) → step m.setting m.farm event ≡ o → IsTidy (unwrap_or o m.farm)
    by None e = tidy
    by (Some farm) e = events_keep_tidy m.setting m.farm farm (event ∷ []) tidy e

none_there : (claims : List Claim) (p : ℕ) → is_claimed claims p ≡ false → All (λ (c : Claim). c.place ≢ p) claims
none_there [] p e = All-nil (λ (c : Claim). c.place ≢ p)
none_there (c ∷ claims) p e =
    let parts = or_parts (c.place == p) (is_claimed claims p) e in
    All-cons (λ (x : Claim). x.place ≢ p) c claims (λ same. both_ways (c.place == p) parts.0 (eq-eqb c.place p same)) (none_there claims p parts.1)

pub tidy_learned : (m : FarmMachine) (p : ℕ) (outcome : Outcome) → IsTidy m.farm → is_claimed m.farm.claims p ≡ false → IsTidy (learned m p outcome).farm
tidy_learned m p outcome tidy free = record {
  workers = tidy.workers;
  places = tidy.places;
  untold = λ k d l.
      get_or-set_other m.farm.table p (get_or m.farm.claims k d).place (Some outcome) None (none_there m.farm.claims p free k d l)
      ∙ tidy.untold k d l;
}

-- ---- a claim

-- the machine of a search behind a claim has its run, and the same needless workers
pub record IsSameBehind (own m : FarmMachine) : Type 0 where
  pub setting : m.setting ≡ own.setting
  pub run : run_of m ≡ run_of own
  pub needless : needless m ≡ needless own

asked_dropped : (b : Bool) (c : Claim) (cs : List Claim) → b ≡ true → cs ++ cond (not b) (c ∷ []) [] ≡ cs
asked_dropped true c cs e = append-nil cs
asked_dropped false c cs e = cc e

claimed_needless : (own : FarmMachine) (c : Claim) → is_asked own c.place ≡ true
    → needless (record own { farm = record own.farm { claims = own.farm.claims ++ c ∷ [] } }) ≡ needless own
claimed_needless own c asked =
    let is_dropped : Claim → Bool = λ x. not (is_asked own x.place) in
    ap (λ (cs : List Claim). ascending (map (λ (x : Claim). x.worker) cs))
    (filter-append is_dropped own.farm.claims (c ∷ []) ∙ asked_dropped (is_asked own c.place) c (filter is_dropped own.farm.claims) asked)

pub same_behind : (own : FarmMachine) (worker p : ℕ) → best_place own.setting own.farm ≡ Some p → IsSameBehind own (stepped own (Claimed worker p))
same_behind own worker p best = by (not (has_claim own.farm.claims worker) && is_best (best_place own.setting own.farm) p)
  where
    claim : Claim
    claim = record { worker = worker; place = p }

    by : (b : Bool) → IsSameBehind own
        (record own { farm = unwrap_or (cond b (Some (record own.farm { claims = own.farm.claims ++ claim ∷ [] })) None) own.farm })
    by true = record { setting = refl; run = refl; needless = claimed_needless own claim (best_place_is_asked own p best) }
    by false = record { setting = refl; run = refl; needless = refl }
