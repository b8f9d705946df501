-- What legal events keep.
use Rattle.std.proofs.Common.{◌≡◌, ◌≢◌, ℕ, suc, Bool, true, false, not, ◌&&◌, ◌||◌, ◌==◌, List, [], ◌∷◌, ◌++◌, get_or, set, Option, Some, None, refl, sym, ap}
use Rattle.std.proofs.Common.{◌∙◌, subst, ⊎_elim, arith, eqb-true, eq-eqb}
use Rattle.std.proofs.lemmas.Bool.{and_parts, or_parts, not-true, both_ways, cases_Bool}
use Rattle.std.proofs.lemmas.List.{get_or-set_other}
use Rattle.std.proofs.lemmas.List.Elements.{All-nil, All-cons, All-push, All-filter, filter_passes}
use Rattle.std.proofs.lemmas.List.Kept.{AllPairs-filter}
use Rattle.std.proofs.lemmas.List.Quantifiers.{all_pairs_push}
use Rattle.std.proofs.lemmas.Option.{cond_some}
use Rattle.std.specs.List.{All, AllPairs, list_any}
use Rattle.bf_search.specs.declared.farm.Claim.{Claim}
use Rattle.bf_search.specs.declared.farm.Event.{Event}
use Rattle.bf_search.specs.declared.farm.Event.TheVariants.{Claim as Claimed, Post as Posted, Give as Given}
use Rattle.bf_search.specs.declared.outcomes.Outcome.{Outcome}
use Rattle.bf_search.specs.Outcomes.{outcomes_of_table}
use Rattle.bf_search.specs.State.{Asked}
use Rattle.bf_search.specs.Run.{End, Answered, Leg, Open, Aborted, Run, leg_of}
use Rattle.bf_search.specs.OpenPaths.{OpenPath, is_claimed, best_open, place_of, IsOpenPath}
use Rattle.bf_search.specs.Farm.{Farm, Setting, consumed, place_at, best_place, has_claim, stands, without, is_best, step, after_events}
use Rattle.bf_state.specs.Tidy.{IsTidy}
use Rattle.bf_state.proofs.Best.{best_is_open}
use Rattle.bf_state.proofs.Causes.{open_has_asked}
use Rattle.bf_state.proofs.Turns.{unclaimed_is_open}
use Rattle.bf_state.proofs.Used.{told}

-- ---- lists

pairs_head : {X : Type 0} (R : X → X → Type 0) (x : X) (xs : List X) → AllPairs R (x ∷ xs) → All (R x) xs
pairs_head R x xs h = λ k d l. h 0 (suc k) d (omega arith) (omega arith)

pairs_tail : {X : Type 0} (R : X → X → Type 0) (x : X) (xs : List X) → AllPairs R (x ∷ xs) → AllPairs R xs
pairs_tail R x xs h = λ i j d l m. h (suc i) (suc j) d (omega arith) (omega arith)

none_passes : {X : Type 0} (f : X → Bool) (xs : List X) → list_any f xs ≡ false → All (λ x. f x ≡ false) xs
none_passes f [] h = All-nil (λ x. f x ≡ false)
none_passes f (x ∷ xs) h = let parts = or_parts (f x) (list_any f xs) h in All-cons (λ y. f y ≡ false) x xs parts.0 (none_passes f xs parts.1)

-- ---- the best open place

opened : (setting : Setting) (farm : Farm) (run : Run) (end : End) (p : ℕ) → is_best (place_at setting farm run end) p ≡ true
    → (outcomes_of_table farm.table p ≡ None) × (is_claimed farm.claims p ≡ false)
opened setting farm run (Open q) p h = by_path (best_open setting.graph (outcomes_of_table farm.table) farm.claims run.search) refl h
  where
    by_path : (found : Option OpenPath) → best_open setting.graph (outcomes_of_table farm.table) farm.claims run.search ≡ found
        → is_best (place_of found) p ≡ true → (outcomes_of_table farm.table p ≡ None) × (is_claimed farm.claims p ≡ false)
    by_path None e k = cc
    by_path (Some path) e k =
        let same : path.place ≡ p = eqb-true path.place p k in
        let is : IsOpenPath setting.graph (outcomes_of_table farm.table) farm.claims run.search path = best_is_open setting.graph (outcomes_of_table farm.table)
        farm.claims run.search path e in
        (ap (outcomes_of_table farm.table) (sym same) ∙ is.unknown, ap (λ (x : ℕ). is_claimed farm.claims x) (sym same) ∙ is.unclaimed)
opened setting farm run (Answered a) p h = cc
opened setting farm run Leg p h = cc
opened setting farm run (Aborted q outcome) p h = cc

-- ---- one event

other_worker : (c : Claim) (worker : ℕ) → (c.worker == worker) ≡ false → c.worker ≢ worker
other_worker c worker h e = both_ways (c.worker == worker) h (eq-eqb c.worker worker e)

tidy_claim : (setting : Setting) (farm : Farm) (worker p : ℕ) → IsTidy farm → has_claim farm.claims worker ≡ false → (outcomes_of_table farm.table p ≡ None)
    → is_claimed farm.claims p ≡ false
    → IsTidy (record farm { claims = farm.claims ++ (record { worker = worker; place = p }) ∷ [] })
tidy_claim setting farm worker p tidy idle none free = record {
  workers = all_pairs_push (λ a b. a.worker ≢ b.worker) farm.claims (record { worker = worker; place = p }) tidy.workers
      (λ k d l e. both_ways _ (none_passes (λ (c : Claim). c.worker == worker) farm.claims idle k d l) (eq-eqb (get_or farm.claims k d).worker worker e));
  places = all_pairs_push (λ a b. a.place ≢ b.place) farm.claims (record { worker = worker; place = p }) tidy.places
      (λ k d l e. both_ways _ (none_passes (λ (c : Claim). c.place == p) farm.claims free k d l) (eq-eqb (get_or farm.claims k d).place p e));
  untold = All-push (λ (c : Claim). outcomes_of_table farm.table c.place ≡ None) farm.claims (record { worker = worker; place = p }) tidy.untold none;
}

-- the claims of other workers are of other places
others_elsewhere : (claims : List Claim) (worker p : ℕ) → AllPairs (λ a b. a.place ≢ b.place) claims → stands claims worker p ≡ true
    → All (λ (c : Claim). not (c.worker == worker) ≡ true → c.place ≢ p) claims
others_elsewhere [] worker p apart h = cc
others_elsewhere (c ∷ cs) worker p apart h =
    ⊎_elim
    (λ here.
    let parts = and_parts (c.worker == worker) (c.place == p) here in
    let same : c.place ≡ p = eqb-true c.place p parts.1 in
    All-cons (λ (x : Claim). not (x.worker == worker) ≡ true → x.place ≢ p) c cs (λ other. absurd (both_ways _ (not-true _ other) parts.0))
    (λ k d l other e. pairs_head (λ a b. a.place ≢ b.place) c cs apart k d l (same ∙ sym e)))
    (λ not_here.
    let later : stands cs worker p ≡ true = ap (λ (b : Bool). b || stands cs worker p) (sym not_here) ∙ h in
    All-cons (λ (x : Claim). not (x.worker == worker) ≡ true → x.place ≢ p) c cs
    (λ other e. standing_elsewhere cs later (λ k d l same. pairs_head (λ a b. a.place ≢ b.place) c cs apart k d l (e ∙ sym same)))
    (others_elsewhere cs worker p (pairs_tail (λ a b. a.place ≢ b.place) c cs apart) later))
    (cases_Bool ((c.worker == worker) && (c.place == p)))
  where
    standing_elsewhere : (xs : List Claim) → stands xs worker p ≡ true → All (λ (x : Claim). x.place ≢ p) xs → ⊥
    standing_elsewhere [] k all = cc
    standing_elsewhere (x ∷ xs) k all =
        ⊎_elim
        (λ here. all 0 x (omega arith) (eqb-true x.place p (and_parts (x.worker == worker) (x.place == p) here).1))
        (λ not_here. standing_elsewhere xs (ap (λ (b : Bool). b || stands xs worker p) (sym not_here) ∙ k) (λ i d l. all (suc i) d (omega arith)))
        (cases_Bool ((x.worker == worker) && (x.place == p)))

tidy_without : (farm : Farm) (worker : ℕ) → IsTidy farm → IsTidy (record farm { claims = without farm.claims worker })
tidy_without farm worker tidy = record {
  workers = AllPairs-filter (λ a b. a.worker ≢ b.worker) (λ (c : Claim). not (c.worker == worker)) farm.claims tidy.workers;
  places = AllPairs-filter (λ a b. a.place ≢ b.place) (λ (c : Claim). not (c.worker == worker)) farm.claims tidy.places;
  untold = All-filter (λ (c : Claim). not (c.worker == worker)) (λ (c : Claim). outcomes_of_table farm.table c.place ≡ None) farm.claims tidy.untold;
}

tidy_post : (farm : Farm) (worker p : ℕ) (outcome : Outcome) → IsTidy farm → stands farm.claims worker p ≡ true
    → IsTidy (record { table = set farm.table p (Some outcome); claims = without farm.claims worker })
tidy_post farm worker p outcome tidy h =
    let rest : IsTidy (record farm { claims = without farm.claims worker }) = tidy_without farm worker tidy in
    record {
      workers = rest.workers;
      places = rest.places;
      untold = λ k d l.
          get_or-set_other farm.table p (get_or (without farm.claims worker) k d).place (Some outcome) None
          (All-filter (λ (c : Claim). not (c.worker == worker)) (λ (c : Claim). not (c.worker == worker) ≡ true → c.place ≢ p) farm.claims
          (others_elsewhere farm.claims worker p tidy.places h) k d l
          (filter_passes (λ (c : Claim). not (c.worker == worker)) farm.claims k d l))
          ∙ rest.untold k d l;
    }

tidy_step : (setting : Setting) (farm next : Farm) (event : Event) → IsTidy farm → step setting farm event ≡ Some next → IsTidy next
tidy_step setting farm next (Claimed worker p) tidy e =
    let told = cond_some _ _ next e in
    let parts = and_parts (not (has_claim farm.claims worker)) (is_best (best_place setting farm) p) told.0 in
    let free = opened setting farm (consumed setting farm.table) (consumed setting farm.table).end p parts.1 in
    subst IsTidy told.1 (tidy_claim setting farm worker p tidy (not-true _ parts.0) free.0 free.1)
tidy_step setting farm next (Posted worker p outcome) tidy e =
    let told = cond_some _ _ next e in subst IsTidy told.1 (tidy_post farm worker p outcome tidy told.0)
tidy_step setting farm next (Given worker p) tidy e =
    let told = cond_some _ _ next e in subst IsTidy told.1 (tidy_without farm worker tidy)

-- ---- lists of events

after_none : (setting : Setting) (events : List Event) → after_events setting None events ≡ None
after_none setting [] = refl
after_none setting (event ∷ events) = refl

pub events_keep_tidy : (setting : Setting) (farm next : Farm) (events : List Event) → IsTidy farm → after_events setting (Some farm) events ≡ Some next
    → IsTidy next
events_keep_tidy setting farm next [] tidy e = let same : farm ≡ next = cc in subst IsTidy same tidy
events_keep_tidy setting farm next (event ∷ events) tidy e = by_step (step setting farm event) refl e (λ between. events_keep_tidy setting between next events)
  where
    by_step : (found : Option Farm) → step setting farm event ≡ found → after_events setting found events ≡ Some next
        → ((between : Farm) → IsTidy between → after_events setting (Some between) events ≡ Some next → IsTidy next) → IsTidy next
    by_step None is k rest = absurd (clash (sym (after_none setting events) ∙ k))
      where
        clash : {x : Farm} → None ≡ Some x → ⊥
        clash c = cc
    by_step (Some between) is k rest = rest between (tidy_step setting farm between event tidy is) k

pub untold_at : (farm : Farm) (worker p : ℕ) → IsTidy farm → stands farm.claims worker p ≡ true → outcomes_of_table farm.table p ≡ None
untold_at farm worker p tidy h = find farm.claims tidy.untold h
  where
    find : (claims : List Claim) → All (λ (c : Claim). outcomes_of_table farm.table c.place ≡ None) claims → stands claims worker p ≡ true
        → outcomes_of_table farm.table p ≡ None
    find [] all k = cc
    find (c ∷ cs) all k =
        ⊎_elim
        (λ here. ap (outcomes_of_table farm.table) (sym (eqb-true c.place p (and_parts (c.worker == worker) (c.place == p) here).1)) ∙ all 0 c (omega arith))
        (λ not_here. find cs (λ i d l. all (suc i) d (omega arith)) (ap (λ (b : Bool). b || stands cs worker p) (sym not_here) ∙ k))
        (cases_Bool ((c.worker == worker) && (c.place == p)))

pub events_append : (setting : Setting) (farm : Option Farm) (first second : List Event)
    → after_events setting farm (first ++ second) ≡ after_events setting (after_events setting farm first) second
events_append setting farm [] second = refl
events_append setting None (event ∷ first) second = sym (after_none setting second)
events_append setting (Some farm) (event ∷ first) second = events_append setting (step setting farm event) first second

-- ---- without claims

pub place_without_claims : (setting : Setting) (table : List (Option Outcome)) (p : ℕ) → (consumed setting table).end ≡ Open p
    → best_place setting (record { table = table; claims = [] }) ≡ Some p
place_without_claims setting table p e =
    ap (λ (x : End). place_at setting (record { table = table; claims = [] }) (consumed setting table) x) e
    ∙ ap place_of
    (unclaimed_is_open setting.graph (outcomes_of_table table) (consumed setting table).search p
    (ap (λ (a : Asked). a.step.ask) (open_has_asked setting.graph (outcomes_of_table table) (leg_of setting.leg) setting.start p e))
    ((told (outcomes_of_table table) setting.graph (leg_of setting.leg) setting.start).unknown p e))
