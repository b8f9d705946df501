-- The calling thread tests what the run waits for, and nothing else.
use Rattle.std.proofs.Common.{◌≡◌, ℕ, zero, suc, ◌<◌, Bool, true, false, not, ◌&&◌, ◌||◌, ◌==◌, cond, List, [], ◌∷◌, ◌++◌, length, get_or, set, Option, Some}
use Rattle.std.proofs.Common.{None, refl, sym, ap, subst, ◌∙◌, arith, eqb-true, eq-eqb, Result, Ok, Err, ◌≤◌}
use Rattle.std.specs.Result.{OnOk}
use Rattle.std.proofs.lemmas.Bool.{and_parts}
use Rattle.bf_io.specs.Causes.{Rose}
use Rattle.bf_search.specs.declared.farm.Claim.{Claim}
use Rattle.bf_search.specs.declared.farm.Event.TheVariants as events
use Rattle.bf_search.specs.declared.outcomes.Outcome.{Outcome}
use Rattle.bf_search.specs.Outcomes.{outcomes_of_table}
use Rattle.bf_search.specs.Run.{End, Answered, Leg, Open, Aborted, Run, leg_of}
use Rattle.bf_search.specs.Farm.{Setting, Farm, stands, has_claim, without, is_best, best_place, place_at, consumed}
use Rattle.bf_state.specs.Runs.{is_open}
use Rattle.bf_state.proofs.Legal.{place_without_claims}
use Rattle.bf_state.proofs.Used.{told}
use Rattle.bf_core.specs.declared.answers.Pick.{Pick}
use Rattle.bf_core.specs.declared.answers.Pick.TheVariants.{Work, NotYet, Ended}
use Rattle.bf_farm.specs.Cores.{CoreView, run_of, IsSameStart}
use Rattle.bf_oid.specs.declared.object.Oid.{Oid}
use Rattle.bf_tester.specs.declared.answer.Answer.{Answer}
use Rattle.bf_farm.specs.Boards.{BoardView, Does, DoesIf, PicksNew, PicksFor, claimed_by, unclaimed, IsSameBoard}
use Rattle.bf_farm.specs.Ends.{HasFailed, IsAsking, IsNext, GainsClaim, missing}
use Rattle.bf_farm.specs.Sound.{IsSound}
use Rattle.bf_farm.proofs.History.{chosen}
use Rattle.bf_farm.proofs.Soundness.{sound_if, start_if, first_if}

some_is : {X : Type 0} (x y : X) → Some x ≡ Some y → x ≡ y
some_is x y e = cc e

open_of : (end : End) → is_open end ≡ true → (p : ℕ) × (end ≡ Open p)
open_of (Open p) h = (p, refl)
open_of (Answered a) h = cc h
open_of Leg h = cc h
open_of (Aborted p outcome) h = cc h

-- a run that waits asks for the best place, where no claim stands
pub asked_alone : (core : CoreView) (p : ℕ) → core.farm.claims ≡ [] → (run_of core).end ≡ Open p → best_place core.setting core.farm ≡ Some p
asked_alone core p none waits =
    subst (λ (cs : List Claim). best_place core.setting (record { table = core.farm.table; claims = cs }) ≡ Some p) (sym none)
    (place_without_claims core.setting core.farm.table p waits)

-- there is always something to do
pub never_waits : (old new : BoardView) → old.core.farm.claims ≡ [] → PicksNew old new 0 NotYet → ⊥
never_waits old new none picks =
    let asks = open_of (run_of old.core).end picks.2 in
    cc (picks.1, asked_alone old.core asks.0 none asks.1)

best_waits : (setting : Setting) (farm : Farm) (run : Run) (end : End) (p : ℕ) → is_best (place_at setting farm run end) p ≡ true → (q : ℕ) × (end ≡ Open q)
best_waits setting farm run (Open q) p h = (q, refl)
best_waits setting farm run (Answered a) p h = cc h
best_waits setting farm run Leg p h = cc h
best_waits setting farm run (Aborted q outcome) p h = cc h

legal : (b : Bool) (x next : Farm) → cond b (Some x) None ≡ Some next → b ≡ true
legal true x next e = refl
legal false x next e = cc e

-- what is claimed is what the run waits for
pub asks_claimed : (old new : BoardView) (p : ℕ) → old.core.farm.claims ≡ [] → Does old new (events.Claim 0 p) → IsAsking new.core p
asks_claimed old new p none does =
    let farm : Farm = record old.core.farm { claims = old.core.farm.claims ++ (record { worker = 0; place = p }) ∷ [] } in
    let is : farm ≡ new.core.farm = chosen (not (has_claim old.core.farm.claims 0) && is_best
    (best_place old.core.setting old.core.farm) p) farm new.core.farm does.done in
    let best : is_best (best_place old.core.setting old.core.farm) p ≡ true =
    (and_parts (not (has_claim old.core.farm.claims 0)) (is_best (best_place old.core.setting old.core.farm) p)
    (legal (not (has_claim old.core.farm.claims 0) && is_best (best_place old.core.setting old.core.farm) p) farm new.core.farm does.done)).1 in
    let waits = best_waits old.core.setting old.core.farm (run_of old.core) (run_of old.core).end p best in
    let same : waits.0 ≡ p = eqb-true waits.0 p (subst (λ (o : Option ℕ). is_best o p ≡ true) (asked_alone old.core waits.0 none waits.1) best) in
    let run_same : run_of new.core ≡ run_of old.core =
    ap (λ (f : Farm). consumed new.core.setting f.table) (sym is) ∙ ap (λ (s : Setting). consumed s old.core.farm.table) does.start.setting in
    record {
      claims = ap (λ (f : Farm). f.claims) (sym is) ∙ ap (λ (cs : List Claim). cs ++ (record { worker = 0; place = p }) ∷ []) none;
      waits = ap (λ (r : Run). r.end) run_same ∙ waits.1 ∙ ap (λ (q : ℕ). Open q) same;
    }

-- the one claim stands, and ends
pub one_stands : (core : CoreView) (p : ℕ) → IsAsking core p → stands core.farm.claims 0 p ≡ true
one_stands core p asking = subst (λ (cs : List Claim). stands cs 0 p ≡ true) (sym asking.claims) (at (p == p) (eq-eqb p p refl))
  where
    at : (b : Bool) → b ≡ true → (b || false) ≡ true
    at true e = refl
    at false e = e

pub none_after_give : (old new : BoardView) (p : ℕ) → IsAsking old.core p → Does old new (events.Give 0 p) → (new.core.farm ≡ unclaimed old.core.farm.table)
none_after_give old new p asking does =
    sym (chosen (stands old.core.farm.claims 0 p) (record old.core.farm { claims = without old.core.farm.claims 0 }) new.core.farm does.done)
    ∙ ap (λ (cs : List Claim). record { table = old.core.farm.table; claims = without cs 0 }) asking.claims

pub none_after_post : (old new : BoardView) (p : ℕ) (outcome : Outcome) → IsAsking old.core p → Does old new (events.Post 0 p outcome)
    → (new.core.farm ≡ unclaimed (set old.core.farm.table p (Some outcome)))
none_after_post old new p outcome asking does =
    sym (chosen (stands old.core.farm.claims 0 p) (record {
      table = set old.core.farm.table p
          (Some outcome);
      claims = without old.core.farm.claims 0;
    }) new.core.farm does.done)
    ∙ ap (λ (cs : List Claim). record { table = set old.core.farm.table p (Some outcome); claims = without cs 0 }) asking.claims

-- ---- what a pick of the calling thread leaves

same_none : (old new : BoardView) → old.core.farm.claims ≡ [] → IsSameBoard old new → new.core.farm.claims ≡ []
same_none old new none same = ap (λ (x : CoreView). x.farm.claims) same.core ∙ none

stands_there : (claims : List Claim) (w p q : ℕ) → claims ≡ (record { worker = 0; place = q }) ∷ [] → stands claims w p ≡ true → q ≡ p
stands_there claims w p q is h = eqb-true q p (at (0 == w) (q == p) (subst (λ (cs : List Claim). stands cs w p ≡ true) is h))
  where
    at : (a b : Bool) → ((a && b) || false) ≡ true → b ≡ true
    at true true e = refl
    at true false e = cc e
    at false b e = cc e

none_stands : (claims : List Claim) (w p : ℕ) → claims ≡ [] → stands claims w p ≡ true → ⊥
none_stands claims w p none h = cc (subst (λ (cs : List Claim). stands cs w p ≡ true) none h)

new_some : (old new : BoardView) (pick : Pick) (w p : ℕ) → old.core.farm.claims ≡ [] → PicksNew old new 0 pick
    → stands new.core.farm.claims w p ≡ true → IsAsking new.core p
new_some old new (Work q) w p none picks h =
    let asking : IsAsking new.core q = asks_claimed old new q none picks in
    subst (λ (x : ℕ). IsAsking new.core x) (stands_there new.core.farm.claims w p q asking.claims h) asking
new_some old new NotYet w p none picks h = absurd (none_stands new.core.farm.claims w p (same_none old new none picks.0) h)
new_some old new Ended w p none picks h = absurd (none_stands new.core.farm.claims w p (same_none old new none picks.0) h)

new_none : (old new : BoardView) (pick : Pick) → old.core.farm.claims ≡ [] → PicksNew old new 0 pick → new.core.farm.claims ≡ []
    → is_open (run_of new.core).end ≡ false
new_none old new (Work q) none picks h = cc (h, (asks_claimed old new q none picks).claims)
new_none old new NotYet none picks h = absurd (never_waits old new none picks)
new_none old new Ended none picks h = ap (λ (x : CoreView). is_open (run_of x).end) picks.0.core ∙ picks.1

-- a pick without a claim is a claim, or changes nothing
new_is : (old new : BoardView) (pick : Pick) → PicksNew old new 0 pick → (legal : Bool) × (p : ℕ) × DoesIf legal old new (events.Claim 0 p)
new_is old new (Work q) picks = (true, q, picks)
new_is old new NotYet picks = (false, 0, picks.0)
new_is old new Ended picks = (false, 0, picks.0)

pub without_claims : (old new : BoardView) (pick : Pick) → old.core.farm.claims ≡ [] → PicksFor (claimed_by old.core.farm.claims 0) old new 0 pick
    → PicksNew old new 0 pick
without_claims old new pick none picks = subst (λ (cs : List Claim). PicksFor (claimed_by cs 0) old new 0 pick) none picks

pub next_some : (old new : BoardView) (pick : Pick) (w p : ℕ) → old.core.farm.claims ≡ [] → PicksFor (claimed_by old.core.farm.claims 0) old new 0 pick
    → stands new.core.farm.claims w p ≡ true → p < length new.core.farm.table → IsNext new.core (Some p)
next_some old new pick w p none picks h within = (new_some old new pick w p none (without_claims old new pick none picks) h, within)

pub next_none : (old new : BoardView) (pick : Pick) → old.core.farm.claims ≡ [] → PicksFor (claimed_by old.core.farm.claims 0) old new 0 pick
    → new.core.farm.claims ≡ [] → IsNext new.core None
next_none old new pick none picks h = (h, new_none old new pick none (without_claims old new pick none picks) h)

-- what a pick keeps
pub record KeepsAll (old new : BoardView) : Type 0 where
  pub sound : (told : Option (List Outcome)) (names : List Oid) (answers : List Answer) → IsSound told names answers old → IsSound told names answers new
  pub start : IsSameStart old.core new.core
  pub first : new.first ≡ old.first
  pub table : new.core.farm.table ≡ old.core.farm.table

table_if : (legal : Bool) (old new : BoardView) (p : ℕ) → DoesIf legal old new (events.Claim 0 p) → new.core.farm.table ≡ old.core.farm.table
table_if true old new p does = sym (ap (λ (f : Farm). f.table) (chosen _ _ new.core.farm does.done))
table_if false old new p same = ap (λ (x : CoreView). x.farm.table) same.core

pub pick_keeps : (old new : BoardView) (pick : Pick) → old.core.farm.claims ≡ [] → PicksFor (claimed_by old.core.farm.claims 0) old new 0 pick
    → KeepsAll old new
pick_keeps old new pick none picks =
    let is = new_is old new pick (without_claims old new pick none picks) in
    record {
      sound = λ told names answers sound. sound_if told names answers is.0 old new (events.Claim 0 is.1) is.2 tt sound;
      start = start_if is.0 old new (events.Claim 0 is.1) is.2;
      first = first_if is.0 old new (events.Claim 0 is.1) is.2;
      table = table_if is.0 old new is.1 is.2;
    }

-- the claim is noted
claim_noted : (old new : BoardView) (pick : Pick) (w p : ℕ) → old.core.farm.claims ≡ [] → PicksNew old new 0 pick
    → stands new.core.farm.claims w p ≡ true → GainsClaim old.events new.events (Some p)
claim_noted old new (Work q) w p none picks h =
    subst (λ (x : ℕ). new.events ≡ old.events ++ events.Claim 0 x ∷ [])
    (stands_there new.core.farm.claims w p q (asks_claimed old new q none picks).claims h) picks.noted
claim_noted old new NotYet w p none picks h = absurd (none_stands new.core.farm.claims w p (same_none old new none picks.0) h)
claim_noted old new Ended w p none picks h = absurd (none_stands new.core.farm.claims w p (same_none old new none picks.0) h)

nothing_noted : (old new : BoardView) (pick : Pick) → old.core.farm.claims ≡ [] → PicksNew old new 0 pick → new.core.farm.claims ≡ []
    → GainsClaim old.events new.events None
nothing_noted old new (Work q) none picks h = cc (h, (asks_claimed old new q none picks).claims)
nothing_noted old new NotYet none picks h = picks.0.events
nothing_noted old new Ended none picks h = picks.0.events

pub noted_some : (old new : BoardView) (pick : Pick) (w p : ℕ) → old.core.farm.claims ≡ [] → PicksFor (claimed_by old.core.farm.claims 0) old new 0 pick
    → stands new.core.farm.claims w p ≡ true → GainsClaim old.events new.events (Some p)
noted_some old new pick w p none picks h = claim_noted old new pick w p none (without_claims old new pick none picks) h

pub noted_none : (old new : BoardView) (pick : Pick) → old.core.farm.claims ≡ [] → PicksFor (claimed_by old.core.farm.claims 0) old new 0 pick
    → new.core.farm.claims ≡ [] → GainsClaim old.events new.events None
noted_none old new pick none picks h = nothing_noted old new pick none (without_claims old new pick none picks) h

-- ---- places without an outcome

fewer_missing : (t : List (Option Outcome)) (p : ℕ) (outcome : Outcome) → p < length t → get_or t p None ≡ None → missing (set t p (Some outcome)) < missing t
fewer_missing [] p outcome l e = absurd (omega arith)
fewer_missing (None ∷ t) zero outcome l e = omega arith
fewer_missing (Some x ∷ t) zero outcome l e = cc e
fewer_missing (None ∷ t) (suc p) outcome l e = let less = fewer_missing t p outcome (omega arith) e in omega arith
fewer_missing (Some x ∷ t) (suc p) outcome l e = fewer_missing t p outcome (omega arith) e

pub fewer_after : (old new : BoardView) (p : ℕ) (outcome : Outcome) → p < length old.core.farm.table → IsAsking old.core p
    → Does old new (events.Post 0 p outcome)
    → missing new.core.farm.table < missing old.core.farm.table
fewer_after old new p outcome within asking does =
    subst (λ (f : Farm). missing f.table < missing old.core.farm.table) (sym (none_after_post old new p outcome asking does))
    (fewer_missing old.core.farm.table p outcome within
    ((told (outcomes_of_table old.core.farm.table) old.core.setting.graph (leg_of old.core.setting.leg) old.core.setting.start).unknown p asking.waits))

pub failed_after_give : (old new : BoardView) (p before now : ℕ) (failed : Option ℕ) → IsAsking old.core p → Does old new (events.Give 0 p)
    → Rose before now → failed ≡ Some p
    → HasFailed new.core before now failed p
failed_after_give old new p before now failed asking does rose latest = record {
  waits = ap (λ (f : Farm). (consumed new.core.setting f.table).end) (none_after_give old new p asking does) ∙ ap
      (λ (s : Setting). (consumed s old.core.farm.table).end) does.start.setting ∙ asking.waits;
  rose = rose;
  latest = latest;
}

-- what follows where a call gave its result
pub on_ok : {X E A B : Type 0} (r : Result X E) → (A → B) → OnOk r A → OnOk r B
on_ok (Ok x) f h = f h
on_ok (Err e) f h = tt

pub rose_since : (first before now : ℕ) → first ≤ before → Rose before now → Rose first now
rose_since first before now later rose = omega (arith, rose)
