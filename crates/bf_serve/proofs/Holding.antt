-- The claim of a worker: what is found stands.
use Rattle.std.proofs.Common.{◌≡◌, ℕ, suc, ◌+◌, ◌<◌, Bool, true, false, cond, ◌&&◌, ◌||◌, ◌==◌, List, [], ◌∷◌, length, Option, Some, None, refl, sym, ap, ◌∙◌}
use Rattle.std.proofs.Common.{eq-eqb, arith, subst}
use Rattle.std.proofs.lemmas.List.{length-map}
use Rattle.std.proofs.lemmas.Option.{slice_get_within}
use Rattle.std.specs.List.{slice_get}
use Rattle.std.specs.Option.{option_map_or}
use Rattle.bf_core.specs.Machine.{Machine, IsConsumed}
use Rattle.bf_many.specs.declared.answers.Held.{Held}
use Rattle.bf_many.specs.Cores.{is_claimed, machine_of, machines_of}
use Rattle.bf_many.specs.Many.{FarmMachine, held_by, held_from, held_or, tested_by}
use Rattle.bf_many.proofs.Picking.{core_of}
use Rattle.bf_search.specs.declared.farm.Claim.{Claim}
use Rattle.bf_search.specs.Farm.{stands}
use Rattle.bf_search.specs.State.{IsSearchOver}
use Rattle.bf_state.specs.Session.{IsSearchBelow, Session as Standing}
use Rattle.bf_serve.specs.declared.session.Session.{Session}
use Rattle.bf_serve.specs.Steps.{IsServing}
use Rattle.bf_serve.proofs.Running.{state_over}
use Rattle.bf_serve.proofs.Sessions.{over_at}
use Rattle.bf_graph.specs.Graph.{IsGraph}

some_place : {x y : ℕ} → Some x ≡ Some y → x ≡ y
some_place e = cc e

or_right : (a b : Bool) → b ≡ true → (a || b) ≡ true
or_right true b e = refl
or_right false b e = e

stands_more : (c : Claim) (cs : List Claim) (worker p : ℕ) (rest : Option ℕ) (b : Bool) → (c.worker == worker) ≡ b
    → cond b (Some c.place) rest ≡ Some p → (rest ≡ Some p → stands cs worker p ≡ true) → stands (c ∷ cs) worker p ≡ true
stands_more c cs worker p rest true e h tail =
    ap (λ (x : Bool). (x && (c.place == p)) || stands cs worker p) e
    ∙ ap (λ (x : Bool). x || stands cs worker p) (eq-eqb c.place p (some_place h))
stands_more c cs worker p rest false e h tail = or_right ((c.worker == worker) && (c.place == p)) (stands cs worker p) (tail h)

tested_stands : (claims : List Claim) (worker p : ℕ) → tested_by claims worker ≡ Some p → stands claims worker p ≡ true
tested_stands [] worker p h = cc h
tested_stands (c ∷ cs) worker p h =
    stands_more c cs worker p (tested_by cs worker) (c.worker == worker) refl h (λ e. tested_stands cs worker p e)

pub record IsHeldAt (k : ℕ) (ms : List FarmMachine) (worker : ℕ) (held : Held) : Type 0 where
  pub index : ℕ
  pub own : FarmMachine
  pub search : held.search ≡ k + index
  pub at : slice_get ms index ≡ Some own
  pub stands : stands own.farm.claims worker held.place ≡ true

some_held : {x y : Held} → Some x ≡ Some y → x ≡ y
some_held e = cc e

held_later : (k : ℕ) (m : FarmMachine) (ms : List FarmMachine) (worker : ℕ) (held : Held) → IsHeldAt (k + 1) ms worker held → IsHeldAt k (m ∷ ms) worker held
held_later k m ms worker held rest = record {
  index = suc rest.index;
  own = rest.own;
  search = (let f = rest.search in omega (arith, f));
  at = rest.at;
  stands = rest.stands;
}

held_more : (k : ℕ) (m : FarmMachine) (ms : List FarmMachine) (worker : ℕ) (held : Held) (o : Option ℕ) (rest : Option Held) → tested_by m.farm.claims worker ≡ o
    → held_or k o rest ≡ Some held → (rest ≡ Some held → IsHeldAt (k + 1) ms worker held) → IsHeldAt k (m ∷ ms) worker held
held_more k m ms worker held (Some p) rest e h tail =
    let same : record { search = k; place = p } ≡ held = some_held h in
    record {
      index = 0;
      own = m;
      search = (let f : k ≡ held.search = ap (λ (x : Held). x.search) same in omega (arith, f));
      at = refl;
      stands = tested_stands m.farm.claims worker held.place (e ∙ ap (λ (x : Held). Some x.place) same);
    }
held_more k m ms worker held None rest e h tail = held_later k m ms worker held (tail h)

held_there : (k : ℕ) (ms : List FarmMachine) (worker : ℕ) (held : Held) → held_from k ms worker ≡ Some held → IsHeldAt k ms worker held
held_there k [] worker held h = cc h
held_there k (m ∷ ms) worker held h =
    held_more k m ms worker held (tested_by m.farm.claims worker) (held_from (k + 1) ms worker) refl h (λ e. held_there (k + 1) ms worker held e)

pub held_at : (ms : List FarmMachine) (worker : ℕ) (held : Held) → held_by ms worker ≡ Some held
    → (own : FarmMachine) × (slice_get ms held.search ≡ Some own) × (stands own.farm.claims worker held.place ≡ true)
held_at ms worker held h =
    let there = held_there 0 ms worker held h in
    let at : held.search ≡ there.index = (let e = there.search in omega (arith, e)) in
    (there.own, ap (λ (i : ℕ). slice_get ms i) at ∙ there.at, there.stands)

pub held_claimed : (cores : List Machine) (worker : ℕ) (held : Held) → held_by (machines_of cores) worker ≡ Some held
    → is_claimed cores held.search worker held.place ≡ true
held_claimed cores worker held h =
    let found = held_at (machines_of cores) worker held h in
    let core = core_of cores held.search found.0 found.1 in
    ap (λ (o : Option Machine). option_map_or (λ (c : Machine). stands c.claims worker held.place) o false) core.1
    ∙ sym (ap (λ (m : FarmMachine). stands m.farm.claims worker held.place) core.2) ∙ found.2

pub held_below : (cores : List Machine) (worker : ℕ) (held : Held) → held_by (machines_of cores) worker ≡ Some held → held.search < length cores
held_below cores worker held h =
    let found = held_at (machines_of cores) worker held h in
    let l : held.search < length (machines_of cores) = slice_get_within (machines_of cores) held.search found.0 found.1 in
    let long : length (machines_of cores) ≡ length cores = length-map cores machine_of in
    omega (arith, l, long)

-- ---- the core of a search of a session has a place for each commit

pub same_len : (s : Session) (k : ℕ) (core : Machine) (state : Standing) → IsServing s → slice_get s.many k ≡ Some core → IsConsumed core
    → state ≡ core.state → IsSearchBelow state.len state.search → length s.reach.now ≡ state.len
same_len s k core state is at consumed same below =
    let over : IsSearchOver s.reach.now state.search
    = state_over s.reach.now core state (subst IsGraph (sym is.reach) is.parents) (over_at s k core is at) consumed same in
    sym over.skips ∙ below.skips
