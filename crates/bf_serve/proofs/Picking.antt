-- The next task: it is the one that a pick of the many machine claims.
use Rattle.std.proofs.Common.{◌≡◌, inl, inr, ⊎_elim, ℕ, zero, suc, ◌+◌, ◌<◌, ◌≤◌, Bool, true, false, cond, not, ◌&&◌, List, [], ◌∷◌, All, get_or, Option, Some, None, refl, sym, ap, subst, ◌∙◌, eqb-true, arith}
use Rattle.std.proofs.lemmas.Bool.{both_ways, cases_order, ltb-true, ltb-false}
use Rattle.std.proofs.lemmas.List.Elements.{All-head, All-tail}
use Rattle.std.specs.Prelude.{nat_lt}
use Rattle.std.specs.List.{slice_get}
use Rattle.std.specs.Option.{is_some, unwrap_or}
use Rattle.bf_search.specs.declared.farm.Ending.{Ending}
use Rattle.bf_search.specs.declared.farm.Event.{Event}
use Rattle.bf_search.specs.declared.farm.Event.TheVariants.{Claim as Claimed}
use Rattle.bf_search.specs.Farm.{Farm, Setting, best_place, has_claim, is_best, place_at, step}
use Rattle.bf_search.specs.Run.{End, Answered, Leg, Open, Aborted}
use Rattle.bf_state.specs.Runs.{is_open}
use Rattle.bf_core.specs.Machine.{Machine, IsConsumed, run_of as core_run}
use Rattle.bf_many.specs.Cores.{HaveAllEnded, HaveNoPlace, machine_of, machines_of}
use Rattle.bf_many.specs.Many.{FarmMachine, GoesBefore, IsNext, has_place, load}
use Rattle.bf_spec.specs.Walks.{Tells}
use Rattle.bf_serve.specs.Searches.{run_of}
use Rattle.bf_serve.specs.Serving.{Task, fewer, have_ended, stepped, task_at, task_from}

some_is : {X : Type 0} {x y : X} → Some x ≡ Some y → x ≡ y
some_is h = cc h

-- ---- the least of some

record IsLeast (k : ℕ) (ms : List FarmMachine) (t : Task) : Type 0 where
  index : ℕ
  search : t.search ≡ k + index
  at : slice_get ms index ≡ Some t.own
  place : best_place t.own.setting t.own.farm ≡ Some t.place
  first : (j : ℕ) (other : FarmMachine) → slice_get ms j ≡ Some other → has_place other ≡ true → GoesBefore (load t.own) index (load other) j

abbrev LeastOf : ℕ → List FarmMachine → Option Task → Type 0
LeastOf k ms None = (j : ℕ) (other : FarmMachine) → slice_get ms j ≡ Some other → has_place other ≡ false
LeastOf k ms (Some t) = IsLeast k ms t

no_more : (a b j : ℕ) → a ≤ b → GoesBefore a 0 b j
no_more a b j le =
    ⊎_elim (λ (e : a ≡ b). inr (e, omega arith))
    (λ rest. ⊎_elim (λ (l : a < b). inl l) (λ (l : b < a). absurd (omega arith)) rest)
    (cases_order a b)

one_later : (a b i j : ℕ) → GoesBefore a i b j → GoesBefore a (suc i) b (suc j)
one_later a b i j h = ⊎_elim (λ (l : a < b). inl l) (λ e. inr (e.0, (let l = e.1 in omega (arith, l)))) h

less_first : (c a b i j : ℕ) → c ≤ a → GoesBefore a i b j → GoesBefore c 0 b (suc j)
less_first c a b i j le h = ⊎_elim (λ (l : a < b). inl (omega arith)) (λ e. no_more c b (suc j) (let same = e.0 in omega (arith, same))) h

has_at : (m : FarmMachine) (o : Option ℕ) → best_place m.setting m.farm ≡ o → has_place m ≡ is_some o
has_at m o h = ap is_some h

closed_here : (m : FarmMachine) (ms : List FarmMachine) → best_place m.setting m.farm ≡ None
    → ((j : ℕ) (other : FarmMachine) → slice_get ms j ≡ Some other → has_place other ≡ false)
    → (j : ℕ) (other : FarmMachine) → slice_get (m ∷ ms) j ≡ Some other → has_place other ≡ false
closed_here m ms here rest zero other at = ap has_place (sym (some_is at)) ∙ has_at m None here
closed_here m ms here rest (suc j) other at = rest j other at

fewer_first : (m : FarmMachine) (ms : List FarmMachine) (claims i : ℕ) → claims < load m
    → ((j : ℕ) (other : FarmMachine) → slice_get ms j ≡ Some other → has_place other ≡ true → GoesBefore claims i (load other) j)
    → (j : ℕ) (other : FarmMachine) → slice_get (m ∷ ms) j ≡ Some other → has_place other ≡ true → GoesBefore claims (suc i) (load other) j
fewer_first m ms claims i less rest zero other at has = inl (subst (λ (x : FarmMachine). claims < load x) (some_is at) less)
fewer_first m ms claims i less rest (suc j) other at has = one_later claims (load other) i j (rest j other at has)

here_first : (m : FarmMachine) (ms : List FarmMachine) (claims i : ℕ) → load m ≤ claims
    → ((j : ℕ) (other : FarmMachine) → slice_get ms j ≡ Some other → has_place other ≡ true → GoesBefore claims i (load other) j)
    → (j : ℕ) (other : FarmMachine) → slice_get (m ∷ ms) j ≡ Some other → has_place other ≡ true → GoesBefore (load m) 0 (load other) j
here_first m ms claims i le rest zero other at has = no_more (load m) (load other) 0 (let same : load m ≡ load other = ap load (some_is at) in omega (arith, same))
here_first m ms claims i le rest (suc j) other at has = less_first (load m) claims (load other) i j le (rest j other at has)

joined_both : (k : ℕ) (m : FarmMachine) (ms : List FarmMachine) (p : ℕ) → best_place m.setting m.farm ≡ Some p → (b : Task) → IsLeast (k + 1) ms b
    → (c : Bool) → nat_lt (load b.own) (load m) ≡ c → LeastOf k (m ∷ ms) (cond c (Some b) (Some (record { search = k; own = m; place = p })))
joined_both k m ms p here b rest true e = record {
  index = suc rest.index;
  search = (let s = rest.search in omega (arith, s));
  at = rest.at;
  place = rest.place;
  first = fewer_first m ms (load b.own) rest.index (ltb-true (load b.own) (load m) e) rest.first;
}
joined_both k m ms p here b rest false e = record {
  index = 0;
  search = omega arith;
  at = refl;
  place = here;
  first = here_first m ms (load b.own) rest.index (ltb-false (load b.own) (load m) e) rest.first;
}

joined : (k : ℕ) (m : FarmMachine) (ms : List FarmMachine) (o : Option ℕ) → best_place m.setting m.farm ≡ o → (rest : Option Task) → LeastOf (k + 1) ms rest
    → LeastOf k (m ∷ ms) (fewer (task_at k m o) rest)
joined k m ms None here None rest = λ j other at. closed_here m ms here rest j other at
joined k m ms None here (Some b) rest = record {
  index = suc rest.index;
  search = (let e = rest.search in omega (arith, e));
  at = rest.at;
  place = rest.place;
  first = from;
}
  where
    from : (j : ℕ) (other : FarmMachine) → slice_get (m ∷ ms) j ≡ Some other → has_place other ≡ true → GoesBefore (load b.own) (suc rest.index) (load other) j
    from zero other at has = absurd (both_ways (has_place other) (ap has_place (sym (some_is at)) ∙ has_at m None here) has)
    from (suc j) other at has = one_later (load b.own) (load other) rest.index j (rest.first j other at has)
joined k m ms (Some p) here None rest = record {
  index = 0;
  search = omega arith;
  at = refl;
  place = here;
  first = from;
}
  where
    from : (j : ℕ) (other : FarmMachine) → slice_get (m ∷ ms) j ≡ Some other → has_place other ≡ true → GoesBefore (load m) 0 (load other) j
    from zero other at has = no_more (load m) (load other) 0 (let e : load m ≡ load other = ap load (some_is at) in omega (arith, e))
    from (suc j) other at has = absurd (both_ways (has_place other) (rest j other at) has)
joined k m ms (Some p) here (Some b) rest = joined_both k m ms p here b rest (nat_lt (load b.own) (load m)) refl

least : (k : ℕ) (ms : List FarmMachine) → LeastOf k ms (task_from k ms)
least k [] = λ j other at. cc at
least k (m ∷ ms) = joined k m ms (best_place m.setting m.farm) refl (task_from (k + 1) ms) (least (k + 1) ms)

-- ---- it is the next one

same_index : (a b i j : ℕ) → GoesBefore a i b j → GoesBefore b j a i → i ≡ j
same_index a b i j one other =
    ⊎_elim
    (λ (l : a < b). ⊎_elim (λ (m : b < a). absurd (omega arith)) (λ e. absurd (let s = e.0 in omega (arith, s))) other)
    (λ e. ⊎_elim (λ (m : b < a). absurd (let s = e.0 in omega (arith, s))) (λ f. (let x = e.1 in let y = f.1 in omega (arith, x, y))) other)
    one

found : (ms : List FarmMachine) (k : ℕ) (own : FarmMachine) (p : ℕ) (o : Option Task) → LeastOf 0 ms o → IsNext ms k → slice_get ms k ≡ Some own
    → best_place own.setting own.farm ≡ Some p → o ≡ Some (record { search = k; own = own; place = p })
found ms k own p None none next at place =
    absurd (both_ways (has_place next.own) (none k next.own next.at) next.place)
found ms k own p (Some t) is next at place =
    let next_is : next.own ≡ own = some_is (sym next.at ∙ at) in
    let has : has_place t.own ≡ true = ap is_some is.place in
    let there : GoesBefore (load t.own) is.index (load next.own) k = is.first k next.own next.at next.place in
    let back : GoesBefore (load next.own) k (load t.own) is.index = next.first is.index t.own is.at has in
    let index : is.index ≡ k = same_index (load t.own) (load next.own) is.index k there back in
    let search : t.search ≡ k = is.search ∙ (let x = index in omega (arith, x)) in
    let owned : t.own ≡ own = some_is (sym is.at ∙ ap (λ (i : ℕ). slice_get ms i) index ∙ at) in
    let placed : t.place ≡ p = some_is (sym is.place ∙ ap (λ (m : FarmMachine). best_place m.setting m.farm) owned ∙ place) in
    λ i. Some (record { search = search i; own = owned i; place = placed i })

is_chosen : (b : Bool) (x y : Farm) → cond b (Some x) None ≡ Some y → b ≡ true
is_chosen true x y h = refl
is_chosen false x y h = cc h

and_right : (a b : Bool) → (a && b) ≡ true → b ≡ true
and_right true b h = h
and_right false b h = cc h

best_is : (o : Option ℕ) (p : ℕ) → is_best o p ≡ true → o ≡ Some p
best_is None p h = cc h
best_is (Some q) p h = ap (λ (n : ℕ). Some n) (eqb-true q p h)

pub claimed_best : (setting : Setting) (farm next : Farm) (worker p : ℕ) → step setting farm (Claimed worker p) ≡ Some next → best_place setting farm ≡ Some p
claimed_best setting farm next worker p legal =
    best_is (best_place setting farm) p
    (and_right (not (has_claim farm.claims worker)) (is_best (best_place setting farm) p)
    (is_chosen (not (has_claim farm.claims worker) && is_best (best_place setting farm) p) _ next legal))

pub next_task : (ms : List FarmMachine) (k : ℕ) (own : FarmMachine) (p worker : ℕ) (farm : Farm) → IsNext ms k → slice_get ms k ≡ Some own
    → step own.setting own.farm (Claimed worker p) ≡ Some farm → task_from 0 ms ≡ Some (record { search = k; own = own; place = p })
next_task ms k own p worker farm next at legal =
    found ms k own p (task_from 0 ms) (least 0 ms) next at (claimed_best own.setting own.farm farm worker p legal)

-- the machine behind a legal event
pub stepped_is : (m : FarmMachine) (event : Event) (farm : Farm) → step m.setting m.farm event ≡ Some farm → stepped m event ≡ record m { farm = farm }
stepped_is m event farm legal = ap (λ (o : Option Farm). record m { farm = unwrap_or o m.farm }) legal

-- ---- there is none

closed_at : (cores : List Machine) (j : ℕ) (other : FarmMachine) → HaveNoPlace cores → slice_get (machines_of cores) j ≡ Some other → has_place other ≡ false
closed_at [] j other none at = cc at
closed_at (core ∷ cores) zero other none at =
    ap has_place (sym (some_is at)) ∙ All-head (λ (c : Machine). has_place (machine_of c) ≡ false) core cores none
closed_at (core ∷ cores) (suc j) other none at =
    closed_at cores j other (All-tail (λ (c : Machine). has_place (machine_of c) ≡ false) core cores none) at

none_of : (ms : List FarmMachine) (o : Option Task) → LeastOf 0 ms o → ((j : ℕ) (other : FarmMachine) → slice_get ms j ≡ Some other → has_place other ≡ false) → o ≡ None
none_of ms None is none = refl
none_of ms (Some t) is none = absurd (both_ways (has_place t.own) (none is.index t.own is.at) (ap is_some is.place))

pub no_task : (cores : List Machine) → HaveNoPlace cores → task_from 0 (machines_of cores) ≡ None
no_task cores none = none_of (machines_of cores) (task_from 0 (machines_of cores)) (least 0 (machines_of cores)) (λ j other at. closed_at cores j other none at)

over_of : (o : Option Ending) (end : End) → Tells o end → is_some o ≡ true → is_open end ≡ false
over_of None end tells h = cc h
over_of (Some e) end tells h = tells.1

waits_of : (o : Option Ending) (end : End) → Tells o end → o ≡ None → is_open end ≡ true
waits_of None end tells none = tells
waits_of (Some e) end tells none = cc none

no_place_at : (m : FarmMachine) (end : End) → is_open end ≡ false → is_some (place_at m.setting m.farm (run_of m) end) ≡ false
no_place_at m (Answered a) over = refl
no_place_at m Leg over = refl
no_place_at m (Aborted p outcome) over = refl
no_place_at m (Open p) over = cc over

ended_place : (core : Machine) → IsConsumed core → is_some core.ending ≡ true → has_place (machine_of core) ≡ false
ended_place core consumed ended = no_place_at (machine_of core) (core_run core).end (over_of core.ending (core_run core).end consumed.ending ended)

pub ended_none : (cores : List Machine) → All IsConsumed cores → HaveAllEnded cores → HaveNoPlace cores
ended_none cores consumed ended = λ k d l. ended_place (get_or cores k d) (consumed k d l) (ended k d l)

pub all_ended : (cores : List Machine) → All IsConsumed cores → HaveAllEnded cores → have_ended (machines_of cores) ≡ true
all_ended [] consumed ended = refl
all_ended (core ∷ cores) consumed ended =
    ap (λ (b : Bool). not b && have_ended (machines_of cores))
    (over_of core.ending (core_run core).end (All-head IsConsumed core cores consumed).ending (All-head (λ (c : Machine). is_some c.ending ≡ true) core cores ended))
    ∙ all_ended cores (All-tail IsConsumed core cores consumed) (All-tail (λ (c : Machine). is_some c.ending ≡ true) core cores ended)

pub one_goes_on : (cores : List Machine) (k : ℕ) (core : Machine) → All IsConsumed cores → slice_get cores k ≡ Some core → core.ending ≡ None
    → have_ended (machines_of cores) ≡ false
one_goes_on [] k core consumed at goes_on = cc at
one_goes_on (c ∷ cores) zero core consumed at goes_on =
    ap (λ (b : Bool). not b && have_ended (machines_of cores))
    (waits_of c.ending (core_run c).end (All-head IsConsumed c cores consumed).ending (ap (λ (x : Machine). x.ending) (some_is at) ∙ goes_on))
one_goes_on (c ∷ cores) (suc k) core consumed at goes_on =
    and_false (not (is_open (core_run c).end)) (have_ended (machines_of cores))
    (one_goes_on cores k core (All-tail IsConsumed c cores consumed) at goes_on)
  where
    and_false : (a b : Bool) → b ≡ false → (a && b) ≡ false
    and_false true b h = h
    and_false false b h = refl

-- ---- the next task is the best open place of the search that is helped next

pub record IsTaskOf (ms : List FarmMachine) (t : Task) : Type 0 where
  pub at : slice_get ms t.search ≡ Some t.own
  pub next : IsNext ms t.search
  pub best : best_place t.own.setting t.own.farm ≡ Some t.place

is_task : (ms : List FarmMachine) (t : Task) → IsLeast 0 ms t → IsTaskOf ms t
is_task ms t is =
    let index : is.index ≡ t.search = (let e = is.search in omega (arith, e)) in
    let at : slice_get ms t.search ≡ Some t.own = subst (λ (i : ℕ). slice_get ms i ≡ Some t.own) index is.at in
    record {
      at = at;
      next = record {
        own = t.own;
        at = at;
        place = ap is_some is.place;
        first = λ j other there has. subst (λ (i : ℕ). GoesBefore (load t.own) i (load other) j) index (is.first j other there has);
      };
      best = is.place;
    }

pub task_of : (ms : List FarmMachine) (t : Task) → task_from 0 ms ≡ Some t → IsTaskOf ms t
task_of ms t found = is_task ms t (subst (LeastOf 0 ms) found (least 0 ms))
