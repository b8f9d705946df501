-- Whether some path asks for a place: what is defined by claims of all other places is what the core tells of its workers.
use Rattle.std.proofs.Common.{◌≡◌, ℕ, ◌+◌, ◌<◌, Bool, true, false, cond, not, ◌||◌, ◌==◌, List, [], ◌∷◌, length, map, filter, get_or, Option, Some, None, refl, sym, ap, subst, ◌∙◌, eqb-true, eq-eqb, arith}
use Rattle.std.proofs.lemmas.Bool.{both_ways}
use Rattle.std.proofs.lemmas.List.FromFn.{get_or-range_with_len, length-range_with_len}
use Rattle.std.proofs.lemmas.List.Folds.{list_any_at}
use Rattle.std.specs.List.{list_any, range_with_len}
use Rattle.std.specs.Option.{is_some}
use Rattle.bf_graph.specs.Graph.{IsGraph}
use Rattle.bf_search.specs.declared.farm.Ending.{Ending}
use Rattle.bf_search.specs.declared.outcomes.Mark.{Mark}
use Rattle.bf_search.specs.Farm.{Farm, best_place, place_at}
use Rattle.bf_search.specs.OpenPaths.{Leads, OpenPath, best_open, is_claimed, place_of}
use Rattle.bf_search.specs.Outcomes.{Outcomes, outcomes_of_table}
use Rattle.bf_search.specs.Reach.{places}
use Rattle.bf_search.specs.Run.{End, Answered, Leg, Open, Aborted}
use Rattle.bf_search.specs.State.{Search, IsSearchOver, ask, mark}
use Rattle.bf_search.proofs.Turns.{asking}
use Rattle.bf_state.proofs.Best.{best_is_best, best_is_open}
use Rattle.bf_state.specs.Runs.{is_open}
use Rattle.bf_state.specs.Session.{Session}
use Rattle.bf_core.specs.Claims.{has_ended}
use Rattle.bf_search.specs.declared.farm.Ending.TheVariants as ending
use Rattle.bf_state.proofs.Causes.{leg_ends}
use Rattle.bf_core.specs.Machine.{IsConsumed, IsWanted, Machine, farm_of, run_of as core_run, setting_of}
use Rattle.bf_many.specs.Cores.{machine_of}
use Rattle.bf_spec.specs.Walks.{Tells}
use Rattle.bf_spec.specs.Ways.{IsAsked}
use Rattle.bf_serve.specs.Searches.{all_but, is_asked, run_of}
use Rattle.bf_many.specs.Many.{FarmMachine}
use Rattle.bf_serve.proofs.Running.{reached_over}

-- ---- claims of all places but one

any_place : (x : ℕ) (qs : List ℕ)
    → is_claimed (map (λ (q : ℕ). record { worker = 0; place = q }) qs) x ≡ list_any (λ q. q == x) qs
any_place x [] = refl
any_place x (q ∷ qs) = ap (λ (b : Bool). (q == x) || b) (any_place x qs)

-- the one that is left out is not claimed
left_more : (p q : ℕ) (qs : List ℕ) (b : Bool) → (q == p) ≡ b → list_any (λ r. r == p) qs ≡ false → list_any (λ r. r == p) (cond (not b) (q ∷ qs) qs) ≡ false
left_more p q qs true e rest = rest
left_more p q qs false e rest = ap (λ (c : Bool). c || list_any (λ r. r == p) qs) e ∙ rest

left_out : (p : ℕ) (qs : List ℕ) → list_any (λ q. q == p) (filter (λ q. not (q == p)) qs) ≡ false
left_out p [] = refl
left_out p (q ∷ qs) = left_more p q (filter (λ r. not (r == p)) qs) (q == p) refl (left_out p qs)

-- each other one is
or_rest : (a b : Bool) → a ≡ false → (a || b) ≡ true → b ≡ true
or_rest a b e h = sym (ap (λ (c : Bool). c || b) e) ∙ h

apart_from : (p x q : ℕ) → (x == p) ≡ false → (q == p) ≡ true → (b : Bool) → (q == x) ≡ b → (q == x) ≡ false
apart_from p x q other same false e = e
apart_from p x q other same true e =
    let q_is_x : q ≡ x = eqb-true q x e in
    let q_is_p : q ≡ p = eqb-true q p same in
    absurd (both_ways (x == p) other (eq-eqb x p (sym q_is_x ∙ q_is_p)))

any_more : (x q : ℕ) (rs : List ℕ) (b : Bool) → (q == x) ≡ b → ((q == x) ≡ false → list_any (λ r. r == x) rs ≡ true) → ((q == x) || list_any (λ r. r == x) rs) ≡ true
any_more x q rs true e rest = ap (λ (c : Bool). c || list_any (λ r. r == x) rs) e
any_more x q rs false e rest = ap (λ (c : Bool). c || list_any (λ r. r == x) rs) e ∙ rest e

kept_more : (p x q : ℕ) (rs : List ℕ) (b : Bool) → (q == p) ≡ b → (x == p) ≡ false → ((q == x) ≡ false → list_any (λ r. r == x) rs ≡ true)
    → list_any (λ r. r == x) (cond (not b) (q ∷ rs) rs) ≡ true
kept_more p x q rs true e other rest = rest (apart_from p x q other e (q == x) refl)
kept_more p x q rs false e other rest = any_more x q rs (q == x) refl rest

kept_in : (p x : ℕ) (qs : List ℕ) → (x == p) ≡ false → list_any (λ q. q == x) qs ≡ true → list_any (λ q. q == x) (filter (λ q. not (q == p)) qs) ≡ true
kept_in p x [] other h = h
kept_in p x (q ∷ qs) other h =
    kept_more p x q (filter (λ r. not (r == p)) qs) (q == p) refl other
    (λ not_here. kept_in p x qs other (or_rest (q == x) (list_any (λ r. r == x) qs) not_here h))

place_there : (n x : ℕ) → x < n → list_any (λ q. q == x) (range_with_len 0 n) ≡ true
place_there n x l =
    let long : length (range_with_len 0 n) ≡ n = length-range_with_len 0 n in
    let at : get_or (range_with_len 0 n) x 0 ≡ 0 + x = get_or-range_with_len 0 n x 0 l in
    list_any_at (λ q. q == x) (range_with_len 0 n) x 0 (omega (arith, long)) (eq-eqb (get_or (range_with_len 0 n) x 0) x (omega (arith, at)))

pub not_claimed : (graph : List (List ℕ)) (p : ℕ) → is_claimed (all_but graph p) p ≡ false
not_claimed graph p = any_place p (filter (λ q. not (q == p)) (places graph)) ∙ left_out p (places graph)

pub only_place : (graph : List (List ℕ)) (p x : ℕ) → x < length graph → is_claimed (all_but graph p) x ≡ false → x ≡ p
only_place graph p x l h = by (x == p) refl
  where
    by : (b : Bool) → (x == p) ≡ b → x ≡ p
    by true e = eqb-true x p e
    by false e = absurd (both_ways (is_claimed (all_but graph p) x) h
        (any_place x (filter (λ q. not (q == p)) (places graph)) ∙ kept_in p x (places graph) e (place_there (length graph) x l)))

-- ---- a path asks for a place of the graph

asked_within : (graph : List (List ℕ)) (known : Outcomes) (s : Search) (ms : List Mark) (p left : ℕ) → IsGraph graph → Leads graph known s ms p left → p < length graph
asked_within graph known s [] p left g leads = (asking graph s p g leads.0).asks_for.within
asked_within graph known s (m ∷ ms) p left g leads = asked_within graph known (mark (ask graph s).search m leads.0) ms p left g leads.3

path_asks : (graph : List (List ℕ)) (known : Outcomes) (s : Search) (p : ℕ) (o : Option OpenPath) → IsGraph graph
    → best_open graph known (all_but graph p) s ≡ o → is_some (place_of o) ≡ true → IsAsked graph known s p
path_asks graph known s p None g found h = cc h
path_asks graph known s p (Some path) g found h =
    let open_path = best_is_open graph known (all_but graph p) s path found in
    let same : path.place ≡ p = only_place graph p path.place (asked_within graph known s path.marks path.place path.left g open_path.leads) open_path.unclaimed in
    (path.marks, path.left, subst (λ (x : ℕ). Leads graph known s path.marks x path.left) same open_path.leads)

asked_has_path : (graph : List (List ℕ)) (known : Outcomes) (s : Search) (p : ℕ) → IsGraph graph → IsSearchOver graph s → known p ≡ None → IsAsked graph known s p
    → is_some (place_of (best_open graph known (all_but graph p) s)) ≡ true
asked_has_path graph known s p g over unknown asked =
    let best = best_is_best graph known (all_but graph p) g s (record { marks = asked.0; place = p; left = asked.1 }) over
    (record { leads = asked.2; unknown = unknown; unclaimed = not_claimed graph p }) in
    ap (λ (o : Option OpenPath). is_some (place_of o)) best.1

-- ---- of a core

abbrev claimed_but : Machine → ℕ → Farm
claimed_but core p = record (farm_of core) { claims = all_but core.graph p }

no_ending : (o : Option Ending) (end : End) → Tells o end → is_open end ≡ true → o ≡ None
no_ending None end tells waits = refl
no_ending (Some e) end tells waits = absurd (both_ways (is_open end) tells.1 waits)

-- a search that goes on waits for an outcome, where it has no legs
waits_of : (o : Option Ending) (end : End) → Tells o end → has_ended o ≡ false → (end ≡ Leg → ⊥) → is_open end ≡ true
waits_of None end tells goes_on whole = tells
waits_of (Some ending.Leg) end tells goes_on whole = absurd (whole (sym tells.0))
waits_of (Some (ending.FirstBad p)) end tells goes_on whole = cc goes_on
waits_of (Some (ending.OnlySkipped ps)) end tells goes_on whole = cc goes_on
waits_of (Some (ending.MergeBaseBad p)) end tells goes_on whole = cc goes_on
waits_of (Some (ending.GoodNotAncestor p)) end tells goes_on whole = cc goes_on
waits_of (Some (ending.BothSides p)) end tells goes_on whole = cc goes_on
waits_of (Some (ending.Aborted p outcome)) end tells goes_on whole = cc goes_on
waits_of (Some (ending.TestFault p)) end tells goes_on whole = cc goes_on

no_leg : (core : Machine) → IsGraph core.graph → IsSearchOver core.graph core.first.search → core.leg ≡ 0 → (core_run core).end ≡ Leg → ⊥
no_leg core g over none e =
    let more : 0 < core.leg = (leg_ends core.graph (outcomes_of_table core.table) g core.first.search core.leg over e).0 in
    absurd (omega (arith, none, more))

state_search : (core : Machine) → IsConsumed core → core.state.search ≡ (core_run core).search
state_search core consumed = ap (λ (s : Session). s.search) consumed.state

wanted_at : (core : Machine) (p : ℕ) (end : End) → IsGraph core.graph → IsConsumed core → (core_run core).end ≡ end
    → is_some (place_at (setting_of core) (claimed_but core p) (core_run core) end) ≡ true → IsWanted core p
wanted_at core p (Answered a) g consumed e h = cc h
wanted_at core p Leg g consumed e h = cc h
wanted_at core p (Aborted q outcome) g consumed e h = cc h
wanted_at core p (Open q) g consumed e h = record {
  goes_on = ap has_ended (no_ending core.ending (core_run core).end consumed.ending (ap is_open e));
  asked = subst (λ (s : Search). IsAsked core.graph (outcomes_of_table core.table) s p) (sym (state_search core consumed))
      (path_asks core.graph (outcomes_of_table core.table) (core_run core).search p
      (best_open core.graph (outcomes_of_table core.table) (all_but core.graph p) (core_run core).search) g refl h);
}

pub asked_is_wanted : (core : Machine) (p : ℕ) → IsGraph core.graph → IsConsumed core → is_asked (machine_of core) p ≡ true → IsWanted core p
asked_is_wanted core p g consumed h = wanted_at core p (core_run core).end g consumed refl h

asked_at : (core : Machine) (p : ℕ) (end : End) → IsGraph core.graph → IsSearchOver core.graph (core_run core).search → outcomes_of_table core.table p ≡ None
    → is_open end ≡ true → IsAsked core.graph (outcomes_of_table core.table) (core_run core).search p
    → is_some (place_at (setting_of core) (claimed_but core p) (core_run core) end) ≡ true
asked_at core p (Answered a) g over unknown waits asked = cc waits
asked_at core p Leg g over unknown waits asked = cc waits
asked_at core p (Aborted q outcome) g over unknown waits asked = cc waits
asked_at core p (Open q) g over unknown waits asked = asked_has_path core.graph (outcomes_of_table core.table) (core_run core).search p g over unknown asked

pub wanted_is_asked : (core : Machine) (p : ℕ) → IsGraph core.graph → IsSearchOver core.graph core.first.search → core.leg ≡ 0
    → IsSearchOver core.graph (core_run core).search → IsConsumed core
    → outcomes_of_table core.table p ≡ None → IsWanted core p → is_asked (machine_of core) p ≡ true
wanted_is_asked core p g starts whole over consumed unknown wanted =
    asked_at core p (core_run core).end g over unknown
    (waits_of core.ending (core_run core).end consumed.ending wanted.goes_on (no_leg core g starts whole))
    (subst (λ (s : Search). IsAsked core.graph (outcomes_of_table core.table) s p) (state_search core consumed) wanted.asked)

-- ---- of a farm machine

paths_at : (m : FarmMachine) (p : ℕ) (end : End) → IsGraph m.setting.graph → (run_of m).end ≡ end
    → is_some (place_at m.setting (record m.farm { claims = all_but m.setting.graph p }) (run_of m) end) ≡ true
    → (is_open (run_of m).end ≡ true) × IsAsked m.setting.graph (outcomes_of_table m.farm.table) (run_of m).search p
paths_at m p (Answered a) g e h = cc h
paths_at m p Leg g e h = cc h
paths_at m p (Aborted q outcome) g e h = cc h
paths_at m p (Open q) g e h = (
  ap is_open e,
  path_asks m.setting.graph (outcomes_of_table m.farm.table) (run_of m).search p
      (best_open m.setting.graph (outcomes_of_table m.farm.table) (all_but m.setting.graph p) (run_of m).search) g refl h,
)

pub path_of_asked : (m : FarmMachine) (p : ℕ) → IsGraph m.setting.graph → is_asked m p ≡ true
    → (is_open (run_of m).end ≡ true) × IsAsked m.setting.graph (outcomes_of_table m.farm.table) (run_of m).search p
path_of_asked m p g h = paths_at m p (run_of m).end g refl h

asked_there : (m : FarmMachine) (p : ℕ) (end : End) → IsGraph m.setting.graph → IsSearchOver m.setting.graph (run_of m).search
    → outcomes_of_table m.farm.table p ≡ None → is_open end ≡ true → IsAsked m.setting.graph (outcomes_of_table m.farm.table) (run_of m).search p
    → is_some (place_at m.setting (record m.farm { claims = all_but m.setting.graph p }) (run_of m) end) ≡ true
asked_there m p (Answered a) g over unknown waits asked = cc waits
asked_there m p Leg g over unknown waits asked = cc waits
asked_there m p (Aborted q outcome) g over unknown waits asked = cc waits
asked_there m p (Open q) g over unknown waits asked =
    asked_has_path m.setting.graph (outcomes_of_table m.farm.table) (run_of m).search p g over unknown asked

pub asked_of_path : (m : FarmMachine) (p : ℕ) → IsGraph m.setting.graph → IsSearchOver m.setting.graph m.setting.start
    → outcomes_of_table m.farm.table p ≡ None → is_open (run_of m).end ≡ true
    → IsAsked m.setting.graph (outcomes_of_table m.farm.table) (run_of m).search p → is_asked m p ≡ true
asked_of_path m p g over unknown waits asked =
    asked_there m p (run_of m).end g
    (reached_over m.setting.graph (outcomes_of_table m.farm.table) g _ m.setting.start over) unknown waits asked

-- a place that is asked for has no outcome
path_unknown : (graph : List (List ℕ)) (known : Outcomes) (s : Search) (p : ℕ) (o : Option OpenPath) → IsGraph graph
    → best_open graph known (all_but graph p) s ≡ o → is_some (place_of o) ≡ true → known p ≡ None
path_unknown graph known s p None g found h = cc h
path_unknown graph known s p (Some path) g found h =
    let open_path = best_is_open graph known (all_but graph p) s path found in
    let same : path.place ≡ p = only_place graph p path.place (asked_within graph known s path.marks path.place path.left g open_path.leads) open_path.unclaimed in
    subst (λ (x : ℕ). known x ≡ None) same open_path.unknown

unknown_at : (m : FarmMachine) (p : ℕ) (end : End) → IsGraph m.setting.graph
    → is_some (place_at m.setting (record m.farm { claims = all_but m.setting.graph p }) (run_of m) end) ≡ true
    → outcomes_of_table m.farm.table p ≡ None
unknown_at m p (Answered a) g h = cc h
unknown_at m p Leg g h = cc h
unknown_at m p (Aborted q outcome) g h = cc h
unknown_at m p (Open q) g h =
    path_unknown m.setting.graph (outcomes_of_table m.farm.table) (run_of m).search p
    (best_open m.setting.graph (outcomes_of_table m.farm.table) (all_but m.setting.graph p) (run_of m).search) g refl h

pub asked_unknown : (m : FarmMachine) (p : ℕ) → IsGraph m.setting.graph → is_asked m p ≡ true → outcomes_of_table m.farm.table p ≡ None
asked_unknown m p g h = unknown_at m p (run_of m).end g h

-- the best open place is asked for
opened : (m : FarmMachine) (p : ℕ) (o : Option OpenPath) → IsGraph m.setting.graph → IsSearchOver m.setting.graph m.setting.start
    → is_open (run_of m).end ≡ true
    → best_open m.setting.graph (outcomes_of_table m.farm.table) m.farm.claims (run_of m).search ≡ o → place_of o ≡ Some p → is_asked m p ≡ true
opened m p None g over waits found at = cc at
opened m p (Some path) g over waits found at =
    let is = best_is_open m.setting.graph (outcomes_of_table m.farm.table) m.farm.claims (run_of m).search path found in
    let same : path.place ≡ p = cc at in
    subst (λ (x : ℕ). is_asked m x ≡ true) same
    (asked_of_path m path.place g over is.unknown waits (path.marks, path.left, is.leads))

best_at : (m : FarmMachine) (p : ℕ) (end : End) → IsGraph m.setting.graph → IsSearchOver m.setting.graph m.setting.start → (run_of m).end ≡ end
    → place_at m.setting m.farm (run_of m) end ≡ Some p → is_asked m p ≡ true
best_at m p (Answered a) g over e h = cc h
best_at m p Leg g over e h = cc h
best_at m p (Aborted q outcome) g over e h = cc h
best_at m p (Open q) g over e h =
    opened m p (best_open m.setting.graph (outcomes_of_table m.farm.table) m.farm.claims (run_of m).search) g over (ap is_open e) refl h

pub best_is_asked : (m : FarmMachine) (p : ℕ) → IsGraph m.setting.graph → IsSearchOver m.setting.graph m.setting.start
    → best_place m.setting m.farm ≡ Some p → is_asked m p ≡ true
best_is_asked m p g over h = best_at m p (run_of m).end g over refl h
