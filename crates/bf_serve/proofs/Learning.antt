-- What an outcome that is known from elsewhere leaves, and which searches ask for a commit.
use Rattle.std.proofs.Common.{◌≡◌, ℕ, zero, suc, ◌+◌, ◌-◌, ◌<◌, ◌≤◌, Bool, true, false, cond, ◌||◌, ◌==◌, List, [], ◌∷◌, ◌++◌, length, map, All, get_or}
use Rattle.std.proofs.Common.{Option, Some, None, Result, refl, sym, ap, subst, ◌∙◌, eqb-true, eq-eqb, arith, Ok, Err, OnOk}
use Rattle.std.proofs.lemmas.List.{length-map}
use Rattle.std.proofs.lemmas.Option.{slice_get_within}
use Rattle.std.specs.List.{slice_get}
use Rattle.std.specs.Option.{IfSome, is_some}
use Rattle.std.specs.List.Sorted.{IsStrictlyIncreasing}
use Rattle.bf_core.specs.Machine.{IsConsumed, Machine, run_of as core_run, WantsOutcome}
use Rattle.bf_graph.specs.Graph.{IsGraph}
use Rattle.bf_many.specs.Cores.{AreSameButNodes, AreWanting, IsFreeIn, machine_of, machines_of, LearnsAt}
use Rattle.bf_many.specs.Many.{FarmMachine}
use Rattle.bf_many.proofs.Lists.{get-map}
use Rattle.bf_many.proofs.Stepping.{all_consumed, same_machines}
use Rattle.bf_many.proofs.Picking.{all_at, core_of}
use Rattle.bf_protocol.specs.declared.request.Refusal.{Refusal}
use Rattle.bf_protocol.specs.declared.request.Refusal.TheVariants.{HasAnOutcome, IsUnderTest, NoSuchCommit, NoSuchSearch}
use Rattle.bf_protocol.specs.Events.{Refused, WantedBy, reply_text, Done}
use Rattle.bf_protocol.specs.Requests.{refusal_line}
use Rattle.bf_search.specs.declared.outcomes.Outcome.{Outcome}
use Rattle.bf_search.specs.Outcomes.{outcomes_of_table}
use Rattle.bf_search.specs.State.{IsSearchOver}
use Rattle.bf_serve.specs.declared.opening.Opening.{Opening}
use Rattle.bf_serve.specs.declared.session.Session.{Session}
use Rattle.bf_serve.specs.Searches.{has_outcome, is_asked, is_tested, learned, left_in, needless, read_by}
use Rattle.bf_serve.specs.Serving.{changed, learn_turn, learned_as, learned_in, learned_of, place_of_commit, refused_as, wanted_from, wanted_of, wanted_turn}
use Rattle.bf_serve.specs.Steps.{IsLullOf, IsOver, IsServing, Serves, searches_in, TellsChange}
use Rattle.bf_serve.proofs.Asking.{asked_is_wanted, asked_unknown, wanted_is_asked}
use Rattle.bf_serve.proofs.Rising.{Above, Rises, both_true, contained_has, has, has_contained, rises_of, same_members}
use Rattle.bf_serve.proofs.Running.{search_over}
use Rattle.bf_serve.proofs.Sessions.{as_turn, served_refused, after_at, learnt, served_told}

-- ---- learn

get_none : {X : Type 0} (xs : List X) (k : ℕ) → length xs ≤ k → slice_get xs k ≡ None
get_none [] k le = refl
get_none (x ∷ xs) zero le = absurd (omega (arith, le))
get_none (x ∷ xs) (suc k) le = get_none xs k (omega (arith, le))

pub served_no_search : (s : Session) (n : ℕ) (commit : List ℕ) (outcome : Result Outcome Refusal) (before after : List ℕ) → IsServing s → 1 ≤ n
    → length s.openings.items < n → after ≡ before ++ reply_text (Refused (refusal_line NoSuchSearch))
    → Serves (learn_turn s.history.now (searches_in s) n commit outcome) s s before after
served_no_search s n commit outcome before after is one more text =
    as_turn (learn_turn s.history.now (searches_in s) n commit outcome) (refused_as (searches_in s) NoSuchSearch) s s before after
    (ap (λ (x : Option Opening). learned_in s.history.now (searches_in s) (n - 1) (place_of_commit s.history.now commit) outcome x
    (slice_get (machines_of s.many) (n - 1))) (get_none s.openings.items (n - 1) (omega (arith, one, more))))
    (served_refused s (refusal_line NoSuchSearch) before after is text)

pub served_learn : (s new : Session) (n k : ℕ) (commit : List ℕ) (place : Option ℕ) (outcome : Result Outcome Refusal) (o : Opening) (m : FarmMachine)
    (before after : List ℕ) → k ≡ n - 1 → slice_get s.openings.items k ≡ Some o → slice_get (machines_of s.many) k ≡ Some m
    → place ≡ place_of_commit s.history.now commit
    → Serves (learned_as s.history.now (searches_in s) k place outcome o m) s new before after
    → Serves (learn_turn s.history.now (searches_in s) n commit outcome) s new before after
served_learn s new n k commit place outcome o m before after number opened at named h =
    let H = s.history.now in
    let S = searches_in s in
    as_turn (learn_turn H S n commit outcome) (learned_as H S k place outcome o m) s new before after
    (ap (λ (i : ℕ). learned_in H S i (place_of_commit H commit) outcome (slice_get s.openings.items i) (slice_get (machines_of s.many) i)) (sym number)
    ∙ ap (λ (p : Option ℕ). learned_in H S k p outcome (slice_get s.openings.items k) (slice_get (machines_of s.many) k)) (sym named)
    ∙ ap (λ (x : Option Opening). learned_in H S k place outcome x (slice_get (machines_of s.many) k)) opened
    ∙ ap (learned_in H S k place outcome (Some o)) at) h

pub served_has : (s : Session) (k p : ℕ) (outcome : Outcome) (o : Opening) (m : FarmMachine) (before after : List ℕ) → IsServing s
    → has_outcome m p ≡ true → after ≡ before ++ reply_text (Refused (refusal_line HasAnOutcome))
    → Serves (learned_of s.history.now (searches_in s) k p outcome o m) s s before after
served_has s k p outcome o m before after is has_it text =
    as_turn (learned_of s.history.now (searches_in s) k p outcome o m) (refused_as (searches_in s) HasAnOutcome) s s before after
    (ap (λ (b : Bool). cond b (refused_as (searches_in s) HasAnOutcome) (cond (is_tested m p) (refused_as (searches_in s) IsUnderTest)
    (changed s.history.now (searches_in s) k o m (learned m p (read_by o outcome))))) has_it)
    (served_refused s (refusal_line HasAnOutcome) before after is text)

pub served_tested : (s : Session) (k p : ℕ) (outcome : Outcome) (o : Opening) (m : FarmMachine) (before after : List ℕ) → IsServing s
    → has_outcome m p ≡ false → is_tested m p ≡ true → after ≡ before ++ reply_text (Refused (refusal_line IsUnderTest))
    → Serves (learned_of s.history.now (searches_in s) k p outcome o m) s s before after
served_tested s k p outcome o m before after is has_none tested text =
    as_turn (learned_of s.history.now (searches_in s) k p outcome o m) (refused_as (searches_in s) IsUnderTest) s s before after
    (ap (λ (b : Bool). cond b (refused_as (searches_in s) HasAnOutcome) (cond (is_tested m p) (refused_as (searches_in s) IsUnderTest)
    (changed s.history.now (searches_in s) k o m (learned m p (read_by o outcome))))) has_none
    ∙ ap (λ (b : Bool). cond b (refused_as (searches_in s) IsUnderTest)
    (changed s.history.now (searches_in s) k o m (learned m p (read_by o outcome)))) tested)
    (served_refused s (refusal_line IsUnderTest) before after is text)

pub served_learned : (s new : Session) (k p : ℕ) (outcome : Outcome) (o : Opening) (m : FarmMachine) (before after : List ℕ)
    → has_outcome m p ≡ false → is_tested m p ≡ false
    → Serves (changed s.history.now (searches_in s) k o m (learned m p (read_by o outcome))) s new before after
    → Serves (learned_of s.history.now (searches_in s) k p outcome o m) s new before after
served_learned s new k p outcome o m before after has_none free h =
    as_turn (learned_of s.history.now (searches_in s) k p outcome o m)
    (changed s.history.now (searches_in s) k o m (learned m p (read_by o outcome))) s new before after
    (ap (λ (b : Bool). cond b (refused_as (searches_in s) HasAnOutcome) (cond (is_tested m p) (refused_as (searches_in s) IsUnderTest)
    (changed s.history.now (searches_in s) k o m (learned m p (read_by o outcome))))) has_none
    ∙ ap (λ (b : Bool). cond b (refused_as (searches_in s) IsUnderTest)
    (changed s.history.now (searches_in s) k o m (learned m p (read_by o outcome)))) free) h

none_known : (o : Option Outcome) → is_some o ≡ false → o ≡ None
none_known None h = refl
none_known (Some x) h = cc h

pub free_in : (s : Session) (k p : ℕ) (core : Machine) → IsServing s → slice_get s.many k ≡ Some core → p < length s.history.now.parents
    → has_outcome (machine_of core) p ≡ false → is_tested (machine_of core) p ≡ false → IsFreeIn s.many k p
free_in s k p core is at within has_none free =
    let over = all_at (IsOver s.history.now.parents) (machines_of s.many) k (machine_of core) is.over (get-map machine_of s.many k core at) in
    record {
      core = core;
      at = at;
      free = record {
        within = (let long = over.places in omega (arith, within, long));
        unknown = none_known (outcomes_of_table core.table p) has_none;
        unclaimed = free;
      };
    }

-- ---- wanted

record Wants (s : ℕ) (ms : List FarmMachine) (p n : ℕ) : Type 0 where
  index : ℕ
  own : FarmMachine
  number : n ≡ s + index
  at : slice_get ms index ≡ Some own
  asked : is_asked own p ≡ true

wants_later : (s : ℕ) (m : FarmMachine) (ms : List FarmMachine) (p n : ℕ) → Wants (s + 1) ms p n → Wants s (m ∷ ms) p n
wants_later s m ms p n h = record {
  index = suc h.index;
  own = h.own;
  number = (let e = h.number in omega (arith, e));
  at = h.at;
  asked = h.asked;
}

from_has : (s : ℕ) (ms : List FarmMachine) (p n : ℕ) → has (wanted_from s ms p) n ≡ true → Wants s ms p n
from_has s [] p n h = cc h
from_has s (m ∷ ms) p n h = by (λ there. wants_later s m ms p n (from_has (s + 1) ms p n there)) (is_asked m p) refl (s == n) refl h
  where
    by : (has (wanted_from (s + 1) ms p) n ≡ true → Wants s (m ∷ ms) p n) → (a : Bool) → is_asked m p ≡ a → (b : Bool) → (s == n) ≡ b
        → has (cond a (s ∷ wanted_from (s + 1) ms p) (wanted_from (s + 1) ms p)) n ≡ true → Wants s (m ∷ ms) p n
    by rest false e b f there = rest there
    by rest true e true f there = record {
      index = 0;
      own = m;
      number = (let same = eqb-true s n f in omega (arith, same));
      at = refl;
      asked = e;
    }
    by rest true e false f there = rest (sym (ap (λ (b : Bool). b || has (wanted_from (s + 1) ms p) n) f) ∙ there)

or_right : (a b : Bool) → b ≡ true → (a || b) ≡ true
or_right true b e = refl
or_right false b e = e

has_from : (s : ℕ) (ms : List FarmMachine) (p i : ℕ) (own : FarmMachine) → slice_get ms i ≡ Some own → is_asked own p ≡ true
    → has (wanted_from s ms p) (s + i) ≡ true
has_from s [] p i own at asked = cc at
has_from s (m ∷ ms) p zero own at asked =
    ap (λ (b : Bool). has (cond b (s ∷ wanted_from (s + 1) ms p) (wanted_from (s + 1) ms p)) (s + 0))
    (ap (λ (x : FarmMachine). is_asked x p) (some_is at) ∙ asked)
    ∙ ap (λ (b : Bool). b || has (wanted_from (s + 1) ms p) (s + 0)) (eq-eqb s (s + 0) (omega arith))
  where
    some_is : {x y : FarmMachine} → Some x ≡ Some y → x ≡ y
    some_is e = cc e
has_from s (m ∷ ms) p (suc i) own at asked = by (subst (λ (n : ℕ). has (wanted_from (s + 1) ms p) n ≡ true) (omega arith) (has_from (s + 1) ms p i own at asked)) (is_asked m p)
  where
    by : (has (wanted_from (s + 1) ms p) (s + suc i) ≡ true) → (a : Bool) → has (cond a (s ∷ wanted_from (s + 1) ms p) (wanted_from (s + 1) ms p)) (s + suc i) ≡ true
    by rest true = or_right (s == s + suc i) (has (wanted_from (s + 1) ms p) (s + suc i)) rest
    by rest false = rest

above_from : (x s : ℕ) (ms : List FarmMachine) (p : ℕ) → x < s → Above x (wanted_from s ms p)
above_from x s [] p l = tt
above_from x s (m ∷ ms) p l = by (above_from x (s + 1) ms p (omega (arith, l))) (is_asked m p)
  where
    by : (Above x (wanted_from (s + 1) ms p)) → (a : Bool) → Above x (cond a (s ∷ wanted_from (s + 1) ms p) (wanted_from (s + 1) ms p))
    by rest true = (l, rest)
    by rest false = rest

rises_from : (s : ℕ) (ms : List FarmMachine) (p : ℕ) → Rises (wanted_from s ms p)
rises_from s [] p = tt
rises_from s (m ∷ ms) p = by (rises_from (s + 1) ms p) (is_asked m p)
  where
    by : (Rises (wanted_from (s + 1) ms p)) → (a : Bool) → Rises (cond a (s ∷ wanted_from (s + 1) ms p) (wanted_from (s + 1) ms p))
    by rest true = (above_from s (s + 1) ms p (omega arith), rest)
    by rest false = rest

-- numbers from 1 on
rises_numbers : (xs : List ℕ) → Rises xs → Rises (map (λ (x : ℕ). x + 1) xs)
rises_numbers [] h = tt
rises_numbers (x ∷ xs) h = (above_number x xs h.0, rises_numbers xs h.1)
  where
    above_number : (x : ℕ) (ys : List ℕ) → Above x ys → Above (x + 1) (map (λ (y : ℕ). y + 1) ys)
    above_number x [] a = tt
    above_number x (y ∷ ys) a = ((let l = a.0 in omega (arith, l)), above_number x ys a.1)

abbrev IsNumberOf : List ℕ → ℕ → Type 0
IsNumberOf xs n = (k : ℕ) × (n ≡ k + 1) × (has xs k ≡ true)

number_more : (x n : ℕ) (xs : List ℕ) (more b : Bool) → (x + 1 == n) ≡ b → (more ≡ true → IsNumberOf xs n) → (b || more) ≡ true → IsNumberOf (x ∷ xs) n
number_more x n xs more true e rest there = (x, sym (eqb-true (x + 1) n e), ap (λ (b : Bool). b || has xs x) (eq-eqb x x refl))
number_more x n xs more false e rest there = let found = rest there in (found.0, found.1, or_right (x == found.0) (has xs found.0) found.2)

number_of : (xs : List ℕ) (n : ℕ) → has (map (λ (x : ℕ). x + 1) xs) n ≡ true → IsNumberOf xs n
number_of [] n h = cc h
number_of (x ∷ xs) n h = number_more x n xs (has (map (λ (y : ℕ). y + 1) xs) n) (x + 1 == n) refl (λ there. number_of xs n there) h

of_more : (x k : ℕ) (xs : List ℕ) (more b : Bool) → (x == k) ≡ b → (more ≡ true → has (map (λ (y : ℕ). y + 1) xs) (k + 1) ≡ true) → (b || more) ≡ true
    → ((x + 1 == k + 1) || has (map (λ (y : ℕ). y + 1) xs) (k + 1)) ≡ true
of_more x k xs more true e rest there =
    ap (λ (b : Bool). b || has (map (λ (y : ℕ). y + 1) xs) (k + 1)) (eq-eqb (x + 1) (k + 1) (let same = eqb-true x k e in omega (arith, same)))
of_more x k xs more false e rest there = or_right (x + 1 == k + 1) (has (map (λ (y : ℕ). y + 1) xs) (k + 1)) (rest there)

of_number : (xs : List ℕ) (k : ℕ) → has xs k ≡ true → has (map (λ (x : ℕ). x + 1) xs) (k + 1) ≡ true
of_number [] k h = cc h
of_number (x ∷ xs) k h = of_more x k xs (has xs k) (x == k) refl (λ there. of_number xs k there) h

core_asks : (graph : List (List ℕ)) (core : Machine) (p : ℕ) → IsGraph graph → IsOver graph (machine_of core) → IsConsumed core
    → is_asked (machine_of core) p ≡ true → WantsOutcome core p
core_asks graph core p g over consumed asked =
    let own : IsGraph core.graph = subst IsGraph (sym over.graph_is) g in
    record { unknown = asked_unknown (machine_of core) p own asked; wanted = asked_is_wanted core p own consumed asked }

asks_core : (graph : List (List ℕ)) (core : Machine) (p : ℕ) → IsGraph graph → IsOver graph (machine_of core) → IsConsumed core
    → WantsOutcome core p → is_asked (machine_of core) p ≡ true
asks_core graph core p g over consumed wants =
    wanted_is_asked core p (subst IsGraph (sym over.graph_is) g)
    (subst (λ (x : List (List ℕ)). IsSearchOver x core.first.search) (sym over.graph_is) over.start) over.no_leg
    (subst (λ (x : List (List ℕ)). IsSearchOver x (core_run core).search) (sym over.graph_is) (search_over graph (machine_of core) g over))
    consumed wants.unknown wants.wanted

pub wanted_are : (s : Session) (p : ℕ) (found : List ℕ) → IsServing s → IsStrictlyIncreasing found → AreWanting s.many p found
    → map (λ (x : ℕ). x + 1) found ≡ wanted_from 1 (machines_of s.many) p
wanted_are s p found is rising wanting =
    same_members (map (λ (x : ℕ). x + 1) found) (wanted_from 1 (machines_of s.many) p) (rises_numbers found (rises_of found rising))
    (rises_from 1 (machines_of s.many) p)
    (λ n. both_true (has (map (λ (x : ℕ). x + 1) found) n) (has (wanted_from 1 (machines_of s.many) p) n) (to n) (from n))
  where
    to : (n : ℕ) → has (map (λ (x : ℕ). x + 1) found) n ≡ true → has (wanted_from 1 (machines_of s.many) p) n ≡ true
    to n h =
        let k = number_of found n h in
        let w = (wanting k.0).0 (contained_has k.0 found k.2) in
        let at = get-map machine_of s.many k.0 w.core w.at in
        subst (λ (x : ℕ). has (wanted_from 1 (machines_of s.many) p) x ≡ true) (let e = k.1 in omega (arith, e))
        (has_from 1 (machines_of s.many) p k.0 (machine_of w.core) at
        (asks_core s.history.now.parents w.core p is.parents
        (all_at (IsOver s.history.now.parents) (machines_of s.many) k.0 (machine_of w.core) is.over at)
        (all_at IsConsumed s.many k.0 w.core is.consumed w.at) w.wants))

    from : (n : ℕ) → has (wanted_from 1 (machines_of s.many) p) n ≡ true → has (map (λ (x : ℕ). x + 1) found) n ≡ true
    from n h =
        let w = from_has 1 (machines_of s.many) p n h in
        let core = core_of s.many w.index w.own w.at in
        let at = get-map machine_of s.many w.index core.0 core.1 in
        let asked : is_asked (machine_of core.0) p ≡ true = subst (λ (m : FarmMachine). is_asked m p ≡ true) core.2 w.asked in
        subst (λ (x : ℕ). has (map (λ (y : ℕ). y + 1) found) x ≡ true) (let e = w.number in omega (arith, e))
        (of_number found w.index (has_contained w.index found ((wanting w.index).1 (record {
          core = core.0;
          at = core.1;
          wants = core_asks s.history.now.parents core.0 p is.parents
              (all_at (IsOver s.history.now.parents) (machines_of s.many) w.index (machine_of core.0) is.over at)
              (all_at IsConsumed s.many w.index core.0 is.consumed core.1) asked;
        }))))

pub wanting_below : (s : Session) (p : ℕ) (found : List ℕ) → IsServing s → AreWanting s.many p found → All (λ k. k < 64) found
wanting_below s p found is wanting = λ i d l.
    let w = (wanting (get_or found i d)).0 (i, l, same found i d (get_or found i d) l) in
    let below = slice_get_within s.many (get_or found i d) w.core w.at in
    let few = is.few in
    omega (arith, below, few)
  where
    same : (xs : List ℕ) (i d e : ℕ) → i < length xs → get_or xs i (get_or xs i d) ≡ get_or xs i d
    same [] i d e l = absurd (omega (arith, l))
    same (x ∷ xs) zero d e l = refl
    same (x ∷ xs) (suc i) d e l = same xs i d e (omega (arith, l))

pub served_not_wanted : (s : Session) (commit : List ℕ) (before after : List ℕ) → IsServing s → place_of_commit s.history.now commit ≡ None
    → after ≡ before ++ reply_text (Refused (refusal_line NoSuchCommit)) → Serves (wanted_turn s.history.now (searches_in s) commit) s s before after
served_not_wanted s commit before after is none text =
    as_turn (wanted_turn s.history.now (searches_in s) commit) (refused_as (searches_in s) NoSuchCommit) s s before after
    (ap (wanted_of (searches_in s)) none) (served_refused s (refusal_line NoSuchCommit) before after is text)

pub served_wanted : (s : Session) (many : List Machine) (commit : List ℕ) (p : ℕ) (found numbers : List ℕ) (before after : List ℕ) → IsServing s
    → place_of_commit s.history.now commit ≡ Some p → AreSameButNodes s.many many → IsStrictlyIncreasing found → AreWanting s.many p found
    → numbers ≡ map (λ (x : ℕ). x + 1) found → after ≡ before ++ reply_text (WantedBy numbers)
    → Serves (wanted_turn s.history.now (searches_in s) commit) s (record s { many = many }) before after
served_wanted s many commit p found numbers before after is named same rising wanting numbered text =
    let machines : machines_of many ≡ machines_of s.many = same_machines s.many many same in
    let long : length many ≡ length s.many
    = sym (length-map many machine_of) ∙ ap (λ (x : List FarmMachine). length x) machines ∙ length-map s.many machine_of in
    as_turn (wanted_turn s.history.now (searches_in s) commit) (wanted_of (searches_in s) (Some p)) s (record s { many = many }) before after
    (ap (wanted_of (searches_in s)) named)
    (record {
      text = text ∙ ap (λ (ns : List ℕ). before ++ reply_text (WantedBy ns)) (numbered ∙ wanted_are s p found is rising wanting);
      searches = ap (λ (ms : List FarmMachine). record (searches_in s) { machines = ms }) machines;
      history = refl;
      serving = record {
        parents = is.parents;
        reach = is.reach;
        few = (let h = is.few in omega (arith, h, long));
        words = is.words;
        each = is.each ∙ sym long;
        consumed = all_consumed s.many many same is.consumed;
        over = subst (λ (x : List FarmMachine). All (IsOver s.history.now.parents) x) (sym machines) is.over;
        needless = is.needless ∙ ap (map needless) (sym machines);
        left = is.left ∙ ap (map left_in) (sym machines);
        lull = subst (λ (x : List FarmMachine). IfSome s.lull (IsLullOf x)) (sym machines) is.lull;
      };
    })

-- ---- what an outcome that is known from elsewhere leaves, as the calls have it

some_is : {X : Type 0} {x y : X} → Some x ≡ Some y → x ≡ y
some_is e = cc e

pub served_learnt : (s new : Session) (many : List Machine) (k p : ℕ) (outcome read : Outcome) (core : Machine) (o opening : Opening) (m : FarmMachine)
    (before mid after : List ℕ) → IsServing s → slice_get s.many k ≡ Some core → slice_get s.openings.items k ≡ Some o
    → slice_get s.openings.items k ≡ Some opening → slice_get (machines_of s.many) k ≡ Some m
    → has_outcome (machine_of core) p ≡ false → is_tested (machine_of core) p ≡ false → read ≡ read_by o outcome
    → LearnsAt s.many k p read many → All IsConsumed many
    → ((x : Machine) → slice_get many k ≡ Some x → TellsChange (record s { many = many }) new k o (machine_of core) (machine_of x) before mid)
    → after ≡ mid ++ reply_text Done → Serves (learned_of s.history.now (searches_in s) k p outcome opening m) s new before after
served_learnt s new many k p outcome read core o opening m before mid after is at opened opened_as at_m has_none free reads learns consumed told done =
    let H = s.history.now in
    let S = searches_in s in
    let now : FarmMachine = learned (machine_of core) p read in
    let to = learnt s many k p read core is at learns in
    let machine : machine_of core ≡ m = some_is (sym (get-map machine_of s.many k core at) ∙ at_m) in
    let same : o ≡ opening = some_is (sym opened ∙ opened_as) in
    subst (λ (x : FarmMachine). Serves (learned_of H S k p outcome opening x) s new before after) machine
    (subst (λ (x : Opening). Serves (learned_of H S k p outcome x (machine_of core)) s new before after) same
    (served_learned s new k p outcome o (machine_of core) before after has_none free
    (subst (λ (x : Outcome). Serves (changed H S k o (machine_of core) (learned (machine_of core) p x)) s new before after) reads
    (served_told s new many k core now o before mid after is to consumed
    (told to.change.after (after_at s.many many k (machine_of core) now to.change)) done))))

there : {X : Type 0} (xs : List X) (k : ℕ) → k < length xs → (x : X) × (slice_get xs k ≡ Some x)
there [] k l = absurd (omega (arith, l))
there (x ∷ xs) zero l = (x, refl)
there (x ∷ xs) (suc k) l = there xs k (omega (arith, l))

below : (s : Session) (n : ℕ) → 1 ≤ n → n ≤ length s.openings.items → n - 1 < length s.openings.items
below s n one few = omega (arith, one, few)

below_many : (s : Session) (n : ℕ) → IsServing s → 1 ≤ n → n ≤ length s.openings.items → n - 1 < length (machines_of s.many)
below_many s n is one few = let e = is.each in let long = length-map s.many machine_of in omega (arith, one, few, e, long)

by_parts : {X E : Type 0} (s new : Session) (n p : ℕ) (commit : List ℕ) (outcome : Outcome) (word : Result Outcome Refusal) (result : Result X E)
    (before after : List ℕ) → Some p ≡ place_of_commit s.history.now commit → word ≡ Ok outcome
    → (o : Opening) × (slice_get s.openings.items (n - 1) ≡ Some o) → (m : FarmMachine) × (slice_get (machines_of s.many) (n - 1) ≡ Some m)
    → ((opening : Opening) (m : FarmMachine) → slice_get s.openings.items (n - 1) ≡ Some opening → slice_get (machines_of s.many) (n - 1) ≡ Some m
    → OnOk result (Serves (learned_of s.history.now (searches_in s) (n - 1) p outcome opening m) s new before after))
    → OnOk result (Serves (learn_turn s.history.now (searches_in s) n commit word) s new before after)
by_parts s new n p commit outcome word (Err e) before after named is_outcome o m h = tt
by_parts s new n p commit outcome word (Ok x) before after named is_outcome o m h =
    subst (λ (r : Result Outcome Refusal). Serves (learn_turn s.history.now (searches_in s) n commit r) s new before after) (sym is_outcome)
    (served_learn s new n (n - 1) commit (Some p) (Ok outcome) o.0 m.0 before after refl o.1 m.1 named (h o.0 m.0 o.1 m.1))

-- an outcome of a commit, for the search of a number
pub served_number : {X E : Type 0} (s new : Session) (n p : ℕ) (commit : List ℕ) (outcome : Outcome) (word : Result Outcome Refusal) (result : Result X E)
    (before after : List ℕ) → IsServing s → 1 ≤ n → n ≤ length s.openings.items → Some p ≡ place_of_commit s.history.now commit → word ≡ Ok outcome
    → ((opening : Opening) (m : FarmMachine) → slice_get s.openings.items (n - 1) ≡ Some opening → slice_get (machines_of s.many) (n - 1) ≡ Some m
    → OnOk result (Serves (learned_of s.history.now (searches_in s) (n - 1) p outcome opening m) s new before after))
    → OnOk result (Serves (learn_turn s.history.now (searches_in s) n commit word) s new before after)
served_number s new n p commit outcome word result before after is one few named is_outcome h =
    by_parts s new n p commit outcome word result before after named is_outcome (there s.openings.items (n - 1) (below s n one few))
    (there (machines_of s.many) (n - 1) (below_many s n is one few)) h

by_refusal : (s : Session) (n p : ℕ) (commit : List ℕ) (refusal : Refusal) (word : Result Outcome Refusal)
    (before after : List ℕ) → IsServing s → Some p ≡ place_of_commit s.history.now commit → word ≡ Err refusal
    → (o : Opening) × (slice_get s.openings.items (n - 1) ≡ Some o) → (m : FarmMachine) × (slice_get (machines_of s.many) (n - 1) ≡ Some m)
    → after ≡ before ++ reply_text (Refused (refusal_line refusal))
    → Serves (learn_turn s.history.now (searches_in s) n commit word) s s before after
by_refusal s n p commit refusal word before after is named is_refusal o m text =
    subst (λ (r : Result Outcome Refusal). Serves (learn_turn s.history.now (searches_in s) n commit r) s s before after) (sym is_refusal)
    (served_learn s s n (n - 1) commit (Some p) (Err refusal) o.0 m.0 before after refl o.1 m.1 named
    (served_refused s (refusal_line refusal) before after is text))

-- a word that is no outcome
pub served_no_word : (s : Session) (n p : ℕ) (commit : List ℕ) (refusal : Refusal) (word : Result Outcome Refusal)
    (before after : List ℕ) → IsServing s → 1 ≤ n → n ≤ length s.openings.items → Some p ≡ place_of_commit s.history.now commit → word ≡ Err refusal
    → after ≡ before ++ reply_text (Refused (refusal_line refusal))
    → Serves (learn_turn s.history.now (searches_in s) n commit word) s s before after
served_no_word s n p commit refusal word before after is one few named is_refusal text =
    by_refusal s n p commit refusal word before after is named is_refusal (there s.openings.items (n - 1) (below s n one few))
    (there (machines_of s.many) (n - 1) (below_many s n is one few)) text
