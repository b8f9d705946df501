-- What a pick leaves.
use Rattle.std.proofs.Common.{◌≡◌, ℕ, zero, suc, ◌+◌, ◌<◌, Bool, true, false, cond, List, [], ◌∷◌, ◌++◌, length, map, set, All, get_or, Option, Some, None, refl, sym, ap, subst, ◌∙◌, arith}
use Rattle.std.proofs.Math.ListN.{length-set}
use Rattle.std.proofs.Math.Seq.{map-set_same}
use Rattle.std.proofs.lemmas.List.{length-map}
use Rattle.std.proofs.lemmas.List.Elements.{All-set}
use Rattle.std.proofs.lemmas.Option.{slice_get_within}
use Rattle.std.specs.List.{slice_get}
use Rattle.std.specs.Option.{IfSome}
use Rattle.bf_core.specs.Machine.{IsConsumed, Machine}
use Rattle.bf_graph.specs.Graph.{IsGraph}
use Rattle.bf_many.specs.Cores.{AreAllTaken, AreSameButNodes, HaveAllEnded, machine_of, machines_of}
use Rattle.bf_many.specs.Many.{FarmMachine, IsManyStep, is_busy}
use Rattle.bf_many.proofs.Picking.{all_at}
use Rattle.bf_many.proofs.Stepping.{same_machines}
use Rattle.bf_oid.specs.declared.object.Oid.{Oid}
use Rattle.hex.specs.Hex.{encode_lower, encode_with}
use Rattle.bf_history.specs.Meanings.{History}
use Rattle.bf_output.specs.Beginning.{commits_of}
use Rattle.bf_protocol.specs.declared.request.Refusal.TheVariants.{WorkerHasATest}
use Rattle.bf_protocol.specs.Events.{Over, Refused, Reply, Test, Wait, reply_text}
use Rattle.bf_protocol.specs.Requests.{refusal_line}
use Rattle.bf_search.specs.declared.farm.Claim.{Claim}
use Rattle.bf_search.specs.declared.farm.Event.TheVariants.{Claim as Claimed}
use Rattle.bf_search.specs.Farm.{Farm, step}
use Rattle.bf_search.specs.State.{IsSearchOver}
use Rattle.bf_terms.specs.Texts.{hex_of}
use Rattle.bf_serve.specs.declared.session.Lull.{Lull}
use Rattle.bf_serve.specs.declared.session.Lull.TheVariants as lulls
use Rattle.bf_serve.specs.declared.session.Session.{Session}
use Rattle.bf_serve.specs.Searches.{left_in, needless}
use Rattle.bf_serve.specs.Serving.{Task, have_ended, lull, pick_turn, picked, refused_as, task_from}
use Rattle.bf_serve.specs.Steps.{IsLullOf, IsOver, IsServing, Serves, reply_of, searches_in}
use Rattle.bf_serve.proofs.Asking.{best_is_asked}
use Rattle.bf_serve.proofs.Needless.{claimed_needless}
use Rattle.bf_serve.proofs.Picking.{all_ended, claimed_best, ended_none, next_task, no_task, one_goes_on, stepped_is}
use Rattle.bf_serve.proofs.Sessions.{as_turn, over_stepped, served_refused}

pub served_busy : (s : Session) (worker : ℕ) (before after : List ℕ) → IsServing s → is_busy (machines_of s.many) worker ≡ true
    → after ≡ before ++ reply_text (Refused (refusal_line WorkerHasATest)) → Serves (pick_turn (commits_of s.history.now) (searches_in s) worker) s s before after
served_busy s worker before after is busy text =
    as_turn (pick_turn (commits_of s.history.now) (searches_in s) worker) (refused_as (searches_in s) WorkerHasATest) s s before after
    (ap (λ (b : Bool). cond b (refused_as (searches_in s) WorkerHasATest)
    (picked (commits_of s.history.now) (searches_in s) worker (task_from 0 (machines_of s.many)))) busy)
    (served_refused s (refusal_line WorkerHasATest) before after is text)

pick_is : (s : Session) (worker : ℕ) (o : Option Task) → is_busy (machines_of s.many) worker ≡ false → task_from 0 (machines_of s.many) ≡ o
    → pick_turn (commits_of s.history.now) (searches_in s) worker ≡ picked (commits_of s.history.now) (searches_in s) worker o
pick_is s worker o free next =
    ap (λ (b : Bool). cond b (refused_as (searches_in s) WorkerHasATest)
    (picked (commits_of s.history.now) (searches_in s) worker (task_from 0 (machines_of s.many)))) free
    ∙ ap (picked (commits_of s.history.now) (searches_in s) worker) next

-- ---- a task

claimed_farm : (m : FarmMachine) (worker p : ℕ) (farm : Farm) → step m.setting m.farm (Claimed worker p) ≡ Some farm
    → record m.farm { claims = m.farm.claims ++ (record { worker = worker; place = p }) ∷ [] } ≡ farm
claimed_farm m worker p farm h = by _ h
  where
    by : (b : Bool) → cond b (Some (record m.farm { claims = m.farm.claims ++ (record { worker = worker; place = p }) ∷ [] })) None ≡ Some farm
        → record m.farm { claims = m.farm.claims ++ (record { worker = worker; place = p }) ∷ [] } ≡ farm
    by true e = cc e
    by false e = cc e

get_some : {X : Type 0} (xs : List X) (k : ℕ) (x d : X) → slice_get xs k ≡ Some x → get_or xs k d ≡ x
get_some [] k x d h = cc h
get_some (y ∷ ys) zero x d h = cc h
get_some (y ∷ ys) (suc k) x d h = get_some ys k x d h

-- a claim leaves the workers whose commits no path asks for
same_needless : (graph : List (List ℕ)) (ms : List FarmMachine) (k worker p : ℕ) (own : FarmMachine) (farm : Farm) → IsGraph graph → IsOver graph own
    → slice_get ms k ≡ Some own → step own.setting own.farm (Claimed worker p) ≡ Some farm
    → map needless (set ms k (record own { farm = farm })) ≡ map needless ms
same_needless graph ms k worker p own farm g over at legal =
    let c : Claim = record { worker = worker; place = p } in
    let asked = best_is_asked own p (subst IsGraph (sym over.graph_is) g)
    (subst (λ (x : List (List ℕ)). IsSearchOver x own.setting.start) (sym over.graph_is) over.start)
    (claimed_best own.setting own.farm farm worker p legal) in
    map-set_same needless ms k (record own { farm = farm }) own
    (ap (λ (f : Farm). needless (record own { farm = f })) (sym (claimed_farm own worker p farm legal)) ∙ claimed_needless own c asked
    ∙ sym (ap needless (get_some ms k own own at)))

-- and what is left
same_left : (ms : List FarmMachine) (k worker p : ℕ) (own : FarmMachine) (farm : Farm) → slice_get ms k ≡ Some own
    → step own.setting own.farm (Claimed worker p) ≡ Some farm → map left_in (set ms k (record own { farm = farm })) ≡ map left_in ms
same_left ms k worker p own farm at legal =
    map-set_same left_in ms k (record own { farm = farm }) own
    (ap (λ (f : Farm). left_in (record own { farm = f })) (sym (claimed_farm own worker p farm legal))
    ∙ sym (ap left_in (get_some ms k own own at)))

pub served_task : (s : Session) (many : List Machine) (worker k p : ℕ) (before after : List ℕ) → IsServing s → is_busy (machines_of s.many) worker ≡ false
    → s.lull ≡ None → IsManyStep (machines_of s.many) (record { search = k; event = Claimed worker p }) (machines_of many) → All IsConsumed many
    → after ≡ before ++ reply_text (Test (k + 1) (hex_of (commits_of s.history.now) p))
    → Serves (pick_turn (commits_of s.history.now) (searches_in s) worker) s (record s { many = many }) before after
served_task s many worker k p before after is free none taken consumed text =
    let own : FarmMachine = taken.advances.own in
    let farm : Farm = taken.advances.farm in
    let at : slice_get (machines_of s.many) k ≡ Some own = taken.advances.at in
    let rest : machines_of many ≡ set (machines_of s.many) k (record own { farm = farm }) = taken.advances.rest in
    let over = all_at (IsOver s.history.now.parents) (machines_of s.many) k own is.over at in
    let long : length many ≡ length s.many
    = sym (length-map many machine_of) ∙ ap (λ (l : List FarmMachine). length l) rest
    ∙ length-set (machines_of s.many) k (record own { farm = farm }) ∙ length-map s.many machine_of in
    as_turn (pick_turn (commits_of s.history.now) (searches_in s) worker)
    (picked (commits_of s.history.now) (searches_in s) worker (Some (record { search = k; own = own; place = p }))) s
    (record s { many = many }) before after
    (pick_is s worker (Some (record { search = k; own = own; place = p })) free
    (next_task (machines_of s.many) k own p worker farm taken.due.1 at taken.advances.legal))
    (record {
      text = text;
      searches = ap (λ (ms : List FarmMachine). record (searches_in s) { machines = ms })
          (rest ∙ ap (set (machines_of s.many) k) (sym (stepped_is own (Claimed worker p) farm taken.advances.legal)));
      history = refl;
      serving = record {
        parents = is.parents;
        reach = is.reach;
        few = (let h = is.few in omega (arith, h, long));
        words = is.words;
        each = is.each ∙ sym long;
        consumed = consumed;
        over = subst (λ (l : List FarmMachine). All (IsOver s.history.now.parents) l) (sym rest)
            (All-set (IsOver s.history.now.parents) (machines_of s.many) k (record own { farm = farm })
            (over_stepped s.history.now.parents own (Claimed worker p) farm over taken.advances.legal) is.over);
        needless = is.needless
            ∙ sym (same_needless s.history.now.parents (machines_of s.many) k worker p own farm is.parents over at taken.advances.legal)
            ∙ ap (map needless) (sym rest);
        left = is.left ∙ sym (same_left (machines_of s.many) k worker p own farm at taken.advances.legal) ∙ ap (map left_in) (sym rest);
        lull = subst (λ (x : Option Lull). IfSome x (IsLullOf (machines_of many))) (sym none) tt;
      };
    })

-- a search that is helped next is one of them
pub helped_below : (s : Session) (many : List Machine) (worker k p : ℕ) → IsServing s
    → IsManyStep (machines_of s.many) (record { search = k; event = Claimed worker p }) (machines_of many) → k < 64
helped_below s many worker k p is taken =
    let l = slice_get_within (machines_of s.many) k taken.advances.own taken.advances.at in
    let long : length (machines_of s.many) ≡ length s.many = length-map s.many machine_of in
    let few = is.few in
    omega (arith, l, long, few)

-- ---- a lull

lull_is : (ms : List FarmMachine) (b : Bool) → have_ended ms ≡ b → lull ms ≡ cond b Over Wait
lull_is ms b h = ap (λ (x : Bool). cond x Over Wait) h

pub all_taken : (s : Session) → IsServing s → AreAllTaken s.many → IsLullOf (machines_of s.many) lulls.Wait
all_taken s is taken = record {
  none = no_task s.many taken.none;
  reply = lull_is (machines_of s.many) false (one_goes_on s.many taken.which taken.core is.consumed taken.at taken.goes_on);
}

pub all_over : (s : Session) → IsServing s → HaveAllEnded s.many → IsLullOf (machines_of s.many) lulls.Over
all_over s is ended = record {
  none = no_task s.many (ended_none s.many is.consumed ended);
  reply = lull_is (machines_of s.many) true (all_ended s.many is.consumed ended);
}

no_pick : (s : Session) (worker : ℕ) (l : Lull) → is_busy (machines_of s.many) worker ≡ false → IsLullOf (machines_of s.many) l
    → pick_turn (commits_of s.history.now) (searches_in s) worker ≡ record { news = []; reply = reply_of l; searches = searches_in s }
no_pick s worker l free is =
    pick_is s worker None free is.none
    ∙ ap (λ (r : Reply). record { news = []; reply = r; searches = searches_in s }) is.reply

-- a pick that looked for work
pub served_rest : (s : Session) (many : List Machine) (worker : ℕ) (l : Lull) (before after : List ℕ) → IsServing s → is_busy (machines_of s.many) worker ≡ false
    → IsLullOf (machines_of s.many) l → AreSameButNodes s.many many → All IsConsumed many → after ≡ before ++ reply_text (reply_of l)
    → Serves (pick_turn (commits_of s.history.now) (searches_in s) worker) s (record s { many = many; lull = Some l }) before after
served_rest s many worker l before after is free none same consumed text =
    let machines : machines_of many ≡ machines_of s.many = same_machines s.many many same in
    let long : length many ≡ length s.many
    = sym (length-map many machine_of) ∙ ap (λ (x : List FarmMachine). length x) machines ∙ length-map s.many machine_of in
    as_turn (pick_turn (commits_of s.history.now) (searches_in s) worker) (record { news = []; reply = reply_of l; searches = searches_in s }) s
    (record s { many = many; lull = Some l }) before after (no_pick s worker l free none)
    (record {
      text = text;
      searches = ap (λ (ms : List FarmMachine). record (searches_in s) { machines = ms }) machines;
      history = refl;
      serving = record {
        parents = is.parents;
        reach = is.reach;
        few = (let h = is.few in omega (arith, h, long));
        words = is.words;
        each = is.each ∙ sym long;
        consumed = consumed;
        over = subst (λ (x : List FarmMachine). All (IsOver s.history.now.parents) x) (sym machines) is.over;
        needless = is.needless ∙ ap (map needless) (sym machines);
        left = is.left ∙ ap (map left_in) (sym machines);
        lull = subst (λ (x : List FarmMachine). IsLullOf x l) (sym machines) none;
      };
    })

-- a pick in a lull that is remembered
pub served_lull : (s : Session) (worker : ℕ) (l : Lull) (before after : List ℕ) → IsServing s → is_busy (machines_of s.many) worker ≡ false
    → s.lull ≡ Some l → after ≡ before ++ reply_text (reply_of l)
    → Serves (pick_turn (commits_of s.history.now) (searches_in s) worker) s s before after
served_lull s worker l before after is free remembered text =
    as_turn (pick_turn (commits_of s.history.now) (searches_in s) worker) (record { news = []; reply = reply_of l; searches = searches_in s }) s s before after
    (no_pick s worker l free (subst (λ (x : Option Lull). IfSome x (IsLullOf (machines_of s.many))) remembered is.lull))
    (record { text = text; searches = refl; history = refl; serving = is })

-- a place past the last has no name
none_named : {X : Type 0} (f : X → List ℕ) (xs : List X) (k : ℕ) → slice_get xs k ≡ None → get_or (map f xs) k [] ≡ []
none_named f [] k h = refl
none_named f (x ∷ xs) zero h = cc h
none_named f (x ∷ xs) (suc k) h = none_named f xs k h

pub no_digits : (history : History) (k : ℕ) → slice_get history.names k ≡ None → hex_of (commits_of history) k ≡ []
unfolding encode_with
no_digits history k h = ap encode_lower (none_named (λ (name : Oid). name.0) history.names k h)
