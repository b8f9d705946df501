-- What the calls of a session leave.
use Rattle.std.proofs.Common.{◌≡◌, ℕ, ◌+◌, ◌<◌, ◌≤◌, Bool, true, false, cond, not, ◌&&◌, List, [], ◌∷◌, ◌++◌, length, map, set, All, get_or, Option, Some, None, refl, sym, ap, subst, ◌∙◌, arith}
use Rattle.std.proofs.Math.ListN.{length-set}
use Rattle.std.proofs.lemmas.List.{length-map}
use Rattle.std.proofs.lemmas.List.Elements.{All-set}
use Rattle.std.proofs.lemmas.Option.{slice_get_read, slice_get_within}
use Rattle.std.specs.List.{slice_get}
use Rattle.std.specs.List.Sorted.{IsStrictlyIncreasing}
use Rattle.std.specs.Option.{IfSome}
use Rattle.bf_graph.specs.Graph.{IsGraph}
use Rattle.bf_history.specs.Meanings.{History}
use Rattle.bf_core.specs.Machine.{Machine, IsConsumed, IsStep, farm_of, IsLearnt}
use Rattle.bf_many.specs.Cores.{AreWithdrawnIn, DoesAt, LearnsAt, machine_of, machines_of}
use Rattle.bf_many.specs.Many.{FarmMachine}
use Rattle.bf_many.proofs.Lists.{get-map, get_replaced, set-map}
use Rattle.bf_many.proofs.Picking.{all_at}
use Rattle.bf_protocol.specs.Events.{Done, Refused, reply_text}
use Rattle.bf_search.specs.declared.farm.Event.{Event}
use Rattle.bf_search.specs.declared.farm.Event.TheVariants.{Claim as Claimed, Post as Posted, Give as Given}
use Rattle.bf_search.specs.declared.outcomes.Outcome.{Outcome}
use Rattle.bf_search.specs.Farm.{Farm, Setting, best_place, has_claim, is_best, stands, step, without}
use Rattle.bf_serve.specs.declared.opening.Opening.{Opening}
use Rattle.bf_serve.specs.declared.session.Lull.{Lull}
use Rattle.bf_serve.specs.declared.session.Session.{Session}
use Rattle.bf_serve.specs.declared.remaining.Remaining.{Remaining}
use Rattle.bf_serve.specs.Searches.{learned, left_in, needless, run_of}
use Rattle.bf_serve.specs.Serving.{changed, stepped}
use Rattle.bf_serve.specs.Steps.{CanTell, IsLullOf, IsOver, IsServing, Serves, TellsChange, searches_in}
use Rattle.bf_serve.specs.Turns.{Turn, news_of, refused, told_on}
use Rattle.bf_serve.proofs.Picking.{stepped_is}
use Rattle.bf_serve.proofs.Texts.{then_replied}

-- ---- a request that is refused

pub served_refused : (s : Session) (line : List ℕ) (before after : List ℕ) → IsServing s → after ≡ before ++ reply_text (Refused line)
    → Serves (refused (searches_in s) line) s s before after
served_refused s line before after is text = record { text = text; searches = refl; history = refl; serving = is }

pub as_turn : (t u : Turn) (s new : Session) (before after : List ℕ) → t ≡ u → Serves u s new before after → Serves t s new before after
as_turn t u s new before after same h = subst (λ (x : Turn). Serves x s new before after) (sym same) h

-- ---- one machine is another one

pub record IsChanged (old new : List Machine) (k : ℕ) (was now : FarmMachine) : Type 0 where
  pub before : Machine
  pub after : Machine
  pub at : slice_get old k ≡ Some before
  pub was_is : machine_of before ≡ was
  pub now_is : machine_of after ≡ now
  pub there : new ≡ set old k after

pub machines_changed : (old new : List Machine) (k : ℕ) (was now : FarmMachine) → IsChanged old new k was now → machines_of new ≡ set (machines_of old) k now
machines_changed old new k was now c =
    ap machines_of c.there ∙ set-map machine_of old k c.after ∙ ap (set (machines_of old) k) c.now_is

pub many_long : (old new : List Machine) (k : ℕ) (was now : FarmMachine) → IsChanged old new k was now → length new ≡ length old
many_long old new k was now c = ap (λ (l : List Machine). length l) c.there ∙ length-set old k c.after

pub changed_below : (old new : List Machine) (k : ℕ) (was now : FarmMachine) → IsChanged old new k was now → k < length old
changed_below old new k was now c = slice_get_within old k c.before c.at

pub machine_at : (old new : List Machine) (k : ℕ) (was now : FarmMachine) → IsChanged old new k was now → slice_get (machines_of old) k ≡ Some was
machine_at old new k was now c = get-map machine_of old k c.before c.at ∙ ap (λ (m : FarmMachine). Some m) c.was_is

some_machine : {x y : Machine} → Some x ≡ Some y → x ≡ y
some_machine e = cc e

pub now_at : (old new : List Machine) (k : ℕ) (was now : FarmMachine) (core : Machine) → IsChanged old new k was now → slice_get new k ≡ Some core
    → machine_of core ≡ now
now_at old new k was now core c at =
    ap machine_of (some_machine (sym at ∙ ap (λ (l : List Machine). slice_get l k) c.there ∙ get_replaced old c.before c.after k c.at)) ∙ c.now_is

-- ---- by an event, and by an outcome that is learned

some_farm : {x y : Farm} → Some x ≡ Some y → x ≡ y
some_farm e = cc e

chosen_table : (n : ℕ) (next x : Farm) (b : Bool) → length x.table ≡ n → cond b (Some x) None ≡ Some next → length next.table ≡ n
chosen_table n next x true long e = sym (ap (λ (f : Farm). length f.table) (some_farm e)) ∙ long
chosen_table n next x false long e = cc e

table_kept : (setting : Setting) (farm next : Farm) (event : Event) → step setting farm event ≡ Some next → length next.table ≡ length farm.table
table_kept setting farm next (Claimed worker p) h =
    chosen_table (length farm.table) next (record farm { claims = farm.claims ++ (record { worker = worker; place = p }) ∷ [] })
    (not (has_claim farm.claims worker) && is_best (best_place setting farm) p) refl h
table_kept setting farm next (Posted worker p outcome) h =
    chosen_table (length farm.table) next (record { table = set farm.table p (Some outcome); claims = without farm.claims worker })
    (stands farm.claims worker p) (length-set farm.table p (Some outcome)) h
table_kept setting farm next (Given worker p) h =
    chosen_table (length farm.table) next (record farm { claims = without farm.claims worker }) (stands farm.claims worker p) refl h

pub over_stepped : (graph : List (List ℕ)) (m : FarmMachine) (event : Event) (farm : Farm) → IsOver graph m → step m.setting m.farm event ≡ Some farm
    → IsOver graph (record m { farm = farm })
over_stepped graph m event farm h legal = record {
  graph_is = h.graph_is;
  start = h.start;
  no_leg = h.no_leg;
  places = table_kept m.setting m.farm farm event legal ∙ h.places;
}

pub over_learned : (graph : List (List ℕ)) (m : FarmMachine) (p : ℕ) (outcome : Outcome) → IsOver graph m → IsOver graph (learned m p outcome)
over_learned graph m p outcome h = record {
  graph_is = h.graph_is;
  start = h.start;
  no_leg = h.no_leg;
  places = length-set m.farm.table p (Some outcome) ∙ h.places;
}

machine_after : (before after : Machine) (event : Event) → IsStep before event after → machine_of after ≡ stepped (machine_of before) event
machine_after before after event taken =
    ap (λ (x : Setting). record { setting = x; farm = farm_of after }) taken.setting
    ∙ sym (stepped_is (machine_of before) event (farm_of after) taken.farm)

pub record IsTo (s : Session) (many : List Machine) (k : ℕ) (core : Machine) (now : FarmMachine) : Type 0 where
  pub change : IsChanged s.many many k (machine_of core) now
  pub over : IsOver s.history.now.parents now

over_core : (s : Session) (k : ℕ) (core : Machine) → IsServing s → slice_get s.many k ≡ Some core → IsOver s.history.now.parents (machine_of core)
over_core s k core is at =
    all_at (IsOver s.history.now.parents) (machines_of s.many) k (machine_of core) is.over (get-map machine_of s.many k core at)

-- a core did an event
pub did : (s : Session) (many : List Machine) (k : ℕ) (core : Machine) (event : Event) → IsServing s → slice_get s.many k ≡ Some core
    → DoesAt s.many k event many → IsTo s many k core (stepped (machine_of core) event)
did s many k core event is at does =
    let same : does.before ≡ core = some_machine (sym does.at ∙ at) in
    let farm : Farm = farm_of does.after in
    record {
      change = record {
        before = does.before;
        after = does.after;
        at = does.at;
        was_is = ap machine_of same;
        now_is = machine_after does.before does.after event does.so ∙ ap (λ (c : Machine). stepped (machine_of c) event) same;
        there = does.rest;
      };
      over = subst (λ (c : Machine). IsOver s.history.now.parents (stepped (machine_of c) event)) same
          (subst (IsOver s.history.now.parents) (sym (stepped_is (machine_of does.before) event farm does.so.farm))
          (over_stepped s.history.now.parents (machine_of does.before) event farm (over_core s k does.before is does.at) does.so.farm));
    }

learned_after : (before after : Machine) (p : ℕ) (outcome : Outcome) → IsLearnt before p outcome after → machine_of after ≡ learned (machine_of before) p outcome
learned_after before after p outcome h = λ i. record { setting = h.setting i; farm = h.farm i }

-- a core learned an outcome
pub learnt : (s : Session) (many : List Machine) (k p : ℕ) (outcome : Outcome) (core : Machine) → IsServing s → slice_get s.many k ≡ Some core
    → LearnsAt s.many k p outcome many → IsTo s many k core (learned (machine_of core) p outcome)
learnt s many k p outcome core is at learns =
    let same : learns.before ≡ core = some_machine (sym learns.at ∙ at) in
    record {
      change = record {
        before = learns.before;
        after = learns.after;
        at = learns.at;
        was_is = ap machine_of same;
        now_is = learned_after learns.before learns.after p outcome learns.so ∙ ap (λ (c : Machine). learned (machine_of c) p outcome) same;
        there = learns.rest;
      };
      over = over_learned s.history.now.parents (machine_of core) p outcome (over_core s k core is at);
    }

-- ---- what a session keeps

pub over_changed : (s : Session) (many : List Machine) (k : ℕ) (was now : FarmMachine) → IsServing s → IsChanged s.many many k was now
    → IsOver s.history.now.parents now → All (IsOver s.history.now.parents) (machines_of many)
over_changed s many k was now is c over =
    subst (λ (l : List FarmMachine). All (IsOver s.history.now.parents) l) (sym (machines_changed s.many many k was now c))
    (All-set (IsOver s.history.now.parents) (machines_of s.many) k now over is.over)

pub needless_long : (s : Session) → IsServing s → length s.needless.items ≡ length s.many
needless_long s is =
    ap (λ (l : List (List ℕ)). length l) is.needless ∙ length-map (machines_of s.many) needless ∙ length-map s.many machine_of

left_long : (s : Session) → IsServing s → length s.left.items ≡ length s.many
left_long s is =
    ap (λ (l : List Remaining). length l) is.left ∙ length-map (machines_of s.many) left_in ∙ length-map s.many machine_of

pub can_tell : (s : Session) (many : List Machine) (k : ℕ) (core : Machine) (now : FarmMachine) (workers : List ℕ) → IsServing s → IsTo s many k core now
    → All IsConsumed many → IsStrictlyIncreasing workers → AreWithdrawnIn many k workers → CanTell (record s { many = many }) k workers
can_tell s many k core now workers is to consumed rising withdrawn =
    let long : length many ≡ length s.many = many_long s.many many k (machine_of core) now to.change in
    record {
      parents = is.parents;
      reach = is.reach;
      few = (let h = is.few in omega (arith, h, long));
      each = is.each ∙ sym long;
      idle = needless_long s is ∙ sym long;
      left = left_long s is ∙ sym long;
      consumed = consumed;
      over = over_changed s many k (machine_of core) now is to.change to.over;
      below = (let l = changed_below s.many many k (machine_of core) now to.change in omega (arith, l, long));
      rising = rising;
      withdrawn = withdrawn;
    }

no_lull : (o : Option Lull) (ms : List FarmMachine) → o ≡ None → IfSome o (IsLullOf ms)
no_lull o ms none = subst (λ (x : Option Lull). IfSome x (IsLullOf ms)) (sym none) tt

-- a session that told of a search whose machine has changed
pub served_change : (s new : Session) (many : List Machine) (k : ℕ) (core : Machine) (now : FarmMachine) (o : Opening) (before mid after : List ℕ) → IsServing s
    → IsTo s many k core now → All IsConsumed many → TellsChange (record s { many = many }) new k o (machine_of core) now before mid
    → after ≡ mid ++ reply_text Done → Serves (changed s.history.now (searches_in s) k o (machine_of core) now) s new before after
served_change s new many k core now o before mid after is to consumed told done =
    let machines : machines_of new.many ≡ set (machines_of s.many) k now
    = ap machines_of told.many ∙ machines_changed s.many many k (machine_of core) now to.change in
    let long : length many ≡ length s.many = many_long s.many many k (machine_of core) now to.change in
    let longer : length new.many ≡ length s.many = ap (λ (l : List Machine). length l) told.many ∙ long in
    let opened : Opening = told_on o (run_of (machine_of core)) (run_of now) in
    record {
      text = then_replied (news_of s.history.now (k + 1) o (machine_of core) now) (reply_text Done) before mid after told.tells done;
      searches = λ i. record { openings = told.openings i; machines = machines i; pending = told.pending i };
      history = told.history;
      serving = record {
        parents = subst (λ (h : History). IsGraph h.parents) (sym told.history) is.parents;
        reach = told.reach ∙ is.reach ∙ ap (λ (h : History). h.parents) (sym told.history);
        few = (let h = is.few in omega (arith, h, longer));
        words = subst (λ (l : List (List ℕ)). length l ≤ 1000000) (sym told.pending) is.words;
        each = ap (λ (l : List Opening). length l) told.openings ∙ length-set s.openings.items k opened ∙ is.each ∙ sym longer;
        consumed = subst (λ (l : List Machine). All IsConsumed l) (sym told.many) consumed;
        over = subst (λ (h : History). All (IsOver h.parents) (machines_of new.many)) (sym told.history)
            (subst (λ (l : List Machine). All (IsOver s.history.now.parents) (machines_of l)) (sym told.many)
            (over_changed s many k (machine_of core) now is to.change to.over));
        needless = told.needless ∙ ap (λ (l : List (List ℕ)). set l k (needless now)) is.needless
            ∙ sym (set-map needless (machines_of s.many) k now) ∙ ap (map needless) (sym machines);
        left = told.left ∙ ap (λ (l : List Remaining). set l k (left_in now)) is.left
            ∙ sym (set-map left_in (machines_of s.many) k now) ∙ ap (map left_in) (sym machines);
        lull = no_lull new.lull (machines_of new.many) told.lull;
      };
    }

-- ---- what the calls ask for

pub over_at : (s : Session) (k : ℕ) (core : Machine) → IsServing s → slice_get s.many k ≡ Some core → IsOver s.reach.now (machine_of core)
over_at s k core is at = subst (λ (graph : List (List ℕ)). IsOver graph (machine_of core)) (sym is.reach) (over_core s k core is at)

pub after_at : (old new : List Machine) (k : ℕ) (was now : FarmMachine) → (c : IsChanged old new k was now) → slice_get new k ≡ Some c.after
after_at old new k was now c = ap (λ (l : List Machine). slice_get l k) c.there ∙ get_replaced old c.before c.after k c.at

pub idle_at : (s : Session) (k : ℕ) (core : Machine) → IsServing s → slice_get s.many k ≡ Some core
    → slice_get s.needless.items k ≡ Some (needless (machine_of core))
idle_at s k core is at =
    ap (λ (l : List (List ℕ)). slice_get l k) is.needless
    ∙ get-map needless (machines_of s.many) k (machine_of core) (get-map machine_of s.many k core at)

-- what is left of a search, as the session remembers it
pub left_at : (s : Session) (k : ℕ) (core : Machine) → IsServing s → slice_get s.many k ≡ Some core → slice_get s.left.items k ≡ Some (left_in (machine_of core))
left_at s k core is at =
    ap (λ (l : List Remaining). slice_get l k) is.left
    ∙ get-map left_in (machines_of s.many) k (machine_of core) (get-map machine_of s.many k core at)

some_left : {x y : Remaining} → Some x ≡ Some y → x ≡ y
some_left e = cc e

pub left_below : (s : Session) (k : ℕ) (core : Machine) → IsServing s → slice_get s.many k ≡ Some core → k < length s.left.items
left_below s k core is at = slice_get_within s.left.items k (left_in (machine_of core)) (left_at s k core is at)

pub left_read : (s : Session) (k : ℕ) (core : Machine) (remaining : Remaining) → IsServing s → slice_get s.many k ≡ Some core
    → remaining ≡ get_or s.left.items k remaining → remaining ≡ left_in (machine_of core)
left_read s k core remaining is at read =
    some_left (sym (slice_get_read s.left.items (length s.left.items) k remaining refl (left_below s k core is at) read) ∙ left_at s k core is at)

pub served_told : (s new : Session) (many : List Machine) (k : ℕ) (core : Machine) (now : FarmMachine) (o : Opening) (before mid after : List ℕ) → IsServing s
    → (to : IsTo s many k core now) → All IsConsumed many
    → TellsChange (record s { many = many }) new k o (machine_of core) (machine_of to.change.after) before mid
    → after ≡ mid ++ reply_text Done → Serves (changed s.history.now (searches_in s) k o (machine_of core) now) s new before after
served_told s new many k core now o before mid after is to consumed told done =
    served_change s new many k core now o before mid after is to consumed
    (subst (λ (m : FarmMachine). TellsChange (record s { many = many }) new k o (machine_of core) m before mid) to.change.now_is told) done
