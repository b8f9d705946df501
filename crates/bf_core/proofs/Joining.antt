-- A core goes on with its run: what was consumed before, and a walk from the root of its tree.
use Rattle.std.proofs.Common.{◌≡◌, ◌≢◌, ℕ, zero, suc, ◌+◌, ◌-◌, ◌↔◌, Bool, true, false, is_some, List, [], ◌∷◌, ◌++◌, length, drop, map, Option, Some, None}
use Rattle.std.proofs.Common.{Result, Ok, Err, refl, sym, ap, ◌∙◌, subst, length-append, arith}
use Rattle.std.specs.Result.{IfOk, OnOk, OnErr}
use Rattle.std.specs.List.{All, Contains}
use Rattle.std.proofs.lemmas.Bool.{both_ways}
use Rattle.std.proofs.lemmas.List.Elements.{All-contains}
use Rattle.bf_graph.specs.Graph.{IsGraph}
use Rattle.bf_search.specs.declared.entries.Entry.{Entry}
use Rattle.bf_search.specs.declared.entries.Entry.TheVariants.{SkippedBase}
use Rattle.bf_search.specs.declared.farm.Claim.{Claim}
use Rattle.bf_search.specs.declared.farm.Ending.{Ending}
use Rattle.bf_search.specs.declared.outcomes.Mark.{Mark}
use Rattle.bf_search.specs.declared.outcomes.Outcome.{Outcome}
use Rattle.bf_search.specs.Outcomes.{Outcomes, outcomes_of_table}
use Rattle.bf_search.specs.State.{Search, Asked, IsSearchOver, ask}
use Rattle.bf_search.specs.Run.{End, Answered, Leg, Open, Aborted, Run, with_entries, leg_of, left_after, run}
use Rattle.bf_search.specs.Farm.{Setting, consumed}
use Rattle.bf_state.specs.Runs.{is_open, is_unfinished, in_sequence}
use Rattle.bf_state.specs.Session.{Session, with_search}
use Rattle.bf_state.proofs.Asks.{ask_leaves, decision_within}
use Rattle.bf_state.proofs.Causes.{used_are_marked}
use Rattle.bf_state.proofs.Tables.{seq_ends_alike}
use Rattle.bf_spec.specs.Walks.{Tells}
use Rattle.bf_spec.specs.Tree.{Guesses}
use Rattle.bf_spec.specs.Guessed.{asked_at}
use Rattle.bf_state.specs.Ends.{marks_of}
use Rattle.bf_spec.specs.Ways.{IsAsked}
use Rattle.bf_spec.specs.declared.follow.Walked.{Walked}
use Rattle.bf_core.specs.declared.consuming.Consumed.{Consumed}
use Rattle.bf_core.specs.Claims.{KeepsNodes, IsSameTree, IsIdle, IsIdleWorker, has_ended, GoesOn}
use Rattle.bf_core.specs.Consuming.{marks_since, Asks, HasAsked, IsAtRoot, IsRun, IsRunOn, IsSameRun, IsJoined, Begins, Consumes, IsUnwanted}
use Rattle.bf_state.specs.Ends.{IsUnspent}
use Rattle.bf_state.proofs.Legs.{run_follows, run_asked}
use Rattle.bf_core.proofs.Beside.{goes_told}
use Rattle.bf_core.proofs.Passing.{asked_here, run_passes}

-- ---- what stays

pub same_tree_trans : (a b c : Guesses) → IsSameTree a b → IsSameTree b c → IsSameTree a c
same_tree_trans a b c h k = record {
  graph = k.graph ∙ h.graph;
  session = k.session ∙ h.session;
  root = k.root ∙ h.root;
  kept = λ path p. k.kept path (h.kept path p);
}

-- an ask that stands for other names of the same
has_asked : (a b : Asked) (g k : List (List ℕ)) (s t : Session) → b ≡ a → k ≡ g → t ≡ s → a.search ≡ (ask g s.search).search
    → b.search ≡ (ask k t.search).search
has_asked a b g k s t root graph state h =
    ap (λ (x : Asked). x.search) root ∙ h ∙ ap (λ (x : List (List ℕ)). (ask x s.search).search) (sym graph)
    ∙ ap (λ (x : Session). (ask k x.search).search) (sym state)

-- an ask of the root stands where nothing but nodes has changed
pub asked_along : (core : Consumed) (tree : Guesses) → IsSameTree core.tree tree → HasAsked core → HasAsked (record core { tree = tree })
asked_along core tree same h = has_asked core.tree.root tree.root core.tree.graph tree.graph core.state core.state same.root same.graph refl h

-- what a run has come to is kept where nothing but nodes has changed
pub same_is_run : (setting : Setting) (first : Session) (r : Run) (old new : Consumed) → IsSameRun old new → IsRun setting first r old
    → IsRun setting first r new
same_is_run setting first r old new same h = record {
  graph = same.tree.graph ∙ h.graph;
  session = h.session ∙ ap (λ (s : Session). with_search s setting.start) (sym same.tree.session);
  entries = same.entries ∙ h.entries;
  state = same.state ∙ h.state;
  ending = subst (λ (e : Option Ending). Tells e r.end) (sym same.ending) h.ending;
  waits = λ p e. let at = h.waits p e in record { search = ap (λ (a : Asked). a.search) same.tree.root ∙ at.search; left = same.left ∙ at.left };
  asked = has_asked old.tree.root new.tree.root old.tree.graph new.tree.graph old.state new.state same.tree.root same.tree.graph same.state h.asked;
}

-- ---- ends

pub told_open : (end : End) → Tells None end → (p : ℕ) × (end ≡ Open p)
told_open (Open p) h = (p, refl)
told_open (Answered a) h = cc
told_open Leg h = cc
told_open (Aborted p outcome) h = cc

told_closed : (o : Option Ending) (end : End) → is_some o ≡ true → Tells o end → is_open end ≡ false
told_closed None end e h = cc
told_closed (Some ending) end e h = h.1

-- a run that has ended is the same where more outcomes are known
pub ended_consumes : (old new : Consumed) (table : List (Option Outcome)) → is_some old.ending ≡ true → IsSameRun old new → Consumes old table new
ended_consumes old new table e same = λ setting first before g over part h.
    subst (λ (r : Run). IsRun setting first r new)
    (sym (seq_ends_alike setting.graph setting.start (outcomes_of_table before) (outcomes_of_table table) setting.leg part
    (told_closed old.ending (consumed setting before).end e h.ending)))
    (same_is_run setting first (consumed setting before) old new same h)

-- ---- a walk

-- a walk from the root of a tree is this run
pub record IsWalk (tree : Guesses) (known : Outcomes) (left : Option ℕ) (walked : Walked) (r : Run) : Type 0 where
  pub is : r ≡ run tree.graph known left tree.root.search
  pub entries : walked.entries.items ≡ r.entries
  pub ending : Tells walked.ending r.end
  pub state : walked.state ≡ with_search tree.session r.search
  pub path : walked.path.items ≡ marks_of r.entries
  pub there : r.end ≢ Leg → (asked_at tree.graph tree.root walked.path.items).search ≡ r.search
  pub asked : (asked_at tree.graph tree.root walked.path.items).search ≡ (ask tree.graph r.search).search

left_after-again : (left : Option ℕ) (n m : ℕ) → left_after (left_after left n) m ≡ left_after left (n + m)
left_after-again None n m = refl
left_after-again (Some k) n m = let e : k - n - m ≡ k - (n + m) = omega arith in ap (λ (x : ℕ). Some x) e

open_no_leg : (end : End) (p : ℕ) → end ≡ Open p → end ≢ Leg
open_no_leg end p e h = cc

-- the whole run is this many used outcomes and these entries, and then the walk
pub record IsWhole (whole r : Run) (entries : List Entry) (count : ℕ) : Type 0 where
  pub entries_are : whole.entries ≡ entries ++ r.entries
  pub used : length whole.used ≡ count + length r.used
  pub search : whole.search ≡ r.search
  pub end : whole.end ≡ r.end

-- while a run waits, a walk has a mark for each outcome that it used
counted : (tree : Guesses) (known : Outcomes) (left : Option ℕ) (walked : Walked) (r : Run) → IsWalk tree known left walked r
    → is_unfinished r.end ≡ true → length walked.path.items ≡ length r.used
counted tree known left walked r walk on =
    ap (λ (ms : List Mark). length ms) walk.path
    ∙ sym (subst (λ (x : Run). is_unfinished x.end ≡ true → length x.used ≡ length (marks_of x.entries)) (sym walk.is)
    (used_are_marked known tree.graph left tree.root.search) on)

pub joined_is_run : (setting : Setting) (first : Session) (whole r : Run) (tree : Guesses) (entries : List Entry) (count : ℕ) (left : Option ℕ)
    (known : Outcomes) (walked : Walked) (new : Consumed)
    → tree.graph ≡ setting.graph → first ≡ with_search tree.session setting.start → left ≡ left_after (leg_of setting.leg) count
    → IsWhole whole r entries count → IsWalk tree known left walked r → IsJoined tree entries left walked new → IsRun setting first whole new
joined_is_run setting first whole r tree entries count left known walked new on_graph on_session on_left w walk joined = record {
  graph = joined.graph ∙ on_graph;
  session = on_session ∙ ap (λ (s : Session). with_search s setting.start) (sym joined.session);
  entries = joined.entries ∙ ap (λ (es : List Entry). entries ++ es) walk.entries ∙ sym w.entries_are;
  state = joined.state ∙ walk.state ∙ sym (ap (λ (s : Session). with_search s whole.search) on_session ∙ ap (λ (s : Search). with_search tree.session s)
      w.search);
  ending = subst (λ (o : Option Ending). Tells o whole.end) (sym joined.ending) (subst (λ (e : End). Tells walked.ending e) (sym w.end) walk.ending);
  waits = λ p e. record {
    search = ap (λ (a : Asked). a.search) joined.root ∙ walk.there (open_no_leg r.end p (sym w.end ∙ e)) ∙ sym w.search;
    left = joined.left
        ∙ ap (λ (l : Option ℕ). left_after l (length walked.path.items)) on_left
        ∙ left_after-again (leg_of setting.leg) count (length walked.path.items)
        ∙ ap (λ (n : ℕ). left_after (leg_of setting.leg) n)
        (ap (λ (n : ℕ). count + n) (counted tree known left walked r walk (ap is_unfinished (sym w.end ∙ e))) ∙ sym w.used);
  };
  asked = has_asked (asked_at tree.graph tree.root walked.path.items) new.tree.root tree.graph new.tree.graph (with_search tree.session r.search) new.state
      joined.root joined.graph (joined.state ∙ walk.state) walk.asked;
}

-- the entries of a run before another
after_length : (xs ys : List Entry) → drop (length xs) (xs ++ ys) ≡ ys
after_length [] ys = refl
after_length (x ∷ xs) ys = after_length xs ys

-- a run that waits goes on with a walk from its root
pub waiting_consumes : (old mid new : Consumed) (table : List (Option Outcome)) (walked : Walked) (r : Run) → old.ending ≡ None → IsSameRun old mid
    → IsWalk mid.tree (outcomes_of_table table) mid.left walked r → IsJoined mid.tree mid.entries.items mid.left walked new → Consumes old table new
waiting_consumes old mid new table walked r waits same walk joined = λ setting first before g over part h.
    let b : IsRun setting first (consumed setting before) mid = same_is_run setting first (consumed setting before) old mid same h in
    let none : Tells None (consumed setting before).end = subst (λ (o : Option Ending). Tells o (consumed setting before).end) (same.ending ∙ waits) b.ending in
    let place = told_open (consumed setting before).end none in
    let at : IsAtRoot setting (consumed setting before) mid = b.waits place.0 place.1 in
    let rest : run setting.graph (outcomes_of_table table) (left_after (leg_of setting.leg) (length (consumed setting before).used))
    (consumed setting before).search ≡ r
    = sym (walk.is
    ∙ ap (λ (g : List (List ℕ)). run g (outcomes_of_table table) mid.left mid.tree.root.search) b.graph
    ∙ ap (λ (l : Option ℕ). run setting.graph (outcomes_of_table table) l mid.tree.root.search) at.left
    ∙ ap (λ (s : Search). run setting.graph (outcomes_of_table table) (left_after (leg_of setting.leg) (length (consumed setting before).used)) s) at.search) in
    let whole : consumed setting table ≡ in_sequence (consumed setting before) r
    = run_follows setting.graph (outcomes_of_table before) (outcomes_of_table table) g part (leg_of setting.leg) setting.start over none
    ∙ ap (λ (x : Run). in_sequence (consumed setting before) x) rest in
    subst (λ (x : Run). IsRun setting first x new) (sym whole)
    (joined_is_run setting first (in_sequence (consumed setting before) r) r mid.tree mid.entries.items (length (consumed setting before).used) mid.left
    (outcomes_of_table table) walked new
    b.graph b.session at.left
    (record {
      entries_are = ap (λ (es : List Entry). es ++ r.entries) (sym b.entries);
      used = length-append (consumed setting before).used r.used;
      search =
          refl;
      end = refl;
    })
    walk joined)

-- ---- the first walk

-- what an ask leaves is over the graph
over_asked : (graph : List (List ℕ)) (s : Search) → IsGraph graph → IsSearchOver graph s → IsSearchOver graph (ask graph s).search
over_asked graph s g over =
    subst (λ (t : Search). IsSearchOver graph t) (sym (ask_leaves graph s))
    (record {
      bad = over.bad;
      goods = over.goods;
      skips = over.skips;
      expected = decision_within graph s (ask graph s).search.checked (ask graph s).step g
          (record { checked = refl; step = refl });
    })

unspent : (leg : ℕ) → IsUnspent (leg_of leg)
unspent zero = tt
unspent (suc k) = tt

left_after-none : (left : Option ℕ) → left_after left 0 ≡ left
left_after-none None = refl
left_after-none (Some k) = let e : k - 0 ≡ k = omega arith in ap (λ n. Some n) e

pub first_begins : (tree : Guesses) (table : List (Option Outcome)) (leg : ℕ) (entries : List Entry) (walked : Walked) (r : Run) (new : Consumed)
    → entries ≡ map (λ p. SkippedBase p) tree.root.step.warned
    → IsWalk tree (outcomes_of_table table) (leg_of leg) walked r → IsJoined tree entries (leg_of leg) walked new → Begins tree table leg new
first_begins tree table leg entries walked r new warned walk joined = λ s g over is.
    let known : Outcomes = outcomes_of_table table in
    let rest : run tree.graph known (leg_of leg) (ask tree.graph s).search ≡ r = sym
    (walk.is ∙ ap (λ (a : Asked). run tree.graph known (leg_of leg) a.search) is) in
    let warnings : map (λ p. SkippedBase p) (ask tree.graph s).step.warned ≡ entries = sym
    (warned ∙ ap (λ (a : Asked). map (λ p. SkippedBase p) a.step.warned) is) in
    let whole : run tree.graph known (leg_of leg) s ≡ with_entries entries r
    = run_asked tree.graph known (leg_of leg) s g over (over_asked tree.graph s g over) (unspent leg)
    ∙ ap (λ (x : Run). with_entries (map (λ p. SkippedBase p) (ask tree.graph s).step.warned) x) rest
    ∙ ap (λ (es : List Entry). with_entries es r) warnings in
    subst (λ (x : Run). IsRun (record { graph = tree.graph; start = s; leg = leg }) (with_search tree.session s) x new) (sym whole)
    (joined_is_run (record { graph = tree.graph; start = s; leg = leg }) (with_search tree.session s) (with_entries entries r) r tree entries 0 (leg_of leg)
    known walked new
    refl refl (sym (left_after-none (leg_of leg))) (record { entries_are = refl; used = omega arith; search = refl; end = refl }) walk joined)

-- ---- nodes and workers

pub joined_nodes : (old mid new : Consumed) (walked : Walked) (r : Run) (known : Outcomes) → IsSameRun old mid → IsWalk mid.tree known mid.left walked r
    → IsJoined mid.tree mid.entries.items mid.left walked new
    → KeepsNodes old.tree.paths (marks_since old.entries.items new.entries.items) new.tree.paths
joined_nodes old mid new walked r known same walk joined = λ path h.
    let added : new.entries.items ≡ old.entries.items ++ walked.entries.items = joined.entries ∙ ap (λ (es : List Entry). es ++ walked.entries.items)
    same.entries in
    let marks : marks_since old.entries.items new.entries.items ≡ walked.path.items
    = ap (λ (es : List Entry). marks_of (drop (length old.entries.items) es)) added
    ∙ ap marks_of (after_length old.entries.items walked.entries.items ∙ walk.entries) ∙ sym walk.path in
    joined.nodes path (same.tree.kept (walked.path.items ++ path) (subst (λ (ms : List Mark). Contains old.tree.paths (ms ++ path)) marks h))

nothing_since : (xs : List Entry) → drop (length xs) xs ≡ []
nothing_since [] = refl
nothing_since (x ∷ xs) = nothing_since xs

pub same_nodes : (old : Consumed) (tree : Guesses) → IsSameTree old.tree tree
    → KeepsNodes old.tree.paths (marks_since old.entries.items old.entries.items) tree.paths
same_nodes old tree same = λ path h. same.kept path
    (subst (λ (ms : List Mark). Contains old.tree.paths (ms ++ path)) (ap marks_of (nothing_since old.entries.items)) h)

-- a claim of a place without an outcome
abbrev IsUnwantedPlace : Consumed → Outcomes → ℕ → Type 0
IsUnwantedPlace core known p = has_ended core.ending ≡ false → ¬ IsAsked core.tree.graph known core.state.search p

asked_on : (graph : List (List ℕ)) (known : Outcomes) (s t : Search) (p : ℕ) → s ≡ t → IsAsked graph known s p → IsAsked graph known t p
asked_on graph known s t p e h = subst (λ (x : Search). IsAsked graph known x p) e h

module _ (mid new : Consumed) (table : List (Option Outcome)) (walked : Walked) (r : Run) (walk : IsWalk mid.tree (outcomes_of_table table) mid.left walked r)
    (joined : IsJoined mid.tree mid.entries.items mid.left walked new) where
  state_is : new.state.search ≡ (run mid.tree.graph (outcomes_of_table table) mid.left mid.tree.root.search).search
  state_is = ap (λ (s : Session). s.search) (joined.state ∙ walk.state) ∙ ap (λ (x : Run). x.search) walk.is

  goes_at : has_ended walked.ending ≡ false → GoesOn (run mid.tree.graph (outcomes_of_table table) mid.left mid.tree.root.search).end
  goes_at e = subst GoesOn (ap (λ (x : Run). x.end) walk.is) (goes_told walked.ending r.end walk.ending e)

  idle_unwanted : (b : Bool) (p : ℕ) → has_ended walked.ending ≡ b → outcomes_of_table table p ≡ None → IsIdle mid.tree table b p
      → IsUnwantedPlace new (outcomes_of_table table) p
  idle_unwanted false p e unknown idle = λ here asked.
      idle ((run_passes mid.tree.graph (outcomes_of_table table) mid.left mid.tree.root.search (goes_at e)).back p
      (subst (λ (g : List (List ℕ)). IsAsked g (outcomes_of_table table) (run mid.tree.graph (outcomes_of_table table) mid.left mid.tree.root.search).search p)
      joined.graph
      (asked_on new.tree.graph (outcomes_of_table table) new.state.search (run mid.tree.graph (outcomes_of_table table) mid.left mid.tree.root.search).search p
      state_is asked)))
  idle_unwanted true p e unknown idle = λ here asked. both_ways (has_ended walked.ending) (ap has_ended (sym joined.ending) ∙ here) e

  unwanted_idle : (b : Bool) (p : ℕ) → has_ended walked.ending ≡ b → outcomes_of_table table p ≡ None → IsUnwantedPlace new (outcomes_of_table table) p
      → IsIdle mid.tree table b p
  unwanted_idle false p e unknown h = λ asked.
      h (ap has_ended joined.ending ∙ e)
      (subst (λ (g : List (List ℕ)). IsAsked g (outcomes_of_table table) new.state.search p) (sym joined.graph)
      (asked_on mid.tree.graph (outcomes_of_table table) (run mid.tree.graph (outcomes_of_table table) mid.left mid.tree.root.search).search new.state.search p
      (sym state_is)
      ((run_passes mid.tree.graph (outcomes_of_table table) mid.left mid.tree.root.search (goes_at e)).on p unknown asked)))
  unwanted_idle true p e unknown h = tt

pub unwanted_workers : (mid new : Consumed) (table : List (Option Outcome)) (claims : List Claim) (walked : Walked) (r : Run) (ended : Bool) (w : ℕ)
    → IsWalk mid.tree (outcomes_of_table table) mid.left walked r
    → IsJoined mid.tree mid.entries.items mid.left walked new → All (λ c. outcomes_of_table table c.place ≡ None) claims → ended ≡ has_ended walked.ending
    → IsIdleWorker mid.tree table ended claims w ↔ IsUnwanted new table claims w
unwanted_workers mid new table claims walked r ended w walk joined unknown e = (
  λ h. record {
    claim = h.claim;
    among = h.among;
    by = h.by;
    unwanted = idle_unwanted mid new table walked r walk joined (has_ended walked.ending) h.claim.place refl
        (All-contains (λ c. outcomes_of_table table c.place ≡ None) claims h.claim unknown h.among)
        (subst (λ (b : Bool). IsIdle mid.tree table b h.claim.place) e h.idle);
  },
  λ h. record {
    claim = h.claim;
    among = h.among;
    by = h.by;
    idle = subst (λ (b : Bool). IsIdle mid.tree table b h.claim.place) (sym e)
        (unwanted_idle mid new table walked r walk joined (has_ended walked.ending) h.claim.place refl
        (All-contains (λ c. outcomes_of_table table c.place ≡ None) claims h.claim unknown h.among) h.unwanted);
  },
)

-- ---- where the run had ended already

-- the root of the tree asks for the places that are asked for from where the run is
module _ (core : Consumed) (table : List (Option Outcome)) (asks : HasAsked core) where
  from_root : (p : ℕ) → IsAsked core.tree.graph (outcomes_of_table table) core.tree.root.search p
      → IsAsked core.tree.graph (outcomes_of_table table) core.state.search p
  from_root p asked =
      (asked_here core.tree.graph (outcomes_of_table table) core.state.search).back p
      (asked_on core.tree.graph (outcomes_of_table table) core.tree.root.search (ask core.tree.graph core.state.search).search p asks asked)

  to_root : (p : ℕ) → outcomes_of_table table p ≡ None → IsAsked core.tree.graph (outcomes_of_table table) core.state.search p
      → IsAsked core.tree.graph (outcomes_of_table table) core.tree.root.search p
  to_root p unknown asked =
      asked_on core.tree.graph (outcomes_of_table table) (ask core.tree.graph core.state.search).search core.tree.root.search p (sym asks)
      ((asked_here core.tree.graph (outcomes_of_table table) core.state.search).on p unknown asked)

  pub asks_at_root : (p : ℕ) → outcomes_of_table table p ≡ None → has_ended core.ending ≡ false
      → IsAsked core.tree.graph (outcomes_of_table table) core.tree.root.search p ↔ Asks core table p
  asks_at_root p unknown e = (
    λ asked. record { goes_on = e; asked = from_root p asked },
    λ h. to_root p unknown h.asked,
  )

  ended_unwanted : (b : Bool) (p : ℕ) → has_ended core.ending ≡ b → outcomes_of_table table p ≡ None → IsIdle core.tree table b p
      → IsUnwantedPlace core (outcomes_of_table table) p
  ended_unwanted false p e unknown idle = λ here asked. idle (to_root p unknown asked)
  ended_unwanted true p e unknown idle = λ here asked. both_ways (has_ended core.ending) here e

  unwanted_ended : (b : Bool) (p : ℕ) → has_ended core.ending ≡ b → IsUnwantedPlace core (outcomes_of_table table) p → IsIdle core.tree table b p
  unwanted_ended false p e h = λ asked. h e (from_root p asked)
  unwanted_ended true p e h = tt

  pub ended_workers : (claims : List Claim) (ended : Bool) (w : ℕ) → All (λ c. outcomes_of_table table c.place ≡ None) claims → ended ≡ has_ended core.ending
      → IsIdleWorker core.tree table ended claims w ↔ IsUnwanted core table claims w
  ended_workers claims ended w unknown e = (
    λ h. record {
      claim = h.claim;
      among = h.among;
      by = h.by;
      unwanted = ended_unwanted ended h.claim.place (sym e)
          (All-contains (λ c. outcomes_of_table table c.place ≡ None) claims h.claim unknown h.among) h.idle;
    },
    λ h. record { claim = h.claim; among = h.among; by = h.by; idle = unwanted_ended ended h.claim.place (sym e) h.unwanted },
  )

-- ---- what the calls of a tree say

pub walk_of : (tree mid : Guesses) (known : Outcomes) (left : Option ℕ) (walked : Walked) → IsSameTree tree mid
    → walked.entries.items ≡ (run tree.graph known left tree.root.search).entries
    → Tells walked.ending (run tree.graph known left tree.root.search).end
    → walked.state ≡ with_search tree.session (run tree.graph known left tree.root.search).search
    → walked.path.items ≡ marks_of (run tree.graph known left tree.root.search).entries
    → ((run tree.graph known left tree.root.search).end ≢ Leg
    → (asked_at tree.graph tree.root walked.path.items).search ≡ (run tree.graph known left tree.root.search).search)
    → (asked_at tree.graph tree.root walked.path.items).search ≡ (ask tree.graph (run tree.graph known left tree.root.search).search).search
    → IsWalk mid known left walked (run tree.graph known left tree.root.search)
walk_of tree mid known left walked same entries ending state path there asked = record {
  is = ap (λ (g : List (List ℕ)). run g known left tree.root.search) (sym same.graph) ∙ ap (λ (a : Asked). run mid.graph known left a.search) (sym same.root);
  entries = entries;
  ending = ending;
  state = state ∙ ap (λ (s : Session). with_search s (run tree.graph known left tree.root.search).search) (sym same.session);
  path = path;
  there = λ h. ap (λ (g : List (List ℕ)). (asked_at g mid.root walked.path.items).search) same.graph ∙ ap
      (λ (a : Asked). (asked_at tree.graph a walked.path.items).search) same.root ∙ there h;
  asked = ap (λ (g : List (List ℕ)). (asked_at g mid.root walked.path.items).search) same.graph ∙ ap
      (λ (a : Asked). (asked_at tree.graph a walked.path.items).search) same.root ∙ asked ∙ ap
      (λ (g : List (List ℕ)). (ask g (run tree.graph known left tree.root.search).search).search) (sym same.graph);
}

pub same_run_of : (old : Consumed) (mid : Guesses) → IsSameTree old.tree mid → IsSameRun old (record old { tree = mid })
same_run_of old mid same = record { tree = same; entries = refl; state = refl; ending = refl; left = refl }

pub same_run_trans : (a b c : Consumed) → IsSameRun a b → IsSameRun b c → IsSameRun a c
same_run_trans a b c h k = record {
  tree = same_tree_trans a.tree b.tree c.tree h.tree k.tree;
  entries = k.entries ∙ h.entries;
  state = k.state ∙ h.state;
  ending = k.ending ∙ h.ending;
  left = k.left ∙ h.left;
}

pub on_ok : {T E : Type 0} {P : Type 0} (r : Result T E) → P → OnOk r P
on_ok (Ok x) p = p
on_ok (Err e) p = tt

pub on_err : {T E : Type 0} {P : Type 0} (r : Result T E) → P → OnErr r P
on_err (Ok x) p = tt
on_err (Err e) p = p

pub none_of : {X : Type 0} (o : Option X) → is_some o ≡ false → o ≡ None
none_of None h = refl
none_of (Some x) h = cc

pub iff_trans : {P Q R : Type 0} → P ↔ Q → Q ↔ R → P ↔ R
iff_trans h k = (λ p. k.0 (h.0 p), λ r. h.1 (k.1 r))

pub if_ok_map : {T E : Type 0} {P Q : T → Type 0} (r : Result T E) → ((x : T) → P x → Q x) → IfOk r P → IfOk r Q
if_ok_map (Ok x) f h = f x h
if_ok_map (Err e) f h = tt

-- nodes play no part in it
pub begins_along : (tree now : Guesses) (table : List (Option Outcome)) (leg : ℕ) (core : Consumed) → IsSameTree tree now → Begins now table leg core
    → Begins tree table leg core
begins_along tree now table leg core same h = λ s g over is.
    subst (λ (x : List (List ℕ)). IsRunOn (record { graph = x; start = s; leg = leg }) (with_search tree.session s) table core) same.graph
    (subst (λ (x : Session). IsRunOn (record { graph = now.graph; start = s; leg = leg }) (with_search x s) table core) same.session
    (h s (subst IsGraph (sym same.graph) g) (subst (λ (x : List (List ℕ)). IsSearchOver x s) (sym same.graph) over)
    (same.root ∙ is ∙ ap (λ (x : List (List ℕ)). ask x s) (sym same.graph))))

pub begins_by : (tree now : Guesses) (table : List (Option Outcome)) (leg : ℕ) (left : Option ℕ) (entries : List Entry) (walked : Walked) (r : Run)
    (core : Consumed) → left ≡ leg_of leg → entries ≡ map (λ p. SkippedBase p) tree.root.step.warned
    → IsSameTree tree now → IsWalk now (outcomes_of_table table) left walked r → IsJoined now entries left walked core → Begins tree table leg core
begins_by tree now table leg left entries walked r core e warned same walk joined =
    begins_along tree now table leg core same
    (first_begins now table leg entries walked r core (warned ∙ ap (λ (a : Asked). map (λ p. SkippedBase p) a.step.warned) (sym same.root))
    (subst (λ (l : Option ℕ). IsWalk now (outcomes_of_table table) l walked r) e walk) (subst (λ (l : Option ℕ). IsJoined now entries l walked core) e joined))
