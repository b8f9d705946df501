-- Whether some path asks for a place; and that the best open place is asked for.
use Rattle.std.proofs.Common.{◌≡◌, ℕ, zero, suc, Bool, true, false, cond, List, length, Option, Some, None, refl, ap, ◌∙◌}
use Rattle.std.proofs.lemmas.Bool.{both_ways}
use Rattle.std.specs.Option.{is_some}
use Rattle.bf_graph.specs.Graph.{IsGraph}
use Rattle.bf_search.specs.declared.asks.Ask.{Ask}
use Rattle.bf_search.specs.declared.asks.Ask.TheVariants.{WaitBoth, WaitBad, WaitGood, Test, MergeBaseBad, GoodNotAncestor, BothSides, FirstBad, OnlySkipped}
use Rattle.bf_search.specs.declared.farm.Claim.{Claim}
use Rattle.bf_search.specs.declared.outcomes.Mark.{Mark}
use Rattle.bf_search.specs.declared.outcomes.Mark.TheVariants.{Good, Bad}
use Rattle.bf_search.specs.declared.outcomes.Outcome.{Outcome}
use Rattle.bf_search.specs.declared.outcomes.Verdict.{Verdict}
use Rattle.bf_search.specs.declared.outcomes.Verdict.TheVariants as verdicts
use Rattle.bf_search.specs.Farm.{best_place, place_at}
use Rattle.bf_search.specs.OpenPaths.{OpenPath, after_claim, after_look, after_step, after_verdict, best_open, best_within, better, followed_by, is_better, is_claimed, place_of}
use Rattle.bf_search.specs.Outcomes.{Outcomes, outcomes_of_table, verdict_of}
use Rattle.bf_search.specs.Run.{End, Answered, Leg, Open, Aborted}
use Rattle.bf_search.specs.State.{Search, IsSearchOver, ask, mark}
use Rattle.bf_many.specs.Many.{FarmMachine}
use Rattle.bf_serve.specs.Laws.{IsAskedIn}
use Rattle.bf_serve.specs.Searches.{all_but, is_asked, run_of}
use Rattle.bf_serve.proofs.Asking.{asked_of_path, asked_unknown, not_claimed, path_of_asked}

-- ---- a path asks for a place

pub asked_in : (m : FarmMachine) (p : ℕ) → IsGraph m.setting.graph → is_asked m p ≡ true → IsAskedIn m p
asked_in m p g h =
    let path = path_of_asked m p g h in
    record { waits = path.0; unknown = asked_unknown m p g h; asked = path.1 }

pub in_asked : (m : FarmMachine) (p : ℕ) → IsGraph m.setting.graph → IsSearchOver m.setting.graph m.setting.start → IsAskedIn m p → is_asked m p ≡ true
in_asked m p g over is = asked_of_path m p g over is.unknown is.waits is.asked

-- ---- the best open place is asked for, whatever its graph is

module _ (graph : List (List ℕ)) (known : Outcomes) (claims others : List Claim) (p : ℕ) (free : is_claimed others p ≡ false) where
  -- where the one finds a path to the place, the other finds some
  abbrev Finds : Option OpenPath → Option OpenPath → Type 0
  Finds one other = is_some one ≡ true → (place_of one ≡ Some p) → is_some other ≡ true

  finds_behind : (m : Mark) (one other : Option OpenPath) → Finds one other → Finds (followed_by m one) (followed_by m other)
  finds_behind m None other h = λ there at. cc there
  finds_behind m (Some path) None h = λ there at. h refl at
  finds_behind m (Some path) (Some found) h = λ there at. refl

  finds_verdict : (one other : Search → Option OpenPath) (s : Search) (q : ℕ) (v : Verdict) → ((t : Search) → Finds (one t) (other t))
      → Finds (after_verdict one s q v) (after_verdict other s q v)
  finds_verdict one other s q verdicts.Abort h = λ there at. cc there
  finds_verdict one other s q (verdicts.Mark m) h = finds_behind m (one (mark s m q)) (other (mark s m q)) (h (mark s m q))

  some_left : (a b : Option OpenPath) → is_some a ≡ true → is_some (better a b) ≡ true
  some_left None b h = cc h
  some_left (Some a) None h = refl
  some_left (Some a) (Some b) h = by (is_better b a)
    where
      by : (c : Bool) → is_some (cond c (Some b) (Some a)) ≡ true
      by true = refl
      by false = refl

  some_right : (a b : Option OpenPath) → is_some b ≡ true → is_some (better a b) ≡ true
  some_right None b h = h
  some_right (Some a) b h = some_left (Some a) b refl

  finds_better : (a b c d : Option OpenPath) → Finds a c → Finds b d → Finds (better a b) (better c d)
  finds_better None b c d one other = λ there at. some_right c d (other there at)
  finds_better (Some a) None c d one other = λ there at. some_left c d (one refl at)
  finds_better (Some a) (Some b) c d one other = by (is_better b a)
    where
      by : (x : Bool) → Finds (cond x (Some b) (Some a)) (better c d)
      by true = λ there at. some_right c d (other refl at)
      by false = λ there at. some_left c d (one refl at)

  finds_claim : (one other : Search → Option OpenPath) (s : Search) (q : ℕ) (x y : Bool) → is_claimed others q ≡ y
      → ((t : Search) → Finds (one t) (other t)) → Finds (after_claim graph one s q x) (after_claim graph other s q y)
  finds_claim one other s q x false e h = λ there at. refl
  finds_claim one other s q false true e h = λ there at.
      absurd (both_ways (is_claimed others q) (ap (is_claimed others) (some_is at) ∙ free) e)
    where
      some_is : Some q ≡ Some p → q ≡ p
      some_is same = cc same
  finds_claim one other s q true true e h =
      finds_better (followed_by Good (one (mark s Good q))) (followed_by Bad (one (mark s Bad q)))
      (followed_by Good (other (mark s Good q))) (followed_by Bad (other (mark s Bad q)))
      (finds_behind Good (one (mark s Good q)) (other (mark s Good q)) (h (mark s Good q)))
      (finds_behind Bad (one (mark s Bad q)) (other (mark s Bad q)) (h (mark s Bad q)))

  finds_look : (one other : Search → Option OpenPath) (s : Search) (q : ℕ) (o : Option Outcome) → ((t : Search) → Finds (one t) (other t))
      → Finds (after_look graph claims one s q o) (after_look graph others other s q o)
  finds_look one other s q (Some outcome) h = finds_verdict one other s q (verdict_of outcome) h
  finds_look one other s q None h = finds_claim one other s q (is_claimed claims q) (is_claimed others q) refl h

  finds_step : (one other : Search → Option OpenPath) (s : Search) (a : Ask) → ((t : Search) → Finds (one t) (other t))
      → Finds (after_step graph known claims one s a) (after_step graph known others other s a)
  finds_step one other s (Test q) h = finds_look one other s q (known q) h
  finds_step one other s (FirstBad q) h = λ there at. cc there
  finds_step one other s (OnlySkipped qs) h = λ there at. cc there
  finds_step one other s (MergeBaseBad q) h = λ there at. cc there
  finds_step one other s (GoodNotAncestor q) h = λ there at. cc there
  finds_step one other s (BothSides q) h = λ there at. cc there
  finds_step one other s WaitBoth h = λ there at. cc there
  finds_step one other s WaitBad h = λ there at. cc there
  finds_step one other s WaitGood h = λ there at. cc there

  finds_within : (turns : ℕ) (s : Search) → Finds (best_within turns graph known claims s) (best_within turns graph known others s)
  unfolding best_within
  finds_within zero s = λ there at. cc there
  finds_within (suc turns) s =
      finds_step (best_within turns graph known claims) (best_within turns graph known others) (ask graph s).search (ask graph s).step.ask
      (λ t. finds_within turns t)

  finds_open : (s : Search) → Finds (best_open graph known claims s) (best_open graph known others s)
  unfolding best_open
  finds_open s = finds_within (suc (length graph)) s

has_path : (o : Option OpenPath) (p : ℕ) → place_of o ≡ Some p → is_some o ≡ true
has_path None p h = cc h
has_path (Some path) p h = refl

has_place : (o : Option OpenPath) → is_some o ≡ true → is_some (place_of o) ≡ true
has_place None h = cc h
has_place (Some path) h = refl

best_at : (m : FarmMachine) (p : ℕ) (end : End) → place_at m.setting m.farm (run_of m) end ≡ Some p
    → is_some (place_at m.setting (record m.farm { claims = all_but m.setting.graph p }) (run_of m) end) ≡ true
best_at m p (Answered a) h = cc h
best_at m p Leg h = cc h
best_at m p (Aborted q outcome) h = cc h
best_at m p (Open q) h =
    let graph : List (List ℕ) = m.setting.graph in
    let known : Outcomes = outcomes_of_table m.farm.table in
    has_place (best_open graph known (all_but graph p) (run_of m).search)
    (finds_open graph known m.farm.claims (all_but graph p) p (not_claimed graph p) (run_of m).search
    (has_path (best_open graph known m.farm.claims (run_of m).search) p h) h)

-- the best open place of a search is asked for
pub best_place_is_asked : (m : FarmMachine) (p : ℕ) → best_place m.setting m.farm ≡ Some p → is_asked m p ≡ true
best_place_is_asked m p h = best_at m p (run_of m).end h
