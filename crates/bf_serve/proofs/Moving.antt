-- Where the run of a search gets no further entries, the search that it reached is the same, and so is what is left of it.
use Rattle.std.proofs.Common.{◌≡◌, ℕ, zero, suc, ◌==◌, true, false, List, [], ◌∷◌, ◌++◌, drop, length, map, Option, Some, None, refl, sym, ap, ◌∙◌, subst, eqb-true}
use Rattle.std.proofs.lemmas.List.{append-nil, append_cancel_left, nil_from_length}
use Rattle.std.specs.Option.{IfSome}
use Rattle.bf_core.specs.Claims.{AreClaims}
use Rattle.bf_core.specs.Machine.{Machine, farm_of}
use Rattle.bf_many.specs.Cores.{machine_of}
use Rattle.bf_many.specs.Many.{FarmMachine}
use Rattle.bf_search.specs.declared.asks.Ask.{Ask}
use Rattle.bf_search.specs.declared.asks.Ask.TheVariants.{WaitBoth, WaitBad, WaitGood, Test, MergeBaseBad, GoodNotAncestor, BothSides, FirstBad, OnlySkipped}
use Rattle.bf_search.specs.declared.entries.Entry.{Entry}
use Rattle.bf_search.specs.declared.entries.Entry.TheVariants.{Marked, SkippedBase}
use Rattle.bf_search.specs.declared.farm.Event.TheVariants.{Post as Posted}
use Rattle.bf_search.specs.declared.outcomes.Outcome.{Outcome}
use Rattle.bf_search.specs.declared.outcomes.Verdict.{Verdict}
use Rattle.bf_search.specs.declared.outcomes.Verdict.TheVariants.{Mark as MarkOf, Abort}
use Rattle.bf_search.specs.Farm.{Farm, Setting}
use Rattle.bf_search.specs.Outcomes.{Outcomes, outcomes_of_table, verdict_of}
use Rattle.bf_search.specs.Run.{Run, with_entries, leg_of, marked_one, after_verdict, after_look, after_step, after_ask, turn, run_within, run}
use Rattle.bf_search.specs.State.{Asked, Search, ask, mark}
use Rattle.bf_state.specs.Runs.{IsPartOf}
use Rattle.bf_state.specs.Tidy.{IsTidy}
use Rattle.bf_state.proofs.Tables.{seq_goes_on}
use Rattle.bf_serve.specs.declared.standing.Progress.{Progress}
use Rattle.bf_serve.specs.Searches.{has_outcome, learned, left_in, remaining_in, run_of}
use Rattle.bf_serve.specs.Serving.{stepped}
use Rattle.bf_serve.specs.Steps.{KnowsNoLess, StandsAt}
use Rattle.bf_serve.specs.Turns.{further}
use Rattle.bf_serve.proofs.LawsLog.{with_further}
use Rattle.bf_serve.proofs.LawsSteps.{KnowsOn, learn_knows_on, post_knows_on}
use Rattle.bf_serve.proofs.Telling.{further_is}

-- with the same entries a run reached the same search
abbrev Stays : Run → Run → Type 0
Stays run more = more.entries ≡ run.entries → more.search ≡ run.search

abbrev Go : Type 0
Go = Option ℕ → Search → Run

-- from each search, with each number of marks left, the one run stays where the other does
abbrev AllStay : Go → Go → Type 0
AllStay go other = (left : Option ℕ) (s : Search) → Stays (go left s) (other left s)

entries_stay : (es : List Entry) (run more : Run) → Stays run more → Stays (with_entries es run) (with_entries es more)
entries_stay es run more stays same = stays (append_cancel_left es more.entries run.entries same)

verdict_stays : (go other : Go) (left : Option ℕ) (s : Search) (p : ℕ) (outcome : Outcome) (verdict : Verdict) → AllStay go other
    → Stays (after_verdict go left s p outcome verdict) (after_verdict other left s p outcome verdict)
verdict_stays go other left s p outcome Abort stay same = refl
verdict_stays go other left s p outcome (MarkOf m) stay same =
    entries_stay (Marked m p ∷ []) (go (marked_one left) (mark s m p)) (other (marked_one left) (mark s m p))
    (stay (marked_one left) (mark s m p)) same

-- an outcome that the other run lacked is marked, or it aborts there
told_stays : (other : Go) (left : Option ℕ) (s : Search) (p : ℕ) (outcome : Outcome) (verdict : Verdict)
    → (after_verdict other left s p outcome verdict).entries ≡ [] → (after_verdict other left s p outcome verdict).search ≡ s
told_stays other left s p outcome Abort none = refl
told_stays other left s p outcome (MarkOf m) none = cc none

open_stays : (more : Outcomes) (other : Go) (left : Option ℕ) (s : Search) (p : ℕ) (o : Option Outcome)
    → (after_look more other left s p o).entries ≡ [] → (after_look more other left s p o).search ≡ s
open_stays more other left s p None none = refl
open_stays more other left s p (Some outcome) none = told_stays other left s p outcome (verdict_of outcome) none

look_stays : (known more : Outcomes) (go other : Go) (left : Option ℕ) (s : Search) (p : ℕ) (o : Option Outcome)
    → IfSome o (λ outcome. more p ≡ Some outcome) → AllStay go other
    → Stays (after_look known go left s p o) (after_look more other left s p (more p))
look_stays known more go other left s p None part stay = λ same. open_stays more other left s p (more p) same
look_stays known more go other left s p (Some outcome) part stay =
    subst (λ (o : Option Outcome). Stays (after_look known go left s p (Some outcome)) (after_look more other left s p o)) (sym part)
    (λ same. verdict_stays go other left s p outcome (verdict_of outcome) stay same)

step_stays : (known more : Outcomes) (go other : Go) (left : Option ℕ) (s : Search) (a : Ask) → IsPartOf known more → AllStay go other
    → Stays (after_step known go left s a) (after_step more other left s a)
step_stays known more go other left s (Test p) part stay = look_stays known more go other left s p (known p) (part p) stay
step_stays known more go other left s (FirstBad p) part stay = λ same. refl
step_stays known more go other left s (OnlySkipped ps) part stay = λ same. refl
step_stays known more go other left s WaitBoth part stay = λ same. refl
step_stays known more go other left s WaitBad part stay = λ same. refl
step_stays known more go other left s WaitGood part stay = λ same. refl
step_stays known more go other left s (MergeBaseBad p) part stay = λ same. refl
step_stays known more go other left s (GoodNotAncestor p) part stay = λ same. refl
step_stays known more go other left s (BothSides p) part stay = λ same. refl

ask_stays : (known more : Outcomes) (go other : Go) (left : Option ℕ) (asked : Asked) → IsPartOf known more → AllStay go other
    → Stays (after_ask known go left asked) (after_ask more other left asked)
ask_stays known more go other left asked part stay =
    entries_stay (map (λ p. SkippedBase p) asked.step.warned) (after_step known go left asked.search asked.step.ask)
    (after_step more other left asked.search asked.step.ask)
    (step_stays known more go other left asked.search asked.step.ask part stay)

turn_stays : (graph : List (List ℕ)) (known more : Outcomes) (go other : Go) (left : Option ℕ) (s : Search) → IsPartOf known more
    → AllStay go other → Stays (turn graph known go left s) (turn graph more other left s)
turn_stays graph known more go other (Some zero) s part stay = λ same. refl
turn_stays graph known more go other (Some (suc k)) s part stay = ask_stays known more go other (Some (suc k)) (ask graph s) part stay
turn_stays graph known more go other None s part stay = ask_stays known more go other None (ask graph s) part stay

within_stays : (n : ℕ) (graph : List (List ℕ)) (known more : Outcomes) → IsPartOf known more
    → AllStay (run_within n graph known) (run_within n graph more)
unfolding run_within
within_stays zero graph known more part left s = λ same. refl
within_stays (suc n) graph known more part left s =
    turn_stays graph known more (run_within n graph known) (run_within n graph more) left s part (within_stays n graph known more part)

-- a run on more outcomes that has the same entries reached the same search
pub run_stays : (graph : List (List ℕ)) (known more : Outcomes) (left : Option ℕ) (s : Search) → IsPartOf known more
    → (run graph more left s).entries ≡ (run graph known left s).entries → (run graph more left s).search ≡ (run graph known left s).search
unfolding run
run_stays graph known more left s part = within_stays (suc (length graph)) graph known more part left s

-- ---- the machine of a search

module _ (old : FarmMachine) (farm : Farm) (on : KnowsOn old farm) where
  abbrev new : FarmMachine
  new = record old { farm = farm }

  no_further : further (run_of old) (run_of new) ≡ [] → (run_of new).entries ≡ (run_of old).entries
  no_further none =
      with_further (run_of old) (run_of new)
      (seq_goes_on old.setting.graph old.setting.start (outcomes_of_table old.farm.table) (outcomes_of_table farm.table) old.setting.leg on)
      ∙ ap (λ (es : List Entry). (run_of old).entries ++ es) none
      ∙ append-nil (run_of old).entries

  -- where it knows no less, and no entries are further, its search is the same
  pub search_stays : further (run_of old) (run_of new) ≡ [] → (run_of new).search ≡ (run_of old).search
  search_stays none =
      run_stays old.setting.graph (outcomes_of_table old.farm.table) (outcomes_of_table farm.table) (leg_of old.setting.leg) old.setting.start on
      (no_further none)

  -- and as much is left
  pub left_stays : further (run_of old) (run_of new) ≡ [] → left_in new ≡ left_in old
  left_stays none = ap (remaining_in old.setting.graph) (search_stays none)

pub none_of : {X : Type 0} (xs : List X) → (length xs == 0) ≡ true → xs ≡ []
none_of xs none = nil_from_length xs (eqb-true (length xs) 0 none)

-- where a search stood so before, and no entries are behind those
pub left_behind : (old now : FarmMachine) (standing : Progress) (entries : List Entry) → StandsAt old standing → KnowsNoLess old now
    → entries ≡ drop standing.entries (run_of now).entries → entries ≡ [] → standing.remaining ≡ left_in now
left_behind old now standing entries stands knows behind none =
    let same : now ≡ record old { farm = now.farm } = ap (λ (x : Setting). record { setting = x; farm = now.farm }) knows.setting in
    let rest : further (run_of old) (run_of now) ≡ [] = sym (further_is old now standing entries stands behind) ∙ none in
    stands.left
    ∙ sym (ap left_in same
    ∙ left_stays old now.farm knows.outcomes (ap (λ (m : FarmMachine). further (run_of old) (run_of m)) (sym same) ∙ rest))

-- ---- who knows no less

tidy_claims : (core : Machine) → AreClaims core.table core.claims → IsTidy (farm_of core)
tidy_claims core are = record {
  workers = λ i j d less within. (are.apart i j d less within).0;
  places = λ i j d less within. (are.apart i j d less within).1;
  untold = are.unknown;
}

pub knows_posted : (core after : Machine) (worker p : ℕ) (outcome : Outcome) → AreClaims core.table core.claims
    → machine_of after ≡ stepped (machine_of core) (Posted worker p outcome) → KnowsNoLess (machine_of core) (machine_of after)
knows_posted core after worker p outcome are is =
    subst (λ (m : FarmMachine). KnowsNoLess (machine_of core) m) (sym is)
    (record { setting = refl; outcomes = post_knows_on (machine_of core) worker p outcome (tidy_claims core are) })

pub knows_learned : (core after : Machine) (p : ℕ) (outcome : Outcome) → has_outcome (machine_of core) p ≡ false
    → machine_of after ≡ learned (machine_of core) p outcome → KnowsNoLess (machine_of core) (machine_of after)
knows_learned core after p outcome none is =
    subst (λ (m : FarmMachine). KnowsNoLess (machine_of core) m) (sym is)
    (record { setting = refl; outcomes = learn_knows_on (machine_of core) p outcome none })
