-- What is known of the run of a search.
use Rattle.std.proofs.Common.{◌≡◌, ℕ, zero, suc, Bool, false, cond, ◌&&◌, replicate, arith, List, [], ◌∷◌, length, All, Option, Some, None, refl, sym, ap, subst, ◌∙◌}
use Rattle.std.specs.Option.{IfSome}
use Rattle.bf_graph.specs.Graph.{IsGraph}
use Rattle.bf_search.specs.declared.asks.Ask.{Ask}
use Rattle.bf_search.specs.declared.asks.Ask.TheVariants.{WaitBoth, WaitBad, WaitGood, Test, MergeBaseBad, GoodNotAncestor, BothSides, FirstBad, OnlySkipped}
use Rattle.bf_search.specs.declared.entries.Entry.{Entry}
use Rattle.bf_search.specs.declared.farm.Ending.{Ending}
use Rattle.bf_search.specs.declared.farm.Ending.TheVariants as ending
use Rattle.bf_search.specs.declared.outcomes.Mark.{Mark}
use Rattle.bf_search.specs.declared.outcomes.Outcome.{Outcome}
use Rattle.bf_search.specs.declared.outcomes.Verdict.{Verdict}
use Rattle.bf_search.specs.declared.outcomes.Verdict.TheVariants as verdicts
use Rattle.bf_search.specs.Farm.{end_of}
use Rattle.bf_search.specs.Outcomes.{Outcomes, outcomes_of_table, verdict_of}
use Rattle.bf_search.specs.Run.{End, Run, marked_one, after_verdict, after_look, after_step, turn, run_within, run, one_at_a_time}
use Rattle.bf_search.specs.State.{Search, IsSearchOver, ask, mark}
use Rattle.bf_search.specs.Within.{IsEndingWithin, IsEntryWithin}
use Rattle.bf_search.proofs.Turns.{IsSearchOver-marked}
use Rattle.bf_state.proofs.Legs.{asked_over}
use Rattle.bf_core.specs.Machine.{Machine, IsConsumed}
use Rattle.bf_many.specs.Cores.{machine_of}
use Rattle.bf_many.specs.Many.{FarmMachine}
use Rattle.bf_runs.proofs.Ran.{IsEndWithin, IsRunWithin, run_is_within}
use Rattle.bf_spec.specs.Walks.{Tells}
use Rattle.std.specs.List.{count_by}
use Rattle.std.proofs.lemmas.List.Sums.{sum_by-cons}
use Rattle.std.proofs.lemmas.List.FromFn.{fill_by_all}
use Rattle.std.proofs.lemmas.Simd.{zip2_of_maps}
use Rattle.std.specs.Simd.Lanes.{zip2}
use Rattle.bf_choice.proofs.Rows.{count_by-map}
use Rattle.bf_search.specs.Candidates.{candidate_row, is_candidate, is_in}
use Rattle.bf_search.specs.Guesses.{is_candidate_below}
use Rattle.bf_search.specs.Reach.{places}
use Rattle.bf_serve.specs.declared.remaining.Remaining.{Remaining}
use Rattle.bf_search.specs.OpenPaths.{left_of}
use Rattle.bf_spec.proofs.Walking.{count_mask}
use Rattle.bf_state.specs.Session.{Session}
use Rattle.bf_state.specs.Weighed.{row_below}
use Rattle.bf_serve.specs.Searches.{away_of, left_in, remaining_in, run_of}
use Rattle.bf_serve.specs.Steps.{IsOver}

-- ---- the search that a run reached has its places in the graph

module _ (graph : List (List ℕ)) (known : Outcomes) (g : IsGraph graph) where
  abbrev Goes : (Option ℕ → Search → Run) → Type 0
  Goes go = (left : Option ℕ) (s : Search) → IsSearchOver graph s → IsSearchOver graph (go left s).search

  by_verdict : (go : Option ℕ → Search → Run) → (left : Option ℕ) (t : Search) (p : ℕ) (outcome : Outcome) (v : Verdict) → IsSearchOver graph t
      → ((m : Mark) → IsSearchOver graph (go (marked_one left) (mark t m p)).search) → IsSearchOver graph (after_verdict go left t p outcome v).search
  by_verdict go left t p outcome verdicts.Abort over rest = over
  by_verdict go left t p outcome (verdicts.Mark m) over rest = rest m

  by_look : (go : Option ℕ → Search → Run) → (left : Option ℕ) (t : Search) (p : ℕ) (found : Option Outcome) → IsSearchOver graph t
      → ((m : Mark) → IsSearchOver graph (go (marked_one left) (mark t m p)).search) → IsSearchOver graph (after_look known go left t p found).search
  by_look go left t p None over rest = over
  by_look go left t p (Some outcome) over rest = by_verdict go left t p outcome (verdict_of outcome) over rest

  by_step : (go : Option ℕ → Search → Run) → Goes go → (left : Option ℕ) (s : Search) (a : Ask) → IsSearchOver graph s → (ask graph s).step.ask ≡ a
      → IsSearchOver graph (after_step known go left (ask graph s).search a).search
  by_step go goes left s (Test p) over asks =
      by_look go left (ask graph s).search p (known p) (asked_over graph s g over)
      (λ m. goes (marked_one left) (mark (ask graph s).search m p) (IsSearchOver-marked graph s m p g over asks))
  by_step go goes left s (FirstBad p) over asks = asked_over graph s g over
  by_step go goes left s (OnlySkipped ps) over asks = asked_over graph s g over
  by_step go goes left s (MergeBaseBad p) over asks = asked_over graph s g over
  by_step go goes left s (GoodNotAncestor p) over asks = asked_over graph s g over
  by_step go goes left s (BothSides p) over asks = asked_over graph s g over
  by_step go goes left s WaitBoth over asks = asked_over graph s g over
  by_step go goes left s WaitBad over asks = asked_over graph s g over
  by_step go goes left s WaitGood over asks = asked_over graph s g over

  by_turn : (go : Option ℕ → Search → Run) → Goes go → (left : Option ℕ) (s : Search) → IsSearchOver graph s
      → IsSearchOver graph (turn graph known go left s).search
  by_turn go goes (Some zero) s over = over
  by_turn go goes (Some (suc k)) s over = by_step go goes (Some (suc k)) s (ask graph s).step.ask over refl
  by_turn go goes None s over = by_step go goes None s (ask graph s).step.ask over refl

  by_turns : (turns : ℕ) (left : Option ℕ) (s : Search) → IsSearchOver graph s → IsSearchOver graph (run_within turns graph known left s).search
  unfolding run_within
  by_turns zero left s over = over
  by_turns (suc turns) left s over = by_turn (run_within turns graph known) (by_turns turns) left s over

  pub reached_over : (left : Option ℕ) (s : Search) → IsSearchOver graph s → IsSearchOver graph (run graph known left s).search
  unfolding run
  reached_over left s over = by_turns (suc (length graph)) left s over

-- ---- of a farm machine

pub search_over : (graph : List (List ℕ)) (m : FarmMachine) → IsGraph graph → IsOver graph m → IsSearchOver graph (run_of m).search
search_over graph m g over =
    subst (λ (x : List (List ℕ)). IsSearchOver graph (one_at_a_time x m.setting.start (outcomes_of_table m.farm.table) m.setting.leg).search)
    (sym over.graph_is) (reached_over graph (outcomes_of_table m.farm.table) g _ m.setting.start over.start)

pub run_within_places : (graph : List (List ℕ)) (m : FarmMachine) → IsGraph graph → IsOver graph m → IsRunWithin (length graph) (run_of m)
run_within_places graph m g over =
    subst (λ (x : List (List ℕ)). IsRunWithin (length graph) (one_at_a_time x m.setting.start (outcomes_of_table m.farm.table) m.setting.leg))
    (sym over.graph_is) (run_is_within graph (outcomes_of_table m.farm.table) m.setting.start m.setting.leg g over.start.bad)

ending_of_end : (len : ℕ) (e : Ending) (end : End) → end_of e ≡ end → IsEndWithin len end → IsEndingWithin len e
ending_of_end len (ending.FirstBad p) end same h = subst (IsEndWithin len) (sym same) h
ending_of_end len (ending.OnlySkipped ps) end same h = subst (IsEndWithin len) (sym same) h
ending_of_end len (ending.MergeBaseBad p) end same h = subst (IsEndWithin len) (sym same) h
ending_of_end len (ending.GoodNotAncestor p) end same h = subst (IsEndWithin len) (sym same) h
ending_of_end len (ending.BothSides p) end same h = subst (IsEndWithin len) (sym same) h
ending_of_end len (ending.Aborted p outcome) end same h = subst (IsEndWithin len) (sym same) h
ending_of_end len ending.Leg end same h = tt
ending_of_end len (ending.TestFault p) end same h = subst (IsEndWithin len) (sym same) h

pub ending_within : (len : ℕ) (o : Option Ending) (end : End) → Tells o end → IsEndWithin len end → IfSome o (IsEndingWithin len)
ending_within len None end tells h = tt
ending_within len (Some e) end tells h = ending_of_end len e end tells.0 h

-- the entries of a core are those of its run, and name places of the graph
pub entries_within : (graph : List (List ℕ)) (core : Machine) (entries : List Entry) → IsGraph graph → IsOver graph (machine_of core) → IsConsumed core
    → entries ≡ core.entries → All (IsEntryWithin (length graph)) entries
entries_within graph core entries g over consumed same =
    subst (λ (es : List Entry). All (IsEntryWithin (length graph)) es) (sym (same ∙ consumed.entries))
    (run_within_places graph (machine_of core) g over).entries

-- the search that a core reached is that of its run
pub state_over : (graph : List (List ℕ)) (core : Machine) (state : Session) → IsGraph graph → IsOver graph (machine_of core) → IsConsumed core
    → state ≡ core.state → IsSearchOver graph state.search
state_over graph core state g over consumed same =
    subst (λ (s : Session). IsSearchOver graph s.search) (sym (same ∙ consumed.state)) (search_over graph (machine_of core) g over)

-- ---- what is left

count_none : (n : ℕ) → count_by (λ (v : Bool). v) (replicate n false) ≡ 0
count_none zero = refl
count_none (suc n) = omega (arith, sum_by-cons (λ (v : Bool). cond v 1 0) false (replicate n false), count_none n)

count_never : (xs : List ℕ) → count_by (λ (p : ℕ). false) xs ≡ 0
count_never [] = refl
count_never (x ∷ xs) = omega (arith, sum_by-cons (λ (p : ℕ). cond false 1 0) x xs, count_never xs)

none_left : (graph : List (List ℕ)) (s : Search) → s.bad ≡ None → 0 ≡ left_of graph s
none_left graph s none =
    sym (ap (λ (o : Option ℕ). count_by (λ (v : Bool). v) (row_below graph o s)) none ∙ count_none (length graph)) ∙ count_mask graph s

none_away : (graph : List (List ℕ)) (s : Search) → s.bad ≡ None → 0 ≡ away_of graph s
unfolding away_of
none_away graph s none =
    sym (ap (λ (o : Option ℕ). count_by (λ (p : ℕ). is_candidate_below graph o s p && is_in s.skips p) (places graph)) none ∙ count_never (places graph))

pub none_remaining : (graph : List (List ℕ)) (s : Search) → s.bad ≡ None → record { left = 0; away = 0 } ≡ remaining_in graph s
none_remaining graph s none = λ i. record { left = none_left graph s none i; away = none_away graph s none i }

abbrev row_of : List (List ℕ) → Search → ℕ → List Bool
row_of graph s bad = candidate_row graph bad s.goods s.first_parent

some_left : (graph : List (List ℕ)) (s : Search) (bad : ℕ) → s.bad ≡ Some bad → count_by (λ (v : Bool). v) (row_of graph s bad) ≡ left_of graph s
some_left graph s bad bad_is = sym (ap (λ (o : Option ℕ). count_by (λ (v : Bool). v) (row_below graph o s)) bad_is) ∙ count_mask graph s

some_away : (graph : List (List ℕ)) (s : Search) (bad : ℕ) → s.bad ≡ Some bad → length s.skips ≡ length graph
    → count_by (λ (v : Bool). v) (zip2 ◌&&◌ (row_of graph s bad) s.skips) ≡ away_of graph s
unfolding away_of candidate_row
some_away graph s bad bad_is long =
    ap (λ (row : List Bool). count_by (λ (v : Bool). v) row)
    (zip2_of_maps ◌&&◌ (λ p. is_candidate graph bad s.goods s.first_parent p) (is_in s.skips) (places graph) refl
    (fill_by_all (is_in s.skips) s.skips (length graph) false long (λ k l. refl)))
    ∙ count_by-map (λ p. is_candidate graph bad s.goods s.first_parent p && is_in s.skips p) (places graph)
    ∙ ap (λ (o : Option ℕ). count_by (λ (p : ℕ). is_candidate_below graph o s p && is_in s.skips p) (places graph)) (sym bad_is)

-- the rows that a call makes are those of the search
pub some_remaining : (graph : List (List ℕ)) (s : Search) (bad : ℕ) (goods : List ℕ) (first_parent : Bool) (row skips cut : List Bool) (left away : ℕ)
    → length s.skips ≡ length graph → s.bad ≡ Some bad → goods ≡ s.goods → first_parent ≡ s.first_parent → skips ≡ s.skips
    → row ≡ candidate_row graph bad goods first_parent → cut ≡ zip2 ◌&&◌ row skips → left ≡ count_by (λ (v : Bool). v) row
    → away ≡ count_by (λ (v : Bool). v) cut → record { left = left; away = away } ≡ remaining_in graph s
some_remaining graph s bad goods first_parent row skips cut left away long bad_is goods_is mode skips_is row_is cut_is count count_away =
    let row_same : row ≡ row_of graph s bad
    = row_is ∙ ap (λ (g : List ℕ). candidate_row graph bad g first_parent) goods_is ∙ ap (λ (m : Bool). candidate_row graph bad s.goods m) mode in
    let left_is : left ≡ left_of graph s = count ∙ ap (count_by (λ (v : Bool). v)) row_same ∙ some_left graph s bad bad_is in
    let away_is : away ≡ away_of graph s
    = count_away ∙ ap (count_by (λ (v : Bool). v)) (cut_is ∙ ap (λ (r : List Bool). zip2 ◌&&◌ r skips) row_same
    ∙ ap (λ (r : List Bool). zip2 ◌&&◌ (row_of graph s bad) r) skips_is) ∙ some_away graph s bad bad_is long in
    λ i. record { left = left_is i; away = away_is i }

-- what is left of the search that a core reached
pub remaining_is : (graph : List (List ℕ)) (core : Machine) (state : Session) (r : Remaining) → IsOver graph (machine_of core) → IsConsumed core → state ≡ core.state
    → r ≡ remaining_in graph state.search → r ≡ left_in (machine_of core)
remaining_is graph core state r over consumed same is =
    is ∙ ap (λ (s : Session). remaining_in graph s.search) (same ∙ consumed.state)
    ∙ ap (λ (g : List (List ℕ)). remaining_in g (run_of (machine_of core)).search) (sym over.graph_is)

pub ending_places : (graph : List (List ℕ)) (core : Machine) (o : Option Ending) → IsGraph graph → IsOver graph (machine_of core) → IsConsumed core
    → o ≡ core.ending → IfSome o (IsEndingWithin (length graph))
ending_places graph core o g over consumed same =
    subst (λ (x : Option Ending). IfSome x (IsEndingWithin (length graph))) (sym same)
    (ending_within (length graph) core.ending (run_of (machine_of core)).end consumed.ending (run_within_places graph (machine_of core) g over).end)

-- there is a name for each place
pub by_names : (graph parents : List (List ℕ)) (n : ℕ) → graph ≡ parents → n ≡ length parents → length graph ≡ n
by_names graph parents n same long = ap (λ (l : List (List ℕ)). length l) same ∙ sym long
