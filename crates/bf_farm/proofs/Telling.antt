-- The answers of the places that a run used tell the run.
use Rattle.std.proofs.Common.{◌≡◌, ◌≢◌, ℕ, suc, true, ◌||◌, is_some, List, [], ◌∷◌, ◌++◌, length, get_or, map, Option, Some, None, All, refl, sym, ap, ◌∙◌}
use Rattle.std.proofs.Common.{subst, arith}
use Rattle.std.specs.List.{AllPairs}
use Rattle.std.proofs.lemmas.Bool.{both_ways}
use Rattle.std.proofs.lemmas.List.{get_or-map, length-map}
use Rattle.std.proofs.lemmas.List.Elements.{All-nil, All-cons}
use Rattle.bf_oid.specs.declared.object.Oid.{Oid}
use Rattle.bf_search.specs.declared.entries.Entry.{Entry}
use Rattle.bf_search.specs.declared.farm.Ending.{Ending}
use Rattle.bf_search.specs.declared.farm.Ending.TheVariants as endings
use Rattle.bf_search.specs.declared.outcomes.Outcome.{Outcome}
use Rattle.bf_search.specs.Outcomes.{Outcomes, outcomes_of_pairs, outcomes_of_table}
use Rattle.bf_search.specs.Farm.{Setting, consumed, end_of}
use Rattle.bf_search.specs.Run.{End, Answered, Leg, Open, Aborted, Run, leg_of, one_at_a_time}
use Rattle.bf_spec.specs.Walks.{Tells}
use Rattle.bf_state.specs.Runs.{is_open}
use Rattle.bf_state.specs.Session.{Session, with_search}
use Rattle.bf_state.specs.Ends.{marks_of}
use Rattle.bf_state.proofs.Causes.{leg_ends, leg_made}
use Rattle.bf_state.proofs.Used.{told, pairs_tell, used_differ}
use Rattle.bf_core.specs.Machine.{IsOverGraph}
use Rattle.bf_tester.specs.declared.answer.Answer.{Answer}
use Rattle.bf_farm.specs.Answering.{pair_of, run_on, IsLegOver, IsReport}
use Rattle.bf_farm.specs.Ends.{StopsAt}
use Rattle.bf_farm.specs.declared.report.Report.{Report}
use Rattle.bf_farm.specs.Used.{marked_places, aborting_place, ending_place, used_places, AreAnswersAt}
use Rattle.bf_farm.proofs.Listed.{listed}
use Rattle.bf_farm.proofs.Parts.{all_left, all_right}

same_pair : (known : Outcomes) (a : Answer) (pair : ℕ × Outcome) → a.place ≡ pair.0 → known a.place ≡ Some a.outcome → known pair.0 ≡ Some pair.1
    → pair_of a ≡ pair
same_pair known a (p, outcome) at told other =
    let same : a.outcome ≡ outcome = cc (at, told, other) in
    ap (λ (q : ℕ). (q, a.outcome)) at ∙ ap (λ (o : Outcome). (p, o)) same

-- pairs of the same places, by the same outcomes, are the same
same_pairs : (known : Outcomes) (answers : List Answer) (pairs : List (ℕ × Outcome)) → map (λ a. a.place) answers ≡ map (λ pair. pair.0) pairs
    → All (λ a. known a.place ≡ Some a.outcome) answers → All (λ pair. known pair.0 ≡ Some pair.1) pairs → map pair_of answers ≡ pairs
same_pairs known [] [] e h k = refl
same_pairs known [] (pair ∷ pairs) e h k = cc e
same_pairs known (a ∷ answers) [] e h k = cc e
same_pairs known (a ∷ answers) (pair ∷ pairs) e h k =
    let heads : a.place ≡ pair.0 = cc e in
    let tails : map (λ a. a.place) answers ≡ map (λ pair. pair.0) pairs = cc e in
    ap (λ (q : ℕ × Outcome). q ∷ map pair_of answers) (same_pair known a pair heads (h 0 a (omega arith)) (k 0 pair (omega arith)))
    ∙ ap (λ (l : List (ℕ × Outcome)). pair ∷ l) (same_pairs known answers pairs tails (λ i d l. h (suc i) d (omega arith))
    (λ i d l. k (suc i) d (omega arith)))

-- the answers of the used places are the pairs that the run used
pub used_are : (setting : Setting) (table : List (Option Outcome)) (names : List Oid) (answers : List Answer)
    → AreAnswersAt names table (used_places (consumed setting table)) answers → map pair_of answers ≡ (consumed setting table).used
used_are setting table names answers h =
    same_pairs (outcomes_of_table table) answers (consumed setting table).used
    (h.places ∙ sym (listed (outcomes_of_table table) setting.graph (leg_of setting.leg) setting.start)) h.outcomes
    (told (outcomes_of_table table) setting.graph (leg_of setting.leg) setting.start).used

pub run_is : (setting : Setting) (table : List (Option Outcome)) (names : List Oid) (answers : List Answer)
    → AreAnswersAt names table (used_places (consumed setting table)) answers → run_on setting answers ≡ consumed setting table
run_is setting table names answers h =
    ap (λ (pairs : List (ℕ × Outcome)). one_at_a_time setting.graph setting.start (outcomes_of_pairs pairs) setting.leg)
    (used_are setting table names answers h)
    ∙ pairs_tell setting.graph (outcomes_of_table table) (leg_of setting.leg) setting.start

-- ---- what a report says

by_ending : (ending : Ending) → ending_place (Some ending) ≡ aborting_place (end_of ending)
by_ending (endings.FirstBad p) = refl
by_ending (endings.OnlySkipped ps) = refl
by_ending (endings.MergeBaseBad p) = refl
by_ending (endings.GoodNotAncestor p) = refl
by_ending (endings.BothSides p) = refl
by_ending (endings.Aborted p outcome) = refl
by_ending endings.Leg = refl
by_ending (endings.TestFault p) = refl

waits_none : (end : End) → is_open end ≡ true → aborting_place end ≡ []
waits_none (Open p) h = refl
waits_none (Answered a) h = cc
waits_none Leg h = cc
waits_none (Aborted p outcome) h = cc

-- an ending tells the place whose outcome ended the run
pub ending_tells : (o : Option Ending) (end : End) → Tells o end → ending_place o ≡ aborting_place end
ending_tells None end told = sym (waits_none end told)
ending_tells (Some ending) end told = by_ending ending ∙ ap (λ (e : End). aborting_place e) told.0

all_known : (known : Outcomes) (pairs : List (ℕ × Outcome)) → All (λ pair. known pair.0 ≡ Some pair.1) pairs
    → All (λ p. is_some (known p) ≡ true) (map (λ pair. pair.0) pairs)
all_known known [] h = All-nil (λ (p : ℕ). is_some (known p) ≡ true)
all_known known (pair ∷ pairs) h =
    All-cons (λ (p : ℕ). is_some (known p) ≡ true) pair.0 (map (λ pair. pair.0) pairs) (ap (λ (o : Option Outcome). is_some o) (h 0 pair (omega arith)))
    (all_known known pairs (λ k d l. h (suc k) d (omega arith)))

pub used_known : (setting : Setting) (table : List (Option Outcome))
    → All (λ p. is_some (outcomes_of_table table p) ≡ true) (used_places (consumed setting table))
used_known setting table =
    subst (λ (ps : List ℕ). All (λ p. is_some (outcomes_of_table table p) ≡ true) ps)
    (listed (outcomes_of_table table) setting.graph (leg_of setting.leg) setting.start)
    (all_known (outcomes_of_table table) (consumed setting table).used (told (outcomes_of_table table) setting.graph (leg_of setting.leg) setting.start).used)

pub marked_known : (setting : Setting) (table other : List (Option Outcome)) (entries : List Entry) → other ≡ table
    → entries ≡ (consumed setting table).entries
    → All (λ p. is_some (outcomes_of_table other p) ≡ true) (marked_places entries)
marked_known setting table other entries same is =
    subst (λ (t : List (Option Outcome)). All (λ p. is_some (outcomes_of_table t p) ≡ true) (marked_places entries)) (sym same)
    (subst (λ (es : List Entry). All (λ p. is_some (outcomes_of_table table p) ≡ true) (marked_places es)) (sym is)
    (all_left (λ p. is_some (outcomes_of_table table p) ≡ true) (marked_places (consumed setting table).entries)
    (aborting_place (consumed setting table).end) (used_known setting table)))

pub ending_known : (setting : Setting) (table other : List (Option Outcome)) (o : Option Ending) → other ≡ table → Tells o (consumed setting table).end
    → All (λ p. is_some (outcomes_of_table other p) ≡ true) (ending_place o)
ending_known setting table other o same tells =
    subst (λ (t : List (Option Outcome)). All (λ p. is_some (outcomes_of_table t p) ≡ true) (ending_place o)) (sym same)
    (subst (λ (ps : List ℕ). All (λ p. is_some (outcomes_of_table table p) ≡ true) ps) (sym (ending_tells o (consumed setting table).end tells))
    (all_right (λ p. is_some (outcomes_of_table table p) ≡ true) (marked_places (consumed setting table).entries)
    (aborting_place (consumed setting table).end) (used_known setting table)))

-- the answers of the places that entries and ending tell
pub answers_of_run : (setting : Setting) (names : List Oid) (table other : List (Option Outcome)) (entries : List Entry) (o : Option Ending)
    (answers : List Answer) → other ≡ table
    → entries ≡ (consumed setting table).entries → Tells o (consumed setting table).end → AreAnswersAt names other
    (marked_places entries ++ ending_place o) answers
    → AreAnswersAt names table (used_places (consumed setting table)) answers
answers_of_run setting names table other entries o answers same is tells h =
    subst (λ (t : List (Option Outcome)). AreAnswersAt names t (used_places (consumed setting table)) answers) same
    (subst (λ (ps : List ℕ). AreAnswersAt names other ps answers)
    (ap (λ (es : List Entry). marked_places es ++ ending_place o) is ∙ ap (λ (l : List ℕ). marked_places (consumed setting table).entries ++ l)
    (ending_tells o (consumed setting table).end tells)) h)

-- answers of pairs with different places have different places
apart_pairs : (answers : List Answer) → AllPairs (λ (a b : ℕ × Outcome). a.0 ≢ b.0) (map pair_of answers)
    → AllPairs (λ (a b : Answer). a.place ≢ b.place) answers
apart_pairs answers h = λ i j d below within.
    subst (λ (pair : ℕ × Outcome). pair.0 ≢ (get_or answers j d).place) (get_or-map pair_of answers i d (pair_of d) (omega arith))
    (subst (λ (pair : ℕ × Outcome). (get_or (map pair_of answers) i (pair_of d)).0 ≢ pair.0) (get_or-map pair_of answers j d (pair_of d) within)
    (h i j (pair_of d) below (omega (arith, length-map answers pair_of))))

leg_only : (ending : Ending) → end_of ending ≡ Leg → ending ≡ endings.Leg
leg_only (endings.FirstBad p) e = cc
leg_only (endings.OnlySkipped ps) e = cc
leg_only (endings.MergeBaseBad p) e = cc
leg_only (endings.GoodNotAncestor p) e = cc
leg_only (endings.BothSides p) e = cc
leg_only (endings.Aborted p outcome) e = cc
leg_only endings.Leg e = refl
leg_only (endings.TestFault p) e = cc

over_by : (setting : Setting) (table : List (Option Outcome)) (report : Report) → IsOverGraph setting
    → report.entries.items ≡ (consumed setting table).entries → (consumed setting table).end ≡ Leg → IsLegOver setting.leg report.entries.items
over_by setting table report over entries ends =
    let both = leg_ends setting.graph (outcomes_of_table table) over.parents setting.start setting.leg over.places ends in
    record { has_end = both.0; made = ap (λ (es : List Entry). length (marks_of es)) entries ∙ both.1 }

pub reports : (setting : Setting) (first : Session) (names : List Oid) (table : List (Option Outcome)) (report : Report)
    → report.entries.items ≡ (consumed setting table).entries
    → report.state ≡ with_search first (consumed setting table).search → end_of report.ending ≡ (consumed setting table).end → report.table ≡ table
    → AreAnswersAt names table (used_places (consumed setting table)) report.used.items → IsOverGraph setting → IsReport setting first names report
reports setting first names table report entries state ending same h over =
    let is : run_on setting report.used.items ≡ consumed setting table = run_is setting table names report.used.items h in
    record {
      entries = entries ∙ ap (λ (r : Run). r.entries) (sym is);
      state = state ∙ ap (λ (r : Run). with_search first r.search) (sym is);
      ending = ending ∙ ap (λ (r : Run). r.end) (sym is);
      used = used_are setting table names report.used.items h ∙ ap (λ (r : Run). r.used) (sym is);
      table = is ∙ ap (λ (t : List (Option Outcome)). consumed setting t) (sym same);
      named = h.named;
      once = apart_pairs report.used.items
          (subst (λ (pairs : List (ℕ × Outcome)). AllPairs (λ a b. a.0 ≢ b.0) pairs) (sym (used_are setting table names report.used.items h))
          (used_differ setting.graph (outcomes_of_table table) over.parents (leg_of setting.leg) setting.start over.places));
      leg = (
        λ e. over_by setting table report over entries (sym ending ∙ ap (λ (x : Ending). end_of x) e),
        λ spent. leg_only report.ending (ending ∙ leg_made setting.graph (outcomes_of_table table) over.parents setting.start setting.leg over.places
            spent.has_end
            (sym (ap (λ (es : List Entry). length (marks_of es)) entries) ∙ spent.made)),
      );
    }

-- no run has ended that waits
pub stops_somehow : (o : Option Ending) (end : End) (failed : Option ℕ) → Tells o end → StopsAt end failed → (is_some o || is_some failed) ≡ true
stops_somehow None end None told stops = absurd (both_ways (is_open end) stops told)
stops_somehow None end (Some p) told stops = refl
stops_somehow (Some ending) end failed told stops = refl
