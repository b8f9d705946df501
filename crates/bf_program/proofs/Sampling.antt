-- The search of `sample`: its plan, its ends, and what its run is told as.
use Rattle.std.proofs.Common.{◌≡◌, ℕ, zero, suc, ◌==◌, ◌≤◌, ◌-◌, ◌/◌, Bool, if◌then◌else◌, true, false, List, [], ◌∷◌, ◌++◌, length, replicate, count_by, Option, Some, None}
use Rattle.std.proofs.Common.{Result, Ok, Err, IfOk, IsTrue, refl, sym, ap, subst, ◌∙◌, arith}
use Rattle.std.proofs.lemmas.Bool.{both_ways, ne_eqb}
use Rattle.std.proofs.lemmas.List.{append-nil, map-append, length-replicate}
use Rattle.std.proofs.lemmas.List.Elements.{All-append, All-replicate}
use Rattle.std.specs.List.{All}
use Rattle.bf_farm.specs.Answering.{HasFault}
use Rattle.bf_farm.specs.Reports.{TableFollows}
use Rattle.bf_farm.specs.declared.report.Report.{Report}
use Rattle.bf_state.specs.Ends.{HasEnds}
use Rattle.bf_history.specs.Meanings.{History}
use Rattle.bf_output.proofs.Runs.{closed, front_if_told}
use Rattle.bf_output.specs.Beginning.{Begun, between_ends, commits_of}
use Rattle.bf_output.specs.Sample.{is_mark, plan_of_sample, sampled, summed_up, whole_search}
use Rattle.bf_output.specs.Simulate.{run_over, status_of_end}
use Rattle.bf_output.specs.Tested.{run_on, status_at_end, lines_at_end, is_test_fault}
use Rattle.bf_output.specs.declared.status.Status.TheVariants as status
use Rattle.bf_runs.proofs.Fresh.{fresh_in, fresh_follows}
use Rattle.bf_runs.specs.Legs.{IsReady}
use Rattle.bf_search.specs.declared.farm.Ending.{Ending}
use Rattle.bf_search.specs.declared.farm.Ending.TheVariants as ending
use Rattle.bf_search.specs.declared.outcomes.Outcome.{Outcome}
use Rattle.bf_search.specs.declared.outcomes.Outcome.TheVariants.{Exit}
use Rattle.bf_search.specs.Farm.{end_of}
use Rattle.bf_search.specs.Outcomes.{outcomes_of_table}
use Rattle.bf_search.specs.Run.{End, Run, run, run_within, one_at_a_time}
use Rattle.bf_state.specs.Runs.{is_open}
use Rattle.bf_search.specs.State.{Search, ask}
use Rattle.bf_state.specs.Session.{Session, with_search}
use Rattle.bf_tester.specs.Plans.{is_letter, plan_of}
use Rattle.bf_tester.specs.declared.answer.Answer.{Answer as Tests}
use Rattle.bf_terms.specs.Texts.{answer_lines, with_goods}
use Rattle.bf_words.specs.declared.request.Request.{Request}
use Rattle.bf_answers.specs.Answers.{IsWhole}
use Rattle.bf_answers.specs.Tellings.{begun_of, told_of}
use Rattle.bf_answers.specs.declared.answer.Answer.{Answer}
use Rattle.bf_answers.specs.declared.started.Beginning.{Beginning}
use Rattle.bf_program.specs.Sampling.{letters_of_sample, numbers_of, sampled_from, summary_of}

-- ---- the plan

pub letters_are : (count : ℕ) → All (λ letter. IsTrue (is_letter letter)) (letters_of_sample count)
letters_are count =
    let Is : ℕ → Type 0 = λ letter. IsTrue (is_letter letter) in
    All-append Is (replicate (count / 2) 103) (replicate (count - count / 2) 98) (All-replicate Is (count / 2) 103 refl)
    (All-replicate Is (count - count / 2) 98 refl)

plan-replicate : (n l : ℕ) (outcome : Outcome) → plan_of (l ∷ []) ≡ outcome ∷ [] → plan_of (replicate n l) ≡ replicate n outcome
plan-replicate zero l outcome is = refl
plan-replicate (suc n) l outcome is = ap (λ (os : List Outcome). os ++ plan_of (replicate n l)) is
    ∙ ap (λ (os : List Outcome). outcome ∷ os) (plan-replicate n l outcome is)

pub letters_plan : (count : ℕ) → plan_of (letters_of_sample count) ≡ plan_of_sample count
letters_plan count =
    let half = count / 2 in
    map-append _ (replicate half 103) (replicate (count - half) 98)
    ∙ ap (λ (os : List Outcome). os ++ plan_of (replicate (count - half) 98)) (plan-replicate half 103 (Exit 0) refl)
    ∙ ap (λ (os : List Outcome). replicate half (Exit 0) ++ os) (plan-replicate (count - half) 98 (Exit 1) refl)

pub tells_sample : {T E : Type 0} (told : T → Option (List Outcome)) (count : ℕ) (letters : List ℕ) (result : Result T E) → letters ≡ letters_of_sample count
    → IfOk result (λ tester. told tester ≡ Some (plan_of letters)) → IfOk result (λ tester. told tester ≡ Some (plan_of_sample count))
tells_sample told count letters (Err e) is tells = tt
tells_sample told count letters (Ok tester) is tells =
    tells ∙ ap (λ (ls : List ℕ). Some (plan_of ls)) is ∙ ap (λ (os : List Outcome). Some os) (letters_plan count)

-- ---- the ends

whole_ends : (request : Request) (len : ℕ) → 1 ≤ len → HasEnds (whole_search request len).search
whole_ends request len some =
    let apart : (len == 0) ≡ false = ne_eqb len 0 (λ e. omega arith) in
    let one : with_goods [] (if len == 0 then [] else 0 ∷ []) ≡ 0 ∷ [] = ap (λ (b : Bool). with_goods [] (if b then [] else 0 ∷ [])) apart in
    record {
      bad = len - 1;
      bad_is = ap (λ (b : Bool). if b then None else Some (len - 1)) apart;
      some_good = λ none. cc (sym one ∙ none);
    }

pub begun_ends : {E : Type 0} (request : Request) (len : ℕ) (bad : Option ℕ) (goods : List ℕ) (result : Result Beginning E) → 1 ≤ len
    → bad ≡ (if len == 0 then None else Some (len - 1)) → goods ≡ (if len == 0 then [] else 0 ∷ [])
    → IfOk result (λ first. begun_of first ≡ between_ends request len bad goods)
    → IfOk result (λ first. HasEnds first.state.search)
begun_ends request len bad goods (Err e) some last places is = tt
begun_ends request len bad goods (Ok first) some last places is =
    let whole : begun_of first ≡ whole_search request len =
    is ∙ ap (λ (b : Option ℕ). between_ends request len b goods) last
    ∙ ap (λ (ps : List ℕ). between_ends request len (if len == 0 then None else Some (len - 1)) ps) places in
    subst (λ (b : Begun). HasEnds b.search) (sym whole) (whole_ends request len some)

-- without a commit the search waits for both ends
waits_at : (request : Request) (history : History)
    → summed_up request history (whole_search request 0) (run_over history (whole_search request 0) (plan_of_sample request.count))
    ≡ record { status = status.Waiting; text = numbers_of request.count 0 }
unfolding run run_within ask answer_lines
waits_at request history =
    ap (λ (t : List ℕ). record { status = status.Waiting; text = t }) (append-nil (numbers_of request.count 0))

waits : (request : Request) (history : History) → length history.parents ≡ 0
    → record { status = status.Waiting; text = numbers_of request.count 0 } ≡ sampled request history
unfolding sampled
waits request history none =
    sym (ap (λ (len : ℕ). summed_up request history (whole_search request len)
    (run_over history (whole_search request len) (plan_of_sample request.count))) none
    ∙ waits_at request history)

pub waits_told : {E : Type 0} (request : Request) (history : History) (result : Result Answer E) → length history.parents ≡ 0
    → IfOk result (λ answer. answer.status ≡ status.Waiting) → IfOk result (λ answer. answer.text ≡ numbers_of request.count 0)
    → IfOk result (λ answer. told_of answer ≡ sampled request history)
waits_told request history (Err e) none status text = tt
waits_told request history (Ok answer) none status text = (λ i. record { status = status i; text = text i }) ∙ waits request history none

-- ---- the run

pub sample_ready : (history : History) (told : Option (List Outcome)) (answers : List Tests) (session before : Session) (table : List (Option Outcome))
    → session ≡ before → before.len ≡ length history.parents → HasEnds before.search → table ≡ replicate (length history.parents) None
    → IsReady history.parents history.names told answers session table
sample_ready history told answers session before table same len ends fresh = record {
  len = ap (λ (s : Session). s.len) same ∙ len;
  long = ap (λ (t : List (Option Outcome)). length t) fresh ∙ length-replicate (length history.parents) None;
  ends = subst (λ (s : Session). HasEnds s.search) (sym same) ends;
  known = record {
    answered = fresh_in history.names answers (length history.parents) table fresh;
    planned = fresh_follows told (length history.parents) table fresh;
  };
}

-- no test failed
not_failed : (report : Report) → HasFault 0 0 None report → is_test_fault (status_at_end (end_of report.ending)) ≡ false
not_failed report fault = by_end report.ending refl
  where
    by_end : (e : Ending) → report.ending ≡ e → is_test_fault (status_at_end (end_of e)) ≡ false
    by_end (ending.TestFault p) is = cc (fault p is).1
    by_end other is = refl

whole_end : (e : Ending) → is_test_fault (status_at_end (end_of e)) ≡ false → IsWhole (status_at_end (end_of e))
whole_end (ending.TestFault p) h = absurd (both_ways true h refl)
whole_end other h = tt

module _ (request : Request) (history : History) (start : Beginning) (session : Session) (report : Report) (told : Option (List Outcome))
    (plan : told ≡ Some (plan_of_sample request.count)) (follows : TableFollows told report.table) (same : session ≡ start.state)
    (reached : Search) (state : report.state ≡ with_search session reached)
    (entries : report.entries.items ≡ (one_at_a_time history.parents session.search (outcomes_of_table report.table) 0).entries)
    (ends : end_of report.ending ≡ (one_at_a_time history.parents session.search (outcomes_of_table report.table) 0).end)
    (fault : HasFault 0 0 None report) where
  abbrev first : Begun
  first = begun_of start

  abbrev outcomes : List Outcome
  outcomes = plan_of_sample request.count

  abbrev tested : Run
  tested = run_on history first report.table

  from_first : one_at_a_time history.parents session.search (outcomes_of_table report.table) 0 ≡ tested
  from_first = ap (λ (s : Session). one_at_a_time history.parents s.search (outcomes_of_table report.table) 0) same

  end_is : end_of report.ending ≡ tested.end
  end_is = ends ∙ ap (λ (r : Run). r.end) from_first

  over : (is_open tested.end ≡ false) × ((status_at_end tested.end ≡ status_of_end tested.end)
      × (lines_at_end (commits_of history) first.sides tested.end ≡ answer_lines (commits_of history) first.sides tested.end))
  over = closed history first tested tested.end refl (ap (λ (e : End). is_test_fault (status_at_end e)) (sym end_is) ∙ not_failed report fault)

  -- the run on what was tested is that over the whole plan
  whole_run : tested ≡ run_over history first outcomes
  whole_run = (front_if_told (Some outcomes) history first report.table
      (subst (λ (o : Option (List Outcome)). TableFollows o report.table) plan follows)).ended over.0

  status_is : status_at_end (end_of report.ending) ≡ status_of_end (run_over history first outcomes).end
  status_is = ap status_at_end end_is ∙ over.1.0 ∙ ap (λ (r : Run). status_of_end r.end) whole_run

  marks_are : count_by is_mark report.entries.items ≡ count_by is_mark (run_over history first outcomes).entries
  marks_are = ap (count_by is_mark) (entries ∙ ap (λ (r : Run). r.entries) (from_first ∙ whole_run))

  lines_are : lines_at_end (commits_of history) report.state.terms (end_of report.ending)
      ≡ answer_lines (commits_of history) first.sides (run_over history first outcomes).end
  lines_are =
      ap (λ (s : Session). lines_at_end (commits_of history) s.terms (end_of report.ending)) (state ∙ ap (λ (s : Session). with_search s reached) same)
      ∙ ap (λ (e : End). lines_at_end (commits_of history) first.sides e) end_is
      ∙ over.1.1
      ∙ ap (λ (r : Run). answer_lines (commits_of history) first.sides r.end) whole_run

  text_is : summary_of request.count history report ≡ (sampled_from request history first).text
  text_is =
      ap (λ (t : List ℕ). numbers_of request.count (count_by is_mark report.entries.items) ++ t) lines_are
      ∙ ap (λ (n : ℕ). numbers_of request.count n ++ answer_lines (commits_of history) first.sides (run_over history first outcomes).end) marks_are

  pub sample_told : {E : Type 0} (result : Result Answer E)
      → IfOk result (λ answer. answer.status ≡ status_at_end (end_of report.ending))
      → IfOk result (λ answer. answer.text ≡ summary_of request.count history report)
      → IfOk result (λ answer. told_of answer ≡ sampled_from request history first)
  sample_told (Err e) status text = tt
  sample_told (Ok answer) status text = λ i. record { status = (status ∙ status_is) i; text = (text ∙ text_is) i }

pub sample_whole : {E : Type 0} (report : Report) (result : Result Answer E) → HasFault 0 0 None report
    → IfOk result (λ answer. answer.status ≡ status_at_end (end_of report.ending)) → IfOk result (λ answer. IsWhole answer.status)
sample_whole report (Err e) fault is = tt
sample_whole report (Ok answer) fault is = subst IsWhole (sym is) (whole_end report.ending (not_failed report fault))
