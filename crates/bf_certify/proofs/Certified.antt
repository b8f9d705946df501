-- From the report of a run to what `certify` tells of it.
use Rattle.std.proofs.Common.{◌≡◌, ◌≢◌, ℕ, Bool, true, false, List, [], ◌++◌, Option, Some, Result, Ok, Err, IfOk}
use Rattle.std.proofs.Common.{refl, sym, ap, subst, ◌∙◌}
use Rattle.bf_answers.specs.declared.answer.Answer.{Answer}
use Rattle.bf_answers.specs.Answers.{HasCause, IsBeforeSearch, IsWhole}
use Rattle.bf_answers.specs.Tellings.{told_of}
use Rattle.bf_cert.specs.Made.{AsksFirstBad}
use Rattle.bf_certify.specs.Ended.{AnswersOther, IsCertFound}
use Rattle.bf_certify.proofs.Runs.{finds, no_leg}
use Rattle.bf_commands.specs.Certify.{IsCertOf, IsCertTold, IsRunCertified}
use Rattle.bf_farm.specs.Answering.{HasFault}
use Rattle.bf_farm.specs.declared.report.Report.{Report}
use Rattle.bf_graph.specs.Graph.{IsGraph}
use Rattle.bf_history.specs.Meanings.{History}
use Rattle.bf_log.specs.Trace.{event_lines}
use Rattle.bf_log.specs.Written.{known_after_all}
use Rattle.bf_output.specs.Beginning.{Begun, commits_of}
use Rattle.bf_output.specs.Simulate.{plan_of, run_over}
use Rattle.bf_output.specs.Shown.{TesterShown}
use Rattle.bf_output.specs.Tested.{IsFrontIfTold, IsFrontOf, IsTestedAs, IsTestedRun, is_test_fault, run_on, status_at_end, told_of_run}
use Rattle.bf_output.specs.Told.{Told}
use Rattle.bf_output.specs.Traces.{course_of, traced_if}
use Rattle.bf_output.specs.declared.status.Status.{Status}
use Rattle.bf_output.specs.declared.status.Status.TheVariants as status
use Rattle.bf_output.proofs.Runs.{front_if_told}
use Rattle.bf_runs.specs.Courses.{stand_of}
use Rattle.bf_runs.specs.Legs.{Course, Legs, IsLegRun, IsOver, IsReady, LeadsOn, leg_run}
use Rattle.bf_runs.proofs.Sequences.{over_graph}
use Rattle.bf_search.specs.declared.asks.Ask.TheVariants as asks
use Rattle.bf_search.specs.declared.farm.Ending.{Ending}
use Rattle.bf_search.specs.declared.farm.Ending.TheVariants as ending
use Rattle.bf_search.specs.declared.outcomes.Outcome.{Outcome}
use Rattle.bf_search.specs.Farm.{end_of}
use Rattle.bf_search.specs.Outcomes.{outcomes_of_table}
use Rattle.bf_search.specs.Run.{End, Answered, Leg, Open, Aborted, Run}
use Rattle.bf_search.specs.State.{Search}
use Rattle.bf_searches.proofs.Going.{gone_cause, gone_on}
use Rattle.bf_searches.proofs.Untested.{at_ending}
use Rattle.bf_searches.specs.declared.legs.Gone.TheVariants.{Over}
use Rattle.bf_searches.specs.declared.legs.Running.{Running}
use Rattle.bf_searches.specs.declared.telling.Telling.{Telling}
use Rattle.bf_searches.specs.Searching.{IsRunning}
use Rattle.bf_searches.specs.Telling.{trace_with, IsLogOf}
use Rattle.bf_state.specs.Runs.{in_sequence, is_open}
use Rattle.bf_state.specs.Session.{Session, IsSearchBelow}
use Rattle.bf_terms.specs.Texts.{log_from}
use Rattle.bf_words.specs.declared.request.Request.{Request}
use Rattle.std.proofs.lemmas.Bool.{both_ways}

-- ---- a run that did not find the first bad commit

-- such a run ends with another status than one that did
not_done : (e : Ending) → ((place : ℕ) → e ≢ ending.FirstBad place) → e ≢ ending.Leg → status_at_end (end_of e) ≢ status.Done
not_done (ending.FirstBad p) other no_leg = absurd (other p refl)
not_done ending.Leg other no_leg = absurd (no_leg refl)
not_done (ending.OnlySkipped ps) other no_leg = λ e. cc
not_done (ending.MergeBaseBad p) other no_leg = λ e. cc
not_done (ending.GoodNotAncestor p) other no_leg = λ e. cc
not_done (ending.BothSides p) other no_leg = λ e. cc
not_done (ending.Aborted p outcome) other no_leg = λ e. cc
not_done (ending.TestFault p) other no_leg = λ e. cc

untraced : (is_asked : Bool) (history : History) (legs : Legs) (told : Told) → is_asked ≡ false → traced_if is_asked history legs told ≡ told
untraced false history legs told plain = refl
untraced true history legs told plain = absurd (both_ways true plain refl)

by_log : (history : History) (first : Begun) (run : Run) (told : Told) (end : End) → run.end ≡ end → told ≡ told_of_run history first run
    → told.status ≢ status.Done → IsCertTold history first run end told
by_log history first run told (Answered (asks.FirstBad p)) e is other =
    absurd (other (ap (λ (t : Told). t.status) is ∙ ap status_at_end e))
by_log history first run told end e is other = is

-- its log is told as ever
log_certified : (request : Request) (tested : TesterShown) (history : History) (first : Begun) (told : Told) → request.trace ≡ false
    → told.status ≢ status.Done → IsTestedRun request tested history first told
    → IsTestedAs (λ legs. IsRunCertified history first) request tested history first told
log_certified request tested history first told plain other is =
    let run = run_on history first is.table in
    record {
      table = is.table;
      legs = is.legs;
      over = is.over;
      planned = is.planned;
      tells = by_log history first run told run.end refl
          (is.tells ∙ untraced request.trace history is.legs (told_of_run history first run) plain) other;
    }

-- ---- the report of a run without legs

module _ (request : Request) (before after : TesterShown) (history : History) (first : Begun) (running : Running) (report : Report)
    (is : IsRunning request before history first [] running)
    (ran : IsLegRun (course_of request history first) running.standing.state report)
    (leads : LeadsOn (course_of request history first) before.plan before.answers after.answers (stand_of running.standing) report)
    (same_plan : after.plan ≡ before.plan)
    (graph : IsGraph history.parents)
    (below : IsSearchBelow running.standing.state.len running.standing.state.search)
    (none : request.leg ≡ 0) where
  abbrev course : Course
  course = course_of request history first

  abbrev leg : Run
  leg = leg_run course running.standing.state.search report.table

  abbrev whole : Run
  whole = run_on history first report.table

  pub is_over : report.ending ≢ ending.Leg
  is_over e =
      no_leg history.parents (outcomes_of_table report.table) running.standing.state.search request.leg graph
      (over_graph history.parents running.standing.state.len running.standing.state.search below is.ready.len) none
      (sym ran.ending ∙ ap end_of e)

  over : IsOver course before.plan after.answers report.table (record { whole = is.whole; last = report.events.items }) (in_sequence is.run leg)
  over = leads.over is.whole is.run is.between is_over

  end_is : end_of report.ending ≡ whole.end
  end_is = ran.ending ∙ ap (λ (r : Run). r.end) over.is

  search_is : report.state.search ≡ whole.search
  search_is = ap (λ (s : Session). s.search) ran.state ∙ ap (λ (r : Run). r.search) over.is

  -- the run on what is known, told by its certificate or by its log
  certified_as : (told : Told) → IsRunCertified history first whole told → IsTestedAs (λ legs. IsRunCertified history first) request after history first told
  certified_as told tells =
      let knows : IsOver course after.plan after.answers report.table (record { whole = is.whole; last = report.events.items }) (in_sequence is.run leg) =
      subst (λ (plan : Option (List Outcome)). IsOver course plan after.answers report.table (record { whole = is.whole; last = report.events.items })
      (in_sequence is.run leg)) (sym same_plan) over in
      record {
        table = report.table;
        legs = record { whole = is.whole; last = report.events.items };
        over = subst (λ (r : Run). IsOver course after.plan after.answers report.table (record { whole = is.whole; last = report.events.items }) r)
            knows.is knows;
        planned = front_if_told after.plan history first report.table knows.known.planned;
        tells = tells;
      }

  -- where it found the first bad commit, its search has found it
  pub found_at : (place : ℕ) → report.ending ≡ ending.FirstBad place → AsksFirstBad history.parents report.state.search
  found_at place e =
      subst (AsksFirstBad history.parents) (sym search_is)
      (finds history.parents (outcomes_of_table report.table) place first.search 0 (sym end_is ∙ ap end_of e))

  -- the answer of a run: what it tells, its cause, and that it is no refusal
  abbrev IsAnswerOf : Answer → Type 0
  IsAnswerOf answer =
      IsTestedAs (λ legs. IsRunCertified history first) request after history first (told_of answer) × HasCause true before.faults after answer.status
      × (IsBeforeSearch answer.status → ⊥)

  found_answer : (answer : Answer) (place : ℕ) → report.ending ≡ ending.FirstBad place → IsCertOf history report.state.search (told_of answer)
      → IsAnswerOf answer
  found_answer answer place e cert =
      let done : answer.status ≡ status.Done = ap (λ (t : Told). t.status) cert.tells in (
        certified_as (told_of answer)
            (subst (λ (end : End). IsCertTold history first whole end (told_of answer)) (sym (ap end_of e) ∙ end_is)
            (subst (λ (s : Search). IsCertOf history s (told_of answer)) search_is cert)),
        subst (HasCause true before.faults after) (sym done) tt,
        λ refused. subst IsBeforeSearch done refused,
      )

  log_answer : (answer : Answer) → IsReady history.parents history.names before.plan after.answers report.state report.table
      → HasFault before.faults after.faults after.failed report → request.trace ≡ false
      → ((place : ℕ) → report.ending ≢ ending.FirstBad place) → IsLogOf history running.telling report answer → IsAnswerOf answer
  log_answer answer ready fault plain other log =
      let told : Telling = record {
        known = known_after_all running.telling.known report.entries.items;
        text = running.telling.text ++ log_from (commits_of history) report.state.terms running.telling.known report.entries.items;
        trace = trace_with (event_lines (commits_of history) report.events.items) running.telling.trace;
      } in
      let tested : IsTestedRun request after history first (told_of answer) =
      gone_on request before after history first [] running report is ran leads same_plan told (Over answer) ready refl refl refl
      (λ e. is_over e) (λ e. (log.status, log.text)) in (
        log_certified request after history first (told_of answer) plain
            (λ done. not_done report.ending other is_over (sym log.status ∙ done)) tested,
        gone_cause before.faults after history report told (Over answer) fault (λ e. is_over e) (λ e. (log.status, log.text)),
        λ refused. at_ending report.ending (subst IsBeforeSearch log.status refused),
      )

  answer_of : (answer : Answer) (e : Ending) → report.ending ≡ e
      → IsReady history.parents history.names before.plan after.answers report.state report.table
      → HasFault before.faults after.faults after.failed report → request.trace ≡ false
      → IsCertFound history report answer → AnswersOther history running.telling report answer → IsAnswerOf answer
  answer_of answer (ending.FirstBad p) e ready fault plain found other = found_answer answer p e (found p e)
  answer_of answer (ending.OnlySkipped ps) e ready fault plain found other =
      let apart : (q : ℕ) → report.ending ≢ ending.FirstBad q = λ q f. cc (sym e ∙ f) in log_answer answer ready fault plain apart (other apart)
  answer_of answer (ending.MergeBaseBad p) e ready fault plain found other =
      let apart : (q : ℕ) → report.ending ≢ ending.FirstBad q = λ q f. cc (sym e ∙ f) in log_answer answer ready fault plain apart (other apart)
  answer_of answer (ending.GoodNotAncestor p) e ready fault plain found other =
      let apart : (q : ℕ) → report.ending ≢ ending.FirstBad q = λ q f. cc (sym e ∙ f) in log_answer answer ready fault plain apart (other apart)
  answer_of answer (ending.BothSides p) e ready fault plain found other =
      let apart : (q : ℕ) → report.ending ≢ ending.FirstBad q = λ q f. cc (sym e ∙ f) in log_answer answer ready fault plain apart (other apart)
  answer_of answer (ending.Aborted p outcome) e ready fault plain found other =
      let apart : (q : ℕ) → report.ending ≢ ending.FirstBad q = λ q f. cc (sym e ∙ f) in log_answer answer ready fault plain apart (other apart)
  answer_of answer ending.Leg e ready fault plain found other = absurd (is_over e)
  answer_of answer (ending.TestFault p) e ready fault plain found other =
      let apart : (q : ℕ) → report.ending ≢ ending.FirstBad q = λ q f. cc (sym e ∙ f) in log_answer answer ready fault plain apart (other apart)

  pub answers : {E : Type 0} (result : Result Answer E)
      → IsReady history.parents history.names before.plan after.answers report.state report.table
      → HasFault before.faults after.faults after.failed report → request.trace ≡ false
      → IfOk result (IsCertFound history report) → IfOk result (AnswersOther history running.telling report)
      → IfOk result IsAnswerOf
  answers (Err e) ready fault plain found other = tt
  answers (Ok answer) ready fault plain found other = answer_of answer report.ending refl ready fault plain found other

-- ---- the parts of it

pub first_part : {E : Type 0} (P Q R : Answer → Type 0) (result : Result Answer E) → IfOk result (λ a. P a × Q a × R a) → IfOk result P
first_part P Q R (Err e) is = tt
first_part P Q R (Ok a) (p, q, r) = p

pub second_part : {E : Type 0} (P Q R : Answer → Type 0) (result : Result Answer E) → IfOk result (λ a. P a × Q a × R a) → IfOk result Q
second_part P Q R (Err e) is = tt
second_part P Q R (Ok a) (p, q, r) = q

pub third_part : {E : Type 0} (P Q R : Answer → Type 0) (result : Result Answer E) → IfOk result (λ a. P a × Q a × R a) → IfOk result R
third_part P Q R (Err e) is = tt
third_part P Q R (Ok a) (p, q, r) = r

-- ---- a plan

not_fault : (s : Status) → IsWhole s → is_test_fault s ≡ false
not_fault (status.TestFault p) is = absurd is
not_fault other is = refl

-- a run that is certified without a failed test has its outcomes
closed : (history : History) (first : Begun) (run : Run) (told : Told) (end : End) → run.end ≡ end → IsCertTold history first run end told
    → is_test_fault told.status ≡ false → is_open end ≡ false
closed history first run told (Answered a) e is h = refl
closed history first run told Leg e is h = refl
closed history first run told (Open p) e is h =
    let t : true ≡ false = ap (λ (x : End). is_test_fault (status_at_end x)) (sym e) ∙ sym (ap (λ (t : Told). is_test_fault t.status) is) ∙ h in
    absurd (both_ways true t refl)
closed history first run told (Aborted p outcome) e is h = refl

planned_certified : (request : Request) (words : List (List ℕ)) (tested : TesterShown) (history : History) (first : Begun) (told : Told)
    → tested.plan ≡ Some (plan_of request words) → IsTestedAs (λ legs. IsRunCertified history first) request tested history first told
    → is_test_fault told.status ≡ false → IsRunCertified history first (run_over history first (plan_of request words)) told
planned_certified request words tested history first told plan is h =
    let run = run_on history first is.table in
    let front : IsFrontOf run (run_over history first (plan_of request words)) =
    subst (λ (o : Option (List Outcome)). IsFrontIfTold o history first run) plan is.planned in
    subst (λ (r : Run). IsRunCertified history first r told) (front.ended (closed history first run told run.end refl is.tells h)) is.tells

pub all_planned : {E : Type 0} (request : Request) (words : List (List ℕ)) (tested : TesterShown) (history : History) (first : Begun)
    (result : Result Answer E) → tested.plan ≡ Some (plan_of request words)
    → IfOk result (λ a. IsTestedAs (λ legs. IsRunCertified history first) request tested history first (told_of a)) → IfOk result (λ a. IsWhole a.status)
    → IfOk result (λ a. IsRunCertified history first (run_over history first (plan_of request words)) (told_of a))
all_planned request words tested history first (Err e) plan is answered = tt
all_planned request words tested history first (Ok a) plan is answered =
    planned_certified request words tested history first (told_of a) plan is (not_fault a.status answered)
