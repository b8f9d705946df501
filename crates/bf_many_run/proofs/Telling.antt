-- A search of which no test failed is told as its run over the plan.
use Rattle.std.proofs.Common.{◌≡◌, ℕ, false, List, [], ◌++◌, Option, Some, None, unwrap_or, Result, Ok, Err, IfOk, refl, sym, ap, subst, ◌∙◌, append-nil}
use Rattle.bf_answers.specs.Answers.{IsWhole}
use Rattle.bf_answers.specs.Tellings.{Says, told_of}
use Rattle.bf_answers.specs.declared.answer.Answer.{Answer}
use Rattle.bf_farm.specs.Answering.{HasFault}
use Rattle.bf_farm.specs.Reports.{TableFollows}
use Rattle.bf_farm.specs.declared.report.Report.{Report}
use Rattle.bf_history.specs.Meanings.{History}
use Rattle.bf_log.specs.Trace.{event_lines}
use Rattle.bf_output.proofs.Runs.{front_if_told}
use Rattle.bf_output.specs.Beginning.{Begun as BegunOf, commits_of}
use Rattle.bf_output.specs.Simulate.{run_over, status_of_end}
use Rattle.bf_output.specs.Tested.{lines_at_end, run_on, status_at_end}
use Rattle.bf_runs.specs.Courses.{course_from}
use Rattle.bf_runs.specs.Legs.{IsLegRun}
use Rattle.bf_runs.specs.declared.case.RunSettings.{RunSettings}
use Rattle.bf_search.specs.declared.entries.Entry.{Entry}
use Rattle.bf_search.specs.declared.farm.Ending.{Ending}
use Rattle.bf_search.specs.declared.farm.Ending.TheVariants as ending
use Rattle.bf_search.specs.declared.outcomes.Outcome.{Outcome}
use Rattle.bf_search.specs.Farm.{end_of}
use Rattle.bf_search.specs.Outcomes.{outcomes_of_table}
use Rattle.bf_search.specs.Run.{End, Run, one_at_a_time}
use Rattle.bf_searches.specs.Telling.{trace_with, IsLogOf, log_with, trace_of}
use Rattle.bf_state.specs.Runs.{is_open}
use Rattle.bf_state.specs.Session.{Session}
use Rattle.bf_searches.specs.declared.telling.Telling.{Telling}
use Rattle.bf_terms.specs.Texts.{Commits, Sides, answer_lines, log_from}
use Rattle.bf_many_run.specs.declared.slots.BegunSearch.{BegunSearch}
use Rattle.bf_many_run.specs.Groups.{told_from, told_over}

-- an end that no failed test made is told as that of a run over a plan
record IsClosed (history : History) (sides : Sides) (end : End) : Type 0 where
  pub closed : is_open end ≡ false
  pub status : status_at_end end ≡ status_of_end end
  pub lines : lines_at_end (commits_of history) sides end ≡ answer_lines (commits_of history) sides end
  pub whole : IsWhole (status_of_end end)

closed_by : (history : History) (sides : Sides) (e : Ending) → ((p : ℕ) → e ≡ ending.TestFault p → ⊥) → IsClosed history sides (end_of e)
closed_by history sides (ending.TestFault p) never = absurd (never p refl)
closed_by history sides other never = record { closed = refl; status = refl; lines = refl; whole = tt }

-- the log of a search with a run behind it, and how the run ended
pub log_ended : {E : Type 0} (history : History) (telling told : Telling) (report : Report) (commits : Commits) (sides : Sides) (result : Result Answer E)
    → told.text ≡ telling.text ++ log_from (commits_of history) report.state.terms telling.known report.entries.items
    → told.trace ≡ trace_with (event_lines (commits_of history) report.events.items) telling.trace
    → commits ≡ commits_of history → sides ≡ report.state.terms
    → IfOk result (λ answer. answer.status ≡ status_at_end (end_of report.ending))
    → IfOk result (λ answer. answer.text ≡ (told.text ++ lines_at_end commits sides (end_of report.ending)) ++ unwrap_or told.trace [])
    → IfOk result (IsLogOf history telling report)
log_ended history telling told report commits sides (Err e) text trace same_commits same_sides status ends = tt
log_ended history telling told report commits sides (Ok answer) text trace same_commits same_sides status ends = record {
  status = status;
  text =
      ends
      ∙ ap (λ (c : Commits). (told.text ++ lines_at_end c sides (end_of report.ending)) ++ unwrap_or told.trace []) same_commits
      ∙ ap (λ (s : Sides). (told.text ++ lines_at_end (commits_of history) s (end_of report.ending)) ++ unwrap_or told.trace []) same_sides
      ∙ ap (λ (t : List ℕ). (t ++ lines_at_end (commits_of history) report.state.terms (end_of report.ending)) ++ unwrap_or told.trace []) text
      ∙ ap (λ (t : Option (List ℕ)). (log_with history telling report
      ++ lines_at_end (commits_of history) report.state.terms (end_of report.ending)) ++ unwrap_or t []) trace;
}

-- the report of a run that goes on from where a search stands
pub record IsRunOn (history : History) (begun : BegunSearch) (report : Report) (leg : ℕ) : Type 0 where
  pub entries : report.entries.items ≡ (one_at_a_time history.parents begun.state.search (outcomes_of_table report.table) leg).entries
  pub terms : report.state.terms ≡ begun.state.terms
  pub ending : end_of report.ending ≡ (one_at_a_time history.parents begun.state.search (outcomes_of_table report.table) leg).end

run_whole : (search : RunSettings) (begun : BegunSearch) (report : Report) → search.leg ≡ 0
    → IsLegRun (course_from search begun.state.search) begun.state report → IsRunOn search.history.now begun report 0
run_whole search begun report whole ran =
    subst (λ (n : ℕ). IsRunOn search.history.now begun report n) whole
    (record { entries = ran.entries; terms = ap (λ (s : Session). s.terms) ran.state; ending = ran.ending })

-- the run that is told, as those that are known have it
abbrev begun_as : BegunSearch → BegunOf
begun_as begun = record { sides = begun.state.terms; known = begun.telling.known; search = begun.state.search; entries = [] }

module _ (history : History) (begun : BegunSearch) (report : Report) (plan : List Outcome) (answer : Answer)
    (untraced : begun.telling.trace ≡ None)
    (ran : IsRunOn history begun report 0)
    (planned : TableFollows (Some plan) report.table)
    (never : (p : ℕ) → report.ending ≡ ending.TestFault p → ⊥)
    (log : IsLogOf history begun.telling report answer) where
  abbrev run : Run
  run = run_on history (begun_as begun) report.table

  ends : IsClosed history begun.state.terms run.end
  ends = subst (λ (e : End). IsClosed history begun.state.terms e) ran.ending (closed_by history begun.state.terms report.ending never)

  -- the run on what is known is that over the plan
  over_plan : run ≡ run_over history (begun_as begun) plan
  over_plan = (front_if_told (Some plan) history (begun_as begun) report.table planned).ended ends.closed

  nothing_traced : trace_of history begun.telling report ≡ []
  nothing_traced =
      ap (λ (t : Option (List ℕ)). unwrap_or (trace_with (event_lines (commits_of history) report.events.items) t) []) untraced

  logged : log_with history begun.telling report
      ≡ begun.telling.text ++ log_from (commits_of history) begun.state.terms begun.telling.known run.entries
  logged =
      ap (λ (s : Sides). begun.telling.text ++ log_from (commits_of history) s begun.telling.known report.entries.items) ran.terms
      ∙ ap (λ (es : List Entry). begun.telling.text ++ log_from (commits_of history) begun.state.terms begun.telling.known es) ran.entries

  ended_so : lines_at_end (commits_of history) report.state.terms (end_of report.ending)
      ≡ answer_lines (commits_of history) begun.state.terms run.end
  ended_so =
      ap (λ (s : Sides). lines_at_end (commits_of history) s (end_of report.ending)) ran.terms
      ∙ ap (λ (e : End). lines_at_end (commits_of history) begun.state.terms e) ran.ending
      ∙ ends.lines

  text_told : answer.text ≡ (told_from history begun run).text
  text_told =
      log.text
      ∙ ap (λ (t : List ℕ). (log_with history begun.telling report
      ++ lines_at_end (commits_of history) report.state.terms (end_of report.ending)) ++ t) nothing_traced
      ∙ append-nil (log_with history begun.telling report ++ lines_at_end (commits_of history) report.state.terms (end_of report.ending))
      ∙ ap (λ (t : List ℕ). t ++ lines_at_end (commits_of history) report.state.terms (end_of report.ending)) logged
      ∙ ap (λ (t : List ℕ). (begun.telling.text
      ++ log_from (commits_of history) begun.state.terms begun.telling.known run.entries) ++ t) ended_so

  status_told : answer.status ≡ status_of_end run.end
  status_told = log.status ∙ ap status_at_end ran.ending ∙ ends.status

  pub log_told : told_of answer ≡ told_over history begun plan
  log_told = (λ i. record { status = status_told i; text = text_told i }) ∙ ap (told_from history begun) over_plan

  pub log_whole : IsWhole answer.status
  log_whole = subst IsWhole (sym status_told) ends.whole

-- no test failed where none can
never_failed : (before now : ℕ) (report : Report) → HasFault before now None report → (p : ℕ) → report.ending ≡ ending.TestFault p → ⊥
never_failed before now report fault p e = cc ((fault p e).1)

module _ {E : Type 0} (search : RunSettings) (begun : BegunSearch) (report : Report) (told : Option (List Outcome)) (plan : List Outcome) (before now : ℕ)
    (result : Result Answer E)
    (whole : search.leg ≡ 0)
    (untraced : begun.telling.trace ≡ None)
    (tells : told ≡ Some plan)
    (ran : IsLegRun (course_from search begun.state.search) begun.state report)
    (planned : TableFollows told report.table)
    (fault : HasFault before now None report) where
  pub run_told : IfOk result (IsLogOf search.history.now begun.telling report) → IfOk result (Says (told_over search.history.now begun plan))
  run_told log = by_result result log
    where
      by_result : (r : Result Answer E) → IfOk r (IsLogOf search.history.now begun.telling report)
          → IfOk r (Says (told_over search.history.now begun plan))
      by_result (Err e) is = tt
      by_result (Ok answer) is =
          log_told search.history.now begun report plan answer untraced (run_whole search begun report whole ran)
          (subst (λ (o : Option (List Outcome)). TableFollows o report.table) tells planned) (never_failed before now report fault) is

  pub run_is_whole : IfOk result (IsLogOf search.history.now begun.telling report) → IfOk result (λ answer. IsWhole answer.status)
  run_is_whole log = by_result result log
    where
      by_result : (r : Result Answer E) → IfOk r (IsLogOf search.history.now begun.telling report) → IfOk r (λ answer. IsWhole answer.status)
      by_result (Err e) is = tt
      by_result (Ok answer) is =
          log_whole search.history.now begun report plan answer untraced (run_whole search begun report whole ran)
          (subst (λ (o : Option (List Outcome)). TableFollows o report.table) tells planned) (never_failed before now report fault) is
