-- One leg more of a run whose outcomes are kept.
use Rattle.std.proofs.Common.{◌≡◌, ◌≢◌, ℕ, ◌≤◌, List, [], ◌++◌, Option, Some, IfSome, Result, Ok, Err, IfErr, IfOk, refl, sym, ap, ◌∙◌, subst}
use Rattle.std.specs.Prelude.{IsErrOf}
use Rattle.std.specs.Result.{IsErrAnd}
use Rattle.std.proofs.lemmas.List.{append-nil}
use Rattle.bf_answers.specs.Devices.{TesterMet}
use Rattle.bf_commands.specs.Journal.{AreUsedFirst, KeepsAll, MayBePut}
use Rattle.bf_farm.specs.Answering.{HasFault}
use Rattle.bf_farm.specs.declared.report.Report.{Report}
use Rattle.bf_farm.specs.Reports.{TableFollows}
use Rattle.bf_history.specs.Meanings.{History}
use Rattle.bf_io.specs.Causes.{FailsOnlyAt, Rose}
use Rattle.bf_journal.specs.declared.journal.JournalFault.{JournalFault}
use Rattle.bf_journal.specs.declared.journal.JournalFault.TheVariants as journals
use Rattle.bf_oid.specs.declared.object.Oid.{Oid}
use Rattle.bf_output.proofs.Runs.{front_if_told}
use Rattle.bf_output.specs.Beginning.{Begun}
use Rattle.bf_output.specs.Shown.{TesterShown}
use Rattle.bf_output.specs.Traces.{course_of}
use Rattle.bf_journal.specs.Recalling.{KeepsRemembered}
use Rattle.bf_runs.proofs.Sequences.{Keeps, part_same}
use Rattle.bf_runs.specs.Courses.{course_from, stand_of}
use Rattle.bf_runs.specs.declared.case.RunSettings.{RunSettings}
use Rattle.bf_runs.specs.Legs.{Course, IsKnown, IsLegRun, IsReady, LeadsOn, leg_run}
use Rattle.bf_search.specs.declared.farm.Ending.{Ending}
use Rattle.bf_search.specs.declared.farm.Ending.TheVariants as ending
use Rattle.bf_search.specs.declared.outcomes.Outcome.{Outcome}
use Rattle.bf_search.specs.Outcomes.{outcomes_of_table}
use Rattle.bf_search.specs.Run.{Run, one_at_a_time}
use Rattle.bf_search.specs.State.{Search, IsSearchOver}
use Rattle.bf_state.specs.Runs.{in_sequence}
use Rattle.bf_searches.proofs.Going.{goes_cause, gone_on, leg_ended, next_ready, over_tells, run_over_on, same_course}
use Rattle.bf_searches.specs.declared.legs.Gone.{Gone}
use Rattle.bf_searches.specs.declared.legs.Gone.TheVariants.{On, Over}
use Rattle.bf_searches.specs.declared.legs.Running.{Running}
use Rattle.bf_searches.specs.declared.telling.Telling.{Telling}
use Rattle.bf_searches.specs.Searching.{HasGoneCause, IsNextReady}
use Rattle.bf_tester.specs.declared.answer.Answer.{Answer as Answered}
use Rattle.bf_words.specs.declared.request.Request.{Request}
use Rattle.bf_journal_run.specs.Cuts.{cut_of_journal}
use Rattle.bf_journal_run.specs.declared.cut.Cut.{Cut}
use Rattle.bf_journal_run.specs.declared.cut.Cut.TheVariants.{Journal, Output, NoMemory}
use Rattle.bf_journal_run.specs.Kept.{IsToKeep, KeepsSince}
use Rattle.bf_journal_run.specs.Legs.{IsKeptOn, IsKeptRun, IsLedKept, IsToldLeg}
use Rattle.bf_journal_run.proofs.Growing.{leg_grows}
use Rattle.bf_journal_run.proofs.Since.{keeps_all, since_more}

-- an error that is this one
pub err_as : {T E : Type 0} (P : Result T E → Type 0) (result : Result T E) (cut : E) → IsErrAnd result (λ e. e ≡ cut) → P (Err cut) → P result
err_as P (Ok t) cut is p = absurd is
err_as P (Err e) cut is p = subst (λ x. P (Err x)) (sym is) p

-- the same error in place of another value
pub err_other : {T U E : Type 0} (cut other : E) → IsErrOf {T = T} (Err cut) other → IsErrOf {T = U} (Err cut) other
err_other {T} {U} {E} cut other is =
    let same : cut ≡ other = cc is in
    ap (λ (e : E). Err e) same

pub err_if : {T E : Type 0} (P : E → Type 0) (result : Result T E) → IsErrAnd result P → IfErr result P
err_if P (Ok t) is = absurd is
err_if P (Err e) is = is

module _ (Leaves : (ℕ → Outcome → Type 0) → Type 0) (search : RunSettings) (running : Running) (tester : TesterMet) (report : Report) (request : Request) (remembered now_remembered : List Answered)
    (opened : List (Option Outcome)) (first : Begun) (written : List ℕ) (kept new : List (Option Outcome))
    (is : IsKeptRun search request tester.before remembered opened first written kept running)
    (ran : (s : Search) → IsLegRun (course_from search s) running.standing.state report)
    (leads : (s : Search) → IsSearchOver search.history.now.parents s
    → LeadsOn (course_from search s) tester.before.plan tester.before.answers tester.after.answers (stand_of running.standing) report)
    (ready : IsReady search.history.now.parents search.history.now.names tester.before.plan tester.after.answers report.state report.table)
    (same : tester.after.plan ≡ tester.before.plan) (still : now_remembered ≡ remembered) where
  of_course : course_from search first.search ≡ course_of request search.history.now first
  of_course = same_course request search first is.leg is.workers

  ran_on : IsLegRun (course_of request search.history.now first) running.standing.state report
  ran_on = subst (λ (course : Course). IsLegRun course running.standing.state report) of_course (ran first.search)

  leads_on : LeadsOn (course_of request search.history.now first) tester.before.plan tester.before.answers tester.after.answers (stand_of running.standing) report
  leads_on =
      subst (λ (course : Course). LeadsOn course tester.before.plan tester.before.answers tester.after.answers (stand_of running.standing) report) of_course
      (leads first.search is.so_far.over)

  grown : Keeps running.standing.table report.table
  grown =
      leg_grows (course_of request search.history.now first) tester.before.plan tester.before.answers tester.after.answers (stand_of running.standing) report
      is.so_far.whole is.so_far.run is.so_far.between leads_on

  since : KeepsSince kept report.table new → KeepsSince opened report.table new
  since keeps = since_more opened running.standing.table report.table kept new is.since grown.part keeps

  all_kept : (inner : List Answered) → KeepsSince kept report.table new
      → KeepsRemembered tester.after.is_lenient now_remembered tester.after.answers inner → KeepsAll tester.after.is_lenient new report.table
  all_kept inner keeps below =
      keeps_all tester.after.is_lenient search.history.now.names now_remembered tester.after.answers inner opened report.table new (still ∙ is.remembers) is.long below
      ready.known.answered (since keeps)

  -- what was known before is known still
  known_still : IsKnown search.history.now.names tester.after.plan tester.after.answers running.standing.table
  known_still = record {
    answered = λ p outcome was. ready.known.answered p outcome (more p outcome was);
    planned =
        subst (λ (plan : Option (List Outcome)). TableFollows plan running.standing.table) (sym same)
        (λ p outcome was. ready.known.planned p outcome (more p outcome was));
  }
    where
      more : (p : ℕ) (outcome : Outcome) → outcomes_of_table running.standing.table p ≡ Some outcome → outcomes_of_table report.table p ≡ Some outcome
      more p outcome was = subst (λ (o : Option Outcome). IfSome o (λ x. outcomes_of_table report.table p ≡ Some x)) was (grown.part p)

  -- one worker gave what the run used by then
  alone_still : request.workers ≤ 1 → AreUsedFirst tester.after search.history.now first
  alone_still one = by report.ending refl
    where
      by : (e : Ending) → report.ending ≡ e → AreUsedFirst tester.after search.history.now first
      by ending.Leg leg =
          let between = leads_on.between is.so_far.whole is.so_far.run is.so_far.between leg in
          let known = outcomes_of_table report.table in
          let so_far = in_sequence is.so_far.run (leg_run (course_of request search.history.now first) running.standing.state.search report.table) in
          let rest = one_at_a_time search.history.now.parents so_far.search known 0 in
          record {
            table = report.table;
            known =
                subst (λ (plan : Option (List Outcome)). IsKnown search.history.now.names plan tester.after.answers report.table) (sym same) between.known;
            used = record {
              rest = rest.used;
              begins =
                  ap (λ (r : Run). r.used) (between.goes_on known (part_same known))
                  ∙ ap (λ (used : List (ℕ × Outcome)). used ++ rest.used) (sym (between.alone one).given);
            };
          }
      by other ends =
          let over =
          run_over_on request tester.before tester.after search.history.now first written running report is.so_far ran_on leads_on same
          (λ leg. cc (sym ends ∙ leg)) in
          record {
            table = report.table;
            known = over.known;
            used = record {
              rest = [];
              begins = sym (over.alone one).given ∙ sym (append-nil _);
            };
          }

  kept_on : (inner : List Answered) → KeepsSince kept report.table new
      → KeepsRemembered tester.after.is_lenient now_remembered tester.after.answers inner → Leaves (IsToKeep report.table)
      → IsKeptOn Leaves tester.after.is_lenient opened new running.standing.table report.table
  kept_on inner keeps below leaves = record {
    since = since keeps;
    all = all_kept inner keeps below;
    grows = grown.part;
    leaves = leaves;
  }

  gone_kept : (gone : Gone) (inner : List Answered) → KeepsSince kept report.table new → Leaves (IsToKeep report.table)
      → KeepsRemembered tester.after.is_lenient now_remembered tester.after.answers inner → IsToldLeg search.history.now running.telling report gone
      → IsLedKept Leaves search request tester now_remembered opened first written new running.standing.table (Ok gone)
  gone_kept (On next) inner keeps leaves below told =
      let moved = told.on (leg_ended report.ending told.over) in (
        record {
          leg = is.leg;
          workers = is.workers;
          so_far =
              gone_on request tester.before tester.after search.history.now first written running report is.so_far ran_on leads_on same told.told (On next) ready
              told.text told.known told.trace told.on told.over;
          long = is.long;
          remembers = still ∙ is.remembers;
          since = subst (λ (t : List (Option Outcome)). KeepsSince opened t new) (sym moved.1) (since keeps);
          all = subst (λ (t : List (Option Outcome)). KeepsAll tester.after.is_lenient new t) (sym moved.1) (all_kept inner keeps below);
        },
        subst (λ (t : List (Option Outcome)). IsKeptOn Leaves tester.after.is_lenient opened new running.standing.table t) (sym moved.1)
            (kept_on inner keeps below leaves),
      )
  gone_kept (Over answer) inner keeps leaves below told =
      let other : report.ending ≢ ending.Leg = λ e. told.on e in
      let over = run_over_on request tester.before tester.after search.history.now first written running report is.so_far ran_on leads_on same other in (
        record {
          table = report.table;
          legs = record { whole = is.so_far.whole; last = report.events.items };
          over = over;
          planned = front_if_told tester.after.plan search.history.now first report.table over.known.planned;
          tells =
              over_tells request tester.before tester.after search.history.now first written running report is.so_far ran_on leads_on same told.told.text
              told.told.trace answer.status answer.text other told.text told.trace (told.over other).0 (told.over other).1;
        },
        kept_on inner keeps below leaves,
      )

  -- where the leg was told it leads on; else memory ran out, and what was known is known still
  pub led : (result : Result Gone Cut) (inner : List Answered) → KeepsSince kept report.table new → Leaves (IsToKeep report.table)
      → Leaves (MayBePut search.history.now.names tester.after.answers)
      → KeepsRemembered tester.after.is_lenient now_remembered tester.after.answers inner
      → IfOk result (IsToldLeg search.history.now running.telling report) → IfErr result (λ cut. cut ≡ NoMemory)
      → IsLedKept Leaves search request tester now_remembered opened first written new running.standing.table result
  led (Ok gone) inner keeps leaves left below told memory = gone_kept gone inner keeps leaves below told
  led (Err cut) inner keeps leaves left below told memory =
      subst (λ (c : Cut). IsLedKept Leaves search request tester now_remembered opened first written new running.standing.table (Err c)) (sym memory)
      (known_still, left)

  -- where an outcome could not be kept, too
  pub led_cut : (fault : JournalFault) → Leaves (MayBePut search.history.now.names tester.after.answers)
      → IsLedKept Leaves search request tester now_remembered opened first written new running.standing.table (Err (cut_of_journal fault))
  led_cut journals.Failed left = (known_still, left, alone_still)
  led_cut (journals.Mismatch found) left = (known_still, left, alone_still)
  led_cut journals.NoMemory left = (known_still, left)

-- ---- whatever search it is

pub leg_caused : (before : ℕ) (after : TesterShown) (history : History) (telling : Telling) (report : Report) (result : Result Gone Cut)
    → HasFault before after.faults after.failed report → IfOk result (IsToldLeg history telling report) → IfOk result (HasGoneCause before after)
leg_caused before after history telling report (Ok gone) fault told = goes_cause {E = Cut} before after history report told.told (Ok gone) fault told.on told.over
leg_caused before after history telling report (Err cut) fault told = tt

pub leg_ready : (plan : Option (List Outcome)) (answers : List Answered) (history : History) (telling : Telling) (report : Report) (result : Result Gone Cut)
    → IsReady history.parents history.names plan answers report.state report.table → IfOk result (IsToldLeg history telling report)
    → IfOk result (IsNextReady history plan answers)
leg_ready plan answers history telling report (Ok gone) ready told = next_ready {E = Cut} plan answers history report told.told (Ok gone) ready told.on told.over
leg_ready plan answers history telling report (Err cut) ready told = tt

-- the journal is told to have failed only where its disk did
abbrev refused : (U : Type 0) → JournalFault → Result U JournalFault
refused U fault = Err fault

abbrev cut_with : (T : Type 0) → JournalFault → Result T Cut
cut_with T fault = Err (cut_of_journal fault)

fault_failed : (T U : Type 0) (before now : ℕ) (fault : JournalFault) → (IsErrOf (refused U fault) journals.Failed → Rose before now)
    → ((kept : Oid) → refused U fault ≢ refused U (journals.Mismatch kept)) → IsErrOf (cut_with T fault) Journal → Rose before now
fault_failed T U before now journals.Failed failed no_mismatch e = failed refl
fault_failed T U before now (journals.Mismatch kept) failed no_mismatch e = absurd (no_mismatch kept refl)
fault_failed T U before now journals.NoMemory failed no_mismatch e = cc e

pub keeping_failed : {T U : Type 0} (before now : ℕ) (fault : JournalFault) (result : Result T Cut) → IsErrAnd result (λ e. e ≡ cut_of_journal fault)
    → FailsOnlyAt journals.Failed before now (refused U fault) → ((kept : Oid) → refused U fault ≢ refused U (journals.Mismatch kept))
    → FailsOnlyAt Journal before now result
keeping_failed {T} {U} before now fault result is only no_mismatch = record {
  later = only.later;
  failed = err_as (λ r. IsErrOf r Journal → Rose before now) result (cut_of_journal fault) is (fault_failed T U before now fault only.failed no_mismatch);
}

-- nor does a journal that fails tell that the output did
no_output : (T : Type 0) (fault : JournalFault) → IsErrOf (cut_with T fault) Output → ⊥
no_output T journals.Failed e = cc e
no_output T (journals.Mismatch kept) e = cc e
no_output T journals.NoMemory e = cc e

pub keeping_no_output : {T : Type 0} (fault : JournalFault) (result : Result T Cut) → IsErrAnd result (λ e. e ≡ cut_of_journal fault)
    → IsErrOf result Output → ⊥
keeping_no_output {T} fault result is = err_as (λ r. IsErrOf r Output → ⊥) result (cut_of_journal fault) is (no_output T fault)
