-- What the program tells of a search is one commit after another.
use Rattle.std.proofs.Common.{◌≡◌, ℕ, Bool, true, false, List, [], ◌++◌, Option, Some, None, IfSome, inl, inr, refl, ap, sym, ◌∙◌, arith}
use Rattle.std.proofs.lemmas.Bool.{both_ways}
use Rattle.std.proofs.lemmas.List.{append-nil}
use Rattle.bf_history.specs.Meanings.{History}
use Rattle.bf_runs.specs.Legs.{Legs, IsOver}
use Rattle.bf_search.specs.declared.outcomes.Outcome.{Outcome}
use Rattle.bf_search.specs.Outcomes.{Outcomes, outcomes_of_plan, outcomes_of_table}
use Rattle.bf_search.specs.Run.{one_at_a_time}
use Rattle.bf_search.specs.Run as searched
use Rattle.bf_terms.specs.Texts.{answer_lines}
use Rattle.bf_words.specs.declared.request.Request.{Request}
use Rattle.bf_words.specs.declared.verb.Verb.{Verb}
use Rattle.bf_words.specs.declared.verb.Verb.TheVariants.{Simulate, Run, Next, Replay, Gen, Sample}
use Rattle.bf_output.specs.declared.status.Status.{Status}
use Rattle.bf_output.specs.declared.status.Status.TheVariants as status
use Rattle.bf_output.specs.Beginning.{Begun, commits_of, log_on}
use Rattle.bf_output.specs.Output.{IsSearched}
use Rattle.bf_output.specs.Shown.{TesterShown}
use Rattle.bf_output.specs.Simulate.{IsRunTold, IsSimulated, plan_of, ran, run_over, status_of_end}
use Rattle.bf_output.specs.Tested.{IsTestCut, IsTestedAs, IsTestedRun, IsFrontIfTold, run_on, status_at_end, lines_at_end, told_of_run}
use Rattle.bf_output.specs.Told.{Told}
use Rattle.bf_output.specs.Traces.{course_of, trace_lines, traced_if}
use Rattle.bf_headline.proofs.Beginning.{IsReady}
use Rattle.bf_headline.proofs.Fronts.{front_in_short}
use Rattle.bf_headline.proofs.Runs.{one_at_a_time-is}
use Rattle.bf_headline.specs.Headline as short
use Rattle.bf_headline.specs.Links.{standing_of, end_of, IsSame}
use Rattle.bf_headline.specs.Telling.{StandsAt, TellsRun, IsCutInShort, IsRunInShort, IsPlanInShort, IsSearchInShort, IsTestedInShort}

module _ (history : History) (first : Begun) (ready : IsReady history first) where
  abbrev pub standing : short.Standing
  standing = standing_of first.search ready.ends.bad

  abbrev pub brief : Outcomes → short.Run
  brief known = short.one_at_a_time history.parents known standing

  pub same_run : (known : Outcomes) → IsSame (one_at_a_time history.parents first.search known 0) (brief known)
  same_run known = one_at_a_time-is history.parents known first.search ready.ends.bad ready.graph ready.over ready.ends.bad_is ready.ends.some_good

  stands : StandsAt first standing
  stands = record { bad = ready.ends.bad; bad_is = ready.ends.bad_is; is = refl }

  -- ---- a run by tests

  fixed : (plan : Option (List Outcome)) (table : List (Option Outcome)) → IsFrontIfTold plan history first (run_on history first table)
      → IfSome plan (λ all. short.IsFrontOf (brief (outcomes_of_table table)) (brief (short.planned all)))
  fixed None table front = tt
  fixed (Some all) table front =
      front_in_short (run_on history first table) (run_over history first all) (brief (outcomes_of_table table)) (brief (short.planned all))
      (same_run (outcomes_of_table table)) (same_run (outcomes_of_plan all)) front.begins front.ended

  pub over_in_short : (request : Request) (tested : TesterShown) (table : List (Option Outcome)) (legs : Legs)
      → IsOver (course_of request history first) tested.plan tested.answers table legs (run_on history first table)
      → IsFrontIfTold tested.plan history first (run_on history first table)
      → IsTestedInShort request tested history first (run_on history first table)
  over_in_short request tested table legs over planned = record {
    standing = standing;
    stands = stands;
    run = brief (outcomes_of_table table);
    is = record {
      known = outcomes_of_table table;
      given = λ p outcome e. let a = over.known.answered p outcome e in (a.name, a.named, a.given);
      is = refl;
      fixed = fixed tested.plan table planned;
      alone = λ one. (over.alone one).given ∙ (same_run (outcomes_of_table table)).used;
    };
    same = same_run (outcomes_of_table table);
  }

  -- Whatever is told of it, the run of a search that was tested is one commit after another.
  pub tested_in_short : (IsTold : Legs → searched.Run → Told → Type 0) (request : Request) (tested : TesterShown) (told : Told)
      → (is : IsTestedAs IsTold request tested history first told)
      → IsTestedInShort request tested history first (run_on history first is.table)
  tested_in_short IsTold request tested told is = over_in_short request tested is.table is.legs is.over is.planned

  -- ---- what is told of it

  told_so : (run : searched.Run) (it : short.Run) → IsSame run it → (is_asked : Bool) (legs : Legs) (told : Told)
      → told ≡ traced_if is_asked history legs (told_of_run history first run)
      → TellsRun is_asked history first it (status_at_end (end_of it.end)) (lines_at_end (commits_of history) first.sides (end_of it.end)) told
  told_so run it same false legs told is = record {
    status_is = ap (λ (t : Told). t.status) is ∙ ap status_at_end same.end;
    trace = [];
    bare = λ e. refl;
    text = ap (λ (t : Told). t.text) is ∙ texts ∙ sym (append-nil _);
  }
    where
      texts : log_on history first run.entries ++ lines_at_end (commits_of history) first.sides run.end
          ≡ log_on history first it.entries ++ lines_at_end (commits_of history) first.sides (end_of it.end)
      texts = λ i. log_on history first (same.entries i) ++ lines_at_end (commits_of history) first.sides (same.end i)
  told_so run it same true legs told is = record {
    status_is = ap (λ (t : Told). t.status) is ∙ ap status_at_end same.end;
    trace = trace_lines (commits_of history) legs;
    bare = λ e. absurd (both_ways true e refl);
    text = ap (λ (t : Told). t.text) is
        ∙ (λ i. (log_on history first (same.entries i) ++ lines_at_end (commits_of history) first.sides (same.end i)) ++ trace_lines (commits_of history) legs);
  }

  pub run_in_short : (request : Request) (tested : TesterShown) (told : Told) → IsTestedRun request tested history first told
      → IsRunInShort request tested history first told
  run_in_short request tested told is =
      let it = tested_in_short _ request tested told is in
      record {
        standing = it.standing;
        stands = it.stands;
        run = it.run;
        is = it.is;
        tells = told_so (run_on history first is.table) it.run it.same request.trace is.legs told is.tells;
      }

  -- ---- a run that was cut short

  pub cut_in_short : (by : Status) (request : Request) (tested : TesterShown) (told : Told) → IsTestCut by request tested history first told
      → IsCutInShort by request tested history first told
  cut_in_short by request tested told cut = record {
    standing = standing;
    stands = stands;
    run = brief (outcomes_of_table cut.table);
    is = record {
      known = outcomes_of_table cut.table;
      given = λ p outcome e. let a = cut.known.answered p outcome e in (a.name, a.named, a.given);
      is = refl;
      fixed = fixed tested.plan cut.table cut.planned;
      alone = λ one. absurd (omega (arith, one));
    };
    alone = λ by_write one.
        let front = cut.alone by_write one in
        (front.rest, sym (same_run (outcomes_of_table cut.table)).used ∙ front.begins);
    status_is = ap (λ (t : Told). t.status) cut.tells;
    text = ap (λ (t : Told). t.text) cut.tells ∙ ap (log_on history first) (same_run (outcomes_of_table cut.table)).entries;
  }

  -- ---- a run over a plan

  abbrev TellsPlan : Bool → short.Run → Told → Type 0
  TellsPlan is_asked it told =
      TellsRun is_asked history first it (status_of_end (end_of it.end)) (answer_lines (commits_of history) first.sides (end_of it.end)) told

  answered_so : (is_asked : Bool) (run : searched.Run) (it : short.Run) → IsSame run it → (trace : List ℕ) → (is_asked ≡ false → trace ≡ []) → (told : Told)
      → told.status ≡ (ran history first run).status → told.text ≡ (ran history first run).text ++ trace → TellsPlan is_asked it told
  answered_so is_asked run it same trace bare told status_is text_is = record {
    status_is = status_is ∙ ap status_of_end same.end;
    trace = trace;
    bare = bare;
    text = text_is
        ∙ (λ i. (log_on history first (same.entries i) ++ answer_lines (commits_of history) first.sides (same.end i)) ++ trace);
  }

  ran_so : (is_asked : Bool) (request : Request) (plan : List Outcome) (told : Told) → IsRunTold is_asked request plan history first told
      → TellsPlan is_asked (brief (short.planned plan)) told
  ran_so false request plan told is =
      answered_so false (run_over history first plan) (brief (short.planned plan)) (same_run (outcomes_of_plan plan)) [] (λ e. refl) told
      (ap (λ (t : Told). t.status) is) (ap (λ (t : Told). t.text) is ∙ sym (append-nil _))
  ran_so true request plan told is =
      answered_so true (run_over history first plan) (brief (short.planned plan)) (same_run (outcomes_of_plan plan))
      (trace_lines (commits_of history) is.legs) (λ e. absurd (both_ways true e refl)) told
      (ap (λ (t : Told). t.status) is.tells) (ap (λ (t : Told). t.text) is.tells)

  pub plan_in_short : (request : Request) (words : List (List ℕ)) (told : Told) → IsSimulated request words history first told
      → IsPlanInShort request words history first told
  plan_in_short request words told (inl is) = record {
    standing = standing;
    stands = stands;
    run = brief (short.planned (plan_of request words));
    is = refl;
    tells = inl (ran_so request.trace request (plan_of request words) told is);
  }
  plan_in_short request words told (inr cut) = record {
    standing = standing;
    stands = stands;
    run = brief (short.planned (plan_of request words));
    is = refl;
    tells = inr (record {
      status_is = ap (λ (t : Told). t.status) cut;
      text = ap (λ (t : Told). t.text) cut ∙ ap (log_on history first) (same_run (outcomes_of_plan (plan_of request words))).entries;
    });
  }

  -- ---- a search

  pub search_in_short : (verb : Verb) (request : Request) (words : List (List ℕ)) (tested : TesterShown) (told : Told)
      → IsSearched verb request words tested history first told → IsSearchInShort verb request words tested history first told
  search_in_short Simulate request words tested told is = plan_in_short request words told is
  search_in_short Run request words tested told (inl is) = inl (run_in_short request tested told is)
  search_in_short Run request words tested told (inr (inl cut)) = inr (inl (cut_in_short status.WriteFault request tested told cut))
  search_in_short Run request words tested told (inr (inr cut)) = inr (inr (cut_in_short status.NoMemory request tested told cut))
  search_in_short Next request words tested told is = is
  search_in_short Replay request words tested told is = is
  search_in_short Gen request words tested told is = is
  search_in_short Sample request words tested told is = is
