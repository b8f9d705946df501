-- A run whose outcomes are kept, from its first leg to its end.
use Rattle.std.proofs.Common.{◌≡◌, ◌⊎◌, inl, inr, ℕ, ◌≤◌, List, [], ◌++◌, Option, Result, Ok, Err, refl, sym, ap, ◌∙◌}
use Rattle.std.proofs.lemmas.List.{append-nil}
use Rattle.bf_answers.specs.declared.answer.Answer.{Answer}
use Rattle.bf_answers.specs.Devices.{TesterMet}
use Rattle.bf_commands.specs.Journal.{DiskMet, IsLogFront, MayBePut}
use Rattle.bf_farm.proofs.Asked.{rose_since}
use Rattle.bf_farm.specs.Reports.{TableIn}
use Rattle.bf_history.specs.Meanings.{History}
use Rattle.bf_io.specs.Causes.{FailsOnlyAt, Rose}
use Rattle.bf_io.specs.declared.device.SinkFault.{SinkFault}
use Rattle.bf_io.specs.declared.device.SinkFault.TheVariants as sinks
use Rattle.bf_io.specs.Told.{Appends, AppendsFront}
use Rattle.bf_io.proofs.Told.{Appends-trans, AppendsFront-none}
use Rattle.bf_output.proofs.Runs.{front_if_told}
use Rattle.bf_output.specs.declared.status.Status.TheVariants as status
use Rattle.bf_output.specs.Beginning.{Begun}
use Rattle.bf_output.specs.Simulate.{cut_short}
use Rattle.bf_output.specs.Shown.{TesterShown}
use Rattle.bf_output.specs.Tested.{run_on}
use Rattle.bf_runs.specs.declared.case.RunSettings.{RunSettings}
use Rattle.bf_runs.specs.Legs.{IsKnown}
use Rattle.bf_search.specs.declared.outcomes.Outcome.{Outcome}
use Rattle.bf_search.specs.Run.{Run}
use Rattle.bf_searches.proofs.Going.{alone_on_known, flushed, front_on_known, on_known}
use Rattle.bf_searches.specs.declared.legs.Gone.TheVariants.{Over}
use Rattle.bf_searches.specs.declared.legs.Running.{Running}
use Rattle.bf_searches.specs.Searching.{IsRunning}
use Rattle.bf_tester.specs.declared.answer.Answer.{Answer as Answered}
use Rattle.bf_words.specs.declared.request.Request.{Request}
use Rattle.bf_journal_run.specs.Cuts.{cut_of_sink}
use Rattle.bf_journal_run.specs.declared.cut.Cut.{Cut}
use Rattle.bf_journal_run.specs.declared.cut.Cut.TheVariants.{Journal, Output, NoMemory}
use Rattle.bf_journal_run.specs.Legs.{IsCutByMemory, IsCutByWrite, IsEndedKept, IsKeptOn, IsKeptRun, IsLedKept, IsToldKept}

-- What was written so far of a run that has come to its next leg: nothing, or all that it tells so far. Each image that a crash
-- might have left is of what is known by then.
pub record HasComeKept (Leaves : List (Option Outcome) → Type 0) (search : RunSettings) (request : Request) (tested : TesterShown) (remembered : List Answered) (opened : List (Option Outcome)) (first : Begun)
    (before after : Option (List ℕ)) (kept : List (Option Outcome)) (running : Running) : Type 0 where
  pub written : List ℕ
  pub gained : Appends before after written
  pub is : IsKeptRun search request tested remembered opened first written kept running
  pub begun : (written ≡ []) ⊎ (running.telling.text ≡ [])
  pub ever : Leaves running.standing.table

-- ---- what cuts a run short

-- what was written are the lines of whole legs, or none
log_front : (request : Request) (tested : TesterShown) (history : History) (first : Begun) (written : List ℕ) (running : Running)
    → IsRunning request tested history first written running → (written ≡ []) ⊎ (running.telling.text ≡ [])
    → IsLogFront history first (run_on history first running.standing.table) written
log_front request tested history first written running is (inl none) = inl none
log_front request tested history first written running is (inr told) =
    inr (
      is.run.entries,
      record { rest = _; goes_on = ap (λ (r : Run). r.entries) (on_known request tested history first written running is) },
      sym (append-nil written) ∙ ap (λ (t : List ℕ). written ++ t) (sym told) ∙ is.log,
    )

module _ (images : List (Option Outcome) → Type 0) (disk : DiskMet) (search : RunSettings) (request : Request) (first : Begun) (written : List ℕ)
    (running : Running) (before : Option (List ℕ)) where
  -- memory ran out before anything more was written
  lost_by : (tested later : TesterShown) (mid after : Option (List ℕ)) → IsKnown search.history.now.names later.plan later.answers running.standing.table
      → IsRunning request tested search.history.now first written running
      → Appends before mid written → AppendsFront mid after running.telling.text → images running.standing.table
      → IsCutByMemory images request later search.history.now first before after
  lost_by tested later mid after known is gained front kept =
      let table = running.standing.table in
      record {
        told = cut_short status.NoMemory search.history.now first (run_on search.history.now first table);
        is = record {
          table = table;
          known = known;
          planned = front_if_told later.plan search.history.now first table known.planned;
          alone = λ failed one. cc failed;
          tells = refl;
        };
        front = front_on_known request tested search.history.now first written running is before mid after gained front;
        kept = kept;
      }

  -- a write failed
  cut_by : (tested : TesterShown) (mid after : Option (List ℕ)) → IsRunning request tested search.history.now first written running → Appends before mid written
      → AppendsFront mid after running.telling.text → images running.standing.table → IsCutByWrite images request tested search.history.now first before after
  cut_by tested mid after is gained front kept =
      let table = running.standing.table in
      record {
        told = cut_short status.WriteFault search.history.now first (run_on search.history.now first table);
        is = record {
          table = table;
          known = is.between.known;
          planned = front_if_told tested.plan search.history.now first table is.between.known.planned;
          alone = λ failed. alone_on_known request tested search.history.now first written running is;
          tells = refl;
        };
        front = front_on_known request tested search.history.now first written running is before mid after gained front;
        kept = kept;
      }

  -- the lines of a leg could not be written
  pub unwritten : (tested : TesterShown) (mid after : Option (List ℕ)) (fault : SinkFault) → IsRunning request tested search.history.now first written running
      → Appends before mid written → AppendsFront mid after running.telling.text → images running.standing.table
      → IsEndedKept images disk request tested search.history.now first before after (Err (cut_of_sink fault))
  unwritten tested mid after sinks.Failed is gained front kept = cut_by tested mid after is gained front kept
  unwritten tested mid after sinks.NoMemory is gained front kept = lost_by tested tested mid after is.between.known is gained front kept

  -- a leg was cut short, of which nothing was written
  pub cut_in_leg : (Leaves : (ℕ → Outcome → Type 0) → Type 0) (tester : TesterMet) (remembered : List Answered) (opened new : List (Option Outcome))
      (after : Option (List ℕ)) (cut : Cut)
      → IsRunning request tester.before search.history.now first written running → (written ≡ []) ⊎ (running.telling.text ≡ []) → Appends before after written
      → (IsKnown search.history.now.names tester.after.plan tester.after.answers running.standing.table
      → Leaves (MayBePut search.history.now.names tester.after.answers) → images running.standing.table)
      → (cut ≡ Journal → Rose disk.faults disk.faults_now)
      → IsLedKept Leaves search request tester remembered opened first written new running.standing.table (Err cut)
      → IsEndedKept images disk request tester.after search.history.now first before after (Err cut)
  cut_in_leg Leaves tester remembered opened new after Journal is begun gained kept failed led =
      let table = running.standing.table in
      record {
        table = table;
        written = written;
        gained = gained;
        is = record {
          failed = failed refl;
          known = led.0;
          planned = front_if_told tester.after.plan search.history.now first table led.0.planned;
          alone = led.2;
          written = written;
          front = log_front request tester.before search.history.now first written running is begun;
          tells = refl;
        };
        kept = kept led.0 led.1;
      }
  cut_in_leg Leaves tester remembered opened new after Output is begun gained kept failed led = absurd led
  cut_in_leg Leaves tester remembered opened new after NoMemory is begun gained kept failed led =
      lost_by tester.before tester.after after after led.0 is gained (AppendsFront-none after running.telling.text) (kept led.0 led.1)

  -- the run is over
  pub over_kept : (Leaves : (ℕ → Outcome → Type 0) → Type 0) (tester : TesterMet) (remembered : List Answered)
      (opened new known : List (Option Outcome)) (after : Option (List ℕ)) (answer : Answer) → Appends before after written
      → ((table : List (Option Outcome)) → TableIn search.history.now.names tester.after.answers table
      → IsKeptOn Leaves tester.after.is_lenient opened new known table → images table)
      → IsLedKept Leaves search request tester remembered opened first written new known (Ok (Over answer))
      → IsToldKept images request tester.after search.history.now first before after answer
  over_kept Leaves tester remembered opened new known after answer gained all led =
      let (is, kept) = led in
      record {
        written = written;
        gained = gained;
        is = is;
        kept = all is.table is.over.known.answered kept;
      }

-- what is told of a failed disk
pub failed_since : {T : Type 0} (first before now : ℕ) (result : Result T Cut) (cut : Cut) → first ≤ before → result ≡ Err cut
    → FailsOnlyAt Journal before now result → cut ≡ Journal → Rose first now
failed_since first before now result cut le is only e =
    rose_since first before now le (only.failed (is ∙ ap (λ (c : Cut). Err c) e))

-- the lines so far were written
pub flushed_kept : (Leaves : List (Option Outcome) → Type 0) (search : RunSettings) (request : Request) (tested : TesterShown) (remembered : List Answered) (opened kept : List (Option Outcome)) (first : Begun)
    (before mid after : Option (List ℕ)) (written : List ℕ) (running : Running) (text : List ℕ)
    → IsKeptRun search request tested remembered opened first written kept running → Appends before mid written
    → Appends mid after running.telling.text → text ≡ [] → Leaves running.standing.table
    → HasComeKept Leaves search request tested remembered opened first before after kept
    (record { standing = running.standing; telling = record { known = running.telling.known; text = text; trace = running.telling.trace } })
flushed_kept Leaves search request tested remembered opened kept first before mid after written running text is gained all none ever = record {
  written = written ++ running.telling.text;
  gained = Appends-trans before mid after written running.telling.text gained all;
  is = record {
    leg = is.leg;
    workers = is.workers;
    so_far = flushed request tested search.history.now first written running text is.so_far none;
    long = is.long;
    remembers = is.remembers;
    since = is.since;
    all = is.all;
  };
  begun = inr none;
  ever = ever;
}
