-- A run of which nothing is tested yet, and whose journal was opened.
use Rattle.std.proofs.Common.{◌≡◌, inl, ℕ, ◌<◌, arith, Bool, List, [], length, replicate, Option, Some, None, IfSome, Err, refl, sym, ap, ◌∙◌, subst}
use Rattle.bf_commands.specs.Journal.{KeepsAll}
use Rattle.bf_history.specs.Meanings.{History}
use Rattle.bf_io.proofs.Told.{AppendsFront-none}
use Rattle.bf_journal.specs.declared.disk.Disk.{Ghosts}
use Rattle.bf_journal.specs.Disk.{Only}
use Rattle.bf_journal.specs.Journal.{Keeping, FitsBytes}
use Rattle.bf_output.proofs.Runs.{front_if_told}
use Rattle.bf_output.specs.declared.status.Status.TheVariants as status
use Rattle.bf_output.specs.Beginning.{Begun, log_on}
use Rattle.bf_output.specs.Simulate.{cut_short}
use Rattle.bf_output.specs.Shown.{TesterShown}
use Rattle.bf_output.specs.Tested.{run_on}
use Rattle.bf_runs.proofs.Fresh.{none_known}
use Rattle.bf_runs.proofs.Known.{nothing_known_yet}
use Rattle.bf_runs.specs.declared.case.RunSettings.{RunSettings}
use Rattle.bf_oid.specs.declared.object.Oid.{Oid}
use Rattle.bf_runs.specs.Legs.{IsKnown}
use Rattle.bf_search.specs.declared.outcomes.Outcome.{Outcome}
use Rattle.bf_search.specs.Outcomes.{outcomes_of_table}
use Rattle.bf_searches.specs.declared.legs.Running.{Running}
use Rattle.bf_searches.specs.Searching.{IsRunning}
use Rattle.bf_tester.specs.declared.answer.Answer.{Answer as Answered}
use Rattle.bf_words.specs.declared.request.Request.{Request}
use Rattle.bf_journal_run.specs.declared.cut.Cut.TheVariants.{NoMemory}
use Rattle.bf_journal_run.specs.Kept.{AreLasting, IsToKeep, KeepsSince, answers_of, kept_of}
use Rattle.bf_journal_run.specs.Legs.{IsEndedKept, IsKeptRun, met_disk}
use Rattle.bf_journal_run.proofs.Keeping.{kept_none, nothing_since, part_itself}
use Rattle.bf_journal_run.proofs.Lasting.{lasts_at}

-- where no answer was given, nothing is known
nothing_known : (names : List Oid) (plan : Option (List Outcome)) (answers : List Answered) (table : List (Option Outcome)) → answers ≡ []
    → IsKnown names plan answers table → (p : ℕ) → outcomes_of_table table p ≡ None
nothing_known names plan answers table none known p = by (outcomes_of_table table p) refl
  where
    by : (o : Option Outcome) → outcomes_of_table table p ≡ o → o ≡ None
    by None is = refl
    by (Some outcome) is =
        let (k, low, at) = (known.answered p outcome is).given in
        absurd (omega (arith, subst (λ (given : List Answered). k < length given) none low))

-- and all of it is kept
none_to_keep : (is_lenient : Bool) (kept table : List (Option Outcome)) → ((p : ℕ) → outcomes_of_table table p ≡ None) → KeepsAll is_lenient kept table
none_to_keep is_lenient kept table none = λ p outcome is other. absurd (clash outcome (sym is ∙ none p))
  where
    clash : (x : Outcome) → Some x ≡ None → ⊥
    clash x e = cc e

since_opened : (opened table : List (Option Outcome)) → ((p : ℕ) → outcomes_of_table table p ≡ None) → KeepsSince opened table opened
since_opened opened table none = λ p. sym (ap (kept_of (outcomes_of_table opened p)) (none p) ∙ kept_none (outcomes_of_table opened p))

-- the first leg of a run whose journal was opened
pub kept_begun : (search : RunSettings) (request : Request) (tested : TesterShown) (remembered : List Answered) (opened : List (Option Outcome)) (first : Begun)
    (running : Running)
    → request.leg ≡ search.leg → request.workers ≡ search.workers → length search.history.now.names ≡ length opened
    → remembered ≡ answers_of search.history.now.names opened → tested.answers ≡ []
    → IsRunning request tested search.history.now first [] running
    → IsKeptRun search request tested remembered opened first [] opened running
kept_begun search request tested remembered opened first running leg workers long remembers fresh is =
    let none = nothing_known search.history.now.names tested.plan tested.answers running.standing.table fresh is.between.known in
    record {
      leg = leg;
      workers = workers;
      so_far = is;
      long = long;
      remembers = remembers;
      since = since_opened opened running.standing.table none;
      all = none_to_keep tested.is_lenient opened running.standing.table none;
    }

-- memory ran out before anything was tested
pub nothing_kept : {J : Type 0} (by : Ghosts J) (disk : J) (journal : Keeping) (request : Request) (tested : TesterShown) (history : History) (first : Begun)
    (held : Option (List ℕ)) → ((disk : J) (image : List ℕ) → by.left_since disk (by.moment disk) image → by.may_leave disk image)
    → IfSome (by.told disk) (λ bytes. Only bytes (by.may_leave disk)) → IfSome (by.told disk) (FitsBytes journal)
    → IsEndedKept (AreLasting by disk disk journal history.names tested journal.kept) (met_disk by disk disk) request tested history first held held
    (Err NoMemory)
nothing_kept by disk journal request tested history first held only_now settled fits =
    let none = replicate (length history.parents) None in
    let unknown = none_known (length history.parents) in
    let known = nothing_known_yet history.names tested.plan tested.answers (length history.parents) none refl in
    record {
      told = cut_short status.NoMemory history first (run_on history first none);
      is = record {
        table = none;
        known = known;
        planned = front_if_told tested.plan history first none known.planned;
        alone = λ failed one. cc failed;
        tells = refl;
      };
      front = AppendsFront-none held (log_on history first (run_on history first none).entries);
      kept =
          lasts_at by journal journal history.names tested journal.kept none (refl, refl) (since_opened journal.kept none unknown)
          (none_to_keep tested.is_lenient journal.kept none unknown) known.answered disk disk refl
          (nothing_since by only_now disk journal journal.kept (IsToKeep none) (part_itself (outcomes_of_table journal.kept)) (λ p outcome was. inl was) settled
          fits) settled fits;
    }
