-- All words and bytes have one output.
use Rattle.std.proofs.Common.{◌≡◌, ◌≢◌, ℕ, suc, Bool, true, false, List, [], ◌++◌, length, map, replicate, IfSome, Option, Some, None, Result, Ok, Err, inl}
use Rattle.std.proofs.Common.{inr, refl, sym, subst, ◌∙◌, ap, arith}
use Rattle.std.proofs.lemmas.Bool.{both_ways}
use Rattle.std.proofs.lemmas.List.{append-nil}
use Rattle.std.proofs.lemmas.List.Elements.{All-nil}
use Rattle.std.specs.List.{flat_map}
use Rattle.bf_grammar.specs.declared.command.Command.{Command}
use Rattle.bf_grammar.specs.declared.fault.Limits.{Limits}
use Rattle.bf_grammar.specs.declared.fault.StreamFault.{StreamFault}
use Rattle.bf_grammar.specs.Limits.{standard_limits}
use Rattle.bf_grammar.specs.Place.{start_of}
use Rattle.bf_grammar.proofs.Laws.{one_continuation, some_continuation}
use Rattle.bf_history.specs.declared.fault.ImportFault.{ImportFault}
use Rattle.bf_history.specs.Imports.{Loads, loaded}
use Rattle.bf_history.specs.Meanings.{History, nothing_loaded}
use Rattle.bf_io.specs.declared.shelf.LoadFault.{LoadFault}
use Rattle.bf_io.specs.declared.shelf.ShelfFile.{ShelfFile}
use Rattle.bf_words.specs.declared.request.Request.{Request}
use Rattle.bf_words.specs.declared.verb.Verb.{Verb}
use Rattle.bf_words.specs.declared.verb.Verb.TheVariants.{Simulate, Run, Next, Replay, Gen, Sample}
use Rattle.bf_search.specs.declared.farm.Event.{Event}
use Rattle.bf_search.specs.declared.outcomes.Outcome.{Outcome}
use Rattle.bf_farm.specs.Answering.{pair_of}
use Rattle.bf_farm.specs.Doers.{IsOneOf, worker_of}
use Rattle.bf_farm.specs.Ends.{awaited, failed_test, test_at}
use Rattle.bf_farm.specs.Posts.{ArePosts, posts_of}
use Rattle.bf_farm.proofs.Noted.{all_own, failed_leads}
use Rattle.bf_farm.proofs.Posting.{posts_of_tests}
use Rattle.bf_runs.specs.Legs.{Legs, LegsLead, setting_of}
use Rattle.bf_runs.proofs.Fresh.{none_known, fresh_in, fresh_follows}
use Rattle.bf_runs.proofs.Posted.{nothing_posted}
use Rattle.bf_search.specs.Outcomes.{outcomes_of_plan, outcomes_of_table}
use Rattle.bf_state.specs.Runs.{IsPartOf}
use Rattle.bf_state.proofs.Tables.{seq_ends_alike, seq_goes_on}
use Rattle.bf_tester.specs.declared.answer.Answer.{Answer}
use Rattle.bf_output.specs.Beginning.{Begun, begun_with_skips}
use Rattle.bf_output.specs.Gen.{generated, made_stream}
use Rattle.bf_output.specs.Next.{next_told}
use Rattle.bf_output.specs.Output.{Given, given_to, IsOver, IsOverFile, IsOutputOf, IsSearched, is_run}
use Rattle.bf_output.specs.Inputs.{IsFiledIf, IsStreamed, IsToldFrom, IsToldOr, file_of}
use Rattle.bf_output.specs.Output.{tests, traces}
use Rattle.bf_output.specs.Refusals.{usage, refusal}
use Rattle.bf_output.specs.Replay.{replay_told}
use Rattle.bf_output.specs.Sample.{sampled}
use Rattle.bf_output.specs.Simulate.{IsRunTold, IsSimulated, plan_of, ran, run_over}
use Rattle.bf_output.specs.declared.status.Status.TheVariants as status
use Rattle.bf_output.specs.Shown.{TesterShown}
use Rattle.bf_output.specs.Tested.{IsTestedRun, IsFrontIfTold, run_on, told_of_run}
use Rattle.bf_output.specs.Traces.{course_of, traced_if}
use Rattle.bf_output.proofs.Unused.{no_leg, none_used, same_end}
use Rattle.bf_output.specs.Told.{Told, told_by}

pub one_loading : (bytes : List ℕ) (limits : Limits) (one other : Result History ImportFault) → Loads bytes limits one → Loads bytes limits other → one ≡ other
one_loading bytes limits one other (commands, end, goes, is) (others, last, also, gives) =
    let same = one_continuation limits commands others end last (start_of limits.stream bytes) goes also in
    is
    ∙ ap (λ (cs : List Command). loaded limits (nothing_loaded limits) cs end) same.0
    ∙ ap (λ (e : Option StreamFault). loaded limits (nothing_loaded limits) others e) same.1
    ∙ sym gives

pub some_loading : (bytes : List ℕ) (limits : Limits) → (result : Result History ImportFault) × Loads bytes limits result
some_loading bytes limits =
    let place = start_of limits.stream bytes in
    let (commands, end, goes) = some_continuation limits (suc (length place.rest)) place (omega arith) in
    (loaded limits (nothing_loaded limits) commands end, (commands, end, goes, refl))

-- what is told behind the log that the words name, and of the words
abbrev IsBehind : Option ℕ → Request → Given → History → Told → Type 0
IsBehind replay request given history told =
    IsFiledIf (λ file t. IsOverFile request.verb request given.words given.tested file history t) given.words replay given.files told

abbrev IsAskedFor : Result Request ℕ → Given → Option (List ℕ) → Told → Type 0
IsAskedFor read given stream told = IsToldOr usage (λ (asked : Request) (t : Told). IsOutputOf asked.verb asked given stream t) read told

-- ---- over a history

-- without a trace, a run over a plan that was not cut short is told in one way
pub run_text : (request : Request) (words : List (List ℕ)) (history : History) (first : Begun) (told : Told) → request.trace ≡ false
    → told.status ≢ status.WriteFault → IsSimulated request words history first told
    → told ≡ ran history first (run_over history first (plan_of request words))
run_text request words history first told untraced whole (inl is) =
    subst (λ (is_asked : Bool). IsRunTold is_asked request (plan_of request words) history first told) untraced is
run_text request words history first told untraced whole (inr cut) = absurd (whole (ap (λ (t : Told). t.status) cut))

module _ (told other : Told) (whole : told.status ≢ status.WriteFault) (also_whole : other.status ≢ status.WriteFault)
    (words : List (List ℕ)) (files : List ShelfFile) (tested : TesterShown) where
  abbrev given : Given
  given = given_to words (Some files) tested

  one_from : (begun : Result Begun Told) (request : Request) (history : History) → request.trace ≡ false
      → IsToldFrom (IsSearched Simulate request words tested history) begun told → IsToldFrom (IsSearched Simulate request words tested history) begun other → told ≡ other
  one_from (Err refusal) request history untraced is also = is ∙ sym also
  one_from (Ok first) request history untraced is also =
      run_text request words history first told untraced whole is ∙ sym (run_text request words history first other untraced also_whole also)

  one_over : (verb : Verb) (request : Request) (file : Option (Result (List ℕ) LoadFault)) (history : History) → is_run verb ≡ false → request.trace ≡ false
      → IsOverFile verb request words tested file history told → IsOverFile verb request words tested file history other → told ≡ other
  one_over Simulate request file history untested untraced is also = one_from (begun_with_skips request words file history) request history untraced is also
  one_over Run request file history untested untraced is also = absurd (both_ways true untested refl)
  one_over Next request file history untested untraced is also = is ∙ sym also
  one_over Replay request file history untested untraced is also = is ∙ sym also
  one_over Gen request file history untested untraced is also = is ∙ sym also
  one_over Sample request file history untested untraced is also = is ∙ sym also

  one_log : (replay : Option ℕ) (request : Request) (history : History) → is_run request.verb ≡ false → request.trace ≡ false
      → IsBehind replay request given history told → IsBehind replay request given history other → told ≡ other
  one_log None request history untested untraced is also = one_over request.verb request None history untested untraced is also
  one_log (Some i) request history untested untraced (file, shown, is) (again, reshown, also) =
      one_over request.verb request (Some again) history untested untraced
      (subst (λ (f : Result (List ℕ) LoadFault). IsOverFile request.verb request words tested (Some f) history told) (shown ∙ sym reshown) is) also

  one_loaded : (request : Request) (result : Result History ImportFault) → is_run request.verb ≡ false → request.trace ≡ false
      → IsToldOr refusal (IsOver request given) result told → IsToldOr refusal (IsOver request given) result other → told ≡ other
  one_loaded request (Ok history) untested untraced is also = one_log request.replay request history untested untraced is also
  one_loaded request (Err fault) untested untraced is also = is ∙ sym also

  one_over_bytes : (request : Request) (bytes : List ℕ) → is_run request.verb ≡ false → request.trace ≡ false
      → IsStreamed (IsOver request given) (Some bytes) told → IsStreamed (IsOver request given) (Some bytes) other → told ≡ other
  one_over_bytes request bytes untested untraced (result, loads, is) (again, reloads, also) =
      one_loaded request again untested untraced
      (subst (λ (r : Result History ImportFault). IsToldOr refusal (IsOver request given) r told) (one_loading bytes standard_limits result again loads reloads) is) also

  one_of : (verb : Verb) (request : Request) (bytes : List ℕ) → is_run request.verb ≡ false → request.trace ≡ false
      → IsOutputOf verb request given (Some bytes) told → IsOutputOf verb request given (Some bytes) other → told ≡ other
  one_of Simulate request bytes untested untraced is also = one_over_bytes request bytes untested untraced is also
  one_of Run request bytes untested untraced is also = one_over_bytes request bytes untested untraced is also
  one_of Next request bytes untested untraced is also = one_over_bytes request bytes untested untraced is also
  one_of Replay request bytes untested untraced is also = one_over_bytes request bytes untested untraced is also
  one_of Gen request bytes untested untraced is also = is ∙ sym also
  one_of Sample request bytes untested untraced is also = one_over_bytes request (made_stream request) untested untraced is also

  pub one_for : (read : Result Request ℕ) (bytes : List ℕ) → tests read ≡ false → traces read ≡ false
      → IsAskedFor read given (Some bytes) told → IsAskedFor read given (Some bytes) other → told ≡ other
  one_for (Err word) bytes untested untraced is also = is ∙ sym also
  one_for (Ok request) bytes untested untraced is also = one_of request.verb request bytes untested untraced is also

-- ---- some output

abbrev nothing : History → List (Option Outcome)
nothing history = replicate (length history.parents) None

-- the place that is asked for first
abbrev asked_first : History → Begun → Option ℕ
asked_first history first = awaited (run_on history first (nothing history)).end

-- its test fails
abbrev one_failed : History → Begun → Legs
one_failed history first = record { whole = []; last = failed_test (asked_first history first) }

unused : (history : History) (first : Begun) → (run_on history first (nothing history)).used ≡ []
unused history first =
    none_used history.parents (outcomes_of_table (nothing history)) (none_known (length history.parents)) first.search 0

-- the run on no answer at all
nothing_tested : (request : Request) (tested : TesterShown) (history : History) (first : Begun) → tested.answers ≡ []
    → IsTestedRun request tested history first (traced_if request.trace history (one_failed history first)
    (told_of_run history first (run_on history first (nothing history))))
unfolding LegsLead
nothing_tested request tested history first none = record {
  table = nothing history;
  legs = one_failed history first;
  over = record {
    are = record {
      stand = _;
      whole = refl;
      last = record {
        leads = failed_leads (setting_of (course_of request history first) first.search) (nothing history) (run_on history first (nothing history)).end
            (same_end history.parents (outcomes_of_table (nothing history)) (none_known (length history.parents)) first.search request.leg);
        by_workers = record {
          shared = [];
          by_workers = All-nil (λ (e : Event). IsOneOf request.workers (worker_of e));
          then_own = record { more = failed_test (asked_first history first); added = refl; own = all_own [] (asked_first history first) };
        };
      };
      ended = no_leg history.parents (outcomes_of_table (nothing history)) (none_known (length history.parents)) first.search request.leg;
    };
    is = refl;
    known = record {
      answered = fresh_in history.names tested.answers (length history.parents) (nothing history) refl;
      planned = fresh_follows tested.plan (length history.parents) (nothing history) refl;
    };
    tested = subst (λ (ps : List (ℕ × Outcome)). ArePosts history.names ps tested.answers)
        (sym (ap posts_of (append-nil (failed_test (asked_first history first))) ∙ posts_of_tests [] (asked_first history first)))
        (nothing_posted history.names tested.answers none);
    alone = λ one. record {
      given = ap (λ (xs : List Answer). map pair_of xs) none ∙ sym (unused history first);
      tested = append-nil (failed_test (asked_first history first))
          ∙ ap (λ (used : List (ℕ × Outcome)). flat_map test_at used ++ failed_test (asked_first history first)) (sym (unused history first));
    };
  };
  planned = by_plan tested.plan;
  tells = refl;
}
  where
    part : (plan : List Outcome) → IsPartOf (outcomes_of_table (nothing history)) (outcomes_of_plan plan)
    part plan = λ p. subst (λ (o : Option Outcome). IfSome o (λ x. outcomes_of_plan plan p ≡ Some x)) (sym (none_known (length history.parents) p)) tt

    by_plan : (plan : Option (List Outcome)) → IsFrontIfTold plan history first (run_on history first (nothing history))
    by_plan None = tt
    by_plan (Some plan) = record {
      begins = seq_goes_on history.parents first.search (outcomes_of_table (nothing history)) (outcomes_of_plan plan) 0 (part plan);
      ended = λ closed. sym (seq_ends_alike history.parents first.search (outcomes_of_table (nothing history)) (outcomes_of_plan plan) 0 (part plan) closed);
    }

module _ (words : List (List ℕ)) (files : List ShelfFile) (tested : TesterShown) (none : tested.answers ≡ []) where
  abbrev some_given : Given
  some_given = given_to words (Some files) tested

  some_simulated : (begun : Result Begun Told) (request : Request) (history : History) → request.trace ≡ false
      → (told : Told) × IsToldFrom (IsSearched Simulate request words tested history) begun told
  some_simulated (Err refusal) request history untraced = (refusal, refl)
  some_simulated (Ok first) request history untraced =
      let told = ran history first (run_over history first (plan_of request words)) in
      (told, inl (subst (λ (is_asked : Bool). IsRunTold is_asked request (plan_of request words) history first told) (sym untraced) refl))

  some_tested : (begun : Result Begun Told) (request : Request) (history : History) → (told : Told) × IsToldFrom (IsSearched Run request words tested history) begun told
  some_tested (Err refusal) request history = (refusal, refl)
  some_tested (Ok first) request history = (_, inl (nothing_tested request tested history first none))

  some_over : (verb : Verb) (request : Request) (file : Option (Result (List ℕ) LoadFault)) (history : History) → request.trace ≡ false
      → (told : Told) × IsOverFile verb request words tested file history told
  some_over Simulate request file history untraced = some_simulated (begun_with_skips request words file history) request history untraced
  some_over Run request file history untraced = some_tested (begun_with_skips request words file history) request history
  some_over Next request file history untraced = (told_by (next_told request words file history), refl)
  some_over Replay request file history untraced = (told_by (replay_told file history), refl)
  some_over Gen request file history untraced = (generated request, refl)
  some_over Sample request file history untraced = (sampled request history, refl)

  some_log : (replay : Option ℕ) (request : Request) (history : History) → request.trace ≡ false
      → (told : Told) × IsBehind replay request some_given history told
  some_log None request history untraced = some_over request.verb request None history untraced
  some_log (Some i) request history untraced =
      let answer = some_over request.verb request (Some (file_of words i files)) history untraced in
      (answer.0, (file_of words i files, refl, answer.1))

  some_loaded : (request : Request) (result : Result History ImportFault) → request.trace ≡ false → (told : Told) × IsToldOr refusal (IsOver request some_given) result told
  some_loaded request (Ok history) untraced = some_log request.replay request history untraced
  some_loaded request (Err fault) untraced = (refusal fault, refl)

  some_over_bytes : (request : Request) (bytes : List ℕ) → request.trace ≡ false → (told : Told) × IsStreamed (IsOver request some_given) (Some bytes) told
  some_over_bytes request bytes untraced =
      let found = some_loading bytes standard_limits in
      let answer = some_loaded request found.0 untraced in
      (answer.0, (found.0, found.1, answer.1))

  some_of : (verb : Verb) (request : Request) (bytes : List ℕ) → request.trace ≡ false → (told : Told) × IsOutputOf verb request some_given (Some bytes) told
  some_of Simulate request bytes untraced = some_over_bytes request bytes untraced
  some_of Run request bytes untraced = some_over_bytes request bytes untraced
  some_of Next request bytes untraced = some_over_bytes request bytes untraced
  some_of Replay request bytes untraced = some_over_bytes request bytes untraced
  some_of Gen request bytes untraced = (generated request, refl)
  some_of Sample request bytes untraced = some_over_bytes request (made_stream request) untraced

  pub some_for : (read : Result Request ℕ) (bytes : List ℕ) → traces read ≡ false → (told : Told) × IsAskedFor read some_given (Some bytes) told
  some_for (Err word) bytes untraced = (usage word, refl)
  some_for (Ok request) bytes untraced = some_of request.verb request bytes untraced
