-- The searches of a list, one more by one more.
use Rattle.std.proofs.Common.{◌≡◌, ℕ, ◌+◌, ◌<◌, false, List, [], ◌∷◌, ◌++◌, length, map, take, get_or, Option, Some, None, unwrap_or, Result, Ok, Err, refl, sym, ap, subst, ◌∙◌}
use Rattle.std.specs.List.{All}
use Rattle.std.specs.Result.{result_map_both}
use Rattle.std.proofs.lemmas.List.{length-append, map-append, take_more}
use Rattle.std.proofs.lemmas.List.Elements.{All-get_or}
use Rattle.bf_answers.specs.Answers.{IsWhole}
use Rattle.bf_answers.specs.Tellings.{begun_of, told_of}
use Rattle.bf_answers.specs.declared.answer.Answer.{Answer}
use Rattle.bf_answers.specs.declared.started.Beginning.{Beginning}
use Rattle.bf_commands.specs.Many.{searched}
use Rattle.bf_state.specs.Ends.{HasEnds}
use Rattle.bf_history.specs.Meanings.{History}
use Rattle.bf_log.specs.Written.{known_after_all}
use Rattle.bf_log.proofs.JoinedLogs.{log_joined}
use Rattle.bf_output.specs.Beginning.{Begun as BegunOf, begun_with_skips, commits_of}
use Rattle.bf_output.specs.Refusals.{usage}
use Rattle.bf_output.specs.Simulate.{plan_of, ran, run_over, status_of_end}
use Rattle.bf_output.specs.Told.{Told, told_by}
use Rattle.bf_search.specs.declared.outcomes.Outcome.{Outcome}
use Rattle.bf_search.specs.Run.{Run}
use Rattle.bf_state.specs.Session.{Session}
use Rattle.bf_tester.specs.declared.tester.Tester.{Ghosts}
use Rattle.bf_terms.specs.Texts.{Known, answer_lines, log_from}
use Rattle.bf_words.specs.declared.request.Request.{Request}
use Rattle.bf_words.specs.Words.{request}
use Rattle.bf_many_run.specs.declared.slots.BegunSearch.{BegunSearch}
use Rattle.bf_many_run.specs.declared.slots.ListSlot.{ListSlot}
use Rattle.bf_many_run.specs.declared.slots.ListSlot.TheVariants.{Refused, Begun as BegunSlot}
use Rattle.bf_many_run.specs.declared.list.ListLine.{ListLine}
use Rattle.bf_many_run.specs.Lists.{IsAskedBy, words_in}
use Rattle.bf_many_run.specs.Groups.{AreBegun, AreSearchesOf, IsBegunAs, IsBegunBy, all_told, plan_in, told_from, told_over}
use Rattle.bf_grammar.specs.Forms.{◌>>=◌}

-- ---- what a line asks for

-- what is told of how a search begins
abbrev told_begun_so : History → Request → List (List ℕ) → Result BegunOf Told → Told
told_begun_so history r words begins = told_by (begins >>= λ first. Ok (ran history first (run_over history first (plan_of r words))))

-- what is told by what words ask for
abbrev told_of_asked : History → List (List ℕ) → Result Request ℕ → Told
told_of_asked history words asked = told_by (result_map_both (λ r. r) usage asked
    >>= λ r. begun_with_skips r words None history
    >>= λ first. Ok (ran history first (run_over history first (plan_of r words))))

-- a search that is refused is told by its refusal
pub searched_refused : (history : History) (words : List (List ℕ)) (r : Request) (refusal : Told) → request words ≡ Ok r
    → begun_with_skips r words None history ≡ Err refusal → refusal ≡ searched history words
searched_refused history words r refusal asked refused =
    sym (ap (told_of_asked history words) asked ∙ ap (told_begun_so history r words) refused)

-- one that begins is told by its run over the plan
searched_begun : (history : History) (words : List (List ℕ)) (r : Request) (first : BegunOf) → request words ≡ Ok r
    → begun_with_skips r words None history ≡ Ok first → searched history words ≡ ran history first (run_over history first (plan_of r words))
searched_begun history words r first asked begins =
    ap (told_of_asked history words) asked ∙ ap (told_begun_so history r words) begins

-- the run behind the first lines of a log
run_behind : (history : History) (first : Beginning) (begun : BegunSearch) (run : Run) → IsBegunAs history first begun
    → told_from history begun run ≡ ran history (begun_of first) run
run_behind history first begun run is =
    let commits = commits_of history in
    let more = log_from commits first.state.terms (known_after_all first.known first.entries.items) run.entries in
    let lines = answer_lines commits first.state.terms run.end in
    ap (λ (s : Session). record {
      status = status_of_end run.end;
      text = (begun.telling.text ++ log_from commits s.terms begun.telling.known run.entries) ++ answer_lines commits s.terms run.end;
    }) is.state
    ∙ ap (λ (t : List ℕ). record { status = status_of_end run.end; text = t ++ lines })
    (ap (λ (k : Known). begun.telling.text ++ log_from commits first.state.terms k run.entries) is.known
    ∙ ap (λ (t : List ℕ). t ++ more) is.text
    ∙ sym (log_joined commits first.state.terms first.known first.entries.items run.entries))

one_longer : {X Y : Type 0} (xs : List X) (ys : List Y) (x : X) (y : Y) → length xs ≡ length ys → length (xs ++ x ∷ []) ≡ length (ys ++ y ∷ [])
one_longer xs ys x y e = length-append xs (x ∷ []) ∙ ap (λ (n : ℕ). n + 1) e ∙ sym (length-append ys (y ∷ []))

module _ {T : Type 0} (by : Ghosts T) where
  -- a search that has begun tells what its line asks for
  pub tells_asked : (history : History) (words : List (List ℕ)) (r : Request) (first : Beginning) (begun : BegunSearch) (tester : T) → request words ≡ Ok r
      → begun_with_skips r words None history ≡ Ok (begun_of first) → IsBegunAs history first begun → by.told tester ≡ Some (plan_of r words)
      → told_over history begun (plan_in by tester) ≡ searched history words
  tells_asked history words r first begun tester asked begins is told =
      ap (λ (s : Session). told_from history begun (run_over history (record { sides = s.terms; known = first.known; search = s.search; entries = [] })
      (plan_in by tester))) is.state
      ∙ ap (λ (o : Option (List Outcome)). told_from history begun (run_over history (begun_of first) (unwrap_or o []))) told
      ∙ run_behind history first begun (run_over history (begun_of first) (plan_of r words)) is
      ∙ sym (searched_begun history words r (begun_of first) asked begins)

  -- it has begun
  pub has_begun : (history : History) (words : List (List ℕ)) (r : Request) (first : Beginning) (begun : BegunSearch) (tester : T)
      → IsBegunAs history first begun → first.state.len ≡ length history.parents → HasEnds first.state.search
      → by.told tester ≡ Some (plan_of r words) → by.answers tester ≡ [] → by.is_split tester ≡ false → IsBegunBy by history begun tester
  has_begun history words r first begun tester is len ends told fresh whole = record {
    len = ap (λ (s : Session). s.len) is.state ∙ len;
    ends = subst (λ (s : Session). HasEnds s.search) (sym is.state) ends;
    trace = is.trace;
    plan = subst (λ (o : Option (List Outcome)). o ≡ Some (unwrap_or o [])) (sym told) refl;
    fresh = fresh;
    is_split = whole;
  }

  -- ---- one line more

  begun_refused : (history : History) (slots : List ListSlot) (testers : List T) (answer : Answer) → AreBegun by history slots testers
      → IsWhole answer.status → AreBegun by history (slots ++ Refused answer ∷ []) testers
  begun_refused history [] [] answer are whole = (whole, tt)
  begun_refused history [] (t ∷ testers) answer are whole = absurd are
  begun_refused history (Refused a ∷ slots) testers answer are whole = (are.0, begun_refused history slots testers answer are.1 whole)
  begun_refused history (BegunSlot b ∷ slots) [] answer are whole = absurd are
  begun_refused history (BegunSlot b ∷ slots) (t ∷ testers) answer are whole = (are.0, begun_refused history slots testers answer are.1 whole)

  begun_more : (history : History) (slots : List ListSlot) (testers : List T) (begun : BegunSearch) (tester : T) → AreBegun by history slots testers
      → IsBegunBy by history begun tester → AreBegun by history (slots ++ BegunSlot begun ∷ []) (testers ++ tester ∷ [])
  begun_more history [] [] begun tester are is = (is, tt)
  begun_more history [] (t ∷ testers) begun tester are is = absurd are
  begun_more history (Refused a ∷ slots) testers begun tester are is = (are.0, begun_more history slots testers begun tester are.1 is)
  begun_more history (BegunSlot b ∷ slots) [] begun tester are is = absurd are
  begun_more history (BegunSlot b ∷ slots) (t ∷ testers) begun tester are is = (are.0, begun_more history slots testers begun tester are.1 is)

  told_refused : (history : History) (slots : List ListSlot) (testers : List T) (answer : Answer) → AreBegun by history slots testers
      → all_told by history (slots ++ Refused answer ∷ []) testers ≡ all_told by history slots testers ++ told_of answer ∷ []
  unfolding all_told
  told_refused history [] [] answer are = refl
  told_refused history [] (t ∷ testers) answer are = absurd are
  told_refused history (Refused a ∷ slots) testers answer are =
      ap (λ (l : List Told). told_of a ∷ l) (told_refused history slots testers answer are.1)
  told_refused history (BegunSlot b ∷ slots) [] answer are = absurd are
  told_refused history (BegunSlot b ∷ slots) (t ∷ testers) answer are =
      ap (λ (l : List Told). told_over history b (plan_in by t) ∷ l) (told_refused history slots testers answer are.1)

  told_begun : (history : History) (slots : List ListSlot) (testers : List T) (begun : BegunSearch) (tester : T) → AreBegun by history slots testers
      → all_told by history (slots ++ BegunSlot begun ∷ []) (testers ++ tester ∷ [])
      ≡ all_told by history slots testers ++ told_over history begun (plan_in by tester) ∷ []
  unfolding all_told
  told_begun history [] [] begun tester are = refl
  told_begun history [] (t ∷ testers) begun tester are = absurd are
  told_begun history (Refused a ∷ slots) testers begun tester are =
      ap (λ (l : List Told). told_of a ∷ l) (told_begun history slots testers begun tester are.1)
  told_begun history (BegunSlot b ∷ slots) [] begun tester are = absurd are
  told_begun history (BegunSlot b ∷ slots) (t ∷ testers) begun tester are =
      ap (λ (l : List Told). told_over history b (plan_in by t) ∷ l) (told_begun history slots testers begun tester are.1)

  -- no line is read yet
  pub no_searches : (history : History) (slots : List ListSlot) (testers : List T) → slots ≡ [] → testers ≡ []
      → AreSearchesOf by history [] slots testers
  unfolding all_told
  no_searches history [] [] none nobody = record { begun = tt; told = refl; each = refl }
  no_searches history [] (t ∷ testers) none nobody = cc nobody
  no_searches history (s ∷ slots) testers none nobody = cc none

  -- a line is refused
  pub search_refused : (history : History) (lines : List (List (List ℕ))) (words : List (List ℕ)) (slots now : List ListSlot) (testers : List T)
      (answer : Answer) → AreSearchesOf by history lines slots testers → now ≡ slots ++ Refused answer ∷ [] → IsWhole answer.status
      → told_of answer ≡ searched history words → AreSearchesOf by history (lines ++ words ∷ []) now testers
  search_refused history lines words slots now testers answer are pushed whole tells =
      subst (λ (l : List ListSlot). AreSearchesOf by history (lines ++ words ∷ []) l testers) (sym pushed) (record {
        begun = begun_refused history slots testers answer are.begun whole;
        told = told_refused history slots testers answer are.begun
            ∙ ap (λ (l : List Told). l ++ told_of answer ∷ []) are.told
            ∙ ap (λ (t : Told). map (searched history) lines ++ t ∷ []) tells
            ∙ sym (map-append (searched history) lines (words ∷ []));
        each = one_longer slots lines (Refused answer) words are.each;
      })

  -- a search has begun
  pub search_begun : (history : History) (lines : List (List (List ℕ))) (words : List (List ℕ)) (slots now : List ListSlot) (testers later : List T)
      (begun : BegunSearch) (tester : T) → AreSearchesOf by history lines slots testers → now ≡ slots ++ BegunSlot begun ∷ []
      → later ≡ testers ++ tester ∷ [] → IsBegunBy by history begun tester
      → told_over history begun (plan_in by tester) ≡ searched history words → AreSearchesOf by history (lines ++ words ∷ []) now later
  search_begun history lines words slots now testers later begun tester are pushed joined is tells =
      subst (λ (l : List ListSlot). AreSearchesOf by history (lines ++ words ∷ []) l later) (sym pushed)
      (subst (λ (l : List T). AreSearchesOf by history (lines ++ words ∷ []) (slots ++ BegunSlot begun ∷ []) l) (sym joined) (record {
        begun = begun_more history slots testers begun tester are.begun is;
        told = told_begun history slots testers begun tester are.begun
            ∙ ap (λ (l : List Told). l ++ told_over history begun (plan_in by tester) ∷ []) are.told
            ∙ ap (λ (t : Told). map (searched history) lines ++ t ∷ []) tells
            ∙ sym (map-append (searched history) lines (words ∷ []));
        each = one_longer slots lines (BegunSlot begun) words are.each;
      }))

-- ---- the lines of a list

-- the words of the lines so far
pub lines_more : (lines : List ListLine) (i : ℕ) (line : ListLine) (words : List (List ℕ)) → i < length lines → line ≡ get_or lines i line
    → words ≡ words_in line → map words_in (take (i + 1) lines) ≡ map words_in (take i lines) ++ words ∷ []
lines_more lines i line words below is same =
    ap (λ (l : List ListLine). map words_in l) (take_more lines i line below)
    ∙ map-append words_in (take i lines) (get_or lines i line ∷ [])
    ∙ ap (λ (l : ListLine). map words_in (take i lines) ++ words_in l ∷ []) (sym is)
    ∙ ap (λ (w : List (List ℕ)). map words_in (take i lines) ++ w ∷ []) (sym same)

-- what the next line asks for
pub asked_next : (lines : List ListLine) (i : ℕ) (line : ListLine) (words : List (List ℕ)) (r : Request) → All IsAskedBy lines → i < length lines
    → line ≡ get_or lines i line → words ≡ words_in line → r ≡ line.request → request words ≡ Ok r
asked_next lines i line words r all below is same asks =
    ap request same ∙ subst IsAskedBy (sym is) (All-get_or IsAskedBy lines i line below all) ∙ ap (λ (q : Request). Ok q) (sym asks)
