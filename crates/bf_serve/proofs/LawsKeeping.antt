-- What a turn is, by its reply: a refusal changes nothing, and a test is of the best open place.
use Rattle.std.proofs.Common.{◌≡◌, ℕ, ◌+◌, Bool, true, false, cond, List, [], ◌∷◌, length, Option, Some, None, Result, Ok, Err, refl, sym, ap}
use Rattle.std.specs.Prelude.{◌-◌, drop, nat_lt}
use Rattle.std.specs.List.{slice_get}
use Rattle.bf_history.specs.Meanings.{History}
use Rattle.bf_io.specs.declared.shelf.LoadFault.{LoadFault}
use Rattle.bf_io.specs.declared.shelf.ShelfFile.{ShelfFile}
use Rattle.bf_many.specs.declared.answers.Held.{Held}
use Rattle.bf_many.specs.Many.{FarmMachine, held_by, is_busy}
use Rattle.bf_output.specs.Beginning.{Begun, commits_of}
use Rattle.bf_output.specs.Refusals.{usage}
use Rattle.bf_output.specs.Told.{Told}
use Rattle.bf_protocol.specs.declared.request.Asked.{Asked}
use Rattle.bf_protocol.specs.declared.request.Asked.TheVariants as asked
use Rattle.bf_protocol.specs.declared.request.Refusal.{Refusal}
use Rattle.bf_protocol.specs.declared.request.Refusal.TheVariants as why
use Rattle.bf_protocol.specs.Events.{Done, Over, Refused, Reply, Test, Wait}
use Rattle.bf_protocol.specs.Requests.{asked_by, refusal_line, words_in}
use Rattle.bf_search.specs.declared.asks.Ask.TheVariants.{WaitBoth, WaitBad, WaitGood, Test as TestOf, MergeBaseBad, GoodNotAncestor, BothSides, FirstBad, OnlySkipped}
use Rattle.bf_search.specs.declared.outcomes.Outcome.{Outcome}
use Rattle.bf_search.specs.Run.{Aborted, Answered, End, Leg, Open}
use Rattle.bf_search.specs.State.{Search}
use Rattle.bf_terms.specs.Texts.{Commits}
use Rattle.bf_words.specs.declared.request.Request.{Request}
use Rattle.bf_words.specs.Words.{word_at}
use Rattle.bf_serve.specs.declared.opening.Opening.{Opening}
use Rattle.bf_serve.specs.Begins.{begins_by, request_to_search, words_to_begin}
use Rattle.bf_serve.specs.Laws.{ChangesNothing, IsBestTask}
use Rattle.bf_serve.specs.Searches.{Searches, has_outcome, is_tested, learned, read_by, run_of}
use Rattle.bf_serve.specs.Serving.{Task, begun_as, begun_by, begun_or_refused, certified_at, certified_in, changed, file_in, given, given_in, have_ended, learned_as, learned_in, learned_of, pick_turn, picked, place_of_commit, posted, posted_as, posted_in, refused_as, served, task_from, turn, turn_as, wanted_of, with_words, words_turn}
use Rattle.bf_serve.specs.Turns.{Turn, refused}
use Rattle.bf_serve.proofs.Picking.{task_of}

abbrev Keeps : Searches → Turn → Type 0
Keeps searches t = (text : List ℕ) → t.reply ≡ Refused text → ChangesNothing searches t

keeps_refused : (searches : Searches) (line : List ℕ) → Keeps searches (refused searches line)
keeps_refused searches line text h = record { same = refl; quiet = refl }

keeps_why : (searches : Searches) (refusal : Refusal) → Keeps searches (refused_as searches refusal)
keeps_why searches refusal = keeps_refused searches (refusal_line refusal)

by_test : (searches : Searches) (b : Bool) (t u : Turn) → Keeps searches t → Keeps searches u → Keeps searches (cond b t u)
by_test searches true t u one other = one
by_test searches false t u one other = other

keeps_changed : (history : History) (searches : Searches) (k : ℕ) (o : Opening) (old new : FarmMachine) → Keeps searches (changed history searches k o old new)
keeps_changed history searches k o old new = λ text h. cc h

keeps_words : (searches : Searches) (words : List (List ℕ)) → Keeps searches (words_turn searches words)
keeps_words searches words = by (nat_lt 1000000 (length searches.pending + length words))
  where
    standing : Turn
    standing = record { news = []; reply = Done; searches = record searches { pending = with_words searches.pending words } }

    by : (b : Bool) → Keeps searches (cond b (refused_as searches why.TooManyWords) standing)
    by true = keeps_why searches why.TooManyWords
    by false = λ text h. cc h

-- ---- search

keeps_begun : (history : History) (searches : Searches) (is_lenient : Bool) (r : Result Begun Told)
    → Keeps searches (begun_or_refused history searches is_lenient r)
keeps_begun history searches is_lenient (Ok first) = λ text h. cc h
keeps_begun history searches is_lenient (Err told) = keeps_refused searches told.text

keeps_begun_as : (history : History) (file : Result (List ℕ) LoadFault) (searches : Searches) (words : List (List ℕ)) (r : Result Request ℕ)
    → Keeps searches (begun_as history file searches words r)
keeps_begun_as history file searches words (Ok asks) = keeps_begun history searches asks.lenient (begins_by history file words asks)
keeps_begun_as history file searches words (Err word) = keeps_refused searches (usage word).text

-- ---- pick

keeps_picked : (commits : Commits) (searches : Searches) (worker : ℕ) (o : Option Task) → Keeps searches (picked commits searches worker o)
keeps_picked commits searches worker None = λ text h. record { same = refl; quiet = refl }
keeps_picked commits searches worker (Some task) = λ text h. cc h

-- ---- post and give

keeps_posted_in : (history : History) (searches : Searches) (worker : ℕ) (held : Held) (outcome : Outcome) (o : Option Opening) (m : Option FarmMachine)
    → Keeps searches (posted_in history searches worker held outcome o m)
keeps_posted_in history searches worker held outcome (Some o) (Some m) = λ text h. cc h
keeps_posted_in history searches worker held outcome (Some o) None = keeps_why searches why.WorkerHasNoTest
keeps_posted_in history searches worker held outcome None m = keeps_why searches why.WorkerHasNoTest

keeps_posted_as : (history : History) (searches : Searches) (worker : ℕ) (held : Held) (r : Result Outcome Refusal)
    → Keeps searches (posted_as history searches worker held r)
keeps_posted_as history searches worker held (Ok outcome) =
    keeps_posted_in history searches worker held outcome (slice_get searches.openings held.search) (slice_get searches.machines held.search)
keeps_posted_as history searches worker held (Err refusal) = keeps_why searches refusal

keeps_posted : (history : History) (searches : Searches) (worker : ℕ) (r : Result Outcome Refusal) (o : Option Held)
    → Keeps searches (posted history searches worker r o)
keeps_posted history searches worker r None = keeps_why searches why.WorkerHasNoTest
keeps_posted history searches worker r (Some held) = keeps_posted_as history searches worker held r

keeps_given_in : (history : History) (searches : Searches) (worker : ℕ) (held : Held) (o : Option Opening) (m : Option FarmMachine)
    → Keeps searches (given_in history searches worker held o m)
keeps_given_in history searches worker held (Some o) (Some m) = λ text h. cc h
keeps_given_in history searches worker held (Some o) None = keeps_why searches why.WorkerHasNoTest
keeps_given_in history searches worker held None m = keeps_why searches why.WorkerHasNoTest

keeps_given : (history : History) (searches : Searches) (worker : ℕ) (o : Option Held) → Keeps searches (given history searches worker o)
keeps_given history searches worker None = keeps_why searches why.WorkerHasNoTest
keeps_given history searches worker (Some held) =
    keeps_given_in history searches worker held (slice_get searches.openings held.search) (slice_get searches.machines held.search)

-- ---- learn

keeps_learned_of : (history : History) (searches : Searches) (k p : ℕ) (outcome : Outcome) (o : Opening) (m : FarmMachine)
    → Keeps searches (learned_of history searches k p outcome o m)
keeps_learned_of history searches k p outcome o m =
    let new : Turn = changed history searches k o m (learned m p (read_by o outcome)) in
    let unless_tested : Turn = cond (is_tested m p) (refused_as searches why.IsUnderTest) new in
    by_test searches (has_outcome m p) (refused_as searches why.HasAnOutcome) unless_tested (keeps_why searches why.HasAnOutcome)
    (by_test searches (is_tested m p) (refused_as searches why.IsUnderTest) new (keeps_why searches why.IsUnderTest) (λ text h. cc h))

keeps_learned_as : (history : History) (searches : Searches) (k : ℕ) (place : Option ℕ) (r : Result Outcome Refusal) (o : Opening) (m : FarmMachine)
    → Keeps searches (learned_as history searches k place r o m)
keeps_learned_as history searches k None r o m = keeps_why searches why.NoSuchCommit
keeps_learned_as history searches k (Some p) (Err refusal) o m = keeps_why searches refusal
keeps_learned_as history searches k (Some p) (Ok outcome) o m = keeps_learned_of history searches k p outcome o m

keeps_learned_in : (history : History) (searches : Searches) (k : ℕ) (place : Option ℕ) (r : Result Outcome Refusal) (o : Option Opening)
    (m : Option FarmMachine)
    → Keeps searches (learned_in history searches k place r o m)
keeps_learned_in history searches k place r (Some o) (Some m) = keeps_learned_as history searches k place r o m
keeps_learned_in history searches k place r (Some o) None = keeps_why searches why.NoSuchSearch
keeps_learned_in history searches k place r None m = keeps_why searches why.NoSuchSearch

-- ---- wanted and certificate

keeps_wanted : (searches : Searches) (place : Option ℕ) → Keeps searches (wanted_of searches place)
keeps_wanted searches None = keeps_why searches why.NoSuchCommit
keeps_wanted searches (Some p) = λ text h. record { same = refl; quiet = refl }

keeps_certified_at : (history : History) (searches : Searches) (s : ℕ) (search : Search) (end : End)
    → Keeps searches (certified_at history searches s search end)
keeps_certified_at history searches s search (Answered (FirstBad p)) = λ text h. record { same = refl; quiet = refl }
keeps_certified_at history searches s search (Answered (OnlySkipped ps)) = keeps_why searches why.NoCertificate
keeps_certified_at history searches s search (Answered (TestOf p)) = keeps_why searches why.NoCertificate
keeps_certified_at history searches s search (Answered (MergeBaseBad p)) = keeps_why searches why.NoCertificate
keeps_certified_at history searches s search (Answered (GoodNotAncestor p)) = keeps_why searches why.NoCertificate
keeps_certified_at history searches s search (Answered (BothSides p)) = keeps_why searches why.NoCertificate
keeps_certified_at history searches s search (Answered WaitBoth) = keeps_why searches why.NoCertificate
keeps_certified_at history searches s search (Answered WaitBad) = keeps_why searches why.NoCertificate
keeps_certified_at history searches s search (Answered WaitGood) = keeps_why searches why.NoCertificate
keeps_certified_at history searches s search Leg = keeps_why searches why.NoCertificate
keeps_certified_at history searches s search (Open p) = keeps_why searches why.NoCertificate
keeps_certified_at history searches s search (Aborted p outcome) = keeps_why searches why.NoCertificate

keeps_certified : (history : History) (searches : Searches) (s : ℕ) (m : Option FarmMachine) → Keeps searches (certified_in history searches s m)
keeps_certified history searches s None = keeps_why searches why.NoSuchSearch
keeps_certified history searches s (Some m) = keeps_certified_at history searches s (run_of m).search (run_of m).end

-- ---- each request

keeps_as : (history : History) (file : Result (List ℕ) LoadFault) (searches : Searches) (words : List (List ℕ)) (r : Result Asked Refusal)
    → Keeps searches (turn_as history file searches words r)
keeps_as history file searches words (Err refusal) = keeps_why searches refusal
keeps_as history file searches words (Ok asked.Words) = keeps_words searches (drop 1 words)
keeps_as history file searches words (Ok asked.Search) =
    by_test searches (nat_lt (length searches.machines) 64) (begun_by history file searches (words_to_begin searches.pending words))
    (refused_as searches why.TooManySearches)
    (keeps_begun_as history file searches (words_to_begin searches.pending words) (request_to_search (words_to_begin searches.pending words)))
    (keeps_why searches why.TooManySearches)
keeps_as history file searches words (Ok (asked.Pick worker)) =
    by_test searches (is_busy searches.machines worker) (refused_as searches why.WorkerHasATest)
    (picked (commits_of history) searches worker (task_from 0 searches.machines)) (keeps_why searches why.WorkerHasATest)
    (keeps_picked (commits_of history) searches worker (task_from 0 searches.machines))
keeps_as history file searches words (Ok (asked.Post worker outcome)) = keeps_posted history searches worker outcome (held_by searches.machines worker)
keeps_as history file searches words (Ok (asked.Give worker)) = keeps_given history searches worker (held_by searches.machines worker)
keeps_as history file searches words (Ok (asked.Learn s outcome)) =
    keeps_learned_in history searches (s - 1) (place_of_commit history (word_at words 2)) outcome
    (slice_get searches.openings (s - 1)) (slice_get searches.machines (s - 1))
keeps_as history file searches words (Ok asked.Wanted) = keeps_wanted searches (place_of_commit history (word_at words 1))
keeps_as history file searches words (Ok (asked.Certificate s)) = keeps_certified history searches s (slice_get searches.machines (s - 1))

pub refusal_keeps : (history : History) (file : Result (List ℕ) LoadFault) (searches : Searches) (line text : List ℕ)
    → (turn history file searches line).reply ≡ Refused text → ChangesNothing searches (turn history file searches line)
unfolding turn
refusal_keeps history file searches line text h = keeps_as history file searches (words_in line) (asked_by (words_in line)) text h

pub rest_as_without : (history : History) (files : List ShelfFile) (searches : Searches) (line text : List ℕ) (lines : List (List ℕ))
    → (turn history (file_in files searches line) searches line).reply ≡ Refused text
    → served history files searches (line ∷ lines) ≡ turn history (file_in files searches line) searches line ∷ served history files searches lines
unfolding served
rest_as_without history files searches line text lines h =
    let file : Result (List ℕ) LoadFault = file_in files searches line in
    ap (λ (left : Searches). turn history file searches line ∷ served history files left lines) (refusal_keeps history file searches line text h).same

-- ---- a test

number_in : Reply → ℕ
number_in (Test s digits) = s
number_in other = 0

digits_in : Reply → List ℕ
digits_in (Test s digits) = digits
digits_in other = []

tests_picked : (commits : Commits) (searches : Searches) (worker s : ℕ) (digits : List ℕ) (o : Option Task) → task_from 0 searches.machines ≡ o
    → (picked commits searches worker o).reply ≡ Test s digits → IsBestTask commits searches s digits
unfolding number_in digits_in
tests_picked commits searches worker s digits None next h = absurd (no_test (have_ended searches.machines) h)
  where
    no_test : (b : Bool) → cond b Over Wait ≡ Test s digits → ⊥
    no_test true e = cc e
    no_test false e = cc e
tests_picked commits searches worker s digits (Some task) next h =
    let is = task_of searches.machines task next in
    record {
      index = task.search;
      own = task.own;
      place = task.place;
      number = sym (ap number_in h);
      at = is.at;
      next = is.next;
      best = is.best;
      named = sym (ap digits_in h);
    }

pub test_is_best : (commits : Commits) (searches : Searches) (worker s : ℕ) (digits : List ℕ) → (pick_turn commits searches worker).reply ≡ Test s digits
    → IsBestTask commits searches s digits
test_is_best commits searches worker s digits h = by (is_busy searches.machines worker) h
  where
    by : (b : Bool) → (cond b (refused_as searches why.WorkerHasATest) (picked commits searches worker (task_from 0 searches.machines))).reply ≡ Test s digits
        → IsBestTask commits searches s digits
    by true e = cc e
    by false e = tests_picked commits searches worker s digits (task_from 0 searches.machines) refl e
