-- Over every list of requests, what is told of each search is its log, its end and its needless workers.
use Rattle.std.proofs.Common.{◌≡◌, ⊎_elim, ℕ, zero, suc, ◌+◌, ◌<◌, ◌≤◌, Bool, true, false, cond, ◌==◌, List, [], ◌∷◌, ◌++◌, length, set, Option, Some, None, Result, Ok, Err, refl, sym, ap, subst, ◌∙◌, append_assoc, eqb-true, eq-eqb, arith}
use Rattle.std.proofs.Math.ListN.{length-set}
use Rattle.std.proofs.lemmas.Bool.{both_ways}
use Rattle.std.proofs.lemmas.List.{append-nil, length-append}
use Rattle.std.proofs.lemmas.Option.{slice_get_within}
use Rattle.std.specs.Prelude.{◌-◌, drop, nat_lt}
use Rattle.std.specs.List.{slice_get}
use Rattle.bf_history.specs.Meanings.{History}
use Rattle.bf_io.specs.declared.shelf.ShelfFile.{ShelfFile}
use Rattle.bf_many.specs.declared.answers.Held.{Held}
use Rattle.bf_many.specs.Many.{FarmMachine, held_by, is_busy}
use Rattle.bf_many.proofs.Lists.{get_beside, get_last, get_pushed, get_replaced}
use Rattle.bf_output.specs.Beginning.{Begun, commits_of, log_on}
use Rattle.bf_output.specs.Refusals.{usage}
use Rattle.bf_output.specs.Told.{Told}
use Rattle.bf_protocol.specs.declared.request.Asked.{Asked}
use Rattle.bf_protocol.specs.declared.request.Asked.TheVariants as asked
use Rattle.bf_protocol.specs.declared.request.Refusal.{Refusal}
use Rattle.bf_protocol.specs.declared.request.Refusal.TheVariants as why
use Rattle.bf_protocol.specs.Events.{Done, News, Over, Wait}
use Rattle.bf_protocol.specs.Requests.{asked_by, refusal_line, words_in}
use Rattle.bf_reading.specs.Reading.{lines_of}
use Rattle.bf_search.specs.declared.asks.Ask.TheVariants.{WaitBoth, WaitBad, WaitGood, Test as TestOf, MergeBaseBad, GoodNotAncestor, BothSides, FirstBad, OnlySkipped}
use Rattle.bf_search.specs.declared.farm.Event.{Event}
use Rattle.bf_search.specs.declared.farm.Event.TheVariants.{Claim as Claimed, Post as Posted, Give as Given}
use Rattle.bf_search.specs.declared.outcomes.Outcome.{Outcome}
use Rattle.bf_search.specs.Farm.{Farm}
use Rattle.bf_search.specs.Run.{Aborted, Answered, End, Leg, Open}
use Rattle.bf_search.specs.State.{Search}
use Rattle.bf_state.specs.Tidy.{IsTidy}
use Rattle.bf_words.specs.declared.request.Request.{Request}
use Rattle.bf_words.specs.Words.{word_at}
use Rattle.bf_serve.specs.declared.opening.Opening.{Opening}
use Rattle.bf_serve.specs.Begins.{begins_by, file_named_by, request_to_search, words_to_begin}
use Rattle.bf_serve.specs.Laws.{words_begun, words_by, AreEndsTold, AreLogsTold, AreNeedlessTold, Part, parts_told, parts_of, left_by, logged, needless_told, told_in}
use Rattle.bf_serve.specs.Searches.{Searches, has_outcome, is_tested, learned, no_search, read_by, run_of}
use Rattle.bf_serve.specs.Serving.{Task, begun, begun_as, begun_by, begun_or_refused, certified_at, certified_in, changed, file_in, given as given_turn, given_in, have_ended, learned_as, learned_in, learned_of, machine_at_start, opening_of, picked, place_of_commit, posted, posted_as, posted_in, refused_as, served, stepped, task_from, turn, turn_as, wanted_of, with_words, words_turn}
use Rattle.bf_serve.specs.Turns.{Turn, first_news, news_of, refused, told_on}
use Rattle.bf_serve.proofs.LawsNews.{IsSilent, Tells, parts_joined, first_of_other, first_of_own, logged_joined, needless_joined, news_of_other, silent_joined, silent_none}
use Rattle.bf_serve.proofs.Picking.{task_of}
use Rattle.bf_serve.proofs.LawsTold.{IsToldOf, told_beside, told_on_more, told_same}
use Rattle.bf_serve.proofs.LawsSteps.{IsSameBehind, KnowsOn, farm_behind, give_knows_on, learn_knows_on, post_knows_on, same_behind, tidy_behind, tidy_learned}

-- ---- what stands behind every turn

pub record IsKept (history : History) (files : List ShelfFile) (given : List (List (List ℕ))) (news : List News) (searches : Searches) : Type 0 where
  pub words : length given ≡ length searches.machines
  pub each : length searches.openings ≡ length searches.machines
  pub tidy : (k : ℕ) (m : FarmMachine) → slice_get searches.machines k ≡ Some m → IsTidy m.farm
  pub told : (k : ℕ) (o : Opening) (m : FarmMachine) → slice_get searches.openings k ≡ Some o → slice_get searches.machines k ≡ Some m
      → IsToldOf history files given news k o m
  pub later : (k : ℕ) → length searches.machines ≤ k → IsSilent (k + 1) news

some_is : {X : Type 0} {x y : X} → Some x ≡ Some y → x ≡ y
some_is e = cc e

-- what stands behind a turn, by the words of its request
record Kept (history : History) (files : List ShelfFile) (given : List (List (List ℕ))) (news : List News) (searches : Searches) (words : List (List ℕ))
    (t : Turn) : Type 0 where
  behind : IsKept history files (given ++ words_by searches words t.reply) (news ++ t.news) t.searches

same_news : (history : History) (files : List ShelfFile) (given : List (List (List ℕ))) (news : List News) (searches : Searches)
    → IsKept history files given news searches → IsKept history files given (news ++ []) searches
same_news history files given news searches h = subst (λ (l : List News). IsKept history files given l searches) (sym (append-nil news)) h

same_words : (history : History) (files : List ShelfFile) (given : List (List (List ℕ))) (news : List News) (searches : Searches)
    → IsKept history files given news searches → IsKept history files (given ++ []) news searches
same_words history files given news searches h =
    subst (λ (l : List (List (List ℕ))). IsKept history files l news searches) (sym (append-nil given)) h

kept_quiet : (history : History) (files : List ShelfFile) (given : List (List (List ℕ))) (news : List News) (searches : Searches)
    → IsKept history files given news searches → IsKept history files (given ++ []) (news ++ []) searches
kept_quiet history files given news searches h = same_words history files given (news ++ []) searches (same_news history files given news searches h)

differ_by : (a b : ℕ) (c : Bool) → (a == b) ≡ c → (a ≡ b → ⊥) → (a == b) ≡ false
differ_by a b false f differ = f
differ_by a b true f differ = absurd (differ (eqb-true a b f))

differ : (a b : ℕ) → (a ≡ b → ⊥) → (a == b) ≡ false
differ a b h = differ_by a b (a == b) refl h

apart_next : (j k : ℕ) → (j == k) ≡ false → ((k + 1) == (j + 1)) ≡ false
apart_next j k e = differ (k + 1) (j + 1) (λ g. both_ways (j == k) e (eq-eqb j k (let x : j ≡ k = omega (arith, g) in x)))

module _ (history : History) (files : List ShelfFile) (given : List (List (List ℕ))) (news more : List News) (searches : Searches) (openings : List Opening)
    (k : ℕ) (old m : FarmMachine)
    (is : IsKept history files given news searches) (long : length openings ≡ length searches.openings)
    (beside_opened : (j : ℕ) → (j == k) ≡ false → slice_get openings j ≡ slice_get searches.openings j)
    (at : slice_get searches.machines k ≡ Some old) (tidy : IsTidy m.farm)
    (others : (s : ℕ) → ((k + 1) == s) ≡ false → IsSilent s more)
    (own : (o : Opening) → slice_get openings k ≡ Some o → IsToldOf history files given (news ++ more) k o m) where
  now : slice_get (set searches.machines k m) k ≡ Some m
  now = get_replaced searches.machines old m k at

  beside : (j : ℕ) → (j == k) ≡ false → slice_get (set searches.machines k m) j ≡ slice_get searches.machines j
  beside j e = get_beside searches.machines m k j (λ same. both_ways (j == k) e (eq-eqb j k same))

  is_own : (j : ℕ) (x : FarmMachine) → j ≡ k → slice_get (set searches.machines k m) j ≡ Some x → x ≡ m
  is_own j x same there = some_is (sym there ∙ ap (λ (i : ℕ). slice_get (set searches.machines k m) i) same ∙ now)

  by_tidy : (j : ℕ) (b : Bool) → (j == k) ≡ b → (x : FarmMachine) → slice_get (set searches.machines k m) j ≡ Some x → IsTidy x.farm
  by_tidy j true e x there = subst (λ (y : FarmMachine). IsTidy y.farm) (sym (is_own j x (eqb-true j k e) there)) tidy
  by_tidy j false e x there = is.tidy j x (sym (beside j e) ∙ there)

  by_told : (j : ℕ) (b : Bool) → (j == k) ≡ b → (o : Opening) (x : FarmMachine) → slice_get openings j ≡ Some o
      → slice_get (set searches.machines k m) j ≡ Some x → IsToldOf history files given (news ++ more) j o x
  by_told j true e o x opened there =
      let same : j ≡ k = eqb-true j k e in
      subst (λ (y : FarmMachine). IsToldOf history files given (news ++ more) j o y) (sym (is_own j x same there))
      (subst (λ (i : ℕ). IsToldOf history files given (news ++ more) i o m) (sym same)
      (own o (ap (λ (i : ℕ). slice_get openings i) (sym same) ∙ opened)))
  by_told j false e o x opened there =
      subst (λ (l : List (List (List ℕ))). IsToldOf history files l (news ++ more) j o x) (append-nil given)
      (told_beside history files given [] news more j o x (is.told j o x (sym (beside_opened j e) ∙ opened) (sym (beside j e) ∙ there))
      (others (j + 1) (apart_next j k e)))

  none_later : (j : ℕ) → length searches.machines ≤ j → IsSilent (j + 1) (news ++ more)
  none_later j l =
      let below : k < length searches.machines = slice_get_within searches.machines k old at in
      silent_joined (j + 1) news more (is.later j l) (others (j + 1) (apart_next j k (differ j k (λ e. omega (arith, e, l, below)))))

  kept_step : IsKept history files given (news ++ more) (record searches { openings = openings; machines = set searches.machines k m })
  kept_step = record {
    words = is.words ∙ sym (length-set searches.machines k m);
    each = long ∙ is.each ∙ sym (length-set searches.machines k m);
    tidy = λ j x there. by_tidy j (j == k) refl x there;
    told = λ j o x opened there. by_told j (j == k) refl o x opened there;
    later = λ j l. none_later j (let e = length-set searches.machines k m in omega (arith, e, l));
  }

kept_changed : (history : History) (files : List ShelfFile) (given : List (List (List ℕ))) (news : List News) (searches : Searches) (k : ℕ) (o : Opening)
    (old : FarmMachine) (farm : Farm)
    → IsKept history files given news searches → slice_get searches.openings k ≡ Some o → slice_get searches.machines k ≡ Some old
    → KnowsOn old farm → IsTidy farm
    → IsKept history files given (news ++ news_of history (k + 1) o old (record old { farm = farm }))
    (changed history searches k o old (record old { farm = farm })).searches
kept_changed history files given news searches k o old farm is opened at on tidy =
    let new : FarmMachine = record old { farm = farm } in
    let told : Opening = told_on o (run_of old) (run_of new) in
    kept_step history files given news (news_of history (k + 1) o old new) searches (set searches.openings k told) k old new is
    (length-set searches.openings k told)
    (λ j e. get_beside searches.openings told k j (λ same. both_ways (j == k) e (eq-eqb j k same)))
    at tidy
    (λ s apart. news_of_other s (k + 1) history o old new apart)
    (λ x there. subst (λ (y : Opening). IsToldOf history files given (news ++ news_of history (k + 1) o old new) k y new)
    (some_is (sym (get_replaced searches.openings o told k opened) ∙ there))
    (told_on_more history files given news k o old farm (is.told k o old opened at) on))

kept_same : (history : History) (files : List ShelfFile) (given : List (List (List ℕ))) (news : List News) (searches : Searches) (k : ℕ) (own m : FarmMachine)
    → IsKept history files given news searches → slice_get searches.machines k ≡ Some own → IsSameBehind own m → IsTidy m.farm
    → IsKept history files given (news ++ []) (record searches { machines = set searches.machines k m })
kept_same history files given news searches k own m is at same tidy =
    kept_step history files given news [] searches searches.openings k own m is refl (λ j e. refl) at tidy (λ s apart. silent_none s)
    (λ o there. told_same history files given news k o own m (is.told k o own there at) same)

-- ---- a search begins

module _ (history : History) (files : List ShelfFile) (given : List (List (List ℕ))) (news : List News) (searches : Searches) (words : List (List ℕ))
    (asks : Request) (first : Begun)
    (is : IsKept history files given news searches) (reads : request_to_search words ≡ Ok asks)
    (begins : begins_by history (file_named_by files words) words asks ≡ Ok first) where
  abbrev count : ℕ
  count = length searches.machines

  abbrev m : FarmMachine
  m = machine_at_start history.parents first.search

  abbrev o : Opening
  o = opening_of asks.lenient first (run_of m)

  abbrev more : List News
  more = first_news history (count + 1) first m

  fresh : IsTidy m.farm
  fresh = record {
    workers = λ i j d a b. absurd (omega (arith, b));
    places = λ i j d a b. absurd (omega (arith, b));
    untold = λ i d l. absurd (omega (arith, l));
  }

  older : (k : ℕ) (x : Opening) (y : FarmMachine) → slice_get (searches.openings ++ o ∷ []) k ≡ Some x → slice_get searches.machines k ≡ Some y
      → IsToldOf history files (given ++ words ∷ []) (news ++ more) k x y
  older k x y opened there =
      let below : k < count = slice_get_within searches.machines k y there in
      told_beside history files given (words ∷ []) news more k x y
      (is.told k x y (⊎_elim (λ (h : slice_get searches.openings k ≡ Some x). h)
      (λ h. absurd (let a = h.0 in let e = is.each in omega (arith, a, e, below))) (get_pushed searches.openings o x k opened)) there)
      (first_of_other (k + 1) (count + 1) history first m (differ (count + 1) (k + 1) (λ e. omega (arith, e, below))))

  own : Tells (count + 1) more (lines_of (log_on history first (run_of m).entries)) (parts_of history first (run_of m)) (λ before. before)
  own = first_of_own (count + 1) history first m

  before : IsSilent (count + 1) news
  before = is.later count (omega arith)

  last_words : slice_get (given ++ words ∷ []) count ≡ Some words
  last_words = ap (slice_get (given ++ words ∷ [])) (sym is.words) ∙ get_last given words

  newest : IsToldOf history files (given ++ words ∷ []) (news ++ more) count o m
  newest = record {
    begun = record { words = words; said = last_words; asks = asks; first = first; reads = reads; begins = begins; setting = refl; opened = refl };
    log = logged_joined (count + 1) news more ∙ ap (λ (l : List (List ℕ)). l ++ logged (count + 1) more) before.log ∙ own.log;
    end = parts_joined (count + 1) news more ∙ ap (λ (l : List Part). l ++ parts_told (count + 1) more) before.end ∙ own.end;
    needless = needless_joined (count + 1) [] news more ∙ own.needless (needless_told (count + 1) [] news) ∙ before.needless [];
  }

  is_newest : (k : ℕ) (x : Opening) (y : FarmMachine) → slice_get (searches.openings ++ o ∷ []) k ≡ Some x → k ≡ count → y ≡ m
      → IsToldOf history files (given ++ words ∷ []) (news ++ more) k x y
  is_newest k x y opened here y_is =
      let x_is : o ≡ x = some_is (sym (get_last searches.openings o)
      ∙ ap (λ (i : ℕ). slice_get (searches.openings ++ o ∷ []) i) (is.each ∙ sym here) ∙ opened) in
      subst (λ (z : FarmMachine). IsToldOf history files (given ++ words ∷ []) (news ++ more) k x z) (sym y_is)
      (subst (λ (z : Opening). IsToldOf history files (given ++ words ∷ []) (news ++ more) k z m) x_is
      (subst (λ (i : ℕ). IsToldOf history files (given ++ words ∷ []) (news ++ more) i o m) (sym here) newest))

  nothing_later : (k : ℕ) → length (searches.machines ++ m ∷ []) ≤ k → IsSilent (k + 1) (news ++ more)
  nothing_later k l =
      let e = length-append searches.machines (m ∷ []) in
      let above : count < k = omega (arith, e, l) in
      silent_joined (k + 1) news more (is.later k (omega (arith, above)))
      (first_of_other (k + 1) (count + 1) history first m (differ (count + 1) (k + 1) (λ f. omega (arith, f, above))))

  kept_begun : IsKept history files (given ++ words ∷ []) (news ++ more) (begun history searches asks.lenient first).searches
  kept_begun = record {
    words = length-append given (words ∷ []) ∙ ap (λ (n : ℕ). n + 1) is.words ∙ sym (length-append searches.machines (m ∷ []));
    each = length-append searches.openings (o ∷ []) ∙ ap (λ (n : ℕ). n + 1) is.each ∙ sym (length-append searches.machines (m ∷ []));
    tidy = λ k x there. ⊎_elim (λ (h : slice_get searches.machines k ≡ Some x). is.tidy k x h)
        (λ h. subst (λ (y : FarmMachine). IsTidy y.farm) (sym h.1) fresh) (get_pushed searches.machines m x k there);
    told = λ k x y opened there. ⊎_elim
        (λ (h : slice_get searches.machines k ≡ Some y). older k x y opened h)
        (λ h. is_newest k x y opened h.0 h.1)
        (get_pushed searches.machines m y k there);
    later = λ k l. nothing_later k l;
  }

-- ---- each turn

module _ (history : History) (files : List ShelfFile) (given : List (List (List ℕ))) (news : List News) (searches : Searches)
    (is : IsKept history files given news searches)
    (said : List (List ℕ)) where
  by_test : (b : Bool) (t u : Turn) → Kept history files given news searches said t → Kept history files given news searches said u
      → Kept history files given news searches said (cond b t u)
  by_test true t u one other = one
  by_test false t u one other = other

  kept_refused : (line : List ℕ) → Kept history files given news searches said (refused searches line)
  kept_refused line = record { behind = kept_quiet history files given news searches is }

  kept_why : (refusal : Refusal) → Kept history files given news searches said (refused_as searches refusal)
  kept_why refusal = kept_refused (refusal_line refusal)

  -- other words that stand
  pending_is : (pending : List (List ℕ)) → IsKept history files given news (record searches { pending = pending })
  pending_is pending = record { words = is.words; each = is.each; tidy = is.tidy; told = is.told; later = is.later }

  kept_words : (words : List (List ℕ)) → Kept history files given news searches said (words_turn searches words)
  kept_words words =
      let standing : Searches = record searches { pending = with_words searches.pending words } in
      by_test (nat_lt 1000000 (length searches.pending + length words)) (refused_as searches why.TooManyWords)
      (record { news = []; reply = Done; searches = standing }) (kept_why why.TooManyWords)
      (record { behind = kept_quiet history files given news standing (pending_is (with_words searches.pending words)) })

  kept_begun_or : (asks : Request) (r : Result Begun Told) → request_to_search (words_to_begin searches.pending said) ≡ Ok asks
      → begins_by history (file_named_by files (words_to_begin searches.pending said)) (words_to_begin searches.pending said) asks ≡ r
      → Kept history files given news searches said (begun_or_refused history searches asks.lenient r)
  kept_begun_or asks (Ok first) reads begins =
      record { behind = kept_begun history files given news searches (words_to_begin searches.pending said) asks first is reads begins }
  kept_begun_or asks (Err told) reads begins = kept_refused told.text

  kept_begun_as : (r : Result Request ℕ) → request_to_search (words_to_begin searches.pending said) ≡ r
      → Kept history files given news searches said
      (begun_as history (file_named_by files (words_to_begin searches.pending said)) searches (words_to_begin searches.pending said) r)
  kept_begun_as (Ok asks) reads =
      kept_begun_or asks (begins_by history (file_named_by files (words_to_begin searches.pending said)) (words_to_begin searches.pending said) asks) reads refl
  kept_begun_as (Err word) reads = kept_refused (usage word).text

  kept_lull : (b : Bool) → Kept history files given news searches said (record { news = []; reply = cond b Over Wait; searches = searches })
  kept_lull true = record { behind = kept_quiet history files given news searches is }
  kept_lull false = record { behind = kept_quiet history files given news searches is }

  kept_picked : (worker : ℕ) (o : Option Task) → task_from 0 searches.machines ≡ o
      → Kept history files given news searches said (picked (commits_of history) searches worker o)
  kept_picked worker None e = kept_lull (have_ended searches.machines)
  kept_picked worker (Some task) e =
      let task_is = task_of searches.machines task e in
      let claim : Event = Claimed worker task.place in
      record {
        behind = same_words history files given (news ++ []) (record searches { machines = set searches.machines task.search (stepped task.own claim) })
            (kept_same history files given news searches task.search task.own (stepped task.own claim) is task_is.at
            (same_behind task.own worker task.place task_is.best) (tidy_behind task.own claim (is.tidy task.search task.own task_is.at)));
      }

  -- a request that changed the machine of one search
  kept_on : (k : ℕ) (o : Opening) (old : FarmMachine) (farm : Farm) → slice_get searches.openings k ≡ Some o → slice_get searches.machines k ≡ Some old
      → KnowsOn old farm → IsTidy farm → Kept history files given news searches said (changed history searches k o old (record old { farm = farm }))
  kept_on k o old farm opened at on tidy =
      record {
        behind = same_words history files given (news ++ news_of history (k + 1) o old (record old { farm = farm }))
            (changed history searches k o old (record old { farm = farm })).searches
            (kept_changed history files given news searches k o old farm is opened at on tidy);
      }

  kept_posted_in : (worker : ℕ) (held : Held) (outcome : Outcome) (o : Option Opening) (m : Option FarmMachine) → slice_get searches.openings held.search ≡ o
      → slice_get searches.machines held.search ≡ m → Kept history files given news searches said (posted_in history searches worker held outcome o m)
  kept_posted_in worker held outcome (Some o) (Some m) opened at =
      let event : Event = Posted worker held.place (read_by o outcome) in
      kept_on held.search o m (farm_behind m event) opened at
      (post_knows_on m worker held.place (read_by o outcome) (is.tidy held.search m at)) (tidy_behind m event (is.tidy held.search m at))
  kept_posted_in worker held outcome (Some o) None opened at = kept_why why.WorkerHasNoTest
  kept_posted_in worker held outcome None m opened at = kept_why why.WorkerHasNoTest

  kept_posted_as : (worker : ℕ) (held : Held) (r : Result Outcome Refusal)
      → Kept history files given news searches said (posted_as history searches worker held r)
  kept_posted_as worker held (Ok outcome) =
      kept_posted_in worker held outcome (slice_get searches.openings held.search) (slice_get searches.machines held.search) refl refl
  kept_posted_as worker held (Err refusal) = kept_why refusal

  kept_posted : (worker : ℕ) (r : Result Outcome Refusal) (o : Option Held) → Kept history files given news searches said (posted history searches worker r o)
  kept_posted worker r None = kept_why why.WorkerHasNoTest
  kept_posted worker r (Some held) = kept_posted_as worker held r

  kept_given_in : (worker : ℕ) (held : Held) (o : Option Opening) (m : Option FarmMachine) → slice_get searches.openings held.search ≡ o
      → slice_get searches.machines held.search ≡ m → Kept history files given news searches said (given_in history searches worker held o m)
  kept_given_in worker held (Some o) (Some m) opened at =
      kept_on held.search o m (farm_behind m (Given worker held.place)) opened at
      (give_knows_on m worker held.place) (tidy_behind m (Given worker held.place) (is.tidy held.search m at))
  kept_given_in worker held (Some o) None opened at = kept_why why.WorkerHasNoTest
  kept_given_in worker held None m opened at = kept_why why.WorkerHasNoTest

  kept_given : (worker : ℕ) (o : Option Held) → Kept history files given news searches said (given_turn history searches worker o)
  kept_given worker None = kept_why why.WorkerHasNoTest
  kept_given worker (Some held) = kept_given_in worker held (slice_get searches.openings held.search) (slice_get searches.machines held.search) refl refl

  kept_learned_of : (k p : ℕ) (outcome : Outcome) (o : Opening) (m : FarmMachine) → slice_get searches.openings k ≡ Some o
      → slice_get searches.machines k ≡ Some m → Kept history files given news searches said (learned_of history searches k p outcome o m)
  kept_learned_of k p outcome o m opened at = by (has_outcome m p) (is_tested m p) refl refl
    where
      by : (b c : Bool) → has_outcome m p ≡ b → is_tested m p ≡ c
          → Kept history files given news searches said (cond b (refused_as searches why.HasAnOutcome)
          (cond c (refused_as searches why.IsUnderTest) (changed history searches k o m (learned m p (read_by o outcome)))))
      by true c none free = kept_why why.HasAnOutcome
      by false true none free = kept_why why.IsUnderTest
      by false false none free =
          kept_on k o m (learned m p (read_by o outcome)).farm opened at
          (learn_knows_on m p (read_by o outcome) none) (tidy_learned m p (read_by o outcome) (is.tidy k m at) free)

  kept_learned_as : (k : ℕ) (place : Option ℕ) (r : Result Outcome Refusal) (o : Opening) (m : FarmMachine) → slice_get searches.openings k ≡ Some o
      → slice_get searches.machines k ≡ Some m → Kept history files given news searches said (learned_as history searches k place r o m)
  kept_learned_as k None r o m opened at = kept_why why.NoSuchCommit
  kept_learned_as k (Some p) (Err refusal) o m opened at = kept_why refusal
  kept_learned_as k (Some p) (Ok outcome) o m opened at = kept_learned_of k p outcome o m opened at

  kept_learned_in : (k : ℕ) (place : Option ℕ) (r : Result Outcome Refusal) (o : Option Opening) (m : Option FarmMachine) → slice_get searches.openings k ≡ o
      → slice_get searches.machines k ≡ m → Kept history files given news searches said (learned_in history searches k place r o m)
  kept_learned_in k place r (Some o) (Some m) opened at = kept_learned_as k place r o m opened at
  kept_learned_in k place r (Some o) None opened at = kept_why why.NoSuchSearch
  kept_learned_in k place r None m opened at = kept_why why.NoSuchSearch

  kept_wanted : (place : Option ℕ) → Kept history files given news searches said (wanted_of searches place)
  kept_wanted None = kept_why why.NoSuchCommit
  kept_wanted (Some p) = record { behind = kept_quiet history files given news searches is }

  kept_certified_at : (s : ℕ) (search : Search) (end : End) → Kept history files given news searches said (certified_at history searches s search end)
  kept_certified_at s search (Answered (FirstBad p)) = record { behind = kept_quiet history files given news searches is }
  kept_certified_at s search (Answered (OnlySkipped ps)) = kept_why why.NoCertificate
  kept_certified_at s search (Answered (TestOf p)) = kept_why why.NoCertificate
  kept_certified_at s search (Answered (MergeBaseBad p)) = kept_why why.NoCertificate
  kept_certified_at s search (Answered (GoodNotAncestor p)) = kept_why why.NoCertificate
  kept_certified_at s search (Answered (BothSides p)) = kept_why why.NoCertificate
  kept_certified_at s search (Answered WaitBoth) = kept_why why.NoCertificate
  kept_certified_at s search (Answered WaitBad) = kept_why why.NoCertificate
  kept_certified_at s search (Answered WaitGood) = kept_why why.NoCertificate
  kept_certified_at s search Leg = kept_why why.NoCertificate
  kept_certified_at s search (Open p) = kept_why why.NoCertificate
  kept_certified_at s search (Aborted p outcome) = kept_why why.NoCertificate

  kept_certified : (s : ℕ) (m : Option FarmMachine) → Kept history files given news searches said (certified_in history searches s m)
  kept_certified s None = kept_why why.NoSuchSearch
  kept_certified s (Some m) = kept_certified_at s (run_of m).search (run_of m).end

  kept_as : (r : Result Asked Refusal)
      → Kept history files given news searches said (turn_as history (file_named_by files (words_to_begin searches.pending said)) searches said r)
  kept_as (Err refusal) = kept_why refusal
  kept_as (Ok asked.Words) = kept_words (drop 1 said)
  kept_as (Ok asked.Search) =
      let all : List (List ℕ) = words_to_begin searches.pending said in
      by_test (nat_lt (length searches.machines) 64) (begun_by history (file_named_by files all) searches all) (refused_as searches why.TooManySearches)
      (kept_begun_as (request_to_search all) refl) (kept_why why.TooManySearches)
  kept_as (Ok (asked.Pick worker)) =
      by_test (is_busy searches.machines worker) (refused_as searches why.WorkerHasATest)
      (picked (commits_of history) searches worker (task_from 0 searches.machines))
      (kept_why why.WorkerHasATest) (kept_picked worker (task_from 0 searches.machines) refl)
  kept_as (Ok (asked.Post worker outcome)) = kept_posted worker outcome (held_by searches.machines worker)
  kept_as (Ok (asked.Give worker)) = kept_given worker (held_by searches.machines worker)
  kept_as (Ok (asked.Learn s outcome)) =
      kept_learned_in (s - 1) (place_of_commit history (word_at said 2)) outcome (slice_get searches.openings (s - 1)) (slice_get searches.machines (s - 1))
      refl refl
  kept_as (Ok asked.Wanted) = kept_wanted (place_of_commit history (word_at said 1))
  kept_as (Ok (asked.Certificate s)) = kept_certified s (slice_get searches.machines (s - 1))

kept_turn : (history : History) (files : List ShelfFile) (given : List (List (List ℕ))) (news : List News) (searches : Searches) (line : List ℕ)
    → IsKept history files given news searches
    → Kept history files given news searches (words_in line) (turn history (file_in files searches line) searches line)
unfolding turn
kept_turn history files given news searches line is = kept_as history files given news searches is (words_in line) (asked_by (words_in line))

-- ---- all turns

kept_all : (history : History) (files : List ShelfFile) (given : List (List (List ℕ))) (news : List News) (searches : Searches) (lines : List (List ℕ))
    → IsKept history files given news searches
    → IsKept history files (given ++ words_begun history files searches lines) (news ++ told_in (served history files searches lines))
    (left_by searches (served history files searches lines))
unfolding served left_by words_begun
kept_all history files given news searches [] is = kept_quiet history files given news searches is
kept_all history files given news searches (line ∷ lines) is =
    let t : Turn = turn history (file_in files searches line) searches line in
    let now : List (List (List ℕ)) = words_by searches (words_in line) t.reply in
    let later : List (List (List ℕ)) = words_begun history files t.searches lines in
    let more : List News = told_in (served history files t.searches lines) in
    let left : Searches = left_by t.searches (served history files t.searches lines) in
    subst (λ (l : List News). IsKept history files (given ++ (now ++ later)) l left) (append_assoc news t.news more)
    (subst (λ (l : List (List (List ℕ))). IsKept history files l (news ++ t.news ++ more) left) (append_assoc given now later)
    (kept_all history files (given ++ now) (news ++ t.news) t.searches lines (kept_turn history files given news searches line is).behind))

kept_none : (history : History) (files : List ShelfFile) → IsKept history files [] [] no_search
kept_none history files = record {
  words = refl;
  each = refl;
  tidy = λ k m at. cc at;
  told = λ k o m opened at. cc at;
  later = λ k l. silent_none (k + 1);
}

module _ (history : History) (files : List ShelfFile) (lines : List (List ℕ)) where
  abbrev turns : List Turn
  turns = served history files no_search lines

  abbrev given : List (List (List ℕ))
  given = words_begun history files no_search lines

  stands : IsKept history files given (told_in turns) (left_by no_search turns)
  stands = kept_all history files [] [] no_search lines (kept_none history files)

  there_at : {X : Type 0} (xs : List X) (k : ℕ) → k < length xs → (x : X) × (slice_get xs k ≡ Some x)
  there_at [] k l = absurd (omega (arith, l))
  there_at (x ∷ xs) zero l = (x, refl)
  there_at (x ∷ xs) (suc k) l = there_at xs k (omega (arith, l))

  opening_there : (k : ℕ) (m : FarmMachine) → slice_get (left_by no_search turns).machines k ≡ Some m
      → (o : Opening) × (slice_get (left_by no_search turns).openings k ≡ Some o)
  opening_there k m at =
      let below : k < length (left_by no_search turns).machines = slice_get_within (left_by no_search turns).machines k m at in
      there_at (left_by no_search turns).openings k (let e = stands.each in omega (arith, e, below))

  pub logs_are_told : AreLogsTold history files given (told_in turns) (left_by no_search turns)
  logs_are_told k m at =
      let opened = opening_there k m at in
      let told = stands.told k opened.0 m opened.1 at in
      (opened.0, opened.1, record { begun = told.begun; log = told.log })

  pub ends_are_told : AreEndsTold history files given (told_in turns) (left_by no_search turns)
  ends_are_told k m at =
      let opened = opening_there k m at in
      let told = stands.told k opened.0 m opened.1 at in
      (opened.0, opened.1, record { begun = told.begun; parts = told.end })

  pub needless_are_told : AreNeedlessTold (told_in turns) (left_by no_search turns)
  needless_are_told k m at = let opened = opening_there k m at in (stands.told k opened.0 m opened.1 at).needless
