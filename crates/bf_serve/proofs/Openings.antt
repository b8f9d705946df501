-- What a search that begins leaves, and words that stand for one.
use Rattle.std.proofs.Common.{◌≡◌, ℕ, zero, suc, ◌+◌, ◌<◌, ◌≤◌, Bool, List, [], ◌∷◌, ◌++◌, length, map, All, replicate, Option, Some, None, Result, Ok, Err}
use Rattle.std.proofs.Common.{refl, sym, ap, subst, ◌∙◌, arith}
use Rattle.std.proofs.lemmas.Bool.{cond-true, cond-false, le-ltb, lt-ltb}
use Rattle.std.proofs.lemmas.List.{length-append, length-map}
use Rattle.std.proofs.lemmas.List.Elements.{All-push}
use Rattle.std.specs.Prelude.{nat_lt}
use Rattle.std.specs.List.{slice_get}
use Rattle.std.specs.Option.{IfSome}
use Rattle.bf_graph.specs.Graph.{IsGraph}
use Rattle.bf_history.specs.Meanings.{History}
use Rattle.bf_core.specs.Machine.{Machine, IsConsumed}
use Rattle.bf_io.specs.declared.shelf.LoadFault.{LoadFault}
use Rattle.bf_many.specs.declared.search.ReadySearch.{ReadySearch}
use Rattle.bf_many.specs.Cores.{machine_of, machines_of, start_of}
use Rattle.bf_many.specs.Many.{FarmMachine}
use Rattle.bf_many.proofs.Lists.{get-map, get_last}
use Rattle.bf_output.specs.Beginning.{Begun}
use Rattle.bf_output.specs.Told.{Told}
use Rattle.bf_protocol.specs.declared.request.Refusal.TheVariants.{TooManySearches, TooManyWords}
use Rattle.bf_protocol.specs.Events.{Done, Refused, Started, events_text, reply_text}
use Rattle.bf_protocol.specs.Requests.{refusal_line}
use Rattle.bf_search.specs.State.{IsSearchOver}
use Rattle.bf_words.specs.declared.request.Request.{Request}
use Rattle.bf_serve.specs.declared.opening.Opening.{Opening}
use Rattle.bf_serve.specs.declared.remaining.Remaining.{Remaining}
use Rattle.bf_serve.specs.declared.session.Lull.{Lull}
use Rattle.bf_serve.specs.declared.session.Session.{Session}
use Rattle.bf_serve.specs.Begins.{begins_by, request_to_search, words_to_begin}
use Rattle.bf_serve.specs.Searches.{left_in, needless, run_of}
use Rattle.bf_serve.specs.Serving.{begun, begun_as, begun_by, begun_or_refused, machine_at_start, opening_of, refused_as, search_turn, with_words, words_turn}
use Rattle.bf_serve.specs.Steps.{IsLullOf, IsOver, IsServing, Serves, TellsBegun, searches_in}
use Rattle.bf_serve.specs.Turns.{first_news, refused}
use Rattle.bf_serve.proofs.Sessions.{as_turn, served_refused}
use Rattle.bf_serve.proofs.Texts.{then_replied}

-- ---- words that stand

-- nothing but the words that stand has changed
pub record KeepsSearches (s new : Session) : Type 0 where
  pub many : new.many ≡ s.many
  pub openings : new.openings.items ≡ s.openings.items
  pub needless : new.needless.items ≡ s.needless.items
  pub left : new.left.items ≡ s.left.items
  pub lull : new.lull ≡ s.lull
  pub history : new.history.now ≡ s.history.now
  pub reach : new.reach.now ≡ s.reach.now

serving_kept : (s new : Session) → IsServing s → KeepsSearches s new → length new.pending.items ≤ 1000000 → IsServing new
serving_kept s new is kept few = record {
  parents = subst (λ (h : History). IsGraph h.parents) (sym kept.history) is.parents;
  reach = kept.reach ∙ is.reach ∙ ap (λ (h : History). h.parents) (sym kept.history);
  few = subst (λ (l : List Machine). length l ≤ 64) (sym kept.many) is.few;
  words = few;
  each = ap (λ (l : List Opening). length l) kept.openings ∙ is.each ∙ sym (ap (λ (l : List Machine). length l) kept.many);
  consumed = subst (λ (l : List Machine). All IsConsumed l) (sym kept.many) is.consumed;
  over = subst (λ (h : History). All (IsOver h.parents) (machines_of new.many)) (sym kept.history)
      (subst (λ (l : List Machine). All (IsOver s.history.now.parents) (machines_of l)) (sym kept.many) is.over);
  needless = kept.needless ∙ is.needless ∙ ap (λ (l : List Machine). map needless (machines_of l)) (sym kept.many);
  left = kept.left ∙ is.left ∙ ap (λ (l : List Machine). map left_in (machines_of l)) (sym kept.many);
  lull = subst (λ (o : Option Lull). IfSome o (IsLullOf (machines_of new.many))) (sym kept.lull)
      (subst (λ (l : List Machine). IfSome s.lull (IsLullOf (machines_of l))) (sym kept.many) is.lull);
}

pub served_words : (s new : Session) (words : List (List ℕ)) (before after : List ℕ) → IsServing s → KeepsSearches s new
    → length s.pending.items + length words ≤ 1000000 → new.pending.items ≡ with_words s.pending.items words
    → length new.pending.items ≤ 1000000 → after ≡ before ++ reply_text Done → Serves (words_turn (searches_in s) words) s new before after
served_words s new words before after is kept few pending short text =
    as_turn (words_turn (searches_in s) words)
    (record { news = []; reply = Done; searches = record (searches_in s) { pending = with_words s.pending.items words } }) s new before after
    (cond-false (nat_lt 1000000 (length s.pending.items + length words)) _ _ (le-ltb 1000000 (length s.pending.items + length words) few))
    (record {
      text = text;
      searches = λ i. record { openings = kept.openings i; machines = machines_of (kept.many i); pending = pending i };
      history = kept.history;
      serving = serving_kept s new is kept short;
    })

pub served_too_many : (s : Session) (words : List (List ℕ)) (before after : List ℕ) → IsServing s → 1000000 < length s.pending.items + length words
    → after ≡ before ++ reply_text (Refused (refusal_line TooManyWords)) → Serves (words_turn (searches_in s) words) s s before after
served_too_many s words before after is many text =
    as_turn (words_turn (searches_in s) words) (refused_as (searches_in s) TooManyWords) s s before after
    (cond-true (nat_lt 1000000 (length s.pending.items + length words)) _ _ (lt-ltb 1000000 (length s.pending.items + length words) many))
    (served_refused s (refusal_line TooManyWords) before after is text)

-- ---- a search

some_is : {x y : FarmMachine} → Some x ≡ Some y → x ≡ y
some_is e = cc e

pub begun_core : (s : Session) (many : List Machine) (m : FarmMachine) (n : ℕ) (core : Machine) → IsServing s
    → machines_of many ≡ machines_of s.many ++ m ∷ [] → n ≡ length s.openings.items → slice_get many n ≡ Some core → machine_of core ≡ m
begun_core s many m n core is machines number at =
    let long : length (machines_of s.many) ≡ length s.many = length-map s.many machine_of in
    let count : n ≡ length (machines_of s.many) = (let e = is.each in omega (arith, e, long, number)) in
    some_is (sym (get-map machine_of many n core at) ∙ ap (λ (l : List FarmMachine). slice_get l n) machines
    ∙ ap (λ (i : ℕ). slice_get (machines_of s.many ++ m ∷ []) i) count ∙ get_last (machines_of s.many) m)

pub added_below : (s : Session) (many : List Machine) (m : FarmMachine) (n : ℕ) → IsServing s → machines_of many ≡ machines_of s.many ++ m ∷ []
    → n ≡ length s.openings.items → n < length many
added_below s many m n is machines number =
    let longer : length many ≡ length s.many + 1
    = sym (length-map many machine_of) ∙ ap (λ (l : List FarmMachine). length l) machines
    ∙ length-append (machines_of s.many) (m ∷ []) ∙ ap (λ (x : ℕ). x + 1) (length-map s.many machine_of) in
    let e = is.each in
    omega (arith, longer, e, number)

pub started_as : (graph parents : List (List ℕ)) (x : ReadySearch) (len : ℕ) → graph ≡ parents → x.table ≡ replicate len None → len ≡ length parents
    → start_of graph x ≡ machine_at_start parents x.state.search
started_as graph parents x len same fresh long =
    ap (λ (g : List (List ℕ)). start_of g x) same
    ∙ ap (λ (t : List (Option _)). record {
      setting = record { graph = parents; start = x.state.search; leg = 0 };
      farm = record { table = t; claims = [] };
    }) (fresh ∙ ap (λ (n : ℕ). replicate n None) long)

length_replicate : {X : Type 0} (n : ℕ) (x : X) → length (replicate n x) ≡ n
length_replicate zero x = refl
length_replicate (suc n) x = ap suc (length_replicate n x)

over_at_start : (graph : List (List ℕ)) (first : Begun) → IsSearchOver graph first.search → IsOver graph (machine_at_start graph first.search)
over_at_start graph first over = record { graph_is = refl; start = over; no_leg = refl; places = length_replicate (length graph) None }

pub over_begun : (graph parents : List (List ℕ)) (core : Machine) (first : Begun) → machine_of core ≡ machine_at_start parents first.search → graph ≡ parents
    → IsSearchOver parents first.search → IsOver graph (machine_of core)
over_begun graph parents core first same is over =
    subst (λ (g : List (List ℕ)). IsOver g (machine_of core)) (sym is) (subst (IsOver parents) (sym same) (over_at_start parents first over))

pub served_begun : (s new : Session) (first : Begun) (lenient : Bool) (o opening : Opening) (core : Machine) (n : ℕ) (remaining : Remaining) (before mid after : List ℕ)
    → IsServing s
    → new.history.now ≡ s.history.now → new.reach.now ≡ s.reach.now → n ≡ length s.openings.items → n < 64
    → new.openings.items ≡ s.openings.items ++ opening ∷ [] → o.lenient ≡ lenient
    → machines_of new.many ≡ machines_of s.many ++ machine_at_start s.history.now.parents first.search ∷ [] → All IsConsumed new.many
    → IsSearchOver s.history.now.parents first.search → slice_get new.many n ≡ Some core
    → new.needless.items ≡ s.needless.items ++ [] ∷ [] → new.left.items ≡ s.left.items ++ remaining ∷ [] → new.pending.items ≡ [] → new.lull ≡ None
    → TellsBegun s.history.now (n + 1) first (machine_of core) o opening before mid remaining → after ≡ mid ++ reply_text (Started (n + 1))
    → Serves (begun s.history.now (searches_in s) lenient first) s new before after
served_begun s new first lenient o opening core n remaining before mid after is history reach number few opened reads machines consumed over at idle kept pending lull told done =
    let m : FarmMachine = machine_at_start s.history.now.parents first.search in
    let long : length (machines_of s.many) ≡ length s.many = length-map s.many machine_of in
    let count : n ≡ length (machines_of s.many) = (let e = is.each in omega (arith, e, long, number)) in
    let longer : length new.many ≡ length s.many + 1
    = sym (length-map new.many machine_of) ∙ ap (λ (l : List FarmMachine). length l) machines
    ∙ length-append (machines_of s.many) (m ∷ []) ∙ ap (λ n. n + 1) long in
    let core_is : machine_of core ≡ m = begun_core s new.many m n core is machines number at in
    let opening_is : opening ≡ opening_of lenient first (run_of m)
    = told.opening ∙ ap (λ (x : FarmMachine). opening_of o.lenient first (run_of x)) core_is
    ∙ ap (λ (b : Bool). opening_of b first (run_of m)) reads in
    record {
      text = then_replied (first_news s.history.now (n + 1) first (machine_of core)) (reply_text (Started (n + 1))) before mid after told.tells done
          ∙ ap (λ (x : FarmMachine). before ++ (events_text (first_news s.history.now (n + 1) first x) ++ reply_text (Started (n + 1)))) core_is
          ∙ ap (λ (k : ℕ). before ++ (events_text (first_news s.history.now (k + 1) first m) ++ reply_text (Started (k + 1)))) count;
      searches = λ i. record {
        openings = (opened ∙ ap (λ (x : Opening). s.openings.items ++ x ∷ []) opening_is) i;
        machines = machines i;
        pending = pending i;
      };
      history = history;
      serving = record {
        parents = subst (λ (h : History). IsGraph h.parents) (sym history) is.parents;
        reach = reach ∙ is.reach ∙ ap (λ (h : History). h.parents) (sym history);
        few = (let e = is.each in omega (arith, e, longer, number, few));
        words = (let none = ap (λ (l : List (List ℕ)). length l) pending in omega (arith, none));
        each = ap (λ (l : List Opening). length l) opened ∙ length-append s.openings.items (opening ∷ []) ∙ ap (λ (n : ℕ). n + 1) is.each ∙ sym longer;
        consumed = consumed;
        over = subst (λ (h : History). All (IsOver h.parents) (machines_of new.many)) (sym history)
            (subst (λ (l : List FarmMachine). All (IsOver s.history.now.parents) l) (sym machines)
            (All-push (IsOver s.history.now.parents) (machines_of s.many) m is.over (over_at_start s.history.now.parents first over)));
        needless = idle ∙ ap (λ (l : List (List ℕ)). l ++ [] ∷ []) is.needless ∙ sym (map_last needless (machines_of s.many) m) ∙ ap (map needless) (sym machines);
        left = kept ∙ ap (λ (x : Remaining). s.left.items ++ x ∷ []) (told.left ∙ ap left_in core_is)
            ∙ ap (λ (l : List Remaining). l ++ left_in m ∷ []) is.left ∙ sym (map_last left_in (machines_of s.many) m) ∙ ap (map left_in) (sym machines);
        lull = subst (λ (x : Option Lull). IfSome x (IsLullOf (machines_of new.many))) (sym lull) tt;
      };
    }
  where
    map_last : {X : Type 0} (f : FarmMachine → X) (ms : List FarmMachine) (x : FarmMachine) → map f (ms ++ x ∷ []) ≡ map f ms ++ f x ∷ []
    map_last f [] x = refl
    map_last {X} f (y ∷ ms) x = ap (λ (l : List X). f y ∷ l) (map_last f ms x)

-- ---- a line that begins one

room : (s : Session) (file : Result (List ℕ) LoadFault) (words : List (List ℕ)) → IsServing s → length s.openings.items < 64
    → search_turn s.history.now file (searches_in s) words ≡ begun_by s.history.now file (searches_in s) (words_to_begin s.pending.items words)
room s file words is few =
    cond-true (nat_lt (length (machines_of s.many)) 64)
    (begun_by s.history.now file (searches_in s) (words_to_begin s.pending.items words)) (refused_as (searches_in s) TooManySearches)
    (lt-ltb (length (machines_of s.many)) 64 (let e = is.each in let long = length-map s.many machine_of in omega (arith, e, long, few)))

pub served_search : (s new : Session) (file : Result (List ℕ) LoadFault) (words : List (List ℕ)) (r : Result Request ℕ) (before after : List ℕ) → IsServing s
    → length s.openings.items < 64 → request_to_search (words_to_begin s.pending.items words) ≡ r
    → Serves (begun_as s.history.now file (searches_in s) (words_to_begin s.pending.items words) r) s new before after
    → Serves (search_turn s.history.now file (searches_in s) words) s new before after
served_search s new file words r before after is few asks h =
    as_turn (search_turn s.history.now file (searches_in s) words)
    (begun_as s.history.now file (searches_in s) (words_to_begin s.pending.items words) r) s new before after
    (room s file words is few ∙ ap (begun_as s.history.now file (searches_in s) (words_to_begin s.pending.items words)) asks) h

pub served_no_room : (s : Session) (file : Result (List ℕ) LoadFault) (words : List (List ℕ)) (before after : List ℕ) → IsServing s
    → 64 ≤ length s.openings.items → after ≡ before ++ reply_text (Refused (refusal_line TooManySearches))
    → Serves (search_turn s.history.now file (searches_in s) words) s s before after
served_no_room s file words before after is many text =
    as_turn (search_turn s.history.now file (searches_in s) words) (refused_as (searches_in s) TooManySearches) s s before after
    (cond-false (nat_lt (length (machines_of s.many)) 64)
    (begun_by s.history.now file (searches_in s) (words_to_begin s.pending.items words)) (refused_as (searches_in s) TooManySearches)
    (le-ltb (length (machines_of s.many)) 64 (let e = is.each in let long = length-map s.many machine_of in omega (arith, e, long, many))))
    (served_refused s (refusal_line TooManySearches) before after is text)

pub served_started : (s new : Session) (file : Result (List ℕ) LoadFault) (words : List (List ℕ)) (asks : Request) (first : Begun) (before after : List ℕ)
    → begins_by s.history.now file words asks ≡ Ok first → Serves (begun s.history.now (searches_in s) asks.lenient first) s new before after
    → Serves (begun_as s.history.now file (searches_in s) words (Ok asks)) s new before after
served_started s new file words asks first before after begins h =
    as_turn (begun_as s.history.now file (searches_in s) words (Ok asks)) (begun s.history.now (searches_in s) asks.lenient first) s new before after
    (ap (begun_or_refused s.history.now (searches_in s) asks.lenient) begins) h

pub served_not_started : (s : Session) (file : Result (List ℕ) LoadFault) (words : List (List ℕ)) (asks : Request) (told : Told) (before after : List ℕ)
    → IsServing s → begins_by s.history.now file words asks ≡ Err told → after ≡ before ++ reply_text (Refused told.text)
    → Serves (begun_as s.history.now file (searches_in s) words (Ok asks)) s s before after
served_not_started s file words asks told before after is begins text =
    as_turn (begun_as s.history.now file (searches_in s) words (Ok asks)) (refused (searches_in s) told.text) s s before after
    (ap (begun_or_refused s.history.now (searches_in s) asks.lenient) begins)
    (served_refused s told.text before after is text)

-- ---- what a search that is added leaves, as the calls have it

pub added_is : (s : Session) (many : List Machine) (x : ReadySearch) (len : ℕ) → IsServing s → machines_of many ≡ machines_of s.many ++ start_of s.reach.now x ∷ []
    → x.table ≡ replicate len None → len ≡ length s.history.now.parents
    → machines_of many ≡ machines_of s.many ++ machine_at_start s.history.now.parents x.state.search ∷ []
added_is s many x len is added fresh long =
    added ∙ ap (λ (m : FarmMachine). machines_of s.many ++ m ∷ []) (started_as s.reach.now s.history.now.parents x len is.reach fresh long)

pub over_added : (s : Session) (many : List Machine) (first : Begun) (n : ℕ) (core : Machine) → IsServing s
    → machines_of many ≡ machines_of s.many ++ machine_at_start s.history.now.parents first.search ∷ [] → n ≡ length s.openings.items
    → slice_get many n ≡ Some core → IsSearchOver s.history.now.parents first.search → IsOver s.reach.now (machine_of core)
over_added s many first n core is added number at over =
    over_begun s.reach.now s.history.now.parents core first
    (begun_core s many (machine_at_start s.history.now.parents first.search) n core is added number at) is.reach over
