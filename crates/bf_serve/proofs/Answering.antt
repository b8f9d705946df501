-- What a line is answered, and the file that it may name.
use Rattle.std.proofs.Common.{◌≡◌, ◌≢◌, ◌⊎◌, inl, inr, ℕ, ◌<◌, ◌≤◌, Bool, true, false, cond, List, ◌++◌, length, Option, Some, None, Result, Ok, Err, refl, sym, ap, subst, ◌∙◌, OnOk}
use Rattle.std.specs.Prelude.{nat_lt}
use Rattle.std.specs.Option.{option_map, unwrap_or}
use Rattle.bf_begin.specs.declared.file.LogFile.{LogFile}
use Rattle.bf_begin.specs.declared.file.LogFile.TheVariants.{Text, Missing as NoFile, TooLong as LongFile}
use Rattle.bf_begin.specs.Files.{IsFileOf as IsLoaded, given_of}
use Rattle.bf_io.specs.Files.{file_named, whole_file}
use Rattle.bf_io.specs.declared.shelf.LoadFault.{LoadFault}
use Rattle.bf_io.specs.declared.shelf.LoadFault.TheVariants.{Missing, TooLong, Failed}
use Rattle.bf_io.specs.declared.shelf.ShelfFile.{ShelfFile}
use Rattle.bf_output.specs.Inputs.{file_of}
use Rattle.bf_output.specs.Refusals.{usage}
use Rattle.bf_protocol.specs.declared.request.Asked.{Asked}
use Rattle.bf_protocol.specs.declared.request.Asked.TheVariants as asked
use Rattle.bf_protocol.specs.declared.request.Refusal.{Refusal}
use Rattle.bf_protocol.specs.declared.request.Refusal.TheVariants.{TooManySearches}
use Rattle.bf_protocol.specs.Events.{Refused, reply_text}
use Rattle.bf_protocol.specs.Requests.{asked_by, refusal_line, words_in}
use Rattle.bf_words.specs.declared.request.Request.{Request}
use Rattle.bf_words.specs.Words.{word_at}
use Rattle.bf_serve.specs.declared.session.Session.{Session}
use Rattle.bf_serve.specs.Begins.{file_by, file_named_by, request_to_search, words_to_begin}
use Rattle.bf_serve.specs.Serving.{begun_as, turn, turn_as}
use Rattle.bf_serve.specs.Steps.{Answers, IsFileAt, IsFileOf, IsServing, SearchesBy, Serves, searches_in}
use Rattle.bf_serve.proofs.Openings.{served_no_room, served_search}
use Rattle.bf_serve.proofs.Sessions.{as_turn, served_refused}

-- ---- the file that words name

whole_answers : (max : ℕ) (o : Option ShelfFile) → whole_file max o ≢ Err Failed
whole_answers max None = λ e. cc e
whole_answers max (Some file) = by (nat_lt max (length file.bytes))
  where
    by : (b : Bool) → cond b (Err TooLong) (Ok file.bytes) ≡ Err Failed → ⊥
    by true e = cc e
    by false e = cc e

pub told_answers : (words : List (List ℕ)) (i : ℕ) (all : List ShelfFile) → file_of words i all ≢ Err Failed
told_answers words i all = whole_answers 16777216 (file_named all (word_at words i))

by_answers : (files : List ShelfFile) (words : List (List ℕ)) (r : Result Request ℕ) → file_by files words r ≢ Err Failed
by_answers files words (Err word) = λ e. cc e
by_answers files words (Ok asks) = told_answers words (unwrap_or asks.replay 0) files

abbrev missing : Result (List ℕ) LoadFault
missing = Err Missing

not_failed : missing ≡ Err Failed → ⊥
not_failed e = cc e

-- the file of a request that asks the shelf for nothing
abbrev pub unasked : Option (List ShelfFile) → List (List ℕ) → Result (List ℕ) LoadFault
unasked None words = Err Missing
unasked (Some all) words = file_named_by all words

pub is_unasked : (files : Option (List ShelfFile)) (before now : ℕ) (words : List (List ℕ)) → IsFileOf files before now words (unasked files words)
is_unasked None before now words = record { given = tt; failed = λ e. absurd (not_failed e) }
is_unasked (Some all) before now words = record {
  given = inl refl;
  failed = λ e. absurd (by_answers all words (request_to_search words) e);
}

-- ---- a line

by_turn : (s : Session) (file : Result (List ℕ) LoadFault) (line : List ℕ) (words : List (List ℕ)) (r : Result Asked Refusal) → words ≡ words_in line
    → asked_by words ≡ r → turn s.history.now file (searches_in s) line ≡ turn_as s.history.now file (searches_in s) words r
unfolding turn
by_turn s file line words r parted asks =
    ap (λ (ws : List (List ℕ)). turn_as s.history.now file (searches_in s) ws (asked_by ws)) (sym parted)
    ∙ ap (turn_as s.history.now file (searches_in s) words) asks

-- a request that asks for no file
pub answered : (files : Option (List ShelfFile)) (before now : ℕ) (line : List ℕ) (words : List (List ℕ)) (r : Result Asked Refusal) (s new : Session)
    (text after : List ℕ) → words ≡ words_in line → asked_by words ≡ r
    → ((file : Result (List ℕ) LoadFault) → Serves (turn_as s.history.now file (searches_in s) words r) s new text after)
    → Answers files before now line s new text after
answered files before now line words r s new text after parted asks h =
    let W = words_to_begin s.pending.items (words_in line) in
    record {
      file = unasked files W;
      from = is_unasked files before now W;
      serves = as_turn (turn s.history.now (unasked files W) (searches_in s) line) (turn_as s.history.now (unasked files W) (searches_in s) words r)
          s new text after (by_turn s (unasked files W) line words r parted asks) (h (unasked files W));
    }

pub answered_refused : (files : Option (List ShelfFile)) (before now : ℕ) (line : List ℕ) (words : List (List ℕ)) (refusal : Refusal) (s : Session)
    (text after : List ℕ) → words ≡ words_in line → asked_by words ≡ Err refusal → IsServing s
    → after ≡ text ++ reply_text (Refused (refusal_line refusal)) → Answers files before now line s s text after
answered_refused files before now line words refusal s text after parted asks is told =
    answered files before now line words (Err refusal) s s text after parted asks (λ file. served_refused s (refusal_line refusal) text after is told)

pub answered_search : (files : Option (List ShelfFile)) (before now : ℕ) (line : List ℕ) (words : List (List ℕ)) (s new : Session) (text after : List ℕ)
    → words ≡ words_in line → asked_by words ≡ Ok asked.Search → SearchesBy files before now words s new text after
    → Answers files before now line s new text after
answered_search files before now line words s new text after parted asks h = record {
  file = h.file;
  from = subst (λ (ws : List (List ℕ)). IsFileOf files before now (words_to_begin s.pending.items ws) h.file) parted h.from;
  serves = as_turn (turn s.history.now h.file (searches_in s) line) (turn_as s.history.now h.file (searches_in s) words (Ok asked.Search))
      s new text after (by_turn s h.file line words (Ok asked.Search) parted asks) h.serves;
}

-- ---- a search

pub search_no_room : (files : Option (List ShelfFile)) (before now : ℕ) (words : List (List ℕ)) (s : Session) (text after : List ℕ) → IsServing s
    → 64 ≤ length s.openings.items → after ≡ text ++ reply_text (Refused (refusal_line TooManySearches))
    → SearchesBy files before now words s s text after
search_no_room files before now words s text after is many told =
    let W = words_to_begin s.pending.items words in
    record {
      file = unasked files W;
      from = is_unasked files before now W;
      serves = served_no_room s (unasked files W) words text after is many told;
    }

pub search_at_fault : (files : Option (List ShelfFile)) (before now : ℕ) (words all : List (List ℕ)) (word : ℕ) (s : Session) (text after : List ℕ)
    → IsServing s → length s.openings.items < 64 → all ≡ words_to_begin s.pending.items words → request_to_search all ≡ Err word
    → after ≡ text ++ reply_text (Refused (usage word).text) → SearchesBy files before now words s s text after
search_at_fault files before now words all word s text after is few whole asks told =
    let W = words_to_begin s.pending.items words in
    record {
      file = unasked files W;
      from = is_unasked files before now W;
      serves = served_search s s (unasked files W) words (Err word) text after is few (ap request_to_search (sym whole) ∙ asks)
          (served_refused s (usage word).text text after is told);
    }

file_at_words : (files : Option (List ShelfFile)) (before now : ℕ) (words : List (List ℕ)) (asks : Request) (file : Result (List ℕ) LoadFault)
    → request_to_search words ≡ Ok asks → IsFileAt files before now words (unwrap_or asks.replay 0) file → IsFileOf files before now words file
file_at_words None before now words asks file read h = record { given = tt; failed = h.failed }
file_at_words (Some all) before now words asks file read h = record {
  given = by h.given;
  failed = h.failed;
}
  where
    by : (file ≡ file_of words (unwrap_or asks.replay 0) all) ⊎ (file ≡ Err Failed) → (file ≡ file_named_by all words) ⊎ (file ≡ Err Failed)
    by (inl e) = inl (e ∙ sym (ap (file_by all words) read))
    by (inr e) = inr e

pub search_asked : (files : Option (List ShelfFile)) (before now : ℕ) (words all : List (List ℕ)) (asks : Request) (file : Result (List ℕ) LoadFault)
    (s new : Session) (text after : List ℕ) → IsServing s → length s.openings.items < 64 → all ≡ words_to_begin s.pending.items words
    → request_to_search all ≡ Ok asks → IsFileAt files before now all (unwrap_or asks.replay 0) file
    → Serves (begun_as s.history.now file (searches_in s) all (Ok asks)) s new text after
    → SearchesBy files before now words s new text after
search_asked files before now words all asks file s new text after is few whole read from h = record {
  file = file;
  from = subst (λ (ws : List (List ℕ)). IsFileOf files before now ws file) whole (file_at_words files before now all asks file read from);
  serves = served_search s new file words (Ok asks) text after is few (ap request_to_search (sym whole) ∙ read)
      (subst (λ (ws : List (List ℕ)). Serves (begun_as s.history.now file (searches_in s) ws (Ok asks)) s new text after) whole h);
}

-- ---- what the shelf gave

given_answers : (file : LogFile) → given_of file ≢ Err Failed
given_answers (Text bytes) = λ e. cc e
given_answers NoFile = λ e. cc e
given_answers LongFile = λ e. cc e

-- the file of a search that names none
abbrev pub unnamed : Option (List ShelfFile) → List (List ℕ) → Result (List ℕ) LoadFault
unnamed None words = Err Missing
unnamed (Some all) words = file_of words 0 all

pub is_unnamed : (files : Option (List ShelfFile)) (before now : ℕ) (words : List (List ℕ)) → IsFileAt files before now words 0 (unnamed files words)
is_unnamed None before now words = record { given = tt; failed = λ e. absurd (not_failed e) }
is_unnamed (Some all) before now words = record { given = inl refl; failed = λ e. absurd (told_answers words 0 all e) }

pub record IsGiven (files : Option (List ShelfFile)) (before now : ℕ) (words : List (List ℕ)) (replay : Option ℕ) (file : Option LogFile) : Type 0 where
  pub gave : Result (List ℕ) LoadFault
  pub from : IsFileAt files before now words (unwrap_or replay 0) gave
  pub same : option_map given_of file ≡ option_map (λ (i : ℕ). gave) replay

pub is_given : (files : Option (List ShelfFile)) (before now : ℕ) (words : List (List ℕ)) (replay : Option ℕ) (file : Option LogFile)
    → IsLoaded files words replay file → IsGiven files before now words replay file
is_given files before now words None file h = record {
  gave = unnamed files words;
  from = is_unnamed files before now words;
  same = ap (option_map given_of) h;
}
is_given None before now words (Some i) None h = cc h
is_given None before now words (Some i) (Some x) h = record {
  gave = given_of x;
  from = record { given = tt; failed = λ e. absurd (given_answers x e) };
  same = refl;
}
is_given (Some all) before now words (Some i) None h = cc h
is_given (Some all) before now words (Some i) (Some x) h = record {
  gave = given_of x;
  from = record { given = inl (some_given h); failed = λ e. absurd (given_answers x e) };
  same = refl;
}
  where
    some_given : {a b : Result (List ℕ) LoadFault} → Some a ≡ Some b → a ≡ b
    some_given e = cc e

-- a request that asks for no file, where it was answered
pub answered_ok : {X E : Type 0} (files : Option (List ShelfFile)) (before now : ℕ) (line : List ℕ) (words : List (List ℕ)) (r : Result Asked Refusal)
    (s new : Session) (text after : List ℕ) (result : Result X E) → words ≡ words_in line → asked_by words ≡ r
    → ((file : Result (List ℕ) LoadFault) → OnOk result (Serves (turn_as s.history.now file (searches_in s) words r) s new text after))
    → OnOk result (Answers files before now line s new text after)
answered_ok files before now line words r s new text after (Ok x) parted asks h = answered files before now line words r s new text after parted asks h
answered_ok files before now line words r s new text after (Err e) parted asks h = tt
