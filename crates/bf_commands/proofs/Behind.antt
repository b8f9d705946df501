-- What holds of the words behind a first one that are accepted.
use Rattle.std.proofs.Common.{◌≡◌, ℕ, ◌+◌, Bool, true, false, cond, List, [], length, drop, get_or, get_or-drop, option_map, nat_lt, Option, Some, None, Result, Ok, Err, refl, sym, ap, subst, ◌∙◌, arith}
use Rattle.bf_commands.specs.declared.order.Order.{Order}
use Rattle.bf_commands.specs.declared.order.Order.TheVariants.{Certify, Check, Checkout, Journal, Many, Serve}
use Rattle.bf_commands.specs.Orders.{is_followed, request_of as request_for}
use Rattle.bf_output.specs.Output.{is_run}
use Rattle.bf_output.proofs.Accepted.{no_fault, past_size}
use Rattle.bf_words.specs.declared.request.Request.{Request}
use Rattle.bf_words.specs.declared.verb.Verb.{Verb}
use Rattle.bf_words.specs.declared.verb.Verb.TheVariants.{Simulate, Run, Next, Replay, Gen, Sample}
use Rattle.bf_words.specs.Options.{verb_of}
use Rattle.bf_words.specs.Roles.{roles_of}
use Rattle.bf_words.specs.Words.{fault_in, is_plan, next_index, one_further, read_from, read_further, read_line, request, request_behind, request_of, word_at, word_or}

-- ---- the command there

if_followed : (b : Bool) (rest : Result Request ℕ) (r : Request) → cond b rest (Err 1) ≡ Ok r → (b ≡ true) × (rest ≡ Ok r)
if_followed true rest r e = (refl, e)
if_followed false rest r e = cc e

-- it may stand there, and the words from it on are read
pub followed : (order : Order) (words : List (List ℕ)) (r : Request) → request_for order words ≡ Ok r
    → (is_followed order (verb_of (word_at words 1)) ≡ true) × (request_behind words ≡ Ok r)
unfolding request_for
followed order words r e = if_followed (is_followed order (verb_of (word_at words 1))) (request_behind words) r e

run_alone : (verb : Verb) → is_run verb ≡ true → verb ≡ Run
run_alone Simulate e = cc e
run_alone Run e = refl
run_alone Next e = cc e
run_alone Replay e = cc e
run_alone Gen e = cc e
run_alone Sample e = cc e

none_follows : (order : Order) → is_followed order None ≡ false
none_follows Certify = refl
none_follows Check = refl
none_follows Checkout = refl
none_follows Journal = refl
none_follows Many = refl
none_follows Serve = refl

followed_by_run : (order : Order) (given : Option Verb) → ((verb : Verb) → is_followed order (Some verb) ≡ is_run verb) → is_followed order given ≡ true
    → given ≡ Some Run
followed_by_run order None runs e = cc (sym (none_follows order) ∙ e)
followed_by_run order (Some verb) runs e = ap Some (run_alone verb (sym (runs verb) ∙ e))

-- ---- the words from it on

-- a line of its own, whose indexes are moved on
pub record IsBehind (words : List (List ℕ)) (r : Request) : Type 0 where
  pub inner : Request
  pub read : request words ≡ Ok inner
  pub moved : one_further inner ≡ r

moved_from : (o : Result Request ℕ) (words : List (List ℕ)) (r : Request) → request words ≡ o → read_further o ≡ Ok r → IsBehind words r
moved_from (Ok q) words r is e = record { inner = q; read = is; moved = cc e }
moved_from (Err word) words r is e = cc e

pub behind_read : (words : List (List ℕ)) (r : Request) → request_behind words ≡ Ok r → IsBehind (drop 1 words) r
unfolding request_behind
behind_read words r e = moved_from (request (drop 1 words)) (drop 1 words) r refl e

pub word_behind : (words : List (List ℕ)) (i : ℕ) → word_at words (i + 1) ≡ word_at (drop 1 words) i
word_behind words i =
    let further : i + 1 ≡ 1 + i = omega arith in
    ap (λ k. get_or words k []) further ∙ sym (get_or-drop 1 words i [])

-- the letters of a plan are those of the line of its own
pub plan_behind : (words : List (List ℕ)) (o : Option ℕ) → is_plan (word_or [] (drop 1 words) o) ≡ true
    → is_plan (word_or [] words (option_map next_index o)) ≡ true
plan_behind words None h = h
plan_behind words (Some i) h = ap is_plan (word_behind words i) ∙ h

-- ---- a run

verb_of_line : (verb : Verb) (words : List (List ℕ)) (r : Request) → read_line verb words ≡ Ok r → r.verb ≡ verb
unfolding request_of
verb_of_line verb words r e =
    let both = no_fault (fault_in verb (roles_of verb words) words) (request_of verb (roles_of verb words) words) r e in
    subst (λ (x : Request). x.verb ≡ verb) both.1 refl

same_verb : (found verb : Verb) → Some found ≡ Some verb → found ≡ verb
same_verb found verb e = cc e

verb_from : (given : Option Verb) (verb : Verb) (words : List (List ℕ)) (r : Request) → given ≡ Some verb → read_from given words ≡ Ok r → r.verb ≡ verb
verb_from None verb words r same e = cc same
verb_from (Some found) verb words r same e = verb_of_line found words r e ∙ same_verb found verb same

verb_read : (verb : Verb) (words : List (List ℕ)) (r : Request) → verb_of (word_at words 0) ≡ Some verb → request words ≡ Ok r → r.verb ≡ verb
unfolding request
verb_read verb words r same e =
    verb_from (verb_of (word_at words 0)) verb words r same
    (past_size (nat_lt 1000000 (length words)) 1000000 (read_from (verb_of (word_at words 0)) words) r e)

-- behind a command that a run alone may follow they ask for a run
pub asks_run : (order : Order) (words : List (List ℕ)) (r : Request) → ((verb : Verb) → is_followed order (Some verb) ≡ is_run verb)
    → request_for order words ≡ Ok r → r.verb ≡ Run
asks_run order words r runs e =
    let both = followed order words r e in
    let line = behind_read words r both.1 in
    let first : verb_of (word_at (drop 1 words) 0) ≡ Some Run =
    ap verb_of (sym (word_behind words 0)) ∙ followed_by_run order (verb_of (word_at words 1)) runs both.0 in
    ap (λ (x : Request). x.verb) (sym line.moved) ∙ verb_read Run (drop 1 words) line.inner first line.read
