-- What holds of words that are accepted: they ask for a search, without legs and without a trace, and its plan has letters.
use Rattle.std.proofs.Common.{◌≡◌, ℕ, ◌+◌, ◌<◌, ◌≤◌, Bool, true, false, not, cond, ◌||◌, nat_lt, List, [], ◌∷◌, length, drop, Option, Some, None, Result, Ok, Err, refl, ap, sym, subst, ◌∙◌, ⊎_elim, arith}
use Rattle.std.specs.Prelude.{IsTrue}
use Rattle.std.specs.Option.{option_map_or}
use Rattle.std.specs.List.{list_any, position, position_or_len}
use Rattle.std.specs.Option.{option_map_or}
use Rattle.std.proofs.lemmas.Bool.{cases_Bool, cond-false, le-ltb, ltb-false, ltb-true, or_parts}
use Rattle.std.proofs.lemmas.Option.{same_Some}
use Rattle.bf_answers.specs.Steps.{HasPlan}
use Rattle.bf_commands.specs.declared.order.Order.TheVariants.{Certify}
use Rattle.bf_commands.specs.Orders.{is_followed, is_search, request_of as request_for, request_to_certify, without_log}
use Rattle.bf_commands.proofs.Behind.{behind_read, followed, plan_behind, word_behind}
use Rattle.bf_grammar.specs.Forms.{◌>>=◌}
use Rattle.bf_output.proofs.Accepted.{no_fault, past_size}
use Rattle.bf_output.specs.Output.{reads_stream}
use Rattle.bf_searches.proofs.Planning.{plan_read}
use Rattle.bf_words.specs.declared.options.Choice.{Choice}
use Rattle.bf_words.specs.declared.options.Choice.TheVariants.{Leg, Trace}
use Rattle.bf_words.specs.declared.options.Form.TheVariants.{Nothing, Text, Number, Count}
use Rattle.bf_words.specs.declared.options.OptionRow.{OptionRow}
use Rattle.bf_words.specs.declared.request.Request.{Request}
use Rattle.bf_words.specs.declared.request.WordFault.{WordFault}
use Rattle.bf_words.specs.declared.request.WordFault.TheVariants as faults
use Rattle.bf_words.specs.declared.request.WordFault.TheVariants.{At}
use Rattle.bf_words.specs.declared.role.Role.{Role}
use Rattle.bf_words.specs.declared.role.Role.TheVariants.{Command, Given, Value, Plain, Tail}
use Rattle.bf_words.specs.declared.verb.Verb.{Verb}
use Rattle.bf_words.specs.declared.verb.Verb.TheVariants.{Simulate, Run, Next, Replay, Gen, Sample}
use Rattle.bf_words.specs.FirstOption.{first_option, is_given_in}
use Rattle.bf_words.specs.Options.{option_of, verb_of}
use Rattle.bf_words.specs.Roles.{is_given, is_value_of, role_after, roles_after, roles_of}
use Rattle.bf_words.proofs.Within.{roles_as_long}
use Rattle.bf_words.specs.Words.{IsRead, fault_in, next_index, number_or, read_from, request, request_of, value_at, word_at}

-- ---- no option, no value of it

-- what passes no test passes none that implies it
none_other : {X : Type 0} (p q : X → Bool) (xs : List X) → ((x : X) → p x ≡ false → q x ≡ false) → list_any p xs ≡ false → list_any q xs ≡ false
none_other p q [] h none = refl
none_other p q (x ∷ xs) h none =
    let parts = or_parts (p x) (list_any p xs) none in
    rw (h x parts.0) (none_other p q xs h parts.1)

ends_past : {X : Type 0} (p : X → Bool) (xs : List X) → length xs ≤ position_or_len p xs → list_any p xs ≡ false
ends_past p [] h = refl
ends_past p (x ∷ xs) h =
    ⊎_elim
    (λ yes. absurd (omega (arith, subst (λ b. length (x ∷ xs) ≤ cond (not b) (1 + position_or_len p xs) 0) yes h)))
    (λ other.
    rw other (ends_past p xs (omega (arith, subst (λ b. length (x ∷ xs) ≤ cond (not b) (1 + position_or_len p xs) 0) other h))))
    (cases_Bool (p x))

none_at : (b : Bool) (i : ℕ) → cond b (Some i) None ≡ None → b ≡ false
none_at true i e = cc e
none_at false i e = refl

none_passes : {X : Type 0} (p : X → Bool) (xs : List X) → position p xs ≡ None → list_any p xs ≡ false
none_passes p xs e =
    ends_past p xs (ltb-false (position_or_len p xs) (length xs) (none_at (nat_lt (position_or_len p xs) (length xs)) (position_or_len p xs) e))

past_all : {X : Type 0} (p : X → Bool) (xs : List X) → list_any p xs ≡ false → position_or_len p xs ≡ length xs
past_all p [] none = refl
past_all p (x ∷ xs) none =
    let parts = or_parts (p x) (list_any p xs) none in
    let one_more : 1 + length xs ≡ length (x ∷ xs) = omega arith in
    rw parts.0 (ap (λ n. 1 + n) (past_all p xs parts.1) ∙ one_more)

no_position : {X : Type 0} (p : X → Bool) (xs : List X) → list_any p xs ≡ false → position p xs ≡ None
no_position p xs none = rw (past_all p xs none) (cond-false (nat_lt (length xs) (length xs)) (Some (length xs)) None (le-ltb (length xs) (length xs) (omega arith)))

alone_is_none : (choice : Choice) (b : Bool) (o : Option OptionRow) → is_value_of choice (cond b Tail (option_map_or (λ (row : OptionRow). Given row.choice row.form) o Plain))
    ≡ false
alone_is_none choice true o = refl
alone_is_none choice false None = refl
alone_is_none choice false (Some row) = refl

-- the value of an option stands behind it alone
next_is_none : (verb : Verb) (choice : Choice) (role : Role) (word : List ℕ) → is_given choice role ≡ false
    → is_value_of choice (role_after verb role word) ≡ false
next_is_none verb choice Command word h = alone_is_none choice _ (option_of verb word)
next_is_none verb choice (Given given Nothing) word h = alone_is_none choice _ (option_of verb word)
next_is_none verb choice (Given given Text) word h = h
next_is_none verb choice (Given given Number) word h = h
next_is_none verb choice (Given given (Count most)) word h = h
next_is_none verb choice (Value given form) word h = alone_is_none choice _ (option_of verb word)
next_is_none verb choice Plain word h = alone_is_none choice _ (option_of verb word)
next_is_none verb choice Tail word h = refl

no_values : (verb : Verb) (choice : Choice) (role : Role) (words : List (List ℕ)) → is_given choice role ≡ false
    → list_any (is_given choice) (roles_after verb role words) ≡ false → list_any (is_value_of choice) (roles_after verb role words) ≡ false
unfolding roles_after
no_values verb choice role [] h none = refl
no_values verb choice role (word ∷ words) h none =
    let next = role_after verb role word in
    let parts = or_parts (is_given choice next) (list_any (is_given choice) (roles_after verb next words)) none in
    rw (next_is_none verb choice role word h) (no_values verb choice next words parts.0 parts.1)

none_in_line : (verb : Verb) (choice : Choice) (words : List (List ℕ)) → list_any (is_given choice) (roles_of verb words) ≡ false
    → list_any (is_value_of choice) (roles_of verb words) ≡ false
none_in_line verb choice [] none = refl
none_in_line verb choice (command ∷ words) none = no_values verb choice Command words refl none

-- ---- the request of a line that gives neither option

no_leg_given : (role : Role) → is_given_in (Leg ∷ Trace ∷ []) role ≡ false → is_given Leg role ≡ false
no_leg_given role h = (or_parts (is_given Leg role) _ h).0

no_trace_given : (role : Role) → is_given_in (Leg ∷ Trace ∷ []) role ≡ false → is_given Trace role ≡ false
no_trace_given role h = (or_parts (is_given Trace role) false (or_parts (is_given Leg role) (is_given Trace role || false) h).1).0

whole_line : (verb : Verb) (words : List (List ℕ)) → first_option verb (Leg ∷ Trace ∷ []) words ≡ None
    → (request_of verb (roles_of verb words) words).leg ≡ 0
unfolding request_of number_or
whole_line verb words none =
    let given = none_passes (is_given_in (Leg ∷ Trace ∷ [])) (roles_of verb words) none in
    let value : value_at Leg (roles_of verb words) ≡ None = no_position (is_value_of Leg) (roles_of verb words)
    (none_in_line verb Leg words (none_other (is_given_in (Leg ∷ Trace ∷ [])) (is_given Leg) (roles_of verb words) no_leg_given given)) in
    rw value refl

plain_line : (verb : Verb) (words : List (List ℕ)) → first_option verb (Leg ∷ Trace ∷ []) words ≡ None
    → (request_of verb (roles_of verb words) words).trace ≡ false
unfolding request_of
plain_line verb words none =
    none_other (is_given_in (Leg ∷ Trace ∷ [])) (is_given Trace) (roles_of verb words) no_trace_given
    (none_passes (is_given_in (Leg ∷ Trace ∷ [])) (roles_of verb words) none)

-- ---- what an accepted line was read from

-- a line of words that are read, and its request
record IsLine (words : List (List ℕ)) (r : Request) : Type 0 where
  verb : Verb
  first : verb_of (word_at words 0) ≡ Some verb
  made : request_of verb (roles_of verb words) words ≡ r
  short : length words ≤ 1000000

line_from : (o : Option Verb) (words : List (List ℕ)) (r : Request) → verb_of (word_at words 0) ≡ o → length words ≤ 1000000 → read_from o words ≡ Ok r
    → IsLine words r
line_from None words r is short e = cc e
line_from (Some v) words r is short e = record {
  verb = v;
  first = is;
  made = (no_fault (fault_in v (roles_of v words) words) (request_of v (roles_of v words) words) r e).1;
  short = short;
}

not_past : (b : Bool) (n : ℕ) (rest : Result Request ℕ) (r : Request) → cond b (Err n) rest ≡ Ok r → b ≡ false
not_past true n rest r e = cc e
not_past false n rest r e = refl

line_read : (words : List (List ℕ)) (r : Request) → request words ≡ Ok r → IsLine words r
unfolding request
line_read words r e =
    let rest = read_from (verb_of (word_at words 0)) words in
    let short : length words ≤ 1000000 = ltb-false 1000000 (length words) (not_past (nat_lt 1000000 (length words)) 1000000 rest r e) in
    line_from (verb_of (word_at words 0)) words r refl short (past_size (nat_lt 1000000 (length words)) 1000000 rest r e)

no_log : (q r : Request) (o : Option ℕ) → option_map_or (λ (i : ℕ). Err (next_index i)) o (Ok q) ≡ Ok r → (o ≡ None) × (q ≡ r)
no_log q r None e = (refl, cc e)
no_log q r (Some i) e = cc e

-- the first word that asks for a leg or a trace
abbrev log_word : Verb → List (List ℕ) → Option ℕ
log_word verb words = first_option verb (Leg ∷ Trace ∷ []) (drop 1 words)

certified : (words : List (List ℕ)) (o : Result Request ℕ) (r : Request) → (o >>= without_log words) ≡ Ok r
    → (o ≡ Ok r) × (log_word r.verb words ≡ None)
certified words (Err word) r e = cc e
certified words (Ok q) r e =
    let parts = no_log q r (log_word q.verb words) e in (
      ap Ok parts.1,
      ap (λ (x : Request). log_word x.verb words) (sym parts.1) ∙ parts.0,
    )

-- ---- what holds of one

verb_follows : (o : Option Verb) (v : Verb) → o ≡ Some v → is_followed Certify o ≡ true → is_search v ≡ true
verb_follows None v is h = cc h
verb_follows (Some w) v is h = subst (λ (x : Verb). is_search x ≡ true) (same_verb w v is) h
  where
    same_verb : (w v : Verb) → Some w ≡ Some v → w ≡ v
    same_verb w v e = cc e

verb_made : (verb : Verb) (words : List (List ℕ)) → (request_of verb (roles_of verb words) words).verb ≡ verb
unfolding request_of
verb_made verb words = refl

some_word : (words : List (List ℕ)) (v : Verb) → verb_of (word_at words 0) ≡ Some v → 0 < length words
some_word [] v e = cc e
some_word (word ∷ words) v e = omega arith

-- a line whose words are accepted
pub record IsAccepted (words : List (List ℕ)) (r : Request) : Type 0 where
  pub search : IsTrue (is_search r.verb)
  pub plan : HasPlan r words
  pub whole : r.leg ≡ 0
  pub plain : r.trace ≡ false

-- a line that is read, whatever options it gives
pub record IsFollowed (words : List (List ℕ)) (r : Request) : Type 0 where
  pub search : IsTrue (is_search r.verb)
  pub some : 0 < length (drop 1 words)
  pub short : length (drop 1 words) ≤ 1000000

pub line_followed : (words : List (List ℕ)) (r : Request) → request_for Certify words ≡ Ok r → IsFollowed words r
line_followed words r e =
    let parts = followed Certify words r e in
    let behind = behind_read words r parts.1 in
    let line = line_read (drop 1 words) behind.inner behind.read in
    let verb_is : r.verb ≡ line.verb = ap (λ (x : Request). x.verb) (sym behind.moved) ∙ ap (λ (x : Request). x.verb) (sym line.made)
    ∙ verb_made line.verb (drop 1 words) in
    let search = verb_follows (verb_of (word_at words 1)) line.verb (ap verb_of (word_behind words 0) ∙ line.first) parts.0 in
    record {
      search = ap is_search verb_is ∙ search;
      some = some_word (drop 1 words) line.verb line.first;
      short = line.short;
    }

pub accepted : (words : List (List ℕ)) (r : Request) → request_to_certify words ≡ Ok r → IsAccepted words r
accepted words r e =
    let read = certified words (request_for Certify words) r e in
    let behind = behind_read words r (followed Certify words r read.0).1 in
    let line = line_read (drop 1 words) behind.inner behind.read in
    let verb_is : r.verb ≡ line.verb = ap (λ (x : Request). x.verb) (sym behind.moved) ∙ ap (λ (x : Request). x.verb) (sym line.made)
    ∙ verb_made line.verb (drop 1 words) in
    let none : first_option line.verb (Leg ∷ Trace ∷ []) (drop 1 words) ≡ None = ap (λ (v : Verb). log_word v words) (sym verb_is) ∙ read.1 in
    record {
      search = (line_followed words r read.0).search;
      plan = subst (λ (x : Request). HasPlan x words) behind.moved (plan_behind words behind.inner.plan (plan_read (drop 1 words) behind.inner behind.read));
      whole = ap (λ (x : Request). x.leg) (sym behind.moved) ∙ ap (λ (x : Request). x.leg) (sym line.made) ∙ whole_line line.verb (drop 1 words) none;
      plain = ap (λ (x : Request). x.trace) (sym behind.moved) ∙ ap (λ (x : Request). x.trace) (sym line.made) ∙ plain_line line.verb (drop 1 words) none;
    }

-- ---- reading the words

at_some : (b : Bool) (n i : ℕ) → cond b (Some n) None ≡ Some i → (b ≡ true) × (n ≡ i)
at_some true n i e = (refl, same_Some n i e)
at_some false n i e = cc e

pub option_within : (verb : Verb) (options : List Choice) (words : List (List ℕ)) (i : ℕ) → first_option verb options words ≡ Some i → length words ≤ 1000000
    → i < 1000000
option_within verb options words i e short =
    let roles = roles_of verb words in
    let at = position_or_len (is_given_in options) roles in
    let parts = at_some (nat_lt at (length roles)) at i e in
    omega (arith, ltb-true at (length roles) parts.0, parts.1, roles_as_long verb words, short)

pub certified_as : (words : List (List ℕ)) (r : Request) (o : Option ℕ) → request_for Certify words ≡ Ok r
    → o ≡ first_option r.verb (Leg ∷ Trace ∷ []) (drop 1 words)
    → request_to_certify words ≡ option_map_or (λ (i : ℕ). Err (next_index i)) o (Ok r)
certified_as words r o read log =
    ap (λ (q : Result Request ℕ). q >>= without_log words) read
    ∙ ap (λ (x : Option ℕ). option_map_or (λ (i : ℕ). Err (next_index i)) x (Ok r)) (sym log)

pub refused_as : (words : List (List ℕ)) (fault : WordFault) → IsRead (request_for Certify words) (Err fault)
    → IsRead (request_to_certify words) (Err fault)
refused_as words (At word) read = ap (λ (q : Result Request ℕ). q >>= without_log words) read
refused_as words faults.NoMemory read = tt

pub search_reads : (verb : Verb) → IsTrue (is_search verb) → IsTrue (reads_stream verb)
search_reads Simulate h = refl
search_reads Run h = refl
search_reads Next h = cc h
search_reads Replay h = cc h
search_reads Gen h = cc h
search_reads Sample h = cc h
