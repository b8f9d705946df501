-- What holds of words that are accepted: they ask for a run.
use Rattle.std.proofs.Common.{◌≡◌, ℕ, Bool, true, false, cond, nat_lt, List, [], length, drop, get_or-drop, Option, Some, None, Result, Ok, Err, refl, sym, ap, ◌∙◌, subst}
use Rattle.bf_commands.specs.declared.order.Order.TheVariants as order
use Rattle.bf_commands.specs.Journal.{in_legs, request_to_journal}
use Rattle.bf_grammar.specs.Forms.{◌>>=◌}
use Rattle.bf_commands.specs.Orders.{is_followed, request_of as request_for}
use Rattle.bf_output.specs.Output.{is_run}
use Rattle.bf_output.proofs.Accepted.{no_fault, past_size}
use Rattle.bf_words.specs.declared.request.Request.{Request}
use Rattle.bf_words.specs.declared.request.WordFault.{WordFault}
use Rattle.bf_words.specs.declared.request.WordFault.TheVariants as faults
use Rattle.bf_words.specs.declared.request.WordFault.TheVariants.{At}
use Rattle.bf_words.specs.declared.verb.Verb.{Verb}
use Rattle.bf_words.specs.declared.verb.Verb.TheVariants.{Simulate, Run, Next, Replay, Gen, Sample}
use Rattle.bf_words.specs.Options.{verb_of}
use Rattle.bf_words.specs.Roles.{roles_of}
use Rattle.bf_words.specs.Words.{IsRead, fault_in, one_further, read_from, read_further, read_line, request, request_behind, request_of, word_at}

-- a refusal is the same in legs
pub refused_legs : (read : Result Request ℕ) (fault : WordFault) → IsRead read (Err fault) → IsRead (read >>= λ r. Ok (in_legs r)) (Err fault)
refused_legs read (At word) is = ap (λ (o : Result Request ℕ). o >>= λ r. Ok (in_legs r)) is
refused_legs read faults.NoMemory is = tt

-- ---- the verb of a line that is read

verb_of_line : (verb : Verb) (words : List (List ℕ)) (r : Request) → read_line verb words ≡ Ok r → r.verb ≡ verb
unfolding request_of
verb_of_line verb words r e =
    ap (λ (x : Request). x.verb) (sym (no_fault (fault_in verb (roles_of verb words) words) (request_of verb (roles_of verb words) words) r e).1)

verb_from : (o : Option Verb) (words : List (List ℕ)) (r : Request) → read_from o words ≡ Ok r → o ≡ Some r.verb
verb_from None words r e = cc e
verb_from (Some verb) words r e = ap (λ (v : Verb). Some v) (sym (verb_of_line verb words r e))

verb_read : (words : List (List ℕ)) (r : Request) → request words ≡ Ok r → verb_of (word_at words 0) ≡ Some r.verb
unfolding request
verb_read words r e =
    verb_from (verb_of (word_at words 0)) words r (past_size (nat_lt 1000000 (length words)) 1000000 (read_from (verb_of (word_at words 0)) words) r e)

further_verb : (o : Result Request ℕ) (words : List (List ℕ)) (r : Request) → request words ≡ o → read_further o ≡ Ok r
    → verb_of (word_at words 0) ≡ Some r.verb
further_verb (Err word) words r is e = cc e
further_verb (Ok q) words r is e =
    let moved : one_further q ≡ r = cc e in
    verb_read words q is ∙ ap (λ (x : Request). Some x.verb) moved

behind_verb : (words : List (List ℕ)) (r : Request) → request_behind words ≡ Ok r → verb_of (word_at (drop 1 words) 0) ≡ Some r.verb
unfolding request_behind
behind_verb words r e = further_verb (request (drop 1 words)) (drop 1 words) r refl e

-- ---- the verb of a line of `journal`

if_followed : (b : Bool) (rest : Result Request ℕ) (r : Request) → cond b rest (Err 1) ≡ Ok r → (b ≡ true) × (rest ≡ Ok r)
if_followed true rest r e = (refl, e)
if_followed false rest r e = cc e

followed : (words : List (List ℕ)) (r : Request) → request_for order.Journal words ≡ Ok r
    → (is_followed order.Journal (verb_of (word_at words 1)) ≡ true) × (request_behind words ≡ Ok r)
unfolding request_for
followed words r e = if_followed (is_followed order.Journal (verb_of (word_at words 1))) (request_behind words) r e

run_alone : (v : Verb) → is_run v ≡ true → v ≡ Run
run_alone Run is = refl
run_alone Simulate is = cc is
run_alone Next is = cc is
run_alone Replay is = cc is
run_alone Gen is = cc is
run_alone Sample is = cc is

run_of : (o : Option Verb) (v : Verb) → o ≡ Some v → is_followed order.Journal o ≡ true → v ≡ Run
run_of o v is followed = run_alone v (subst (λ (x : Option Verb). is_followed order.Journal x ≡ true) is followed)

word_behind : (words : List (List ℕ)) → word_at words 1 ≡ word_at (drop 1 words) 0
word_behind words = sym (get_or-drop 1 words 0 [])

asks_run : (words : List (List ℕ)) (r : Request) → request_for order.Journal words ≡ Ok r → r.verb ≡ Run
asks_run words r e =
    let parts = followed words r e in
    run_of (verb_of (word_at words 1)) r.verb (ap verb_of (word_behind words) ∙ behind_verb words r parts.1) parts.0

legs_verb : (o : Result Request ℕ) (words : List (List ℕ)) (r : Request) → request_for order.Journal words ≡ o → (o >>= λ q. Ok (in_legs q)) ≡ Ok r
    → r.verb ≡ Run
legs_verb (Err word) words r is e = cc e
legs_verb (Ok q) words r is e =
    let same : in_legs q ≡ r = cc e in
    ap (λ (x : Request). x.verb) (sym same) ∙ asks_run words q is

-- words that are accepted ask for a run
pub run_asked : (words : List (List ℕ)) (r : Request) → request_to_journal words ≡ Ok r → r.verb ≡ Run
run_asked words r e = legs_verb (request_for order.Journal words) words r refl e
