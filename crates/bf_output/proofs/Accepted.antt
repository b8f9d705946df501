-- The terms that words give are accepted.
use Rattle.std.proofs.Common.{◌≡◌, ℕ, cond, Bool, true, false, ◌||◌, is_some, nat_lt, List, ◌∷◌, length, Option, Some, None, IfSome, unwrap_or, Result, Ok, Err}
use Rattle.std.proofs.Common.{refl, subst}
use Rattle.std.specs.Option.{option_map}
use Rattle.bf_terms.specs.Words.{term_fault}
use Rattle.bf_terms.specs.Texts.{Sides}
use Rattle.bf_words.specs.declared.options.Choice.TheVariants.{TermNew, TermOld}
use Rattle.bf_words.specs.declared.request.Request.{Request}
use Rattle.bf_words.specs.declared.role.Role.{Role}
use Rattle.bf_words.specs.declared.verb.Verb.{Verb}
use Rattle.bf_words.specs.Options.{verb_of}
use Rattle.bf_words.specs.Roles.{roles_of}
use Rattle.bf_words.specs.Words.{answer, fault_in, first_of, line_faults, missing_value, plains_of, read_from, read_line, request, request_of, sides_of}
use Rattle.bf_words.specs.Words.{term_at, value_at, word_at, wrong_term, wrong_word}

abbrev pub AreAccepted : Sides → Type 0
AreAccepted sides = term_fault sides.new sides.old ≡ None

-- ---- what an answer for a line says of its faults

pub past_size : (b : Bool) (n : ℕ) (rest : Result Request ℕ) (r : Request) → cond b (Err n) rest ≡ Ok r → rest ≡ Ok r
past_size true n rest r e = cc e
past_size false n rest r e = e

pub no_fault : (o : Option ℕ) (made r : Request) → answer o made ≡ Ok r → (o ≡ None) × (made ≡ r)
no_fault None made r e = (refl, cc e)
no_fault (Some word) made r e = cc e

pub none_first : (o : Option ℕ) (os : List (Option ℕ)) → first_of (o ∷ os) ≡ None → (o ≡ None) × (first_of os ≡ None)
none_first None os e = (refl, e)
none_first (Some word) os e = cc e

-- ---- the terms

no_term : {X : Type 0} (f : X → ℕ) (o : Option X) → option_map f o ≡ None → o ≡ None
no_term f None e = refl
no_term f (Some x) e = cc e

terms_right : (verb : Verb) (roles : List Role) (words : List (List ℕ)) → fault_in verb roles words ≡ None → AreAccepted (sides_of roles words)
unfolding wrong_term
terms_right verb roles words e =
    let faults = line_faults verb roles (plains_of roles) words in
    let a = none_first (wrong_word verb roles words) (missing_value roles words ∷ wrong_term roles words ∷ faults) e in
    let b = none_first (missing_value roles words) (wrong_term roles words ∷ faults) a.1 in
    no_term (term_at (unwrap_or (value_at TermNew roles) 0) (unwrap_or (value_at TermOld roles) 0))
    (term_fault (sides_of roles words).new (sides_of roles words).old) (none_first (wrong_term roles words) faults b.1).0

if_given : (b : Bool) (sides : Sides) → AreAccepted sides → IfSome (cond b (Some sides) None) AreAccepted
if_given true sides h = h
if_given false sides h = tt

terms_of_line : (verb : Verb) (words : List (List ℕ)) (r : Request) → read_line verb words ≡ Ok r → IfSome r.terms AreAccepted
unfolding request_of
terms_of_line verb words r e =
    let roles = roles_of verb words in
    let both = no_fault (fault_in verb roles words) (request_of verb roles words) r e in
    subst (λ (x : Request). IfSome x.terms AreAccepted) both.1
    (if_given (is_some (value_at TermNew roles) || is_some (value_at TermOld roles)) (sides_of roles words) (terms_right verb roles words both.0))

terms_from : (verb : Option Verb) (words : List (List ℕ)) (r : Request) → read_from verb words ≡ Ok r → IfSome r.terms AreAccepted
terms_from None words r e = cc e
terms_from (Some verb) words r e = terms_of_line verb words r e

pub terms_read : (words : List (List ℕ)) (r : Request) → request words ≡ Ok r → IfSome r.terms AreAccepted
unfolding request
terms_read words r e =
    terms_from (verb_of (word_at words 0)) words r (past_size (nat_lt 1000000 (length words)) 1000000 (read_from (verb_of (word_at words 0)) words) r e)
