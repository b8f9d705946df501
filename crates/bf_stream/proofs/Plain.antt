-- A line that is no comment, in front of what is held.
use Rattle.std.proofs.Common.{◌≡◌, ℕ, suc, zero, ◌<◌, ◌≤◌, Bool, true, false, List, [], ◌∷◌, length, take, get_or, Option, Ok, refl, sym, ap, ◌∙◌, arith, not}
use Rattle.std.proofs.Common.{◌==◌}
use Rattle.std.specs.Bool.{OnTrue}
use Rattle.std.proofs.lemmas.Bool.{ne_eqb, eq-eqb, le-ltb, cond-false, false≢true}
use Rattle.bf_grammar.specs.declared.fault.Limits.{Limits}
use Rattle.bf_grammar.specs.Place.{Gives}
use Rattle.bf_grammar.specs.Lines.{front_line, has_word, is_passed_over, at_word, at_command}
use Rattle.bf_stream.specs.declared.front.Ahead.TheVariants as ahead
use Rattle.bf_stream.specs.Fronts.{sized, Finds, FindsNext}
use Rattle.bf_stream.specs.Held.{Held, HasLine, IsPlain, place_of}
use Rattle.bf_stream.proofs.Ends.{end_at, end_at-lt, length-front_line, has-from_lt}
use Rattle.bf_stream.proofs.Fronts.{answer_ended, has_line-ended}
use Rattle.bf_stream.proofs.Looking.{word_given, line_given}
use Rattle.bf_stream.proofs.Passing.{step_ends}

no_comment : (size : ℕ) (bytes : List ℕ) → (get_or bytes 0 0 ≡ 35 → ⊥) → is_passed_over false (take size bytes) ≡ false
no_comment zero bytes other = refl
no_comment (suc size) [] other = refl
no_comment (suc size) (byte ∷ bytes) other = rw (ne_eqb 35 byte (λ e. other (sym e))) refl

-- a line with a byte is passed over as a comment alone
some_passed : (text : List ℕ) → 0 < length text → is_passed_over false text ≡ false → is_passed_over true text ≡ false
some_passed [] some other = absurd (omega (arith, some))
some_passed (byte ∷ text) some other = rw (ne_eqb (suc (length text)) 0 (λ e. omega arith)) other

pub first_byte : (bytes held : List ℕ) → bytes ≡ held → not (get_or bytes 0 0 == 35) ≡ true → get_or held 0 0 ≡ 35 → ⊥
first_byte bytes held same other is =
    let hash : (get_or bytes 0 0 == 35) ≡ true = eq-eqb _ _ (ap (λ (l : List ℕ). get_or l 0 0) same ∙ is) in
    absurd (false≢true (ap not (sym hash) ∙ other))

-- the line in front, where its first byte begins no comment
pub plain_here : (bytes : List ℕ) (size : ℕ) → size ≡ end_at bytes → size < length bytes → (get_or bytes 0 0 ≡ 35 → ⊥) → IsPlain bytes (take size bytes)
plain_here bytes size at lt other = record {
  line = ap (λ n. take n bytes) at;
  ended = has-from_lt bytes (omega arith);
  plain = no_comment size bytes other;
}

-- what is looked for ends at such a line
plain_ends : (empty_too : Bool) (limits : Limits) (held : Held) (left : Option (List ℕ)) (text : List ℕ) → IsPlain held.bytes text → length text ≤ limits.line
    → is_passed_over empty_too text ≡ false → FindsNext empty_too limits (place_of held left) held left (Ok ahead.Whole)
plain_ends empty_too limits held left text plain within other =
    let size : length text ≡ end_at held.bytes = ap length plain.line ∙ length-front_line held.bytes in
    let whole : sized limits.line (end_at held.bytes) ≡ ahead.Whole = cond-false _ _ _ (le-ltb limits.line (end_at held.bytes) (omega arith)) in
    let found : Finds _ (place_of held left) held left (Ok ahead.Whole) =
    answer_ended limits (place_of held left) held left held.bytes (end_at held.bytes) ahead.Whole refl refl refl (end_at-lt held.bytes plain.ended)
    (sym whole) in
    let same : is_passed_over empty_too (front_line held.bytes) ≡ false = ap (is_passed_over empty_too) (sym plain.line) ∙ other in
    step_ends empty_too limits (place_of held left) held left ahead.Whole found (ap (λ b. Ok b) same)

-- such a line tells whether it has a first word
pub plain_word : (limits : Limits) (word : List ℕ) (held : Held) (left : Option (List ℕ)) (text : List ℕ) → length word ≤ 14 → IsPlain held.bytes text
    → length text ≤ limits.line
    → Gives (λ x. x) (place_of held left) (place_of held left) (Ok (has_word word text)) (at_word limits word)
plain_word limits word held left text short plain within =
    word_given limits word (place_of held left) held left ahead.Whole text (Ok (has_word word text)) short
    (plain_ends false limits held left text plain within plain.plain) plain.line refl

-- such a line is a command's, where it has a byte
pub plain_command : (limits : Limits) (held : Held) (left : Option (List ℕ)) (text : List ℕ) → IsPlain held.bytes text → 0 < length text
    → length text ≤ limits.line
    → Gives (λ there. there) (place_of held left) (place_of held left) (Ok true) (at_command limits)
plain_command limits held left text plain some within =
    line_given limits (place_of held left) held left ahead.Whole (Ok true)
    (plain_ends true limits held left text plain within (some_passed text some plain.plain)) refl

pub plain_has_line : (held : Held) (left : Option (List ℕ)) (text : List ℕ) (there : Bool) → IsPlain held.bytes text → OnTrue there (HasLine held left)
plain_has_line held left text true plain = has_line-ended held left (end_at-lt held.bytes plain.ended)
plain_has_line held left text false plain = tt
