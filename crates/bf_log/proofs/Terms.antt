-- Words that are accepted as terms are read as they stand.
use Rattle.std.proofs.Common.{◌≡◌, ℕ, ◌==◌, ◌&&◌, not, cond, Bool, true, false, List, [], ◌∷◌, codes, Some, None, refl, sym, ap, ◌∙◌, ⊎_elim, eqb-true, eq-eqb}
use Rattle.std.proofs.lemmas.Bool.{and_parts, and_from, not-true, cases_Bool, ne_eqb, false_from_ne_true}
use Rattle.std.specs.List.{list_all}
use Rattle.std.specs.Cmp.Lexicographic.{pointwise}
use Rattle.bf_terms.specs.Words.{is_term_byte, is_command, has_length, begins_with_dash, has_form, is_term, is_new_term, is_old_term, term_fault}
use Rattle.bf_terms.specs.Words as terms
use Rattle.bf_terms.specs.declared.terms.TermFault.TheVariants.{New, Old, Same}
use Rattle.bf_terms.specs.Texts.{Sides}
use Rattle.bf_reading.specs.Reading.{is_word, first_is_dash}
use Rattle.bf_log.specs.Written.{is_plain, IsMarkWord}
use Rattle.bf_log.specs.Resolved.{AreTerms}

-- equal words
pub same_words : (x y : List ℕ) → pointwise ◌==◌ x y ≡ true → x ≡ y
same_words [] [] h = refl
same_words [] (b ∷ bs) h = cc
same_words (a ∷ rest) [] h = cc
same_words (a ∷ rest) (b ∷ bs) h =
    let parts = and_parts (a == b) (pointwise ◌==◌ rest bs) h in
    ap (λ (x : ℕ). x ∷ rest) (eqb-true a b parts.0) ∙ ap (λ (xs : List ℕ). b ∷ xs) (same_words rest bs parts.1)

-- a byte of a term is none of the others
no_byte : (b c : ℕ) → is_term_byte b ≡ true → is_term_byte c ≡ false → not (b == c) ≡ true
no_byte b c h k = ap not (ne_eqb b c (λ e. let same : is_term_byte b ≡ is_term_byte c = ap is_term_byte e in cc))

byte_plain : (b : ℕ) → is_term_byte b ≡ true → is_plain b ≡ true
byte_plain b h =
    and_from (not (b == 32)) (not (b == 9) && (not (b == 39) && (not (b == 92) && not (b == 10))))
    (no_byte b 32 h refl)
    (and_from (not (b == 9)) (not (b == 39) && (not (b == 92) && not (b == 10))) (no_byte b 9 h refl)
    (and_from (not (b == 39)) (not (b == 92) && not (b == 10)) (no_byte b 39 h refl)
    (and_from (not (b == 92)) (not (b == 10)) (no_byte b 92 h refl) (no_byte b 10 h refl))))

bytes_plain : (w : List ℕ) → list_all is_term_byte w ≡ true → list_all is_plain w ≡ true
bytes_plain [] h = refl
bytes_plain (b ∷ bs) h =
    let parts = and_parts (is_term_byte b) (list_all is_term_byte bs) h in
    and_from (is_plain b) (list_all is_plain bs) (byte_plain b parts.0) (bytes_plain bs parts.1)

no_dash : (w : List ℕ) → begins_with_dash w ≡ false → first_is_dash w ≡ false
no_dash [] h = refl
no_dash (b ∷ bs) h =
    ⊎_elim
    (λ yes. let dash : begins_with_dash (b ∷ bs) ≡ true = and_from (45 == b) true
    (eq-eqb 45 b (sym (eqb-true b 45 yes))) refl in cc)
    (λ no. no)
    (cases_Bool (b == 45))

-- a term is no word that isn't one
no_term : (w other : List ℕ) → is_term w ≡ true → is_term other ≡ false → pointwise ◌==◌ w other ≡ false
no_term w other h k = false_from_ne_true (pointwise ◌==◌ w other)
    (λ yes. let same : is_term w ≡ is_term other = ap is_term (same_words w other yes) in cc)

no_term_before : (w other : List ℕ) → is_term w ≡ true → is_term other ≡ false → pointwise ◌==◌ other w ≡ false
no_term_before w other h k = false_from_ne_true (pointwise ◌==◌ other w)
    (λ yes. let same : is_term other ≡ is_term w = ap is_term (same_words other w yes) in cc)

pub mark_word_from_term : (w : List ℕ) → is_term w ≡ true → IsMarkWord w
mark_word_from_term w h = record {
  is_plain_word = record {
    some = λ e. let same : is_term w ≡ is_term [] = ap is_term e in cc;
    plain = bytes_plain w bytes.1;
    no_dash = no_dash w (not-true (begins_with_dash w) form.1);
  };
  no_start = no_term w (codes "start") h refl;
}
  where
    parts : (has_form w ≡ true) × (not (is_command w) ≡ true)
    parts = and_parts (has_form w) (not (is_command w)) h

    form : ((has_length w && list_all is_term_byte w) ≡ true) × (not (begins_with_dash w) ≡ true)
    form = and_parts (has_length w && list_all is_term_byte w) (not (begins_with_dash w)) parts.0

    bytes : (has_length w ≡ true) × (list_all is_term_byte w ≡ true)
    bytes = and_parts (has_length w) (list_all is_term_byte w) form.0

-- two accepted terms
pub record Accepted (sides : Sides) : Type 0 where
  pub new : IsMarkWord sides.new
  pub old : IsMarkWord sides.old
  pub terms : AreTerms sides

accepted_parts : (sides : Sides) → is_term sides.new ≡ true → is_term sides.old ≡ true
    → terms.is_word sides.new sides.old ≡ false → Accepted sides
accepted_parts sides h k apart = record {
  new = mark_word_from_term sides.new h;
  old = mark_word_from_term sides.old k;
  terms = record {
    apart = false_from_ne_true (is_word sides.new sides.old) (λ yes.
        let same : sides.old ≡ sides.new = same_words sides.old sides.new yes in
        let again : is_word sides.new sides.new ≡ true = ap (λ (x : List ℕ). is_word sides.new x) (sym same) ∙ yes in
        let other : terms.is_word sides.new sides.old ≡ true = ap (λ (x : List ℕ). pointwise ◌==◌ sides.new x) same
        ∙ again in
        cc);
    new_no_skip = no_term_before sides.new (codes "skip") h refl;
    old_no_skip = no_term_before sides.old (codes "skip") k refl;
  };
}

new_is_term : (w : List ℕ) → is_new_term w ≡ true → is_term w ≡ true
new_is_term w h = (and_parts (is_term w) (not (terms.is_word w (codes "good")))
    (and_parts (is_term w && not (terms.is_word w (codes "good"))) (not (terms.is_word w (codes "old"))) h).0).0

old_is_term : (w : List ℕ) → is_old_term w ≡ true → is_term w ≡ true
old_is_term w h = (and_parts (is_term w) (not (terms.is_word w (codes "bad")))
    (and_parts (is_term w && not (terms.is_word w (codes "bad"))) (not (terms.is_word w (codes "new"))) h).0).0

-- what is accepted has no fault
fault_parts : (a b c : Bool) → cond (not a) (Some New) (cond (not b) (Some Old) (cond c (Some Same) None)) ≡ None
    → (a ≡ true) × (b ≡ true) × (c ≡ false)
fault_parts true true false h = (refl, refl, refl)
fault_parts true true true h = cc
fault_parts true false c h = cc
fault_parts false b c h = cc

pub accepted_from : (sides : Sides) → term_fault sides.new sides.old ≡ None → Accepted sides
accepted_from sides h =
    let parts = fault_parts (is_new_term sides.new) (is_old_term sides.old) (terms.is_word sides.new sides.old) h in
    accepted_parts sides (new_is_term sides.new parts.0) (old_is_term sides.old parts.1) parts.2
