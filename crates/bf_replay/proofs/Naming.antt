-- A name in hexadecimal digits means its commit.
use Rattle.std.proofs.Common.{◌≡◌, ℕ, zero, suc, ◌+◌, ◌/◌, ◌%◌, ◌<◌, ◌==◌, ◌&&◌, ◌||◌, Bool, true, false, not, cond, List, [], ◌∷◌, ◌++◌, length, take, drop}
use Rattle.std.proofs.Common.{map, codes, get_or, is_some, Option, Some, None, Ok, Err, refl, ap, ◌∙◌, arith}
use Rattle.std.proofs.lemmas.Bool.{and_from, and_parts, not-true, cond-false, cond-true, or_from}
use Rattle.std.specs.Cmp.Lexicographic.{pointwise}
use Rattle.std.specs.List.{list_all, position, position_or_len, range_with_len, slice_index, starts_with}
use Rattle.std.specs.Option.{ok_or, option_map}
use Rattle.hex.proofs.HexLemmas.{length-encode_with}
use Rattle.hex.specs.Hex.{encode_with, encode_lower, lower_digits}
use Rattle.bf_oid.specs.declared.object.Oid.{Oid}
use Rattle.bf_oid.specs.Object.{oid_of_hex}
use Rattle.bf_history.specs.Meanings.{History, place_named}
use Rattle.bf_names.specs.declared.fault.NameFault.TheVariants.{Unknown, BadForm}
use Rattle.bf_names.specs.Names.{stands_in, is_sign, base_of, is_base, step_texts, steps_written, steps_of, spelled_out, by_name}
use Rattle.bf_names.specs.Names.{place_of_base, place_of, after_steps, name}
use Rattle.bf_tables.proofs.Positions.{position_more}
use Rattle.bf_oid.proofs.Texts.{oid_of_hex-encode_lower}
use Rattle.bf_replay.specs.Kept.{IsWholeName}
use Rattle.bf_grammar.specs.Forms.{◌>>=◌}

-- ---- digits are none of the signs of a name

-- neither SP nor `:` nor `@` nor a sign of a step
abbrev is_digit : ℕ → Bool
is_digit b = not (32 == b) && (not (58 == b) && (not (64 == b) && not (is_sign b)))

digit_at : (t : List ℕ) (i : ℕ) → list_all is_digit t ≡ true → is_digit (slice_index t i) ≡ true
digit_at [] i h = refl
digit_at (x ∷ xs) zero h = (and_parts (is_digit x) (list_all is_digit xs) h).0
digit_at (x ∷ xs) (suc i) h = digit_at xs i (and_parts (is_digit x) (list_all is_digit xs) h).1

hex_digits : (bytes : List ℕ) → list_all is_digit (encode_lower bytes) ≡ true
unfolding encode_with
hex_digits [] = refl
hex_digits (b ∷ bs) =
    and_from (is_digit (slice_index lower_digits (b / 16)))
    (is_digit (slice_index lower_digits (b % 16)) && list_all is_digit (encode_lower bs))
    (digit_at lower_digits (b / 16) refl)
    (and_from (is_digit (slice_index lower_digits (b % 16))) (list_all is_digit (encode_lower bs))
    (digit_at lower_digits (b % 16) refl) (hex_digits bs))

-- the four parts of a digit
pub record DigitParts (b : ℕ) : Type 0 where
  pub space : (32 == b) ≡ false
  pub colon : (58 == b) ≡ false
  pub at : (64 == b) ≡ false
  pub sign : is_sign b ≡ false

digit_parts : (b : ℕ) → is_digit b ≡ true → DigitParts b
digit_parts b h =
    let one = and_parts (not (32 == b)) (not (58 == b) && (not (64 == b) && not (is_sign b))) h in
    let two = and_parts (not (58 == b)) (not (64 == b) && not (is_sign b)) one.1 in
    let three = and_parts (not (64 == b)) (not (is_sign b)) two.1 in
    record {
      space = not-true (32 == b) one.0;
      colon = not-true (58 == b) two.0;
      at = not-true (64 == b) three.0;
      sign = not-true (is_sign b) three.1;
    }

-- ---- no part of a name stands in digits

-- no byte of a text is this one
abbrev lacks : ℕ → List ℕ → Bool
lacks c text = list_all (λ b. not (c == b)) text

lacks_drop : (c : ℕ) (text : List ℕ) (n : ℕ) → lacks c text ≡ true → lacks c (drop n text) ≡ true
lacks_drop c [] zero h = refl
lacks_drop c [] (suc n) h = refl
lacks_drop c (b ∷ bs) zero h = h
lacks_drop c (b ∷ bs) (suc n) h = lacks_drop c bs n (and_parts (not (c == b)) (lacks c bs) h).1

and_false : (a b : Bool) → a ≡ false → (a && b) ≡ false
and_false a b h = ap (λ x. x && b) h

no_start : (c : ℕ) (cs text : List ℕ) → lacks c text ≡ true → starts_with ◌==◌ text (c ∷ cs) ≡ false
no_start c cs [] h = refl
no_start c cs (b ∷ bs) h = and_false (c == b) (starts_with ◌==◌ bs cs) (not-true (c == b) (and_parts (not (c == b)) (lacks c bs) h).0)

nowhere : (p : ℕ → Bool) (a n : ℕ) → ((k : ℕ) → p k ≡ false) → position p (range_with_len a n) ≡ None
nowhere p a zero h = refl
nowhere p a (suc n) h =
    position_more p a (range_with_len (a + 1) n)
    ∙ ap (λ b. cond b (Some 0) (option_map suc (position p (range_with_len (a + 1) n)))) (h a)
    ∙ ap (option_map suc) (nowhere p (a + 1) n h)

stands_not : (c : ℕ) (cs text : List ℕ) → lacks c text ≡ true → stands_in (c ∷ cs) text ≡ false
stands_not c cs text h =
    ap (λ (o : Option ℕ). is_some o)
    (nowhere (λ at. starts_with ◌==◌ (drop at text) (c ∷ cs)) 0 (length text) (λ k. no_start c cs (drop k text) (lacks_drop c text k h)))

lacks_space : (text : List ℕ) → list_all is_digit text ≡ true → lacks 32 text ≡ true
lacks_space [] h = refl
lacks_space (b ∷ bs) h =
    let parts = and_parts (is_digit b) (list_all is_digit bs) h in
    and_from (not (32 == b)) (lacks 32 bs) (ap not (digit_parts b parts.0).space) (lacks_space bs parts.1)

lacks_colon : (text : List ℕ) → list_all is_digit text ≡ true → lacks 58 text ≡ true
lacks_colon [] h = refl
lacks_colon (b ∷ bs) h =
    let parts = and_parts (is_digit b) (list_all is_digit bs) h in
    and_from (not (58 == b)) (lacks 58 bs) (ap not (digit_parts b parts.0).colon) (lacks_colon bs parts.1)

lacks_at : (text : List ℕ) → list_all is_digit text ≡ true → lacks 64 text ≡ true
lacks_at [] h = refl
lacks_at (b ∷ bs) h =
    let parts = and_parts (is_digit b) (list_all is_digit bs) h in
    and_from (not (64 == b)) (lacks 64 bs) (ap not (digit_parts b parts.0).at) (lacks_at bs parts.1)

-- ---- digits are a whole base

front_whole : (b : Bool) (x : ℕ) (xs : List ℕ) (n : ℕ) → b ≡ false → take n xs ≡ xs → take (cond (not b) (1 + n) 0) (x ∷ xs) ≡ x ∷ xs
front_whole true x xs n h e = cc
front_whole false x xs n h e =
    let next : 1 + n ≡ suc n = omega arith in
    ap (λ m. take m (x ∷ xs)) next ∙ ap (λ ys. x ∷ ys) e

whole_base : (text : List ℕ) → list_all is_digit text ≡ true → base_of text ≡ text
whole_base [] h = refl
whole_base (b ∷ bs) h =
    let parts = and_parts (is_digit b) (list_all is_digit bs) h in
    front_whole (is_sign b) b bs (position_or_len is_sign bs) (digit_parts b parts.0).sign (whole_base bs parts.1)

no_steps : (text : List ℕ) → list_all is_digit text ≡ true → step_texts text ≡ []
unfolding step_texts
no_steps [] h = refl
no_steps (b ∷ bs) h =
    let parts = and_parts (is_digit b) (list_all is_digit bs) h in
    cond-false (is_sign b) _ _ (digit_parts b parts.0).sign ∙ no_steps bs parts.1

-- ---- the commit that digits name

whole_is_base : (text : List ℕ) → list_all is_digit text ≡ true → (length text == 0) ≡ false → is_base text ≡ true
whole_is_base text h some =
    ap not
    (or_from (length text == 0 || stands_in (codes " ") text || stands_in (codes ":") text) (stands_in (codes "@{") text)
    (or_from (length text == 0 || stands_in (codes " ") text) (stands_in (codes ":") text)
    (or_from (length text == 0) (stands_in (codes " ") text) some (stands_not 32 [] text (lacks_space text h)))
    (stands_not 58 [] text (lacks_colon text h)))
    (stands_not 64 (123 ∷ []) text (lacks_at text h)))

no_steps_of : (text : List ℕ) → list_all is_digit text ≡ true → (length text == 0) ≡ false → steps_of text ≡ Ok []
unfolding steps_of steps_written
no_steps_of text h some =
    ap (λ base. cond (is_base base) (ok_or (steps_written (step_texts text)) BadForm) (Err BadForm)) (whole_base text h)
    ∙ cond-true (is_base text) (ok_or (steps_written (step_texts text)) BadForm) (Err BadForm) (whole_is_base text h some)
    ∙ ap (λ texts. ok_or (steps_written texts) BadForm) (no_steps text h)

and_right : (a : Bool) → (a && false) ≡ false
and_right true = refl
and_right false = refl

same_spelled : (bytes : List ℕ) → spelled_out (encode_lower bytes) ≡ encode_lower bytes
unfolding encode_with
same_spelled [] = refl
same_spelled (b ∷ bs) =
    cond-false (pointwise ◌==◌ (encode_lower (b ∷ bs)) (codes "@")) (codes "HEAD") (encode_lower (b ∷ bs))
    (and_right (slice_index lower_digits (b / 16) == 64))

some_digits : (bytes : List ℕ) → length bytes ≡ 20 → (length (encode_lower bytes) == 0) ≡ false
some_digits bytes long =
    let forty : length (encode_lower bytes) ≡ 40 = omega (arith, length-encode_with lower_digits bytes, long) in
    ap (λ n. n == 0) forty

place_of_digits : (history : History) (text : List ℕ) (oid : Oid) → spelled_out text ≡ text → oid_of_hex text ≡ Some oid
    → place_of_base history text ≡ ok_or (place_named history.names oid) Unknown
unfolding place_of_base
place_of_digits history text oid is digits = ap (λ spelled. by_name history spelled (oid_of_hex spelled)) is ∙ ap (λ (o : Option Oid). by_name history text o) digits

-- the digits of a whole name mean the commit that it leads to
pub digits_mean : (history : History) (oid : Oid) (p : ℕ) → IsWholeName oid → place_named history.names oid ≡ Some p
    → name history (encode_lower oid.0) ≡ Ok p
unfolding name after_steps
digits_mean history oid p whole found =
    let digits = hex_digits oid.0 in
    ap (λ steps. steps >>= place_of history (encode_lower oid.0)) (no_steps_of (encode_lower oid.0) digits (some_digits oid.0 whole.long))
    ∙ ap (λ base. place_of_base history base >>= after_steps history.parents []) (whole_base (encode_lower oid.0) digits)
    ∙ ap (λ place. place >>= after_steps history.parents [])
    (place_of_digits history (encode_lower oid.0) oid (same_spelled oid.0)
    (oid_of_hex-encode_lower oid.0 whole.long whole.bytes)
    ∙ ap (λ place. ok_or place Unknown) found)

-- the bytes of the name at a place
pub bytes_at : (names : List Oid) (p : ℕ) → get_or (map (λ (name : Oid). name.0) names) p [] ≡ (get_or names p (record { 0 = [] })).0
bytes_at [] p = refl
bytes_at (n ∷ names) zero = refl
bytes_at (n ∷ names) (suc p) = bytes_at names p
