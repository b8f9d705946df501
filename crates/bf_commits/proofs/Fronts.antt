-- The front line of a text, where its LF was found and where there is none, and the subject of a message.
use Rattle.std.proofs.Common.{◌≡◌, ℕ, ◌<◌, Bool, false, if◌then◌else◌, List, [], ◌∷◌, length, take, get_or, Some, None, sym, ap, ◌∙◌, arith, inl, inr}
use Rattle.std.proofs.lemmas.Bool.{cases_Bool}
use Rattle.std.proofs.lemmas.List.{take_all}
use Rattle.std.proofs.lemmas.List.Sums.{position_or_len_is}
use Rattle.memchr.specs.Find.{IsFirstByte, is_byte}
use Rattle.bf_grammar.specs.Lines.{front_line}
use Rattle.bf_history.specs.Bodies.{without_empty_lines, subject_of}

pub front_found : (xs : List ℕ) (k : ℕ) → IsFirstByte (is_byte 10) xs (Some k) → take k xs ≡ front_line xs
front_found xs k found =
    let fails : (j : ℕ) → j < k → is_byte 10 (get_or xs j 0) ≡ false =
    λ j lt. elim (cases_Bool (is_byte 10 (get_or xs j 0))) [ inl passes ↦ absurd (found.0.before j (omega arith) lt passes) | inr fails ↦ fails ] in
    ap (λ (n : ℕ). take n xs) (sym (position_or_len_is (is_byte 10) xs k 0 (omega (arith, found.0.high)) fails (λ _. found.1)))

pub front_whole : (xs : List ℕ) → IsFirstByte (is_byte 10) xs None → xs ≡ front_line xs
front_whole xs nowhere =
    let fails : (j : ℕ) → j < length xs → is_byte 10 (get_or xs j 0) ≡ false =
    λ j lt. elim (cases_Bool (is_byte 10 (get_or xs j 0))) [ inl passes ↦ absurd (nowhere j (omega arith) lt passes) | inr fails ↦ fails ] in
    sym (take_all (length xs) xs (omega arith)) ∙ ap (λ (n : ℕ). take n xs)
    (sym (position_or_len_is (is_byte 10) xs (length xs) 0 (omega arith) fails (λ lt. absurd (omega arith))))

-- the front of a message whose first line has a byte
pub subject_found : (xs : List ℕ) (k : ℕ) → IsFirstByte (is_byte 10) xs (Some k) → 0 < k → take k xs ≡ subject_of xs
subject_found [] k found some = absurd (omega (arith, found.0.high))
subject_found (byte ∷ rest) k found some =
    let fails : is_byte 10 byte ≡ false =
    elim (cases_Bool (is_byte 10 byte)) [ inl passes ↦ absurd (found.0.before 0 (omega arith) some passes) | inr fails ↦ fails ] in
    front_found (byte ∷ rest) k found
    ∙ ap (λ (is_end : Bool). front_line (if is_end then without_empty_lines rest else byte ∷ rest)) (sym fails)
