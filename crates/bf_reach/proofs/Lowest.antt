-- The lowest bit that is 1.
use Rattle.std.proofs.Common.{◌≡◌, ℕ, ◌+◌, ◌-◌, ◌*◌, ◌/◌, ◌%◌, ◌^◌, ◌<◌, ◌≤◌, false, eqb, List, get_or, sym, ap, ◌∙◌, arith, ⊎_elim, w64}
use Rattle.std.specs.Int.{bit_at, trailing_zeros}
use Rattle.std.proofs.lemmas.Bool.{cases_lt, ne_eqb, eq-eqb}
use Rattle.std.proofs.lemmas.Nat.{shr-shr, shr_le}
use Rattle.std.proofs.lemmas.Nat.Bits.{bit_at-zero, bit_at-trailing_zeros, bit_at_above}
use Rattle.bf_reach.specs.Bits.{has_bit, NoBitFrom, IsNextBit}

-- a bit after a shift to the right
bit_at-shr : (n k i : ℕ) → bit_at (n / 2 ^ k) i ≡ bit_at n (k + i)
bit_at-shr n k i = ap (λ m. m % 2) (shr-shr n k i)

is_zero : (b : ℕ) → b ≡ 0 → eqb b 1 ≡ false
is_zero b h = ne_eqb b 1 (λ e. omega arith)

pub none_in_word : (word low : ℕ) → word / 2 ^ low ≡ 0 → NoBitFrom (λ i. eqb (bit_at word i) 1) low
none_in_word word low gone k h =
    let split : k ≡ low + (k - low) = omega arith in
    is_zero (bit_at word k) (ap (bit_at word) split ∙ sym (bit_at-shr word low (k - low)) ∙ ap (λ n. bit_at n (k - low)) gone ∙ bit_at-zero (k - low))

pub next_in_word : (word low : ℕ) → word < 2 ^ 64 → 0 < word / 2 ^ low → IsNextBit (λ i. eqb (bit_at word i) 1) low (low + trailing_zeros w64 (word / 2 ^ low))
next_in_word word low small some =
    let rest : ℕ = word / 2 ^ low in
    let found = bit_at-trailing_zeros w64 rest some (omega (arith, shr_le word low)) in
    record {
      above = omega arith;
      passes = eq-eqb (bit_at word (low + trailing_zeros w64 rest)) 1 (sym (bit_at-shr word low (trailing_zeros w64 rest)) ∙ found.1);
      fails_before = λ k h lt.
          let split : k ≡ low + (k - low) = omega arith in
          is_zero (bit_at word k) (ap (bit_at word) split ∙ sym (bit_at-shr word low (k - low)) ∙ found.2 (k - low) (omega arith));
    }

zero_word : (words : List ℕ) (k : ℕ) → get_or words (k / 64) 0 ≡ 0 → has_bit words k ≡ false
zero_word words k h = is_zero (bit_at (get_or words (k / 64) 0) (k % 64)) (ap (λ w. bit_at w (k % 64)) h ∙ bit_at-zero (k % 64))

has_bit-at : (words : List ℕ) (at bit : ℕ) → bit < 64 → has_bit words (64 * at + bit) ≡ eqb (bit_at (get_or words at 0) bit) 1
has_bit-at words at bit low =
    let word : (64 * at + bit) / 64 ≡ at = omega arith in
    let place : (64 * at + bit) % 64 ≡ bit = omega arith in
    ap (λ j. eqb (bit_at (get_or words j 0) ((64 * at + bit) % 64)) 1) word ∙ ap (λ j. eqb (bit_at (get_or words at 0) j) 1) place

pub next_in_words : (words : List ℕ) (first at : ℕ) → ((k : ℕ) → first ≤ k → k < at → get_or words k 0 ≡ 0) → first ≤ at → 0 < get_or words at 0
    → get_or words at 0 < 2 ^ 64
    → IsNextBit (has_bit words) (64 * first) (64 * at + trailing_zeros w64 (get_or words at 0))
next_in_words words first at zeros after some small =
    let word : ℕ = get_or words at 0 in
    let found = bit_at-trailing_zeros w64 word some small in
    let low : trailing_zeros w64 word < 64 = found.0 in
    record {
      above = omega arith;
      passes = has_bit-at words at (trailing_zeros w64 word) low ∙ eq-eqb (bit_at word (trailing_zeros w64 word)) 1 found.1;
      fails_before = λ k h lt. ⊎_elim
          (λ before. zero_word words k (zeros (k / 64) (omega arith) before))
          (λ here.
          let split : k ≡ 64 * at + k % 64 = omega arith in
          ap (has_bit words) split ∙ has_bit-at words at (k % 64) (omega arith) ∙ is_zero (bit_at word (k % 64)) (found.2 (k % 64) (omega arith)))
          (cases_lt (k / 64) at);
    }

pub within_word : (word low : ℕ) → word < 2 ^ 64 → 0 < word / 2 ^ low → low + trailing_zeros w64 (word / 2 ^ low) < 64
within_word word low small some =
    let rest : ℕ = word / 2 ^ low in
    let found = bit_at-trailing_zeros w64 rest some (omega (arith, shr_le word low)) in
    let is_one : bit_at word (low + trailing_zeros w64 rest) ≡ 1 = sym (bit_at-shr word low (trailing_zeros w64 rest)) ∙ found.1 in
    ⊎_elim (λ within. within) (λ past. absurd (omega (arith, is_one, bit_at_above word 64 (low + trailing_zeros w64 rest) small past)))
    (cases_lt (low + trailing_zeros w64 rest) 64)
