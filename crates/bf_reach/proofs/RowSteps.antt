-- What each call does to the words, and what that is for the row that they hold.
use Rattle.std.proofs.Common.{◌≡◌, ◌≢◌, ℕ, ◌+◌, ◌*◌, ◌/◌, ◌%◌, ◌^◌, ◌<◌, ◌≤◌, Bool, true, false, eqb, List, length, get_or, set, replicate, sym, ap, subst, ◌∙◌}
use Rattle.std.proofs.Common.{arith, ⊎_elim, count_by, count_ones, bit_and, bit_or, w64, Option, Some, None, IfSome, MatchOption, ltb}
use Rattle.std.specs.Int.{bit_at, bit_not}
use Rattle.std.specs.Simd.Lanes.{zip2}
use Rattle.std.specs.List.{sum_by, position, position_or_len}
use Rattle.std.proofs.lemmas.List.{get_or-set_same, get_or-set_other, get_or_past, length-set}
use Rattle.std.proofs.lemmas.List.Sums.{position_or_len_is}
use Rattle.std.proofs.lemmas.Bool.{cases_lt, cases_eq, true≢false, cond-true, cond-false, lt-ltb, le-ltb}
use Rattle.std.proofs.lemmas.Nat.Bits.{bit_at_set_same, bit_at_set_other, bit_at_clear_same, bit_at_clear_other}
use Rattle.bf_search.specs.Candidates.{is_in}
use Rattle.bf_reach.specs.Bits.{has_bit, bits, words_for, Holds, NoBitFrom, IsNextBit}
use Rattle.bf_reach.specs.Bitwise.{IsBitwise}
use Rattle.bf_reach.specs.Row.{NoneTrueFrom, IsNextTrue}
use Rattle.bf_reach.proofs.BitRows.{length-bits, value-bits, bits_is, bits-zip2, holds-zip2, holds-zeros, bits-zeros, count_by-bits}

-- the words hold this row
pub record Shows (len : ℕ) (words : List ℕ) (row : List Bool) : Type 0 where
  pub holds : Holds len words
  pub view : bits len words ≡ row

pub shown_length : (len : ℕ) (words : List ℕ) (row : List Bool) → Shows len words row → len ≡ length row
shown_length len words row s = sym (length-bits len words) ∙ ap length s.view

pub shown_words : (len other : ℕ) (ws vs : List ℕ) (mine theirs : List Bool) → Shows len ws mine → Shows other vs theirs → length mine ≡ length theirs
    → length ws ≡ length vs
shown_words len other ws vs mine theirs p q same =
    let one : len ≡ other = shown_length len ws mine p ∙ same ∙ sym (shown_length other vs theirs q) in
    p.holds.whole ∙ ap words_for one ∙ sym q.holds.whole

pub shown_value : (len : ℕ) (words : List ℕ) (row : List Bool) (p : ℕ) → Shows len words row → is_in row p ≡ has_bit words p
shown_value len words row p s = ap (λ r. get_or r p false) (sym s.view) ∙ value-bits len words p s.holds

pub joined_row : (f : ℕ → ℕ → ℕ) (g : Bool → Bool → Bool) (len other : ℕ) (ws vs now : List ℕ) (mine theirs : List Bool)
    → IsBitwise f g → Shows len ws mine → Shows other vs theirs → length mine ≡ length theirs → ((i : ℕ) → get_or vs i 0 < 2 ^ 64) → now ≡ zip2 f ws vs
    → Shows len now (zip2 g mine theirs)
joined_row f g len other ws vs now mine theirs same p q long fits e =
    let one : other ≡ len = sym (shown_length len ws mine p ∙ long ∙ sym (shown_length other vs theirs q)) in
    let q' : Shows len vs theirs = subst (λ n. Shows n vs theirs) one q in
    record {
      holds = subst (Holds len) (sym e) (holds-zip2 f g len ws vs same fits p.holds q'.holds);
      view = ap (bits len) e ∙ bits-zip2 f g len ws vs same (p.holds.whole ∙ sym q'.holds.whole) fits ∙ ap (λ r. zip2 g r (bits len vs)) p.view ∙ ap
          (zip2 g mine) q'.view;
    }

pub set_row : (len : ℕ) (ws now : List ℕ) (row : List Bool) (p : ℕ) (value : Bool)
    → Shows len ws row → p < length row → length now ≡ length ws → has_bit now p ≡ value → ((k : ℕ) → k ≢ p → has_bit now k ≡ has_bit ws k)
    → Shows len now (set row p value)
set_row len ws now row p value s within long same others =
    let n : len ≡ length row = shown_length len ws row s in
    record {
      holds = record { short = s.holds.short; whole = long ∙ s.holds.whole; clean = λ k h. others k (λ e. omega arith) ∙ s.holds.clean k h };
      view = sym (bits_is len now (set row p value) (length-set row p value ∙ sym n) (λ k h. ⊎_elim
          (λ e. ap (λ i. get_or (set row p value) i false) e ∙ get_or-set_same row p value false within ∙ sym same ∙ ap (has_bit now) (sym e))
          (λ other. get_or-set_other row p k value false other ∙ shown_value len ws row k s ∙ sym (others k other))
          (cases_eq k p)));
    }

-- ---- one bit of one word

has_bit_set_same : (words : List ℕ) (place word : ℕ) → place < 64 * length words
    → has_bit (set words (place / 64) word) place ≡ eqb (bit_at word (place % 64)) 1
has_bit_set_same words place word within =
    let room : place / 64 < length words = omega arith in
    ap (λ w. eqb (bit_at w (place % 64)) 1) (get_or-set_same words (place / 64) word 0 room)

has_bit_set_other : (words : List ℕ) (place word k : ℕ) → place < 64 * length words → k ≢ place
    → ((i : ℕ) → i < 64 → i ≢ place % 64 → bit_at word i ≡ bit_at (get_or words (place / 64) 0) i) → has_bit (set words (place / 64) word) k ≡ has_bit words k
has_bit_set_other words place word k within other kept = ⊎_elim
    (λ same.
    let room : place / 64 < length words = omega arith in
    ap (λ j. eqb (bit_at (get_or (set words (place / 64) word) j 0) (k % 64)) 1) same
    ∙ ap (λ w. eqb (bit_at w (k % 64)) 1) (get_or-set_same words (place / 64) word 0 room)
    ∙ ap (λ b. eqb b 1) (kept (k % 64) (omega arith) (λ e. other (omega arith)))
    ∙ ap (λ j. eqb (bit_at (get_or words j 0) (k % 64)) 1) (sym same))
    (λ apart. ap (λ w. eqb (bit_at w (k % 64)) 1) (get_or-set_other words (place / 64) (k / 64) word 0 apart))
    (cases_eq (k / 64) (place / 64))

pub raised_same : (words : List ℕ) (place : ℕ) → place < 64 * length words
    → has_bit (set words (place / 64) (bit_or (get_or words (place / 64) 0) (1 * 2 ^ (place % 64) % 2 ^ 64))) place ≡ true
raised_same words place within =
    has_bit_set_same words place _ within ∙ ap (λ b. eqb b 1) (bit_at_set_same w64 (get_or words (place / 64) 0) (place % 64) (omega arith))

pub raised_other : (words : List ℕ) (place k : ℕ) → place < 64 * length words → k ≢ place
    → has_bit (set words (place / 64) (bit_or (get_or words (place / 64) 0) (1 * 2 ^ (place % 64) % 2 ^ 64))) k ≡ has_bit words k
raised_other words place k within other =
    has_bit_set_other words place _ k within other (λ i h apart. bit_at_set_other w64 (get_or words (place / 64) 0) (place % 64) (omega arith) i apart)

pub lowered_same : (words : List ℕ) (place : ℕ) → place < 64 * length words
    → has_bit (set words (place / 64) (bit_and (get_or words (place / 64) 0) (bit_not w64 (1 * 2 ^ (place % 64) % 2 ^ 64)))) place ≡ false
lowered_same words place within =
    has_bit_set_same words place _ within ∙ ap (λ b. eqb b 1) (bit_at_clear_same w64 (get_or words (place / 64) 0) (place % 64) (omega arith))

pub lowered_other : (words : List ℕ) (place k : ℕ) → place < 64 * length words → k ≢ place
    → has_bit (set words (place / 64) (bit_and (get_or words (place / 64) 0) (bit_not w64 (1 * 2 ^ (place % 64) % 2 ^ 64)))) k ≡ has_bit words k
lowered_other words place k within other =
    has_bit_set_other words place _ k within other (λ i h apart. bit_at_clear_other w64 (get_or words (place / 64) 0) (place % 64) (omega arith) i h apart)

pub shown_count : (len : ℕ) (words : List ℕ) (row : List Bool) (slice : List ℕ) (n : ℕ) → Shows len words row → slice ≡ words → n ≡ sum_by count_ones slice
    → ((k : ℕ) → get_or slice k 0 < 2 ^ 64) → n ≡ count_by (λ b. b) row
shown_count len words row slice n s e ones fits =
    let within : (k : ℕ) → get_or words k 0 < 2 ^ 64 = λ k. subst (λ l. get_or l k 0 < 2 ^ 64) e (fits k) in
    ones ∙ ap (sum_by count_ones) e ∙ count_by-bits len words s.holds within ∙ ap (count_by (λ b. b)) s.view

-- ---- the next place

pub shown_none : (len : ℕ) (words : List ℕ) (row : List Bool) (low : ℕ) → Shows len words row → NoBitFrom (has_bit words) low → NoneTrueFrom row low
shown_none len words row low s none p h = shown_value len words row p s ∙ none p h

pub shown_next : (len : ℕ) (words : List ℕ) (row : List Bool) (low place : ℕ) → Shows len words row → IsNextBit (has_bit words) low place
    → IsNextTrue row low place
shown_next len words row low place s next = record {
  from_low = next.above;
  is_true = shown_value len words row place s ∙ next.passes;
  false_before = λ p h lt. shown_value len words row p s ∙ next.fails_before p h lt;
}

pub shown_result : (len : ℕ) (words : List ℕ) (row : List Bool) (low : ℕ) (slice : List ℕ) (found : Option ℕ) → Shows len words row → slice ≡ words
    → MatchOption found (NoBitFrom (has_bit slice) low) (IsNextBit (has_bit slice) low) → MatchOption found (NoneTrueFrom row low) (IsNextTrue row low)
shown_result len words row low slice None s e h = shown_none len words row low s (subst (λ l. NoBitFrom (has_bit l) low) e h)
shown_result len words row low slice (Some place) s e h = shown_next len words row low place s (subst (λ l. IsNextBit (has_bit l) low place) e h)

pub none_past : (row : List Bool) (low : ℕ) → length row ≤ low → NoneTrueFrom row low
none_past row low past p h = get_or_past row p false (omega arith)

-- a true place is within the list
pub inside : (row : List Bool) (place : ℕ) → is_in row place ≡ true → place < length row
inside row place h = ⊎_elim (λ within. within) (λ past. absurd (true≢false (sym h ∙ get_or_past row place false past))) (cases_lt place (length row))

pub place_after : (row : List Bool) (low : ℕ) (found : Option ℕ) → length row < 2 ^ 32 → MatchOption found (NoneTrueFrom row low) (IsNextTrue row low)
    → IfSome found (λ place. place + 1 < 2 ^ 32)
place_after row low None short h = tt
place_after row low (Some place) short h = omega (arith, inside row place h.is_true)

pub first_true : (row : List Bool) (found : Option ℕ) → MatchOption found (NoneTrueFrom row 0) (IsNextTrue row 0) → found ≡ position (λ b. b) row
first_true row None none =
    let all : position_or_len (λ b. b) row ≡ length row = position_or_len_is (λ b. b) row (length row) false (omega arith) (λ k h. none k (omega arith))
    (λ h. absurd (omega arith)) in
    sym (cond-false (ltb (position_or_len (λ b. b) row) (length row)) (Some (position_or_len (λ b. b) row)) None
    (le-ltb (position_or_len (λ b. b) row) (length row) (omega arith)))
first_true row (Some place) next =
    let within : place < length row = inside row place next.is_true in
    let here : position_or_len (λ b. b) row ≡ place = position_or_len_is (λ b. b) row place false (omega arith) (λ k h. next.false_before k (omega arith) h)
    (λ h. next.is_true) in
    sym (cond-true (ltb (position_or_len (λ b. b) row) (length row)) (Some (position_or_len (λ b. b) row)) None
    (lt-ltb (position_or_len (λ b. b) row) (length row) (omega arith)) ∙ ap Some here)

-- ---- all places false

pub clear_row : (len n : ℕ) (now : List ℕ) → len < 2 ^ 32 → n ≡ words_for len → now ≡ replicate n 0 → Shows len now (replicate len false)
clear_row len n now short e zeros = record {
  holds = subst (Holds len) (sym zeros) (holds-zeros len n short e);
  view = ap (bits len) zeros ∙ sym (bits-zeros len n);
}
