-- Lists of truth values, and the words that hold them.
use Rattle.std.proofs.Common.{◌≡◌, ℕ, ◌+◌, ◌-◌, ◌*◌, ◌/◌, ◌%◌, ◌^◌, ◌<◌, ◌≤◌, suc, zero, Bool, false, cond, eqb, List, [], ◌∷◌, ◌++◌, length, get_or, map}
use Rattle.std.proofs.Common.{replicate, refl, sym, ap, subst, ◌∙◌, arith, ⊎_elim, count_by, count_ones}
use Rattle.std.specs.Int.{bit_at}
use Rattle.std.specs.List.{range_with_len, sum_by}
use Rattle.std.specs.Simd.Lanes.{zip2, mask_l}
use Rattle.std.proofs.lemmas.Simd.{length-zip2, get_or-zip2, mask_l-lt, bit_mask_l, ones-mask_l}
use Rattle.std.proofs.lemmas.List.{ext_get_or, get_or_past, get_or-replicate, length-append, get_or_append_left, get_or-append_right, length-replicate}
use Rattle.std.proofs.lemmas.List.FromFn.{length-map-range_with_len, get_or-map-range_with_len, map-range_with_len_more}
use Rattle.std.proofs.lemmas.List.Sums.{sum_by_push, sum_by-append, sum_by-cons}
use Rattle.std.proofs.lemmas.List.Folds.{fold-map}
use Rattle.std.proofs.lemmas.Bool.{cases_lt}
use Rattle.std.proofs.lemmas.Nat.Bits.{bit_at-lt, bit_at-zero, same_from_bits_below}
use Rattle.bf_reach.specs.Bits.{has_bit, bits, words_for, Holds}
use Rattle.bf_reach.specs.Bitwise.{IsBitwise, is_bit}

-- ---- the list at a place

pub length-bits : (len : ℕ) (words : List ℕ) → length (bits len words) ≡ len
unfolding bits
length-bits len words = length-map-range_with_len (has_bit words) 0 len

pub get_or-bits : (len : ℕ) (words : List ℕ) (k : ℕ) (d : Bool) → k < len → get_or (bits len words) k d ≡ has_bit words k
unfolding bits
get_or-bits len words k d h = get_or-map-range_with_len (has_bit words) 0 len k k d h (omega arith)

-- at a place past the list too, where the words hold no more
pub value-bits : (len : ℕ) (words : List ℕ) (k : ℕ) → Holds len words → get_or (bits len words) k false ≡ has_bit words k
value-bits len words k h = ⊎_elim
    (λ below. get_or-bits len words k false below)
    (λ past. get_or_past (bits len words) k false (omega (arith, length-bits len words)) ∙ sym (h.clean k past))
    (cases_lt k len)

pub bits_is : (len : ℕ) (words : List ℕ) (xs : List Bool) → length xs ≡ len → ((k : ℕ) → k < len → get_or xs k false ≡ has_bit words k) → xs ≡ bits len words
bits_is len words xs long at = ext_get_or false xs (bits len words) (long ∙ sym (length-bits len words))
    (λ k h. at k (omega arith) ∙ sym (get_or-bits len words k false (omega arith)))

-- ---- no bit

pub has_bit-past : (words : List ℕ) (k : ℕ) → length words ≤ k / 64 → has_bit words k ≡ false
has_bit-past words k h = ap (λ w. eqb (bit_at w (k % 64)) 1) (get_or_past words (k / 64) 0 h) ∙ ap (λ b. eqb b 1) (bit_at-zero (k % 64))

pub has_bit-zeros : (n k : ℕ) → has_bit (replicate n 0) k ≡ false
has_bit-zeros n k = ⊎_elim
    (λ within. ap (λ w. eqb (bit_at w (k % 64)) 1) (get_or-replicate n (k / 64) 0 0 within) ∙ ap (λ b. eqb b 1) (bit_at-zero (k % 64)))
    (λ past. has_bit-past (replicate n 0) k (omega (arith, length-replicate {A = ℕ} n 0)))
    (cases_lt (k / 64) n)

pub bits-zeros : (len n : ℕ) → replicate len false ≡ bits len (replicate n 0)
bits-zeros len n = bits_is len (replicate n 0) (replicate len false) (length-replicate len false)
    (λ k h. get_or-replicate len k false false h ∙ sym (has_bit-zeros n k))

pub holds-zeros : (len n : ℕ) → len < 2 ^ 32 → n ≡ words_for len → Holds len (replicate n 0)
holds-zeros len n short e = record { short = short; whole = length-replicate n 0 ∙ e; clean = λ k h. has_bit-zeros n k }

-- ---- two lists, place by place

pub has_bit-zip2 : (f : ℕ → ℕ → ℕ) (g : Bool → Bool → Bool) (ws vs : List ℕ) (k : ℕ) → IsBitwise f g → length ws ≡ length vs
    → ((i : ℕ) → get_or vs i 0 < 2 ^ 64)
    → has_bit (zip2 f ws vs) k ≡ g (has_bit ws k) (has_bit vs k)
has_bit-zip2 f g ws vs k same long fits = ⊎_elim
    (λ within.
    ap (λ w. eqb (bit_at w (k % 64)) 1) (get_or-zip2 f ws vs (k / 64) 0 0 0 within (omega arith))
    ∙ same.bit (get_or ws (k / 64) 0) (get_or vs (k / 64) 0) (k % 64) (fits (k / 64)) (omega arith))
    (λ past.
    has_bit-past (zip2 f ws vs) k (omega (arith, length-zip2 f ws vs long))
    ∙ sym same.neither
    ∙ ap (λ b. g b false) (sym (has_bit-past ws k past))
    ∙ ap (λ b. g (has_bit ws k) b) (sym (has_bit-past vs k (omega arith))))
    (cases_lt (k / 64) (length ws))

pub bits-zip2 : (f : ℕ → ℕ → ℕ) (g : Bool → Bool → Bool) (len : ℕ) (ws vs : List ℕ) → IsBitwise f g → length ws ≡ length vs → ((i : ℕ) → get_or vs i 0 < 2 ^ 64)
    → bits len (zip2 f ws vs) ≡ zip2 g (bits len ws) (bits len vs)
bits-zip2 f g len ws vs same long fits =
    let both : length (bits len ws) ≡ length (bits len vs) = length-bits len ws ∙ sym (length-bits len vs) in
    sym (bits_is len (zip2 f ws vs) (zip2 g (bits len ws) (bits len vs)) (length-zip2 g (bits len ws) (bits len vs) both ∙ length-bits len ws)
    (λ k h.
    get_or-zip2 g (bits len ws) (bits len vs) k false false false (omega (arith, length-bits len ws)) (omega (arith, length-bits len vs))
    ∙ ap (λ b. g b (get_or (bits len vs) k false)) (get_or-bits len ws k false h)
    ∙ ap (λ b. g (has_bit ws k) b) (get_or-bits len vs k false h)
    ∙ sym (has_bit-zip2 f g ws vs k same long fits)))

pub holds-zip2 : (f : ℕ → ℕ → ℕ) (g : Bool → Bool → Bool) (len : ℕ) (ws vs : List ℕ) → IsBitwise f g → ((i : ℕ) → get_or vs i 0 < 2 ^ 64) → Holds len ws
    → Holds len vs → Holds len (zip2 f ws vs)
holds-zip2 f g len ws vs same fits p q = record {
  short = p.short;
  whole = length-zip2 f ws vs (p.whole ∙ sym q.whole) ∙ p.whole;
  clean = λ k h. has_bit-zip2 f g ws vs k same (p.whole ∙ sym q.whole) fits ∙ ap (λ b. g b (has_bit vs k)) (p.clean k h) ∙ ap (λ b. g false b) (q.clean k h) ∙
      same.neither;
}

-- ---- how many places are true

trues-map : (p : ℕ → Bool) (xs : List ℕ) → count_by (λ b. b) (map p xs) ≡ count_by p xs
trues-map p xs = fold-map (λ a b. a + cond b 1 0) p 0 xs

one_or_none : (b : ℕ) → b < 2 → cond (eqb b 1) 1 0 ≡ b
one_or_none b h =
    let Same : ℕ → Type 0 = λ x. cond (eqb x 1) 1 0 ≡ x in
    let none : Same 0 = refl in
    let one : Same 1 = refl in
    ⊎_elim (λ e. subst Same (sym e) none) (λ e. subst Same (sym e) one) (is_bit b h)

mask_is : (n w : ℕ) (p : ℕ → Bool) → w < 2 ^ n → ((i : ℕ) → i < n → p i ≡ eqb (bit_at w i) 1) → mask_l (map p (range_with_len 0 n)) ≡ w
mask_is n w p small at =
    let ms : List Bool = map p (range_with_len 0 n) in
    let long : length ms ≡ n = length-map-range_with_len p 0 n in
    same_from_bits_below n (mask_l ms) w (subst (λ m. mask_l ms < 2 ^ m) long (mask_l-lt ms)) small
    (λ i h. bit_mask_l ms i ∙ ap (λ b. cond b 1 0) (get_or-map-range_with_len p 0 n i i false h (omega arith) ∙ at i h) ∙ one_or_none (bit_at w i)
    (bit_at-lt w i))

trues_of_word : (n w : ℕ) (p : ℕ → Bool) → w < 2 ^ n → ((i : ℕ) → i < n → p i ≡ eqb (bit_at w i) 1)
    → count_by (λ b. b) (map p (range_with_len 0 n)) ≡ count_ones w
trues_of_word n w p small at = trues-map p (range_with_len 0 n) ∙ sym (ones-mask_l p (range_with_len 0 n)) ∙ ap count_ones (mask_is n w p small at)

trues-word : (w : ℕ) → w < 2 ^ 64 → count_by (λ b. b) (bits 64 (w ∷ [])) ≡ count_ones w
unfolding bits
trues-word w small = trues_of_word 64 w (has_bit (w ∷ [])) small (λ i h.
    let low : i % 64 ≡ i = omega arith in
    let first : i / 64 ≡ 0 = omega arith in
    ap (λ j. eqb (bit_at (get_or (w ∷ []) j 0) (i % 64)) 1) first ∙ ap (λ j. eqb (bit_at w j) 1) low)

bits-cons : (m w : ℕ) (ws : List ℕ) → bits (64 + m) (w ∷ ws) ≡ bits 64 (w ∷ []) ++ bits m ws
bits-cons m w ws =
    let front : length (bits 64 (w ∷ [])) ≡ 64 = length-bits 64 (w ∷ []) in
    let long : length (bits 64 (w ∷ []) ++ bits m ws) ≡ 64 + m = length-append (bits 64 (w ∷ [])) (bits m ws) ∙ ap (λ n. n + length (bits m ws)) front ∙ ap
    (λ n. 64 + n) (length-bits m ws) in
    sym (bits_is (64 + m) (w ∷ ws) (bits 64 (w ∷ []) ++ bits m ws) long (λ k h. ⊎_elim
    (λ low.
    let first : k / 64 ≡ 0 = omega arith in
    get_or_append_left (bits 64 (w ∷ [])) (bits m ws) false k (omega arith) ∙ get_or-bits 64 (w ∷ []) k false low
    ∙ ap (λ j. eqb (bit_at (get_or (w ∷ []) j 0) (k % 64)) 1) first ∙ ap (λ j. eqb (bit_at (get_or (w ∷ ws) j 0) (k % 64)) 1) (sym first))
    (λ high.
    let next : k / 64 ≡ suc ((k - 64) / 64) = omega arith in
    let same : k % 64 ≡ (k - 64) % 64 = omega arith in
    get_or-append_right (bits 64 (w ∷ [])) (bits m ws) 64 k false front high ∙ get_or-bits m ws (k - 64) false (omega arith)
    ∙ ap (λ j. eqb (bit_at (get_or ws ((k - 64) / 64) 0) j) 1) (sym same)
    ∙ ap (λ j. eqb (bit_at (get_or (w ∷ ws) j 0) (k % 64)) 1) (sym next))
    (cases_lt k 64)))

trues-none : count_by (λ b. b) (bits 0 []) ≡ 0
unfolding bits
trues-none = refl

pub trues_whole : (ws : List ℕ) → ((i : ℕ) → get_or ws i 0 < 2 ^ 64) → count_by (λ b. b) (bits (64 * length ws) ws) ≡ sum_by count_ones ws
trues_whole [] fits = ap (λ n. count_by (λ b. b) (bits n [])) (omega arith) ∙ trues-none
trues_whole (w ∷ ws) fits =
    let longer : 64 * length (w ∷ ws) ≡ 64 + 64 * length ws = omega arith in
    ap (λ n. count_by (λ b. b) (bits n (w ∷ ws))) longer
    ∙ ap (count_by (λ b. b)) (bits-cons (64 * length ws) w ws)
    ∙ sum_by-append (λ b. cond b 1 0) (bits 64 (w ∷ [])) (bits (64 * length ws) ws)
    ∙ ap (λ n. n + count_by (λ b. b) (bits (64 * length ws) ws)) (trues-word w (fits 0))
    ∙ ap (λ n. count_ones w + n) (trues_whole ws (λ i. fits (suc i)))
    ∙ sym (sum_by-cons count_ones w ws)

trues_past : (p : ℕ → Bool) (n m : ℕ) → ((k : ℕ) → n ≤ k → p k ≡ false)
    → count_by (λ b. b) (map p (range_with_len 0 (n + m))) ≡ count_by (λ b. b) (map p (range_with_len 0 n))
trues_past p n zero none =
    let same : n + 0 ≡ n = omega arith in
    ap (λ k. count_by (λ b. b) (map p (range_with_len 0 k))) same
trues_past p n (suc m) none =
    let more : n + suc m ≡ (n + m) + 1 = omega arith in
    ap (λ k. count_by (λ b. b) (map p (range_with_len 0 k))) more
    ∙ ap (count_by (λ b. b)) (map-range_with_len_more p 0 (n + m) (n + m) (omega arith))
    ∙ sum_by_push (λ b. cond b 1 0) (map p (range_with_len 0 (n + m))) (p (n + m))
    ∙ ap (λ b. count_by (λ b. b) (map p (range_with_len 0 (n + m))) + cond b 1 0) (none (n + m) (omega arith))
    ∙ omega (arith, trues_past p n m none)

bits_past : (len m : ℕ) (ws : List ℕ) → ((k : ℕ) → len ≤ k → has_bit ws k ≡ false) → count_by (λ b. b) (bits (len + m) ws) ≡ count_by (λ b. b) (bits len ws)
unfolding bits
bits_past len m ws none = trues_past (has_bit ws) len m none

pub count_by-bits : (len : ℕ) (ws : List ℕ) → Holds len ws → ((i : ℕ) → get_or ws i 0 < 2 ^ 64) → sum_by count_ones ws ≡ count_by (λ b. b) (bits len ws)
count_by-bits len ws h fits =
    let room : 64 * length ws ≡ len + (64 * length ws - len) = omega (arith, h.whole) in
    sym (trues_whole ws fits) ∙ ap (λ n. count_by (λ b. b) (bits n ws)) room ∙ bits_past len (64 * length ws - len) ws h.clean
