-- A digest has 20 bytes, and the front of a text up to an LF has none.
use Rattle.std.proofs.Common.{◌≡◌, ℕ, zero, suc, ◌+◌, ◌/◌, ◌<◌, ◌==◌, ◌&&◌, Bool, true, false, not, cond, List, [], ◌∷◌, ◌++◌, length, take, refl, sym, ap, ◌∙◌}
use Rattle.std.proofs.Common.{arith, inl, inr, length-append}
use Rattle.std.proofs.lemmas.Bool.{and_from, cases_Bool}
use Rattle.std.specs.Int.{w32, to_be_bytes}
use Rattle.std.specs.List.{list_all, prefix_len, slice_index}
use Rattle.hex.specs.Hex.{IsBytes}
use Rattle.sha1.specs.Sha1.{sha1, digest_bytes, hash_after, padded_message}

-- ---- digests

byte_cons : (x : ℕ) (xs : List ℕ) → x < 256 → IsBytes xs → IsBytes (x ∷ xs)
byte_cons x xs h k = λ i. at i
  where
    at : (i : ℕ) → slice_index (x ∷ xs) i < 256
    at zero = h
    at (suc i) = k i

bytes_push : (xs ys : List ℕ) → IsBytes xs → IsBytes ys → IsBytes (xs ++ ys)
bytes_push [] ys h k = k
bytes_push (x ∷ xs) ys h k = byte_cons x (xs ++ ys) (h 0) (bytes_push xs ys (λ j. h (suc j)) k)

four_bytes : (n : ℕ) → IsBytes (to_be_bytes w32 n)
four_bytes n = λ i. at i
  where
    at : (i : ℕ) → slice_index (to_be_bytes w32 n) i < 256
    at zero = omega arith
    at (suc zero) = omega arith
    at (suc (suc zero)) = omega arith
    at (suc (suc (suc zero))) = omega arith
    at (suc (suc (suc (suc i)))) = omega arith

digest_long : (h : List ℕ) (n : ℕ) → length (digest_bytes h n) ≡ n + n + n + n
unfolding digest_bytes
digest_long h zero = refl
digest_long h (suc n) =
    length-append (digest_bytes h n) (to_be_bytes w32 (slice_index h n))
    ∙ (let before = digest_long h n in let four : length (to_be_bytes w32 (slice_index h n)) ≡ 4 = refl in omega arith)

digest_whole : (h : List ℕ) (n : ℕ) → IsBytes (digest_bytes h n)
unfolding digest_bytes
digest_whole h zero = λ i. omega arith
digest_whole h (suc n) = bytes_push (digest_bytes h n) (to_be_bytes w32 (slice_index h n)) (digest_whole h n) (four_bytes (slice_index h n))

pub sha1_long : (m : List ℕ) → length (sha1 m) ≡ 20
unfolding sha1
sha1_long m = digest_long (hash_after (padded_message m) (length (padded_message m) / 64)) 5

pub sha1_bytes : (m : List ℕ) → IsBytes (sha1 m)
unfolding sha1
sha1_bytes m = digest_whole (hash_after (padded_message m) (length (padded_message m) / 64)) 5

-- ---- fronts

front_more : (q : ℕ → Bool) (b : Bool) (x : ℕ) (xs : List ℕ) → q x ≡ b → list_all q (take (prefix_len q xs) xs) ≡ true
    → list_all q (take (cond b (1 + prefix_len q xs) 0) (x ∷ xs)) ≡ true
front_more q true x xs is h =
    let next : 1 + prefix_len q xs ≡ suc (prefix_len q xs) = omega arith in
    ap (λ n. list_all q (take n (x ∷ xs))) next ∙ and_from (q x) (list_all q (take (prefix_len q xs) xs)) is h
front_more q false x xs is h = refl

-- each byte of the front passes
pub front_passes : (q : ℕ → Bool) (xs : List ℕ) → list_all q (take (prefix_len q xs) xs) ≡ true
front_passes q [] = refl
front_passes q (x ∷ xs) = front_more q (q x) x xs refl (front_passes q xs)
