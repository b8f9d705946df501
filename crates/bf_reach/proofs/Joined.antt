-- One list of words is worked into another from the front on.
use Rattle.std.proofs.Common.{◌≡◌, ℕ, ◌+◌, ◌-◌, ◌<◌, ◌≤◌, List, [], ◌∷◌, length, get_or, map, refl, sym, ap, ◌∙◌, arith, ⊎_elim}
use Rattle.std.specs.Simd.Lanes.{zip2, chunk, put_chunk}
use Rattle.std.proofs.lemmas.Simd.{length-zip2, length-chunk, get_or-chunk, get_or-zip2, get_or-put_chunk_below, get_or-put_chunk_at, get_or-put_chunk_above}
use Rattle.std.proofs.lemmas.List.{ext_get_or}
use Rattle.std.proofs.lemmas.Bool.{cases_lt}

-- the first n words of now are made of old and from, and the rest are those of old
pub record Joined (f : ℕ → ℕ → ℕ) (old from now : List ℕ) (n : ℕ) : Type 0 where
  pub done : (k : ℕ) → k < n → get_or now k 0 ≡ f (get_or old k 0) (get_or from k 0)
  pub rest : (k : ℕ) → n ≤ k → get_or now k 0 ≡ get_or old k 0

pub joined_lanes : (f : ℕ → ℕ → ℕ) (old from now : List ℕ) (n w m : ℕ) → Joined f old from now n → n + w ≤ length now → n + w ≤ length from → m ≡ n + w
    → Joined f old from (put_chunk n now (zip2 f (chunk n w now) (chunk n w from))) m
joined_lanes f old from now n w m j room source e =
    let made = zip2 f (chunk n w now) (chunk n w from) in
    let now_len : length (chunk n w now) ≡ w = length-chunk n w now room in
    let from_len : length (chunk n w from) ≡ w = length-chunk n w from source in
    let made_len : length made ≡ w = length-zip2 f (chunk n w now) (chunk n w from) (now_len ∙ sym from_len) ∙ now_len in
    let lane : (i : ℕ) → i < w → get_or (put_chunk n now made) (n + i) 0 ≡ f (get_or old (n + i) 0) (get_or from (n + i) 0) = λ i h.
    get_or-put_chunk_at n now made i 0 (omega arith) (omega arith)
    ∙ get_or-zip2 f (chunk n w now) (chunk n w from) i 0 0 0 (omega arith) (omega arith)
    ∙ ap (λ x. f x (get_or (chunk n w from) i 0)) (get_or-chunk n w now i 0 h ∙ j.rest (n + i) (omega arith))
    ∙ ap (λ x. f (get_or old (n + i) 0) x) (get_or-chunk n w from i 0 h) in
    record {
      done = λ k h. ⊎_elim
          (λ below. get_or-put_chunk_below n now made k 0 below ∙ j.done k below)
          (λ above.
          let split : k ≡ n + (k - n) = omega arith in
          ap (λ i. get_or (put_chunk n now made) i 0) split ∙ lane (k - n) (omega arith) ∙ ap (λ i. f (get_or old i 0) (get_or from i 0)) (sym split))
          (cases_lt k n);
      rest = λ k h. get_or-put_chunk_above n now made k 0 (omega arith) ∙ j.rest k (omega arith);
    }

pub joined_all : (f : ℕ → ℕ → ℕ) (old from now : List ℕ) → Joined f old from now (length old) → length old ≡ length from → length now ≡ length old
    → now ≡ zip2 f old from
joined_all f old from now j long kept = ext_get_or 0 now (zip2 f old from) (kept ∙ sym (length-zip2 f old from long))
    (λ k h. j.done k (omega arith) ∙ sym (get_or-zip2 f old from k 0 0 0 (omega arith) (omega arith)))

-- a vector whose right side was computed lane by lane
pub zip2_map_right : {A B C D : Type 0} (f : A → C → D) (g : B → C) (xs : List A) (ys : List B) → zip2 f xs (map g ys) ≡ zip2 (λ x y. f x (g y)) xs ys
zip2_map_right f g [] ys = refl
zip2_map_right f g (x ∷ xs) [] = refl
zip2_map_right f g (x ∷ xs) (y ∷ ys) = ap (λ t. f x (g y) ∷ t) (zip2_map_right f g xs ys)

pub zip2_right : {A B : Type 0} (xs : List A) (ys : List B) → length xs ≡ length ys → ys ≡ zip2 (λ x y. y) xs ys
zip2_right [] [] e = refl
zip2_right [] (y ∷ ys) e = absurd (omega arith)
zip2_right (x ∷ xs) [] e = absurd (omega arith)
zip2_right (x ∷ xs) (y ∷ ys) e = ap (λ t. y ∷ t) (zip2_right xs ys (omega arith))
