-- The words of a line.
use Rattle.std.proofs.Common.{◌≡◌, ◌<◌, ℕ, Bool, true, false, cond, ◌==◌, length, arith, List, [], ◌∷◌, ◌++◌, refl, sym, ap, ◌∙◌, append_assoc}
use Rattle.std.proofs.lemmas.Bool.{cond-false, or_parts}
use Rattle.std.specs.List.{list_any}
use Rattle.bf_protocol.specs.Requests.{parted, with_byte}

-- the word in front of a blank
pub word_in_front : (word rest : List ℕ) → list_any (λ b. b == 32) word ≡ false → parted (word ++ 32 ∷ rest) ≡ word ∷ parted rest
unfolding parted
word_in_front [] rest h = refl
word_in_front (b ∷ bs) rest h =
    let parts = or_parts (b == 32) (list_any (λ b. b == 32) bs) h in
    cond-false (b == 32) ([] ∷ parted (bs ++ 32 ∷ rest)) (with_byte b (parted (bs ++ 32 ∷ rest))) parts.0
    ∙ ap (with_byte b) (word_in_front bs rest parts.1)

-- a line without one is one word
pub only_word : (text : List ℕ) → list_any (λ b. b == 32) text ≡ false → parted text ≡ text ∷ []
unfolding parted
only_word [] h = refl
only_word (b ∷ bs) h =
    let parts = or_parts (b == 32) (list_any (λ b. b == 32) bs) h in
    cond-false (b == 32) ([] ∷ parted bs) (with_byte b (parted bs)) parts.0
    ∙ ap (with_byte b) (only_word bs parts.1)

-- one word more of those so far, and those from here on
pub one_more : {X : Type 0} (front rest : List X) (x : X) (whole now : List X) → whole ≡ front ++ x ∷ rest → now ≡ front ++ x ∷ []
    → whole ≡ now ++ rest
one_more front rest x whole now is pushed =
    is ∙ sym (append_assoc front (x ∷ []) rest) ∙ ap (λ (l : List _). l ++ rest) (sym pushed)

-- a line has a word, which may be empty
with_some : (b : ℕ) (words : List (List ℕ)) → 0 < length (with_byte b words)
with_some b [] = omega arith
with_some b (w ∷ words) = omega arith

some_if : (c : Bool) (x y : List (List ℕ)) → 0 < length x → 0 < length y → 0 < length (cond c x y)
some_if true x y one other = one
some_if false x y one other = other

pub some_word : (text : List ℕ) → 0 < length (parted text)
unfolding parted
some_word [] = omega arith
some_word (b ∷ bs) = some_if (b == 32) ([] ∷ parted bs) (with_byte b (parted bs)) (omega arith) (with_some b (parted bs))
