-- Operations on words that treat each bit alone.
use Rattle.std.specs.Prelude.{◌≡◌, ℕ, ◌-◌, ◌<◌, ◌^◌, zero, suc, min, max, Bool, true, false, not, ◌&&◌, ◌||◌, eqb, nat_eq, bit_and, bit_or}
use Rattle.std.specs.Int.{bit_at, bit_not, w64}
use Rattle.std.proofs.Common.{refl, sym, ap, subst, ◌∙◌, arith, inl, inr, ⊎_elim, ◌⊎◌}
use Rattle.std.proofs.lemmas.Nat.Bits.{bit_at-lt, bit_at_and, bit_at_or, bit_at_not}

-- what on_words does to words, on_bits does to each pair of their bits
pub record IsBitwise (on_words : ℕ → ℕ → ℕ) (on_bits : Bool → Bool → Bool) : Type 0 where
  pub bit : (a b i : ℕ) → b < 2 ^ 64 → i < 64 → nat_eq (bit_at (on_words a b) i) 1 ≡ on_bits (nat_eq (bit_at a i) 1) (nat_eq (bit_at b i) 1)
  pub neither : on_bits false false ≡ false

pub is_bit : (n : ℕ) → n < 2 → (n ≡ 0) ⊎ (n ≡ 1)
is_bit zero h = inl refl
is_bit (suc n) h = inr (omega arith)

bit_pair : (h : ℕ → ℕ → ℕ) (g : Bool → Bool → Bool) → eqb (h 0 0) 1 ≡ g false false → eqb (h 0 1) 1 ≡ g false true → eqb (h 1 0) 1 ≡ g true false → eqb (h 1 1) 1 ≡ g true true
    → (x y : ℕ) → x < 2 → y < 2 → eqb (h x y) 1 ≡ g (eqb x 1) (eqb y 1)
bit_pair h g none right left both x y p q =
    let Fine : ℕ → ℕ → Type 0 = λ a b. eqb (h a b) 1 ≡ g (eqb a 1) (eqb b 1) in
    ⊎_elim
    (λ ex. subst (λ a. Fine a y) (sym ex) (⊎_elim (λ ey. subst (λ b. Fine 0 b) (sym ey) none) (λ ey. subst (λ b. Fine 0 b) (sym ey) right) (is_bit y q)))
    (λ ex. subst (λ a. Fine a y) (sym ex) (⊎_elim (λ ey. subst (λ b. Fine 1 b) (sym ey) left) (λ ey. subst (λ b. Fine 1 b) (sym ey) both) (is_bit y q)))
    (is_bit x p)

pub or_bitwise : IsBitwise bit_or ◌||◌
or_bitwise = record {
  bit = λ a b i fits h. ap (λ n. eqb n 1) (bit_at_or a b i) ∙ bit_pair max ◌||◌ refl refl refl refl (bit_at a i) (bit_at b i) (bit_at-lt a i) (bit_at-lt b i);
  neither = refl;
}

pub and_bitwise : IsBitwise bit_and ◌&&◌
and_bitwise = record {
  bit = λ a b i fits h. ap (λ n. eqb n 1) (bit_at_and a b i) ∙ bit_pair min ◌&&◌ refl refl refl refl (bit_at a i) (bit_at b i) (bit_at-lt a i) (bit_at-lt b i);
  neither = refl;
}

pub and_not_bitwise : IsBitwise (λ a b. bit_and a (bit_not w64 b)) (λ a b. a && not b)
and_not_bitwise = record {
  bit = λ a b i fits h. ap (λ n. eqb n 1) (bit_at_and a (bit_not w64 b) i ∙ ap (min (bit_at a i)) (bit_at_not w64 b i fits h))
      ∙ bit_pair (λ x y. min x (1 - y)) (λ x y. x && not y) refl refl refl refl (bit_at a i) (bit_at b i) (bit_at-lt a i) (bit_at-lt b i);
  neither = refl;
}

pub right_bitwise : IsBitwise (λ a b. b) (λ a b. b)
right_bitwise = record { bit = λ a b i fits h. refl; neither = refl }
