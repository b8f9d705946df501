-- The position of a name in a list where each name stands once.
use Rattle.std.proofs.Common.{◌≡◌, ℕ, zero, suc, ◌+◌, Bool, true, false, cond, not, ◌||◌, nat_lt, List, [], ◌∷◌, length, slice_get, position, Option, Some}
use Rattle.std.proofs.Common.{None, is_some, refl, sym, ap, ◌∙◌, subst, inl, inr, arith}
use Rattle.std.specs.List.{list_any, position_or_len, IsDistinct, AllByRecursion}
use Rattle.std.specs.Option.{option_map}
use Rattle.std.proofs.lemmas.Bool.{cases_Bool, false≢true}
use Rattle.std.proofs.lemmas.Bool.Decides.{nat_tests}
use Rattle.std.proofs.lemmas.Slice.Eq.{bytes_eq-Decides}
use Rattle.bf_oid.specs.declared.object.Oid.{Oid}
use Rattle.bf_forest.specs.Files.{is_same}
use Rattle.bf_history.specs.Meanings.{place_named}

-- whether two names are the same
abbrev pub is_same_name : Oid → Oid → Bool
is_same_name name other = is_same name.0 other.0

module _ {X : Type 0} (p : X → Bool) where
  one_on : (b : Bool) (n : ℕ) → cond b (Some (suc n)) None ≡ option_map suc (cond b (Some n) None)
  one_on true n = refl
  one_on false n = refl

  less_on : (n len : ℕ) → nat_lt (suc n) (suc len) ≡ nat_lt n len
  less_on n len = grind (arith, nat_tests)

  by_head : (b : Bool) (n len : ℕ)
      → cond (nat_lt (cond (not b) (1 + n) 0) (suc len)) (Some (cond (not b) (1 + n) 0)) None ≡ cond b (Some 0)
      (option_map suc (cond (nat_lt n len) (Some n) None))
  by_head true n len =
      let first : nat_lt 0 (suc len) ≡ true = grind (arith, nat_tests) in
      ap (λ b. cond b (Some 0) None) first
  by_head false n len =
      let next : 1 + n ≡ suc n = omega arith in
      ap (λ k. cond (nat_lt k (suc len)) (Some k) None) next ∙ ap (λ b. cond b (Some (suc n)) None) (less_on n len) ∙ one_on (nat_lt n len) n

  pub position_more : (x : X) (xs : List X) → position p (x ∷ xs) ≡ cond (p x) (Some 0) (option_map suc (position p xs))
  position_more x xs = by_head (p x) (position_or_len p xs) (length xs)

  any_on : (b : Bool) (rest : List X) → list_any p rest ≡ is_some (position p rest)
      → (b || list_any p rest) ≡ is_some (cond b (Some 0) (option_map suc (position p rest)))
  any_on true rest same = refl
  any_on false rest same = same ∙ more (position p rest)
    where
      more : (o : Option ℕ) → is_some o ≡ is_some (option_map suc o)
      more None = refl
      more (Some n) = refl

  -- an element passes the test exactly where it has a position
  pub any_is_some : (xs : List X) → list_any p xs ≡ is_some (position p xs)
  any_is_some [] = refl
  any_is_some (x ∷ xs) = any_on (p x) xs (any_is_some xs) ∙ ap is_some (sym (position_more x xs))

each_at : {X : Type 0} (P : X → Type 0) (xs : List X) (i : ℕ) (x : X) → AllByRecursion P xs → slice_get xs i ≡ Some x → P x
each_at P [] i x all at = cc
each_at P (y ∷ ys) zero x all at = let e : y ≡ x = cc in subst P e all.0
each_at P (y ∷ ys) (suc i) x all at = each_at P ys i x all.1 at

same_itself : (name : Oid) → is_same_name name name ≡ true
same_itself name = (bytes_eq-Decides name.0 name.0).1 refl

other_way : (a b : Oid) → is_same_name a b ≡ false → is_same_name b a ≡ false
other_way a b h = elim (cases_Bool (is_same_name b a)) [
  | inl same ↦ absurd (false≢true (sym h ∙ (bytes_eq-Decides a.0 b.0).1 (sym ((bytes_eq-Decides b.0 a.0).0 same))))
  | inr other ↦ other
]

-- a name leads to its own place
pub own_place : (names : List Oid) (place : ℕ) (name : Oid) → IsDistinct is_same_name names → slice_get names place ≡ Some name
    → place_named names name ≡ Some place
unfolding IsDistinct
own_place [] place name once at = cc
own_place (first ∷ rest) zero name once at =
    let e : first ≡ name = cc in
    position_more (is_same_name name) first rest
    ∙ ap (λ b. cond b (Some 0) (option_map suc (place_named rest name))) (ap (is_same_name name) e ∙ same_itself name)
own_place (first ∷ rest) (suc place) name once at =
    let other : is_same_name name first ≡ false = other_way first name (each_at (λ other. is_same_name first other ≡ false) rest place name once.0 at) in
    position_more (is_same_name name) first rest
    ∙ ap (λ b. cond b (Some 0) (option_map suc (place_named rest name))) other
    ∙ ap (option_map suc) (own_place rest place name once.1 at)
