-- Readings never go back, and a repetition unfolds by one step.
use Rattle.std.proofs.Common.{◌≡◌, ℕ, suc, zero, ◌<◌, ◌≤◌, Bool, true, false, cond, length, Result, Ok, Err, refl, ◌∙◌, ap, ◌⊎◌, inl, inr, arith, length-drop}
use Rattle.bf_grammar.specs.declared.fault.StreamFault.{StreamFault}
use Rattle.bf_grammar.specs.declared.fault.StreamFault.TheVariants as faults
use Rattle.bf_grammar.specs.Place.{Place, Reading, and_then, pure, lifted, moved, ◌>>=◌, goes_on, repeated, repeat}

-- a reading doesn't go back: no more bytes are left behind it than before it
abbrev pub NeverBack : {X : Type 0} → Reading X → Type 0
NeverBack {X} read = (x : X) (p q : Place) → read p ≡ Ok (x, q) → length q.rest ≤ length p.rest

-- each step that goes on takes at least a byte
abbrev pub TakesSome : {A X : Type 0} → (A → Reading (A ⊎ X)) → Type 0
TakesSome {A} {X} step = (a b : A) (p q : Place) → step a p ≡ Ok (inl b, q) → length q.rest < length p.rest

module _ {A X : Type 0} (step : A → Reading (A ⊎ X)) (takes : TakesSome step) where
  -- turns to spare don't matter
  pub repeated_enough : (n m : ℕ) (a : A) (p : Place) → length p.rest < n → length p.rest < m
      → repeated faults.Read step n a p ≡ repeated faults.Read step m a p
  repeated_enough zero m a p few many = absurd (omega arith)
  repeated_enough (suc n) zero a p few many = absurd (omega arith)
  repeated_enough (suc n) (suc m) a p few many = go (λ b q. repeated_enough n m b q) (step a p) refl
    where
      go : ((b : A) (q : Place) → length q.rest < n → length q.rest < m → repeated faults.Read step n b q ≡ repeated faults.Read step m b q)
          → (r : Result ((A ⊎ X) × Place) StreamFault) → step a p ≡ r → goes_on (repeated faults.Read step n) r ≡ goes_on (repeated faults.Read step m) r
      go again (Ok (inl b, q)) is = again b q (let h : length q.rest < length p.rest = takes a b p q is in omega arith)
          (let h : length q.rest < length p.rest = takes a b p q is in omega arith)
      go again (Ok (inr x, q)) is = refl
      go again (Err fault) is = refl

  -- a repetition is its first step, and what follows that
  pub repeat-is : (a : A) (p : Place) → repeat step a p ≡ goes_on (repeat step) (step a p)
  repeat-is a p = go (step a p) refl
    where
      go : (r : Result ((A ⊎ X) × Place) StreamFault) → step a p ≡ r → goes_on (repeated faults.Read step (length p.rest)) r ≡ goes_on (repeat step) r
      go (Ok (inl b, q)) is = repeated_enough (length p.rest) (suc (length q.rest)) b q (takes a b p q is) (omega arith)
      go (Ok (inr x, q)) is = refl
      go (Err fault) is = refl

-- the value and the place of a reading that gave some
abbrev pub value_or : {X : Type 0} → X → Result (X × Place) StreamFault → X
value_or x (Ok (y, q)) = y
value_or x (Err fault) = x

abbrev pub place_or : {X : Type 0} → Place → Result (X × Place) StreamFault → Place
place_or p (Ok (y, q)) = q
place_or p (Err fault) = p

abbrev pub pair_or : {X : Type 0} → X × Place → Result (X × Place) StreamFault → X × Place
pair_or pair (Ok other) = other
pair_or pair (Err fault) = pair

pub pair_is : {X : Type 0} {x y : X} {p q : Place} → (let gave : Result (X × Place) StreamFault = Ok (x, p) in gave) ≡ Ok (y, q)
    → (let pair : X × Place = (x, p) in pair) ≡ (y, q)
pair_is {X} {x} {y} {p} {q} is = ap (pair_or (x, p)) is

pub same_place : {X : Type 0} (x y : X) (p q : Place) → (let gave : Result (X × Place) StreamFault = Ok (x, p) in gave) ≡ Ok (y, q) → p ≡ q
same_place x y p q is = ap (place_or p) is

pub same_value : {X : Type 0} (x y : X) (p q : Place) → (let gave : Result (X × Place) StreamFault = Ok (x, p) in gave) ≡ Ok (y, q) → x ≡ y
same_value x y p q is = ap (value_or x) is

-- nothing is read
pub never_back-pure : {X : Type 0} (x : X) → NeverBack (pure x)
never_back-pure x y p q is = let e = same_place x y p q is in omega (arith, ap (λ (r : Place). length r.rest) e)

pub never_back-lifted : {X : Type 0} (result : Result X StreamFault) → NeverBack (lifted result)
never_back-lifted (Ok x) y p q is = never_back-pure x y p q is
never_back-lifted (Err fault) y p q is = absurd (cc)

pub never_back-then : {X Y : Type 0} (read : Reading X) (next : X → Reading Y) → NeverBack read → ((x : X) → NeverBack (next x)) → NeverBack (read >>= next)
never_back-then read next first second y p q is = go (read p) refl is
  where
    go : (r : Result (_ × Place) StreamFault) → read p ≡ r → and_then r next ≡ Ok (y, q) → length q.rest ≤ length p.rest
    go (Ok (x, m)) at goes = let a : length m.rest ≤ length p.rest = first x p m at in let b : length q.rest ≤ length m.rest = second x y m q goes in omega
        arith
    go (Err fault) at goes = absurd (cc)

pub never_back-if : {X : Type 0} (test : Bool) (read other : Reading X) → NeverBack read → NeverBack other → NeverBack (cond test read other)
never_back-if true read other first second = first
never_back-if false read other first second = second

-- moving on
pub never_back-moved : (n : ℕ) (p : Place) → length (moved n p).rest ≤ length p.rest
never_back-moved n p = omega (arith, length-drop n p.rest)

-- a repetition doesn't go back, and what holds where a step ends holds where it ends
module _ {A X : Type 0} (step : A → Reading (A ⊎ X)) where
  pub never_back-repeated : ((a : A) → NeverBack (step a)) → (n : ℕ) (a : A) → NeverBack (repeated faults.Read step n a)
  never_back-repeated each zero a x p q is = absurd (cc)
  never_back-repeated each (suc n) a x p q is = go (never_back-repeated each n) (step a p) refl is
    where
      go : ((b : A) → NeverBack (repeated faults.Read step n b)) → (r : Result ((A ⊎ X) × Place) StreamFault) → step a p ≡ r
          → goes_on (repeated faults.Read step n) r ≡ Ok (x, q) → length q.rest ≤ length p.rest
      go again (Ok (inl b, m)) at goes = let h : length m.rest ≤ length p.rest = each a (inl b) p m at in let k : length q.rest ≤ length m.rest = again b x m q
          goes in omega arith
      go again (Ok (inr y, m)) at goes = let h : length m.rest ≤ length p.rest = each a (inr y) p m at in let e = same_place y x m q goes in omega
          (arith, ap (λ (r : Place). length r.rest) e)
      go again (Err fault) at goes = absurd (cc)

  pub never_back-repeat : ((a : A) → NeverBack (step a)) → (a : A) → NeverBack (repeat step a)
  never_back-repeat each a x p q is = never_back-repeated each (suc (length p.rest)) a x p q is

  pub repeated_ends : (P : X → Place → Type 0) → ((a : A) (x : X) (p q : Place) → step a p ≡ Ok (inr x, q) → P x q) → (n : ℕ) (a : A) (x : X) (p q : Place)
      → repeated faults.Read step n a p ≡ Ok (x, q) → P x q
  repeated_ends P ends zero a x p q is = absurd (cc)
  repeated_ends P ends (suc n) a x p q is = go (repeated_ends P ends n) (step a p) refl is
    where
      go : ((b : A) (y : X) (m r : Place) → repeated faults.Read step n b m ≡ Ok (y, r) → P y r) → (r : Result ((A ⊎ X) × Place) StreamFault) → step a p ≡ r
          → goes_on (repeated faults.Read step n) r ≡ Ok (x, q) → P x q
      go again (Ok (inl b, m)) at goes = again b x m q goes
      go again (Ok (inr y, m)) at goes = ends a x p q (at ∙ ap (λ (v : X × Place). Ok (inr v.0, v.1)) (pair_is goes))
      go again (Err fault) at goes = absurd (cc)

  pub repeat_ends : (P : X → Place → Type 0) → ((a : A) (x : X) (p q : Place) → step a p ≡ Ok (inr x, q) → P x q) → (a : A) (x : X) (p q : Place)
      → repeat step a p ≡ Ok (x, q) → P x q
  repeat_ends P ends a x p q is = repeated_ends P ends (suc (length p.rest)) a x p q is
