-- How calls of a device, one after another, come together.
use Rattle.std.proofs.Common.{◌≡◌, ℕ, ◌+◌, ◌-◌, List, [], ◌++◌, length, take, drop, Option, Some, None, refl, sym, ap, ◌∙◌, append_assoc, append-nil}
use Rattle.std.proofs.Math.Seq.{take-append_seam, take-append-add, take-length, take-add}
use Rattle.std.proofs.lemmas.List.{take-append-drop, take_rest}
use Rattle.bf_io.specs.Told.{Takes, followed_by, Appends, AppendsFront}

-- ---- a source

pub Takes-nil : (told : Option (List ℕ)) → Takes told told []
Takes-nil None = refl
Takes-nil (Some xs) = refl

pub Takes-trans : (a b c : Option (List ℕ)) (xs ys : List ℕ) → Takes a b xs → Takes b c ys → Takes a c (xs ++ ys)
Takes-trans None None c xs ys p q = q
Takes-trans None (Some b) c xs ys p q = cc
Takes-trans (Some a) None c xs ys p q = absurd p
Takes-trans (Some a) (Some b) None xs ys p q = absurd q
Takes-trans (Some a) (Some b) (Some c) xs ys p q = p ∙ ap (λ l. xs ++ l) q ∙ sym (append_assoc xs ys c)

-- ---- a sink

pub followed_by-nil : (told : Option (List ℕ)) → followed_by told [] ≡ told
followed_by-nil None = refl
followed_by-nil (Some xs) = ap Some (append-nil xs)

pub followed_by-append : (told : Option (List ℕ)) (xs ys : List ℕ) → followed_by (followed_by told xs) ys ≡ followed_by told (xs ++ ys)
followed_by-append None xs ys = refl
followed_by-append (Some told) xs ys = ap Some (append_assoc told xs ys)

pub Appends-nil : (told : Option (List ℕ)) → Appends told told []
Appends-nil told = sym (followed_by-nil told)

pub Appends-trans : (a b c : Option (List ℕ)) (xs ys : List ℕ) → Appends a b xs → Appends b c ys → Appends a c (xs ++ ys)
Appends-trans a b c xs ys p q = q ∙ ap (λ t. followed_by t ys) p ∙ followed_by-append a xs ys

-- nothing was taken
pub AppendsFront-none : (told : Option (List ℕ)) (bytes : List ℕ) → AppendsFront told told bytes
AppendsFront-none told bytes = (0, Appends-nil told)

-- all was taken
pub AppendsFront-all : (a b : Option (List ℕ)) (bytes : List ℕ) → Appends a b bytes → AppendsFront a b bytes
AppendsFront-all a b bytes p = (length bytes, rw take-length p)

-- a front of the first text is a front of both
pub AppendsFront-first : (a b : Option (List ℕ)) (xs ys : List ℕ) → AppendsFront a b xs → AppendsFront a b (xs ++ ys)
AppendsFront-first a b xs ys (n, p) =
    let parts : xs ++ ys ≡ take n xs ++ (drop n xs ++ ys) =
    ap (λ l. l ++ ys) (sym (take-append-drop n xs)) ∙ append_assoc (take n xs) (drop n xs) ys in
    let front : take (length (take n xs)) (xs ++ ys) ≡ take n xs =
    ap (take (length (take n xs))) parts ∙ take-append_seam (take n xs) (drop n xs ++ ys) in
    (length (take n xs), rw front p)

-- the first text was taken, and a front of the second
pub AppendsFront-second : (a b c : Option (List ℕ)) (xs ys : List ℕ) → Appends a b xs → AppendsFront b c ys → AppendsFront a c (xs ++ ys)
AppendsFront-second a b c xs ys p (n, q) =
    (length xs + n, rw (take-append-add xs ys n) (Appends-trans a b c xs (take n ys) p q))

-- the first bytes were taken, and then some of the rest
pub Appends-more : (a b c : Option (List ℕ)) (bytes : List ℕ) (at n : ℕ) → Appends a b (take at bytes)
    → Appends b c (take n (take (length bytes - at) (drop at bytes))) → Appends a c (take (at + n) bytes)
Appends-more a b c bytes at n p q =
    rw (take-add at n bytes) (Appends-trans a b c (take at bytes) (take n (drop at bytes)) p (rw (take_rest bytes at) at q))
