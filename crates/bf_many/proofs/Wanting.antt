-- The searches that want an outcome, one after another.
use Rattle.std.proofs.Common.{◌≡◌, ◌↔◌, ◌⊎◌, ℕ, zero, suc, ◌+◌, ◌<◌, ◌≤◌, List, [], ◌∷◌, ◌++◌, get_or, length, Some, refl, sym, subst, ⊎_elim, arith}
use Rattle.std.specs.List.{Contains, slice_get}
use Rattle.std.specs.List.Sorted.{IsStrictlyIncreasing}
use Rattle.std.proofs.lemmas.List.{length_push, get_or_append_left, get_or_default}
use Rattle.std.proofs.lemmas.List.Elements.{Contains-append_left, Contains-append_cases, Contains-push}
use Rattle.std.proofs.Math.Seq.{get_or-append_seam}
use Rattle.bf_core.specs.Machine.{Machine, IsSameButNodes, WantsOutcome}
use Rattle.bf_many.specs.Cores.{AreSameButNodes, AreWanting, WantsIn}
use Rattle.bf_many.proofs.Apart.{same_of}

-- these are the wanting ones of the first i searches, ascending
pub record AreFound (cores : List Machine) (p i : ℕ) (ks : List ℕ) : Type 0 where
  pub rising : IsStrictlyIncreasing ks
  pub each : (k : ℕ) → Contains ks k ↔ ((k < i) × WantsIn cores p k)

pub none_found : (cores : List Machine) (p : ℕ) → AreFound cores p 0 []
none_found cores p = record {
  rising = λ k l. absurd (omega (arith, l));
  each = λ k. (λ c. absurd (let l = c.1 in omega (arith, l)), λ h. absurd (let l = h.0 in omega (arith, l)));
}

-- ---- one search more

below_or_here : (k i : ℕ) → k < i + 1 → (k < i) ⊎ (k ≡ i)
below_or_here k i l = grind arith

only_one : (x k : ℕ) → Contains (x ∷ []) k → k ≡ x
only_one x k (zero, l, e) = sym e
only_one x k (suc n, l, e) = absurd (omega (arith, l))

-- one that does not want it
pub passed_by : (cores : List Machine) (p i : ℕ) (ks : List ℕ) → ¬ WantsIn cores p i → AreFound cores p i ks → AreFound cores p (i + 1) ks
passed_by cores p i ks not so_far = record {
  rising = so_far.rising;
  each = λ k. (
    λ c. let h = (so_far.each k).0 c in let l = h.0 in (omega (arith, l), h.1),
    λ h. ⊎_elim
        (λ (l : k < i). (so_far.each k).1 (l, h.1))
        (λ (e : k ≡ i). absurd (not (subst (λ (n : ℕ). WantsIn cores p n) e h.1)))
        (below_or_here k i h.0),
  );
}

-- an element below all that follow
rises_on : (ks : List ℕ) (i : ℕ) → IsStrictlyIncreasing ks → ((k : ℕ) → Contains ks k → k < i) → IsStrictlyIncreasing (ks ++ i ∷ [])
rises_on ks i rising below = λ k l.
    let long = length_push ks i in
    ⊎_elim
    (λ (within : k + 1 < length ks).
    let first = get_or_append_left ks (i ∷ []) 0 k (omega (arith, within)) in
    let second = get_or_append_left ks (i ∷ []) 0 (k + 1) within in
    let up = rising k within in
    omega (arith, first, second, up))
    (λ (last : k + 1 ≡ length ks).
    let here : k < length ks = omega (arith, last) in
    let first = get_or_append_left ks (i ∷ []) 0 k here in
    let second : get_or (ks ++ i ∷ []) (k + 1) 0 ≡ i = subst (λ (n : ℕ). get_or (ks ++ i ∷ []) n 0 ≡ i) (sym last) (get_or-append_seam ks i [] 0) in
    let under : get_or ks k 0 < i = below (get_or ks k 0) (k, here, get_or_default ks k (get_or ks k 0) 0 here) in
    omega (arith, first, second, under))
    (below_or_here (k + 1) (length ks) (omega (arith, l, long)))

-- one that wants it
pub found_one : (cores : List Machine) (p i : ℕ) (ks : List ℕ) → WantsIn cores p i → AreFound cores p i ks → AreFound cores p (i + 1) (ks ++ i ∷ [])
found_one cores p i ks wants so_far = record {
  rising = rises_on ks i so_far.rising (λ k c. ((so_far.each k).0 c).0);
  each = λ k. (
    λ c. ⊎_elim
        (λ (before : Contains ks k). let h = (so_far.each k).0 before in let l = h.0 in (omega (arith, l), h.1))
        (λ (last : Contains (i ∷ []) k). let e = only_one i k last in (omega (arith, e), subst (λ (n : ℕ). WantsIn cores p n) (sym e) wants))
        (Contains-append_cases ks (i ∷ []) k c),
    λ h. ⊎_elim
        (λ (l : k < i). Contains-append_left ks (i ∷ []) k ((so_far.each k).1 (l, h.1)))
        (λ (e : k ≡ i). subst (λ (n : ℕ). Contains (ks ++ i ∷ []) n) (sym e) (Contains-push ks i))
        (below_or_here k i h.0),
  );
}

get_within : {X : Type 0} (xs : List X) (k : ℕ) (x : X) → slice_get xs k ≡ Some x → k < length xs
get_within [] k x h = cc h
get_within (y ∷ xs) zero x h = omega arith
get_within (y ∷ xs) (suc k) x h = let l = get_within xs k x h in omega (arith, l)

-- all of them
pub all_found : (cores : List Machine) (p i : ℕ) (ks : List ℕ) → length cores ≤ i → AreFound cores p i ks → AreWanting cores p ks
all_found cores p i ks end found = λ k. (
  λ c. ((found.each k).0 c).1,
  λ w. let l = get_within cores k w.core w.at in (found.each k).1 (omega (arith, l, end), w),
)

-- ---- what a core with more nodes says

-- nodes play no part in it
wants_same : (m n : Machine) (p : ℕ) → IsSameButNodes m n → WantsOutcome n p → WantsOutcome m p
wants_same m n p same h =
    let k : WantsOutcome (record m { paths = n.paths }) p = subst (λ (x : Machine). WantsOutcome x p) same.same h in
    record { unknown = k.unknown; wanted = record { goes_on = k.wanted.goes_on; asked = k.wanted.asked } }

same_wants : (m n : Machine) (p : ℕ) → IsSameButNodes m n → WantsOutcome m p → WantsOutcome n p
same_wants m n p same h =
    let k : WantsOutcome (record m { paths = n.paths }) p
    = record { unknown = h.unknown; wanted = record { goes_on = h.wanted.goes_on; asked = h.wanted.asked } } in
    subst (λ (x : Machine). WantsOutcome x p) (sym same.same) k

-- the same search, before nodes were added
pub record IsOnceAt (cores : List Machine) (i : ℕ) (n : Machine) : Type 0 where
  pub core : Machine
  pub at : slice_get cores i ≡ Some core
  pub same : IsSameButNodes core n

pub once_at : (cores now : List Machine) (i : ℕ) (d : Machine) → AreSameButNodes cores now → i < length now → IsOnceAt cores i (get_or now i d)
once_at [] [] i d same l = absurd (omega (arith, l))
once_at [] (n ∷ now) i d same l = absurd same
once_at (m ∷ cores) [] i d same l = absurd same
once_at (m ∷ cores) (n ∷ now) zero d same l = record { core = m; at = refl; same = same.0 }
once_at (m ∷ cores) (n ∷ now) (suc i) d same l =
    let rest = once_at cores now i d same.1 (omega (arith, l)) in
    record { core = rest.core; at = rest.at; same = rest.same }

pub wants_here : (cores : List Machine) (p i : ℕ) (n : Machine) → IsOnceAt cores i n → WantsOutcome n p → WantsIn cores p i
wants_here cores p i n once h = record { core = once.core; at = once.at; wants = wants_same once.core n p once.same h }

pub wants_then : (cores : List Machine) (p i : ℕ) (n : Machine) → IsOnceAt cores i n → WantsIn cores p i → WantsOutcome n p
wants_then cores p i n once h =
    same_wants once.core n p once.same
    (subst (λ (x : Machine). WantsOutcome x p) (same_of (slice_get cores i) h.core once.core h.at once.at) h.wants)
