-- The workers of the claims that pass.
use Rattle.std.proofs.Common.{◌≡◌, ◌≢◌, ℕ, zero, suc, ◌+◌, ◌<◌, ◌==◌, ◌⊎◌, ◌↔◌, Bool, true, false, Option, eqb-true, eq-eqb, List, [], ◌∷◌, ◌++◌, length}
use Rattle.std.proofs.Common.{get_or, take, refl, sym, ap, ◌∙◌, subst, inl, inr, ⊎_elim, arith}
use Rattle.std.specs.List.{AllPairs, Contains}
use Rattle.std.proofs.lemmas.List.Elements.{Contains-get_or}
use Rattle.std.specs.Prelude.{IsTrue}
use Rattle.std.specs.Ordering.{nat_cmp}
use Rattle.std.proofs.lemmas.Bool.{both_ways, cases_Bool, ne_eqb}
use Rattle.std.proofs.lemmas.Bool.Decides.{Decides-eqb}
use Rattle.std.specs.List.Sorted.{IsPermutation, IsSorted, IsStrictlyIncreasing}
use Rattle.std.proofs.lemmas.List.{take_more}
use Rattle.std.proofs.lemmas.List.Kept.{AllPairs-cons}
use Rattle.std.proofs.lemmas.List.Sorted.{IsNonDecreasingBy-from_sort, Contains-permutation, IsPermutation-sym}
use Rattle.std.proofs.lemmas.Map.Keys.{IsDistinct-IsPermutation, IsStrictlyIncreasing-from_distinct}
use Rattle.std.proofs.lemmas.Map.Made.{IsDistinct-from_AllPairs}
use Rattle.bf_search.specs.declared.farm.Claim.{Claim}
use Rattle.bf_search.specs.declared.outcomes.Outcome.{Outcome}
use Rattle.bf_search.specs.Outcomes.{outcomes_of_table}
use Rattle.bf_search.specs.State.{Asked}
use Rattle.bf_spec.specs.Tree.{Guesses}
use Rattle.bf_spec.specs.Ways.{IsAsked}
use Rattle.bf_core.specs.Claims.{IsApart, IsSameTree, IsIdle, IsIdleWorker}

-- these are the workers of the claims that pass, in order
abbrev pub Picked : (Claim → Type 0) → List Claim → List ℕ → Type 0
Picked P [] ws = ws ≡ []
Picked P (c ∷ cs) ws = ((rest : List ℕ) × P c × (ws ≡ c.worker ∷ rest) × Picked P cs rest) ⊎ ((P c → ⊥) × Picked P cs ws)

-- a worker of some claim that passes
pub record Passes (P : Claim → Type 0) (cs : List Claim) (w : ℕ) : Type 0 where
  pub claim : Claim
  pub among : Contains cs claim
  pub by : claim.worker ≡ w
  pub passes : P claim

later : (P : Claim → Type 0) (c : Claim) (cs : List Claim) (w : ℕ) → Passes P cs w → Passes P (c ∷ cs) w
later P c cs w h = record { claim = h.claim; among = (suc h.among.0, let l = h.among.1 in omega arith, h.among.2); by = h.by; passes = h.passes }

-- one more claim, which passes
pub picked_yes : (P : Claim → Type 0) (cs : List Claim) (ws : List ℕ) (c : Claim) → P c → Picked P cs ws → Picked P (cs ++ c ∷ []) (ws ++ c.worker ∷ [])
picked_yes P [] ws c p h = inl ([], p, ap (λ (xs : List ℕ). xs ++ c.worker ∷ []) h, refl)
picked_yes P (d ∷ cs) ws c p (inl (rest, q, e, h)) = inl (rest ++ c.worker ∷ [], q, ap (λ (xs : List ℕ). xs ++ c.worker ∷ []) e, picked_yes P cs rest c p h)
picked_yes P (d ∷ cs) ws c p (inr (q, h)) = inr (q, picked_yes P cs ws c p h)

-- one more claim, which does not pass
pub picked_no : (P : Claim → Type 0) (cs : List Claim) (ws : List ℕ) (c : Claim) → (P c → ⊥) → Picked P cs ws → Picked P (cs ++ c ∷ []) ws
picked_no P [] ws c p h = inr (p, h)
picked_no P (d ∷ cs) ws c p (inl (rest, q, e, h)) = inl (rest, q, e, picked_no P cs rest c p h)
picked_no P (d ∷ cs) ws c p (inr (q, h)) = inr (q, picked_no P cs ws c p h)

first_or_later : (P : Claim → Type 0) (d : Claim) (cs : List Claim) (rest : List ℕ) (w : ℕ) → P d → (Contains rest w → Passes P cs w)
    → Contains (d.worker ∷ rest) w → Passes P (d ∷ cs) w
first_or_later P d cs rest w q h (zero, l, is) = record { claim = d; among = (0, omega arith, refl); by = is; passes = q }
first_or_later P d cs rest w q h (suc k, l, is) = later P d cs w (h (k, omega arith, is))

-- each of them is a worker of a claim that passes
pub picked_passes : (P : Claim → Type 0) (cs : List Claim) (ws : List ℕ) (w : ℕ) → Picked P cs ws → Contains ws w → Passes P cs w
picked_passes P [] ws w h c = let here : Contains [] w = subst (λ (xs : List ℕ). Contains xs w) h c in absurd (omega (arith, here.1))
picked_passes P (d ∷ cs) ws w (inl (rest, q, e, h)) c = first_or_later P d cs rest w q (λ k. picked_passes P cs rest w h k)
    (subst (λ (xs : List ℕ). Contains xs w) e c)
picked_passes P (d ∷ cs) ws w (inr (q, h)) c = later P d cs w (picked_passes P cs ws w h c)

-- each worker of a claim that passes is one of them
pub passes_picked : (P : Claim → Type 0) (cs : List Claim) (ws : List ℕ) (c : Claim) → Picked P cs ws → Contains cs c → P c → Contains ws c.worker
passes_picked P [] ws c h among p = absurd (omega (arith, among.1))
passes_picked P (d ∷ cs) ws c (inl (rest, q, e, h)) (zero, l, is) p =
    subst (λ (xs : List ℕ). Contains xs c.worker) (sym e) (0, omega arith, ap (λ (x : Claim). x.worker) is)
passes_picked P (d ∷ cs) ws c (inl (rest, q, e, h)) (suc k, l, is) p =
    let there : Contains rest c.worker = passes_picked P cs rest c h (k, omega arith, is) p in
    subst (λ (xs : List ℕ). Contains xs c.worker) (sym e) (suc there.0, let m = there.1 in omega arith, there.2)
passes_picked P (d ∷ cs) ws c (inr (q, h)) (zero, l, is) p = absurd (q (subst P (sym is) p))
passes_picked P (d ∷ cs) ws c (inr (q, h)) (suc k, l, is) p = passes_picked P cs ws c h (k, omega arith, is) p

apart_tail : (c : Claim) (cs : List Claim) → IsApart (c ∷ cs) → IsApart cs
apart_tail c cs h = λ i j d l m. h (suc i) (suc j) d (omega arith) (omega arith)

-- where no worker has two claims, none is listed twice
pub picked_apart : (P : Claim → Type 0) (cs : List Claim) (ws : List ℕ) → Picked P cs ws → IsApart cs → AllPairs (λ v w. v ≢ w) ws
picked_apart P [] ws h apart = subst (λ (xs : List ℕ). AllPairs (λ v w. v ≢ w) xs) (sym h) (λ i j d l m. absurd (omega arith))
picked_apart P (d ∷ cs) ws (inl (rest, q, e, h)) apart =
    subst (λ (xs : List ℕ). AllPairs (λ v w. v ≢ w) xs) (sym e)
    (AllPairs-cons (λ v w. v ≢ w) d.worker rest (λ k x l. other k x l) (picked_apart P cs rest h (apart_tail d cs apart)))
  where
    other : (k x : ℕ) → k < length rest → d.worker ≢ get_or rest k x
    other k x l same =
        let one : Passes P cs (get_or rest k x) = picked_passes P cs rest (get_or rest k x) h (Contains-get_or rest k x l) in
        let i = one.among in
        let far = apart 0 (suc i.0) one.claim (omega arith) (let b = i.1 in omega arith) in
        far.0 (same ∙ sym one.by ∙ ap (λ (c : Claim). c.worker) (sym i.2))
picked_apart P (d ∷ cs) ws (inr (q, h)) apart = picked_apart P cs ws h (apart_tail d cs apart)

-- the step of a loop over the claims
pub more_yes : (P : Claim → Type 0) (cs : List Claim) (i : ℕ) (d : Claim) (ws : List ℕ) → i < length cs → P (get_or cs i d) → Picked P (take i cs) ws
    → Picked P (take (i + 1) cs) (ws ++ (get_or cs i d).worker ∷ [])
more_yes P cs i d ws l p h = subst (λ (xs : List Claim). Picked P xs (ws ++ (get_or cs i d).worker ∷ [])) (sym (take_more cs i d l))
    (picked_yes P (take i cs) ws (get_or cs i d) p h)

pub more_no : (P : Claim → Type 0) (cs : List Claim) (i : ℕ) (d : Claim) (ws : List ℕ) → i < length cs → (P (get_or cs i d) → ⊥) → Picked P (take i cs) ws
    → Picked P (take (i + 1) cs) ws
more_no P cs i d ws l p h = subst (λ (xs : List Claim). Picked P xs ws) (sym (take_more cs i d l)) (picked_no P (take i cs) ws (get_or cs i d) p h)

-- ---- the workers in order

flips : (x y : ℕ) → (x == y) ≡ (y == x)
flips x y =
    ⊎_elim
    (λ same. subst (λ (z : ℕ). (x == z) ≡ (z == x)) (eqb-true x y same) refl)
    (λ apart. apart ∙ sym (ne_eqb y x (λ e. both_ways (x == y) apart (eq-eqb x y (sym e)))))
    (cases_Bool (x == y))

pub rising : (P : Claim → Type 0) (cs : List Claim) (ws sorted : List ℕ) → IsApart cs → Picked P cs ws → IsPermutation ws sorted → IsSorted nat_cmp sorted
    → IsStrictlyIncreasing sorted
rising P cs ws sorted apart h moved order =
    IsStrictlyIncreasing-from_distinct sorted (IsNonDecreasingBy-from_sort (λ x. x) sorted order)
    (IsDistinct-IsPermutation (λ x y. x == y) flips ws sorted moved (IsDistinct-from_AllPairs Decides-eqb ws (picked_apart P cs ws h apart)))

-- ---- the step of the loop

idle_along : (tree now : Guesses) (table : List (Option Outcome)) (ended : Bool) (p : ℕ) → IsSameTree tree now
    → IsIdle now table ended p ↔ IsIdle tree table ended p
idle_along tree now table true p same = (λ h. tt, λ h. tt)
idle_along tree now table false p same = (
  λ h asked. h (subst (λ (g : List (List ℕ)). IsAsked g (outcomes_of_table table) now.root.search p) (sym same.graph)
      (subst (λ (a : Asked). IsAsked tree.graph (outcomes_of_table table) a.search p) (sym same.root) asked)),
  λ h asked. h (subst (λ (a : Asked). IsAsked tree.graph (outcomes_of_table table) a.search p) same.root
      (subst (λ (g : List (List ℕ)). IsAsked g (outcomes_of_table table) now.root.search p) same.graph asked)),
)

module _ (tree now : Guesses) (table : List (Option Outcome)) (ended : Bool) (claims : List Claim) (i : ℕ) (d : Claim) (ws : List ℕ) (l : i < length claims)
    (same : IsSameTree tree now) where
  abbrev Idle : Claim → Type 0
  Idle c = IsIdle tree table ended c.place

  pub idle_more : (b : Bool) (new : List ℕ) → b ≡ true → (IsTrue b ↔ IsIdle now table ended (get_or claims i d).place)
      → new ≡ ws ++ (get_or claims i d).worker ∷ [] → Picked Idle (take i claims) ws → Picked Idle (take (i + 1) claims) new
  idle_more b new passes told is h =
      subst (λ (xs : List ℕ). Picked Idle (take (i + 1) claims) xs) (sym is)
      (more_yes Idle claims i d ws l ((idle_along tree now table ended (get_or claims i d).place same).0 (told.0 (subst IsTrue (sym passes) refl))) h)

  pub asked_more : (b : Bool) (new : List ℕ) → b ≡ false → (IsTrue b ↔ IsIdle now table ended (get_or claims i d).place) → new ≡ ws
      → Picked Idle (take i claims) ws → Picked Idle (take (i + 1) claims) new
  asked_more b new fails told is h =
      subst (λ (xs : List ℕ). Picked Idle (take (i + 1) claims) xs) (sym is)
      (more_no Idle claims i d ws l (λ idle. both_ways b fails (told.1 ((idle_along tree now table ended (get_or claims i d).place same).1 idle))) h)

-- who is listed
pub listed : (tree : Guesses) (table : List (Option Outcome)) (ended : Bool) (claims : List Claim) (ws sorted : List ℕ) (w : ℕ)
    → Picked (λ c. IsIdle tree table ended c.place) claims ws → IsPermutation ws sorted
    → Contains sorted w ↔ IsIdleWorker tree table ended claims w
listed tree table ended claims ws sorted w h moved = (
  λ k. let p = picked_passes (λ c. IsIdle tree table ended c.place) claims ws w h (Contains-permutation sorted ws w (IsPermutation-sym ws sorted moved) k) in
      record { claim = p.claim; among = p.among; by = p.by; idle = p.passes },
  λ k. Contains-permutation ws sorted w moved (subst (λ (x : ℕ). Contains ws x) k.by
      (passes_picked (λ c. IsIdle tree table ended c.place) claims ws k.claim h k.among k.idle)),
)

-- nodes play no part in it
pub idle_worker_along : (tree now : Guesses) (table : List (Option Outcome)) (ended : Bool) (claims : List Claim) (w : ℕ) → IsSameTree tree now
    → IsIdleWorker tree table ended claims w ↔ IsIdleWorker now table ended claims w
idle_worker_along tree now table ended claims w same = (
  λ h. record { claim = h.claim; among = h.among; by = h.by; idle = (idle_along tree now table ended h.claim.place same).1 h.idle },
  λ h. record { claim = h.claim; among = h.among; by = h.by; idle = (idle_along tree now table ended h.claim.place same).0 h.idle },
)
