-- Claims that stand in one of several searches.
use Rattle.std.proofs.Common.{◌≡◌, ℕ, Bool, true, false, ◌&&◌, ◌||◌, ◌==◌, List, [], ◌∷◌, get_or, set, Option, Some, None, refl, ap, subst, ◌∙◌, eq-eqb}
use Rattle.std.proofs.lemmas.Option.{get_or_from_slice_get}
use Rattle.std.specs.List.{slice_get}
use Rattle.std.specs.Option.{option_map_or}
use Rattle.bf_search.specs.declared.farm.Claim.{Claim}
use Rattle.bf_search.specs.Farm.{stands}
use Rattle.bf_core.specs.Machine.{Machine, AreWithdrawn, IsSameButNodes}
use Rattle.bf_many.specs.Cores.{AreSameButNodes, AreWithdrawnIn, ChangesOne, is_claimed}
use Rattle.bf_many.proofs.Lists.{get_replaced}
use Rattle.bf_many.proofs.Apart.{same_of}
use Rattle.bf_many.proofs.Stepping.{all_same, same_one_more}

-- the core of a search in which a claim stands
pub record IsClaimedAt (cores : List Machine) (k worker p : ℕ) : Type 0 where
  pub core : Machine
  pub at : slice_get cores k ≡ Some core
  pub stands : stands core.claims worker p ≡ true

claimed_in : (cores : List Machine) (k worker p : ℕ) (o : Option Machine) → slice_get cores k ≡ o
    → option_map_or (λ (core : Machine). stands core.claims worker p) o false ≡ true → IsClaimedAt cores k worker p
claimed_in cores k worker p None at h = cc h
claimed_in cores k worker p (Some core) at h = record { core = core; at = at; stands = h }

pub claimed_at : (cores : List Machine) (k worker p : ℕ) → is_claimed cores k worker p ≡ true → IsClaimedAt cores k worker p
claimed_at cores k worker p h = claimed_in cores k worker p (slice_get cores k) refl h

-- ---- a core that has changed

pub withdrawn_at : (cores : List Machine) (k : ℕ) (m n : Machine) (workers : List ℕ) → slice_get cores k ≡ Some m → AreWithdrawn n workers
    → AreWithdrawnIn (set cores k n) k workers
withdrawn_at cores k m n workers was are = λ core at.
    subst (λ (x : Machine). AreWithdrawn x workers) (same_of (slice_get (set cores k n) k) n core (get_replaced cores m n k was) at) are

pub same_at : (cores : List Machine) (k : ℕ) (core m n : Machine) → slice_get cores k ≡ Some core → m ≡ get_or cores k m → IsSameButNodes m n
    → AreSameButNodes cores (set cores k n)
same_at cores k core m n was read same =
    same_one_more cores cores k core n (all_same cores) was
    (subst (λ (x : Machine). IsSameButNodes x n) (read ∙ get_or_from_slice_get cores k core m was) same)

-- the core has changed so, and no other
pub changed_at : (So : Machine → Machine → Type 0) (cores : List Machine) (k : ℕ) (core m n : Machine) → slice_get cores k ≡ Some core
    → m ≡ get_or cores k m → So m n → ChangesOne So cores k (set cores k n)
changed_at So cores k core m n was read so = record {
  before = core;
  after = n;
  at = was;
  so = subst (λ (x : Machine). So x n) (read ∙ get_or_from_slice_get cores k core m was) so;
  rest = refl;
}

-- ---- a core in which a claim stands

pub withdrawn_in : (cores : List Machine) (k worker p : ℕ) (n : Machine) (workers : List ℕ) → is_claimed cores k worker p ≡ true
    → AreWithdrawn n workers → AreWithdrawnIn (set cores k n) k workers
withdrawn_in cores k worker p n workers h are =
    let was = claimed_at cores k worker p h in
    withdrawn_at cores k was.core n workers was.at are

pub same_claimed : (cores : List Machine) (k worker p : ℕ) (m n : Machine) → is_claimed cores k worker p ≡ true → m ≡ get_or cores k m
    → IsSameButNodes m n → AreSameButNodes cores (set cores k n)
same_claimed cores k worker p m n h read same =
    let was = claimed_at cores k worker p h in
    same_at cores k was.core m n was.at read same

pub changed_claimed : (So : Machine → Machine → Type 0) (cores : List Machine) (k worker p : ℕ) (m n : Machine) → is_claimed cores k worker p ≡ true
    → m ≡ get_or cores k m → So m n → ChangesOne So cores k (set cores k n)
changed_claimed So cores k worker p m n h read so =
    let was = claimed_at cores k worker p h in
    changed_at So cores k was.core m n was.at read so

-- ---- the first claim

first_stands : (claims : List Claim) (c : Claim) → slice_get claims 0 ≡ Some c → stands claims c.worker c.place ≡ true
first_stands [] c h = cc h
first_stands (d ∷ claims) c h = subst (λ (x : Claim). (((d.worker == x.worker) && (d.place == x.place)) || stands claims x.worker x.place) ≡ true) (here d c h)
    (both (d.worker == d.worker) (d.place == d.place) (stands claims d.worker d.place) (eq-eqb d.worker d.worker refl) (eq-eqb d.place d.place refl))
  where
    here : (d c : Claim) → Some d ≡ Some c → d ≡ c
    here d c e = cc e

    both : (a b r : Bool) → a ≡ true → b ≡ true → ((a && b) || r) ≡ true
    both true true r h k = refl
    both true false r h k = cc k
    both false b r h k = cc h

pub first_claimed : (cores : List Machine) (k : ℕ) (core : Machine) (c : Claim) → slice_get cores k ≡ Some core → slice_get core.claims 0 ≡ Some c
    → is_claimed cores k c.worker c.place ≡ true
first_claimed cores k core c at first =
    ap (λ (o : Option Machine). option_map_or (λ (m : Machine). stands m.claims c.worker c.place) o false) at ∙ first_stands core.claims c first

pub none_first : (claims : List Claim) → slice_get claims 0 ≡ None → claims ≡ []
none_first [] h = refl
none_first (c ∷ claims) h = cc h
