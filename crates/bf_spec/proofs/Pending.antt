-- The best of what was found so far and of what is still to be visited.
use Rattle.std.proofs.Common.{◌≡◌, ℕ, zero, suc, ◌+◌, ◌<◌, ◌≤◌, ◌⊎◌, Bool, true, false, ◌&&◌, ◌||◌, ◌==◌, cond, List, [], ◌∷◌, ◌++◌, length, get_or, Option, Some, None, refl, sym, ap, ◌∙◌, subst}
use Rattle.std.proofs.Common.{⊎_elim, inl, inr, arith, eqb-true, eq-eqb}
use Rattle.std.proofs.lemmas.Bool.{cases_Bool, both_ways, ltb-true, ltb-false, lt-ltb, le-ltb}
use Rattle.std.specs.Prelude.{nat_lt}
use Rattle.bf_search.specs.Outcomes.{Outcomes}
use Rattle.bf_search.specs.declared.farm.Claim.{Claim}
use Rattle.bf_search.specs.OpenPaths.{OpenPath}
use Rattle.bf_spec.specs.declared.node.Node.{Node}
use Rattle.bf_spec.specs.declared.walk.Found.{Found}
use Rattle.bf_spec.specs.declared.walk.Visit.{Visit}
use Rattle.bf_spec.specs.declared.walk.Visit.TheVariants.{Leaf, Fork}
use Rattle.bf_spec.specs.Nodes.{Extends, left_at, best_at, IsFound, VisitsFrom, wins, better_found, path_wins, better_path}
use Rattle.bf_spec.proofs.Growing.{extends_at, extends_length}
use Rattle.bf_spec.proofs.Walking.{found_kept, first_of, left_at-extends}

-- ---- the better one of three

-- more candidates are left, or as many on a shorter path
abbrev Beats : OpenPath → OpenPath → Type 0
Beats b a = (a.left < b.left) ⊎ ((b.left ≡ a.left) × (length b.marks < length a.marks))

abbrev BeatsNot : OpenPath → OpenPath → Type 0
BeatsNot b a = (b.left < a.left) ⊎ ((b.left ≡ a.left) × (length a.marks ≤ length b.marks))

or_same : (x y z : Bool) → x ≡ false → y ≡ true → (x || (y && z)) ≡ z
or_same true y z e f = absurd (both_ways true e refl)
or_same false true z e f = refl
or_same false false z e f = absurd (both_ways false refl f)

or_none : (x y z : Bool) → x ≡ false → y ≡ false → (x || (y && z)) ≡ false
or_none true y z e f = absurd (both_ways true e refl)
or_none false true z e f = absurd (both_ways true f refl)
or_none false false z e f = refl

or_first : (x y z : Bool) → x ≡ true → (x || (y && z)) ≡ true
or_first true y z e = refl
or_first false y z e = absurd (both_ways false refl e)

differ : (a b : ℕ) → (a ≡ b → ⊥) → (a == b) ≡ false
differ a b n = ⊎_elim (λ yes. absurd (n (eqb-true a b yes))) (λ no_. no_) (cases_Bool (a == b))

wins_true : (b a : OpenPath) → Beats b a → path_wins b a ≡ true
wins_true b a (inl more) = or_first (nat_lt a.left b.left) (b.left == a.left) (nat_lt (length b.marks) (length a.marks)) (lt-ltb a.left b.left more)
wins_true b a (inr same) =
    or_same (nat_lt a.left b.left) (b.left == a.left) (nat_lt (length b.marks) (length a.marks)) (le-ltb a.left b.left (omega (arith, same.0))) (eq-eqb b.left a.left same.0) ∙ lt-ltb (length b.marks) (length a.marks) same.1

wins_false : (b a : OpenPath) → BeatsNot b a → path_wins b a ≡ false
wins_false b a (inl fewer) = or_none (nat_lt a.left b.left) (b.left == a.left) (nat_lt (length b.marks) (length a.marks)) (le-ltb a.left b.left (omega (arith, fewer))) (differ b.left a.left (λ e. omega (arith, fewer, e)))
wins_false b a (inr same) =
    or_same (nat_lt a.left b.left) (b.left == a.left) (nat_lt (length b.marks) (length a.marks)) (le-ltb a.left b.left (omega (arith, same.0))) (eq-eqb b.left a.left same.0)
    ∙ le-ltb (length b.marks) (length a.marks) same.1

-- one of the two holds
compare : (b a : OpenPath) → Beats b a ⊎ BeatsNot b a
compare b a =
    ⊎_elim
    (λ more. inl (inl (ltb-true a.left b.left more)))
    (λ most. ⊎_elim
    (λ same. ⊎_elim
    (λ shorter. inl (inr (eqb-true b.left a.left same, ltb-true (length b.marks) (length a.marks) shorter)))
    (λ longer. inr (inr (eqb-true b.left a.left same, ltb-false (length b.marks) (length a.marks) longer)))
    (cases_Bool (nat_lt (length b.marks) (length a.marks))))
    (λ other. inr (inl (fewer (ltb-false a.left b.left most) (λ e. both_ways _ other (eq-eqb b.left a.left e)))))
    (cases_Bool (b.left == a.left)))
    (cases_Bool (nat_lt a.left b.left))
  where
    fewer : b.left ≤ a.left → (b.left ≡ a.left → ⊥) → b.left < a.left
    fewer l n = ⊎_elim (λ yes. ltb-true b.left a.left yes) (λ no_. absurd (n (equal (ltb-false b.left a.left no_) l))) (cases_Bool (nat_lt b.left a.left))
      where
        equal : a.left ≤ b.left → b.left ≤ a.left → b.left ≡ a.left
        equal h k = omega (arith, h, k)

beats_trans : (a b c : OpenPath) → Beats b a → Beats c b → Beats c a
beats_trans a b c (inl h) (inl k) = inl (omega (arith, h, k))
beats_trans a b c (inl h) (inr k) = inl (let e = k.0 in omega (arith, h, e))
beats_trans a b c (inr h) (inl k) = inl (let e = h.0 in omega (arith, e, k))
beats_trans a b c (inr h) (inr k) = inr (k.0 ∙ h.0, let x = h.1 in let y = k.1 in omega (arith, x, y))

beats_not_trans : (a b c : OpenPath) → BeatsNot b a → BeatsNot c b → BeatsNot c a
beats_not_trans a b c (inl h) (inl k) = inl (omega (arith, h, k))
beats_not_trans a b c (inl h) (inr k) = inl (let e = k.0 in omega (arith, h, e))
beats_not_trans a b c (inr h) (inl k) = inl (let e = h.0 in omega (arith, e, k))
beats_not_trans a b c (inr h) (inr k) = inr (k.0 ∙ h.0, let x = h.1 in let y = k.1 in omega (arith, x, y))

takes_other : (a b : OpenPath) → Beats b a → better_path (Some a) (Some b) ≡ Some b
takes_other a b h = ap (λ (v : Bool). cond v (Some b) (Some a)) (wins_true b a h)

keeps_one : (a b : OpenPath) → BeatsNot b a → better_path (Some a) (Some b) ≡ Some a
keeps_one a b h = ap (λ (v : Bool). cond v (Some b) (Some a)) (wins_false b a h)

pub better_none : (a : Option OpenPath) → better_path a None ≡ a
better_none None = refl
better_none (Some a) = refl

pub better_three : (a b c : Option OpenPath) → better_path (better_path a b) c ≡ better_path a (better_path b c)
better_three None b c = refl
better_three (Some a) None c = refl
better_three (Some a) (Some b) None = better_none (better_path (Some a) (Some b))
better_three (Some a) (Some b) (Some c) = ⊎_elim first second (compare b a)
  where
    first : Beats b a → better_path (better_path (Some a) (Some b)) (Some c) ≡ better_path (Some a) (better_path (Some b) (Some c))
    first h = ⊎_elim
        (λ k. ap (λ (o : Option OpenPath). better_path o (Some c)) (takes_other a b h) ∙ takes_other b c k
        ∙ sym (ap (λ (o : Option OpenPath). better_path (Some a) o) (takes_other b c k) ∙ takes_other a c (beats_trans a b c h k)))
        (λ k. ap (λ (o : Option OpenPath). better_path o (Some c)) (takes_other a b h) ∙ keeps_one b c k
        ∙ sym (ap (λ (o : Option OpenPath). better_path (Some a) o) (keeps_one b c k) ∙ takes_other a b h))
        (compare c b)

    second : BeatsNot b a → better_path (better_path (Some a) (Some b)) (Some c) ≡ better_path (Some a) (better_path (Some b) (Some c))
    second h = ⊎_elim
        (λ k. ap (λ (o : Option OpenPath). better_path o (Some c)) (keeps_one a b h)
        ∙ sym (ap (λ (o : Option OpenPath). better_path (Some a) o) (takes_other b c k)))
        (λ k. ap (λ (o : Option OpenPath). better_path o (Some c)) (keeps_one a b h) ∙ keeps_one a c (beats_not_trans a b c h k)
        ∙ sym (ap (λ (o : Option OpenPath). better_path (Some a) o) (keeps_one b c k) ∙ keeps_one a b h))
        (compare c b)

-- what wins among the found wins among the paths
pub found_both : (nodes : List Node) (one other : Option Found) (a b : Option OpenPath) → IsFound nodes one a → IsFound nodes other b
    → IsFound nodes (better_found one other) (better_path a b)
found_both nodes None other None b h k = k
found_both nodes None other (Some x) b h k = absurd h
found_both nodes (Some f) other None b h k = absurd h
found_both nodes (Some f) None (Some x) None h k = h
found_both nodes (Some f) None (Some x) (Some y) h k = absurd k
found_both nodes (Some f) (Some e) (Some x) None h k = absurd k
found_both nodes (Some f) (Some e) (Some x) (Some y) h k =
    subst (λ (v : Bool). IsFound nodes (cond (wins e f) (Some e) (Some f)) (cond v (Some y) (Some x))) same (by_test (wins e f))
  where
    same : wins e f ≡ path_wins y x
    same =
        ap (λ (n : ℕ). nat_lt n e.left || ((e.left == n) && nat_lt e.depth f.depth)) h.1
        ∙ ap (λ (n : ℕ). nat_lt x.left n || ((n == x.left) && nat_lt e.depth f.depth)) k.1
        ∙ ap (λ (n : ℕ). nat_lt x.left y.left || ((y.left == x.left) && nat_lt n f.depth)) k.2
        ∙ ap (λ (n : ℕ). nat_lt x.left y.left || ((y.left == x.left) && nat_lt (length y.marks) n)) h.2

    by_test : (v : Bool) → IsFound nodes (cond v (Some e) (Some f)) (cond v (Some y) (Some x))
    by_test true = k
    by_test false = h

-- ---- what is still to be visited, the last first

-- each index has a node
abbrev pub AreWithin : List Node → List ℕ → Type 0
AreWithin nodes [] = Unit {0}
AreWithin nodes (i ∷ is) = (i < length nodes) × AreWithin nodes is

module _ (graph : List (List ℕ)) (known : Outcomes) (claims : List Claim) (d : Node) where
  -- the best open path at the node of an index
  abbrev pub best_of : List Node → ℕ → Option OpenPath
  best_of nodes i = best_at graph known claims (get_or nodes i d)

  -- the best one of a path and of those at nodes
  abbrev pub best_with : List Node → Option OpenPath → List ℕ → Option OpenPath
  best_with nodes a [] = a
  best_with nodes a (i ∷ is) = better_path (best_with nodes a is) (best_of nodes i)

  pub best_push : (nodes : List Node) (a : Option OpenPath) (is : List ℕ) (i : ℕ)
      → best_with nodes a (is ++ i ∷ []) ≡ best_with nodes (better_path a (best_of nodes i)) is
  best_push nodes a [] i = refl
  best_push nodes a (j ∷ is) i = ap (λ (o : Option OpenPath). better_path o (best_of nodes j)) (best_push nodes a is i)

  pub best_extends : (one two : List Node) (a : Option OpenPath) (is : List ℕ) → Extends graph one two → AreWithin one is
      → best_with two a is ≡ best_with one a is
  best_extends one two a [] e l = refl
  best_extends one two a (i ∷ is) e l =
      ap (λ (o : Option OpenPath). better_path o (best_of two i)) (best_extends one two a is e l.1)
      ∙ ap (λ (n : Node). better_path (best_with one a is) (best_at graph known claims n)) (extends_at graph one two i d e l.0)

pub within_push : (nodes : List Node) (is : List ℕ) (i : ℕ) → AreWithin nodes is → i < length nodes → AreWithin nodes (is ++ i ∷ [])
within_push nodes [] i h l = (l, tt)
within_push nodes (j ∷ is) i h l = (h.0, within_push nodes is i h.1 l)

pub within_pop : (nodes : List Node) (is : List ℕ) (i : ℕ) → AreWithin nodes (is ++ i ∷ []) → AreWithin nodes is × (i < length nodes)
within_pop nodes [] i h = (tt, h.0)
within_pop nodes (j ∷ is) i h = let rest = within_pop nodes is i h.1 in ((h.0, rest.0), rest.1)

pub within_extends : (graph : List (List ℕ)) (one two : List Node) (is : List ℕ) → Extends graph one two → AreWithin one is → AreWithin two is
within_extends graph one two [] e h = tt
within_extends graph one two (i ∷ is) e h = (extends_length graph one two i e h.0, within_extends graph one two is e h.1)

-- ---- how much is left to visit

-- at most so many nodes are visited where so many places may still be asked
abbrev pub visits : ℕ → ℕ
visits zero = 1
visits (suc n) = suc (visits n + visits n)

abbrev pub visits_of : List (List ℕ) → List Node → List ℕ → ℕ
visits_of graph nodes [] = 0
visits_of graph nodes (i ∷ is) = visits (left_at graph nodes i) + visits_of graph nodes is

pub some_visit : (n : ℕ) → 0 < visits n
some_visit zero = omega arith
some_visit (suc n) = omega arith

-- the visits below both children and of their parent
pub visits_two : (a b n : ℕ) → a < n → b < n → visits a + visits b < visits n
visits_two a b zero h k = absurd (omega (arith, h))
visits_two a b (suc n) h k =
    let one = visits_up a n (omega (arith, h)) in
    let other = visits_up b n (omega (arith, k)) in
    omega (arith, one, other)
  where
    visits_up : (m n : ℕ) → m ≤ n → visits m ≤ visits n
    visits_up zero zero l = omega arith
    visits_up zero (suc n) l = let x = some_visit n in omega (arith, x)
    visits_up (suc m) zero l = absurd (omega (arith, l))
    visits_up (suc m) (suc n) l = let x = visits_up m n (omega (arith, l)) in omega (arith, x)

pub visits_push : (graph : List (List ℕ)) (nodes : List Node) (is : List ℕ) (i : ℕ)
    → visits_of graph nodes (is ++ i ∷ []) ≡ visits_of graph nodes is + visits (left_at graph nodes i)
visits_push graph nodes [] i = omega arith
visits_push graph nodes (j ∷ is) i = let rest = visits_push graph nodes is i in omega (arith, rest)

pub visits_extends : (graph : List (List ℕ)) (one two : List Node) (is : List ℕ) (d : Node) → Extends graph one two → AreWithin one is
    → visits_of graph two is ≡ visits_of graph one is
visits_extends graph one two [] d e l = refl
visits_extends graph one two (i ∷ is) d e l =
    let rest = visits_extends graph one two is d e l.1 in
    let here = ap visits (left_at-extends graph one two i d e l.0) in
    omega (arith, rest, here)

-- ---- one visit

module _ (graph : List (List ℕ)) (known : Outcomes) (claims : List Claim) (nodes new : List Node) (i : ℕ) (visit : Visit) (is : List ℕ)
    (told : VisitsFrom (record { graph = graph; outcomes = known; claims = claims }) nodes i new visit) (grown : Extends graph nodes new)
    (within : AreWithin nodes is) where
  kept : (best : Option Found) (path : Option OpenPath) → IsFound nodes best path → IsFound new best path
  kept best path h = subst (λ (xs : List Node). IsFound xs best path) (sym grown.grows.grown) (found_kept nodes grown.grows.more best path h)

  -- where the path ends or is open, what was found there counts
  leaf_best : (d : Node) (found best : Option Found) (path all : Option OpenPath) → visit ≡ Leaf found → IsFound nodes best path
      → all ≡ best_with graph known claims d nodes (better_path path (best_of graph known claims d nodes i)) is
      → (better : Option OpenPath) × IsFound new (better_found best found) better × (all ≡ best_with graph known claims d new better is)
  leaf_best d found best path all leaf h is_all = (
    better_path path (best_of graph known claims d nodes i),
    found_both new best found path (best_of graph known claims d nodes i) (kept best path h)
        ((subst (λ (v : Visit). VisitsFrom (record { graph = graph; outcomes = known; claims = claims }) nodes i new v) leaf told) d),
    is_all ∙ sym (best_extends graph known claims d nodes new (better_path path (best_of graph known claims d nodes i)) is grown within),
  )

  -- nothing else is pending
  pub last_leaf : (d : Node) (found best now : Option Found) (path all : Option OpenPath) → visit ≡ Leaf found → is ≡ [] → now ≡ better_found best found
      → IsFound nodes best path → all ≡ best_with graph known claims d nodes (better_path path (best_of graph known claims d nodes i)) is
      → IsFound new now all
  last_leaf d found best now path all leaf none is_now h is_all =
      let after = leaf_best d found best path all leaf h is_all in
      subst (λ (f : Option Found). IsFound new f all) (sym is_now)
      (subst (λ (p : Option OpenPath). IsFound new (better_found best found) p)
      (sym (after.2 ∙ ap (λ (xs : List ℕ). best_with graph known claims d new after.0 xs) none)) after.1)

  -- the last pending node is next
  pub next_leaf : (d : Node) (found best now : Option Found) (path all : Option OpenPath) (rest : List ℕ) (next : ℕ) → visit ≡ Leaf found → is ≡ rest ++ next ∷ []
      → now ≡ better_found best found → IsFound nodes best path
      → all ≡ best_with graph known claims d nodes (better_path path (best_of graph known claims d nodes i)) is
      → (better : Option OpenPath) × IsFound new now better
      × (all ≡ best_with graph known claims d new (better_path better (best_of graph known claims d new next)) rest)
  next_leaf d found best now path all rest next leaf popped is_now h is_all =
      let after = leaf_best d found best path all leaf h is_all in (
        after.0,
        subst (λ (f : Option Found). IsFound new f after.0) (sym is_now) after.1,
        after.2 ∙ ap (λ (xs : List ℕ). best_with graph known claims d new after.0 xs) popped ∙ best_push graph known claims d new after.0 rest next,
      )

  pub next_within : (rest : List ℕ) (next : ℕ) → is ≡ rest ++ next ∷ [] → AreWithin new rest × (next < length new)
  next_within rest next popped = within_pop new rest next (subst (λ (xs : List ℕ). AreWithin new xs) popped (within_extends graph nodes new is grown within))

  pub next_less : (rest : List ℕ) (next : ℕ) → is ≡ rest ++ next ∷ [] → i < length nodes
      → visits (left_at graph new next) + visits_of graph new rest < visits (left_at graph nodes i) + visits_of graph nodes is
  next_less rest next popped l =
      let one = some_visit (left_at graph nodes i) in
      let two = visits_extends graph nodes new is (first_of nodes i l) grown within in
      let three = ap (λ (xs : List ℕ). visits_of graph new xs) popped ∙ visits_push graph new rest next in
      omega (arith, one, two, three)

  forked : (d : Node) (good bad : ℕ) → visit ≡ Fork good bad → (good < length new) × (bad < length new) × (left_at graph new good < left_at graph nodes i)
      × (left_at graph new bad < left_at graph nodes i)
      × (best_of graph known claims d nodes i ≡ better_path (best_of graph known claims d new good) (best_of graph known claims d new bad))
  forked d good bad fork = (subst (λ (v : Visit). VisitsFrom (record { graph = graph; outcomes = known; claims = claims }) nodes i new v) fork told) d

  -- the node behind good is next, and that behind bad is pending
  pub fork_best : (d : Node) (good bad : ℕ) (pushed : List ℕ) (best : Option Found) (path all : Option OpenPath) → visit ≡ Fork good bad → pushed ≡ is ++ bad ∷ []
      → IsFound nodes best path → all ≡ best_with graph known claims d nodes (better_path path (best_of graph known claims d nodes i)) is
      → (better : Option OpenPath) × IsFound new best better
      × (all ≡ best_with graph known claims d new (better_path better (best_of graph known claims d new good)) pushed)
  fork_best d good bad pushed best path all fork is_pushed h is_all =
      let g : Option OpenPath = best_of graph known claims d new good in
      let b : Option OpenPath = best_of graph known claims d new bad in
      let parts = forked d good bad fork in (
        path,
        kept best path h,
        is_all
            ∙ sym (best_extends graph known claims d nodes new (better_path path (best_of graph known claims d nodes i)) is grown within)
            ∙ ap (λ (p : Option OpenPath). best_with graph known claims d new (better_path path p) is) parts.4
            ∙ ap (λ (p : Option OpenPath). best_with graph known claims d new p is) (sym (better_three path g b))
            ∙ sym (best_push graph known claims d new (better_path path g) is bad)
            ∙ ap (λ (xs : List ℕ). best_with graph known claims d new (better_path path g) xs) (sym is_pushed),
      )

  pub fork_within : (d : Node) (good bad : ℕ) (pushed : List ℕ) → visit ≡ Fork good bad → pushed ≡ is ++ bad ∷ [] → (good < length new) × AreWithin new pushed
  fork_within d good bad pushed fork is_pushed =
      let parts = forked d good bad fork in (
        parts.0,
        subst (λ (xs : List ℕ). AreWithin new xs) (sym is_pushed) (within_push new is bad (within_extends graph nodes new is grown within) parts.1),
      )

  pub fork_less : (d : Node) (good bad : ℕ) (pushed : List ℕ) → visit ≡ Fork good bad → pushed ≡ is ++ bad ∷ []
      → visits (left_at graph new good) + visits_of graph new pushed < visits (left_at graph nodes i) + visits_of graph nodes is
  fork_less d good bad pushed fork is_pushed =
      let parts = forked d good bad fork in
      let one = visits_two (left_at graph new good) (left_at graph new bad) (left_at graph nodes i) parts.2 parts.3 in
      let two = visits_extends graph nodes new is d grown within in
      let three = ap (λ (xs : List ℕ). visits_of graph new xs) is_pushed ∙ visits_push graph new is bad in
      omega (arith, one, two, three)
