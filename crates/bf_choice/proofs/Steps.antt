-- Lemmas on what a place reaches through its parents.
use Rattle.std.proofs.Common.{◌≡◌, ℕ, ◌+◌, ◌<◌, ◌≤◌, Bool, true, false, cond, ◌||◌, ◌==◌, List, [], ◌∷◌, length, refl, ap, sym, ◌∙◌, subst, ⊎_elim, eqb-true}
use Rattle.std.proofs.Common.{eq-eqb, arith}
use Rattle.std.proofs.lemmas.Bool.{cases_Bool, or_cases, or_left, or_right, and_parts, false_from_ne_true, ne_eqb}
use Rattle.std.proofs.lemmas.Bool.Decides.{same_from_decides}
use Rattle.std.proofs.lemmas.List.Elements.{All-head}
use Rattle.std.proofs.lemmas.List.Folds.{Any-from_list_any, list_any-from_Any}
use Rattle.std.specs.List.{All, Any, Contains, list_any, list_all}
use Rattle.bf_graph.specs.Graph.{parents_of, IsGraph}
use Rattle.bf_search.specs.Reach.{Reaches, reaches}
use Rattle.bf_search.proofs.Reaching.{Reaches-from_test, reaches-true, reaches_decides, Reaches-same, Reaches-front, Reaches-le, first_step, StepsTo}
use Rattle.bf_choice.specs.declared.parents.Parentage.TheVariants.{Root, Single, Merge}
use Rattle.bf_choice.specs.Counted.{count_below}
use Rattle.bf_choice.specs.Sizes.{parentage_of, reach_size}
use Rattle.bf_choice.proofs.Counting.{count_below-le, count_below-same, count_below-or_one, count_below-none, count_below-past}

any_parent_tells : (graph : List (List ℕ)) (p q : ℕ) → ((p == q) || list_any (λ parent. reaches graph parent q) (parents_of graph p)) ≡ true → Reaches graph p q
any_parent_tells graph p q h =
    ⊎_elim
    (λ e. Reaches-same graph p q (eqb-true p q e))
    (λ a.
    let found : Any (λ parent. reaches graph parent q ≡ true) (parents_of graph p) = Any-from_list_any (λ parent. reaches graph parent q) (parents_of graph p)
    a in
    let step : Contains (parents_of graph p) found.1 = (found.0, found.2, found.3) in
    Reaches-front step (Reaches-from_test graph found.1 q found.4))
    (or_cases (p == q) (list_any (λ parent. reaches graph parent q) (parents_of graph p)) h)

any_parent-true : (graph : List (List ℕ)) (p q : ℕ) → IsGraph graph → Reaches graph p q
    → ((p == q) || list_any (λ parent. reaches graph parent q) (parents_of graph p)) ≡ true
any_parent-true graph p q g h =
    ⊎_elim
    (λ e. or_left (p == q) _ (eq-eqb p q e))
    (λ (s : StepsTo graph p q).
    or_right (p == q) _
    (list_any-from_Any (λ parent. reaches graph parent q) (parents_of graph p)
    (s.step.0, s.parent, s.step.1, s.step.2, reaches-true graph s.parent q g s.rest)))
    (first_step h)

-- a place reaches itself and what its parents reach
pub reaches_step : (graph : List (List ℕ)) (p q : ℕ) → IsGraph graph
    → reaches graph p q ≡ ((p == q) || list_any (λ parent. reaches graph parent q) (parents_of graph p))
reaches_step graph p q g =
    same_from_decides (reaches graph p q) ((p == q) || list_any (λ parent. reaches graph parent q) (parents_of graph p))
    (reaches_decides graph p q g) (any_parent_tells graph p q, any_parent-true graph p q g)

-- no later place is reached
pub reaches_later : (graph : List (List ℕ)) (p q : ℕ) → IsGraph graph → p < q → reaches graph p q ≡ false
reaches_later graph p q g l = false_from_ne_true (reaches graph p q)
    (λ h. let up : q ≤ p = Reaches-le g (Reaches-from_test graph p q h) in absurd (omega arith))

-- ---- one parent

any_of_root : (xs : List ℕ) → parentage_of xs ≡ Root → (f : ℕ → Bool) → list_any f xs ≡ false
any_of_root [] h f = refl
any_of_root (x ∷ xs) h f = elim (list_all (λ other. other == x) xs) as (λ b. cond b (Single x) Merge ≡ Root → list_any f (x ∷ xs) ≡ false)
    [ true ↦ λ k. cc | false ↦ λ k. cc ] h

any_of_same : (f : ℕ → Bool) (x : ℕ) (xs : List ℕ) → list_all (λ other. other == x) xs ≡ true → (f x || list_any f xs) ≡ f x
any_of_same f x [] h = elim (f x) as (λ b. (b || false) ≡ b) [ true ↦ refl | false ↦ refl ]
any_of_same f x (y ∷ ys) h =
    let both = and_parts (y == x) (list_all (λ other. other == x) ys) h in
    let same : f y ≡ f x = ap f (eqb-true y x both.0) in
    ap (λ (b : Bool). f x || (b || list_any f ys)) same ∙ ap (λ (b : Bool). f x || b) (any_of_same f x ys both.1)
    ∙ elim (f x) as (λ b. (b || b) ≡ b) [ true ↦ refl | false ↦ refl ]

pub record IsOnly (xs : List ℕ) (only : ℕ) : Type 0 where
  pub first : List ℕ
  pub is : xs ≡ only ∷ first
  pub any : (f : ℕ → Bool) → list_any f xs ≡ f only

only_of_single : (xs : List ℕ) (only : ℕ) → parentage_of xs ≡ Single only → IsOnly xs only
only_of_single [] only h = cc
only_of_single (x ∷ xs) only h =
    ⊎_elim
    (λ (t : list_all (λ other. other == x) xs ≡ true).
    let is : Single x ≡ Single only = ap (λ (b : Bool). cond b (Single x) Merge) (sym t) ∙ h in
    let e : x ≡ only = cc in
    record { first = xs; is = ap (λ (y : ℕ). y ∷ xs) e; any = λ f. any_of_same f x xs t ∙ ap f e })
    (λ (t : list_all (λ other. other == x) xs ≡ false).
    let is : Merge ≡ Single only = ap (λ (b : Bool). cond b (Single x) Merge) (sym t) ∙ h in
    cc)
    (cases_Bool (list_all (λ other. other == x) xs))

pub single-earlier : (graph : List (List ℕ)) (p only : ℕ) → IsGraph graph → parentage_of (parents_of graph p) ≡ Single only → only < p
single-earlier graph p only g h =
    let o = only_of_single (parents_of graph p) only h in
    All-head (λ parent. parent < p) only o.first (subst (λ (xs : List ℕ). All (λ parent. parent < p) xs) o.is (g.earlier p))

-- a place with one parent reaches what that reaches, and itself
pub reaches_single : (graph : List (List ℕ)) (p only q : ℕ) → IsGraph graph → parentage_of (parents_of graph p) ≡ Single only → q < p
    → reaches graph p q ≡ reaches graph only q
reaches_single graph p only q g h l =
    reaches_step graph p q g
    ∙ ap (λ (b : Bool). b || list_any (λ parent. reaches graph parent q) (parents_of graph p)) (ne_eqb p q (λ e. absurd (omega (arith, e))))
    ∙ (only_of_single (parents_of graph p) only h).any (λ parent. reaches graph parent q)

pub reach_size-root : (graph : List (List ℕ)) (p : ℕ) → IsGraph graph → p < length graph → parentage_of (parents_of graph p) ≡ Root → reach_size graph p ≡ 1
unfolding reach_size
reach_size-root graph p g l h =
    count_below-same (reaches graph p) (λ q. (p == q) || false) (length graph)
    (λ q m. reaches_step graph p q g ∙ ap (λ (b : Bool). (p == q) || b) (any_of_root (parents_of graph p) h (λ parent. reaches graph parent q)))
    ∙ count_below-or_one (λ q. false) p (length graph) refl l
    ∙ ap (λ (n : ℕ). n + 1) (count_below-none (λ q. false) (length graph) (λ q m. refl))

pub reach_size-single : (graph : List (List ℕ)) (p only : ℕ) → IsGraph graph → p < length graph → parentage_of (parents_of graph p) ≡ Single only
    → reach_size graph p ≡ reach_size graph only + 1
unfolding reach_size
reach_size-single graph p only g l h =
    count_below-same (reaches graph p) (λ q. (p == q) || reaches graph only q) (length graph)
    (λ q m. reaches_step graph p q g ∙ ap (λ (b : Bool). (p == q) || b) ((only_of_single (parents_of graph p) only h).any (λ parent. reaches graph parent q)))
    ∙ count_below-or_one (reaches graph only) p (length graph) (reaches_later graph only p g (single-earlier graph p only g h)) l

pub reach_size-le : (graph : List (List ℕ)) (p : ℕ) → reach_size graph p ≤ length graph
unfolding reach_size
reach_size-le graph p = count_below-le (reaches graph p) (length graph)

pub reach_size-is : (graph : List (List ℕ)) (p : ℕ) → reach_size graph p ≡ count_below (reaches graph p) (length graph)
unfolding reach_size
reach_size-is graph p = refl

-- what is counted before a place past the end is all that is reached
pub count_below-reaches_past : (graph : List (List ℕ)) (p m k : ℕ) → IsGraph graph → p < m
    → count_below (reaches graph p) (m + k) ≡ count_below (reaches graph p) m
count_below-reaches_past graph p m k g l = count_below-past (reaches graph p) m k (λ q up. reaches_later graph p q g (omega arith))
