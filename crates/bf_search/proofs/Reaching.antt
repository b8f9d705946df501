-- Lemmas on reach that every crate above needs: paths are joined, places that are reached are not later, and the test
-- says whether there is a path.
use Rattle.std.proofs.Common.{◌≡◌, ℕ, zero, suc, ◌+◌, ◌<◌, ◌≤◌, true, ◌==◌, List, [], ◌∷◌, ◌++◌, length, refl, sym, subst, inl, inr, ⊎_elim, ◌⊎◌, arith}
use Rattle.std.proofs.Common.{eqb-true, eq-eqb}
use Rattle.std.proofs.lemmas.Bool.{or_cases, or_left, or_right}
use Rattle.std.proofs.lemmas.List.Elements.{All-contains}
use Rattle.std.proofs.lemmas.List.Folds.{Any-from_list_any, list_any-from_Any}
use Rattle.std.specs.Bool.{Decides}
use Rattle.std.specs.List.{Any, Contains, list_any}
use Rattle.bf_graph.specs.Graph.{parents_of, IsGraph}
use Rattle.bf_search.specs.Reach.{IsPath, Reaches, reaches_within, reaches}

-- ---- paths

pub IsPath-append : (graph : List (List ℕ)) (p : ℕ) (path : List ℕ) (r : ℕ) (more : List ℕ) (q : ℕ) → IsPath graph p path r → IsPath graph r more q
    → IsPath graph p (path ++ more) q
IsPath-append graph p [] r more q h k = subst (λ (x : ℕ). IsPath graph x more q) (sym h) k
IsPath-append graph p (next ∷ path) r more q h k = (h.0, IsPath-append graph next path r more q h.1 k)

-- each step goes to an earlier place
pub IsPath-length : (graph : List (List ℕ)) → IsGraph graph → (p : ℕ) (path : List ℕ) (q : ℕ) → IsPath graph p path q → length path + q ≤ p
IsPath-length graph g p [] q h = omega arith
IsPath-length graph g p (next ∷ path) q h =
    let here : next < p = All-contains (λ parent. parent < p) (parents_of graph p) next (g.earlier p) h.0 in
    let rest : length path + q ≤ next = IsPath-length graph g next path q h.1 in
    omega arith

-- ---- reach

pub Reaches-refl : (graph : List (List ℕ)) (p : ℕ) → Reaches graph p p
Reaches-refl graph p = record { path = []; leads = refl }

pub Reaches-same : (graph : List (List ℕ)) (p q : ℕ) → p ≡ q → Reaches graph p q
Reaches-same graph p q e = record { path = []; leads = e }

-- a step at the front
pub Reaches-front : {graph : List (List ℕ)} {p r q : ℕ} → Contains (parents_of graph p) r → Reaches graph r q → Reaches graph p q
Reaches-front {graph} {p} {r} {q} step rest = record { path = r ∷ rest.path; leads = (step, rest.leads) }

pub Reaches-parent : {graph : List (List ℕ)} {p q : ℕ} → Contains (parents_of graph p) q → Reaches graph p q
Reaches-parent {graph} {p} {q} step = record { path = q ∷ []; leads = (step, refl) }

pub Reaches-trans : {graph : List (List ℕ)} {p r q : ℕ} → Reaches graph p r → Reaches graph r q → Reaches graph p q
Reaches-trans {graph} {p} {r} {q} first second = record {
  path = first.path ++ second.path;
  leads = IsPath-append graph p first.path r second.path q first.leads second.leads;
}

-- a step at the end
pub Reaches-back : {graph : List (List ℕ)} {p r q : ℕ} → Reaches graph p r → Contains (parents_of graph r) q → Reaches graph p q
Reaches-back first step = Reaches-trans first (Reaches-parent step)

-- what is reached is not later
pub Reaches-le : {graph : List (List ℕ)} {p q : ℕ} → IsGraph graph → Reaches graph p q → q ≤ p
Reaches-le {graph} {p} {q} g h = omega (arith, IsPath-length graph g p h.path q h.leads)

-- the first step of a path
pub record StepsTo (graph : List (List ℕ)) (p q : ℕ) : Type 0 where
  pub parent : ℕ
  pub step : Contains (parents_of graph p) parent
  pub rest : Reaches graph parent q

first_step_of : (graph : List (List ℕ)) (p : ℕ) (path : List ℕ) (q : ℕ) → IsPath graph p path q → (p ≡ q) ⊎ StepsTo graph p q
first_step_of graph p [] q h = inl h
first_step_of graph p (next ∷ path) q h = inr (record { parent = next; step = h.0; rest = record { path = path; leads = h.1 } })

pub first_step : {graph : List (List ℕ)} {p q : ℕ} → Reaches graph p q → (p ≡ q) ⊎ StepsTo graph p q
first_step {graph} {p} {q} h = first_step_of graph p h.path q h.leads

-- the last step of a path
pub record StepsFrom (graph : List (List ℕ)) (p q : ℕ) : Type 0 where
  pub child : ℕ
  pub start : Reaches graph p child
  pub step : Contains (parents_of graph child) q

last_step_of : (graph : List (List ℕ)) (p : ℕ) (path : List ℕ) (q : ℕ) → IsPath graph p path q → (p ≡ q) ⊎ StepsFrom graph p q
last_step_of graph p [] q h = inl h
last_step_of graph p (next ∷ path) q h =
    ⊎_elim
    (λ e. inr (record { child = p; start = Reaches-refl graph p; step = subst (λ (x : ℕ). Contains (parents_of graph p) x) e h.0 }))
    (λ (s : StepsFrom graph next q). inr (record { child = s.child; start = Reaches-front h.0 s.start; step = s.step }))
    (last_step_of graph next path q h.1)

pub last_step : {graph : List (List ℕ)} {p q : ℕ} → Reaches graph p q → (p ≡ q) ⊎ StepsFrom graph p q
last_step {graph} {p} {q} h = last_step_of graph p h.path q h.leads

-- a set of places that is closed under parents has all that its members reach
pub closed_under_reach : (graph : List (List ℕ)) (S : ℕ → Type 0) → ((p r : ℕ) → S p → Contains (parents_of graph p) r → S r) → (p : ℕ) (path : List ℕ) (q : ℕ)
    → IsPath graph p path q → S p → S q
closed_under_reach graph S closed p [] q h s = subst S h s
closed_under_reach graph S closed p (next ∷ path) q h s = closed_under_reach graph S closed next path q h.1 (closed p next s h.0)

-- ---- the test

within_tells : (graph : List (List ℕ)) (steps p q : ℕ) → reaches_within steps graph p q ≡ true → Reaches graph p q
unfolding reaches_within
within_tells graph zero p q h = Reaches-same graph p q (eqb-true p q h)
within_tells graph (suc steps) p q h =
    ⊎_elim
    (λ e. Reaches-same graph p q (eqb-true p q e))
    (λ a.
    let found : Any (λ parent. reaches_within steps graph parent q ≡ true) (parents_of graph p) = Any-from_list_any
    (λ parent. reaches_within steps graph parent q) (parents_of graph p) a in
    let parent : ℕ = found.1 in
    let step : Contains (parents_of graph p) parent = (found.0, found.2, found.3) in
    Reaches-front step (within_tells graph steps parent q found.4))
    (or_cases (p == q) (list_any (λ parent. reaches_within steps graph parent q) (parents_of graph p)) h)

within_from_path : (graph : List (List ℕ)) (steps p : ℕ) (path : List ℕ) (q : ℕ) → IsPath graph p path q → length path ≤ steps
    → reaches_within steps graph p q ≡ true
unfolding reaches_within
within_from_path graph zero p [] q h l = eq-eqb p q h
within_from_path graph zero p (next ∷ path) q h l = absurd (omega arith)
within_from_path graph (suc steps) p [] q h l = or_left (p == q) _ (eq-eqb p q h)
within_from_path graph (suc steps) p (next ∷ path) q h l =
    let rest : reaches_within steps graph next q ≡ true = within_from_path graph steps next path q h.1 (omega arith) in
    or_right (p == q) _ (list_any-from_Any (λ parent. reaches_within steps graph parent q) (parents_of graph p) (h.0.0, next, h.0.1, h.0.2, rest))

pub Reaches-from_test : (graph : List (List ℕ)) (p q : ℕ) → reaches graph p q ≡ true → Reaches graph p q
unfolding reaches
Reaches-from_test graph p q h = within_tells graph p p q h

pub reaches-true : (graph : List (List ℕ)) (p q : ℕ) → IsGraph graph → Reaches graph p q → reaches graph p q ≡ true
unfolding reaches
reaches-true graph p q g h = within_from_path graph p p h.path q h.leads (omega (arith, IsPath-length graph g p h.path q h.leads))

-- the test says whether there is a path
pub reaches_decides : (graph : List (List ℕ)) (p q : ℕ) → IsGraph graph → Decides (reaches graph p q) (Reaches graph p q)
reaches_decides graph p q g = (Reaches-from_test graph p q, reaches-true graph p q g)
