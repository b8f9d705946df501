-- Lemmas on a walk along first parents.
use Rattle.std.proofs.Common.{◌≡◌, ℕ, zero, suc, ◌<◌, ◌⊎◌, Bool, true, false, List, [], ◌∷◌, length, set, take, replicate, Option, Some, None, refl, ap, sym}
use Rattle.std.proofs.Common.{◌∙◌, subst, inl, inr, ⊎_elim, arith}
use Rattle.std.proofs.lemmas.Bool.Decides.{same_from_decides}
use Rattle.std.proofs.lemmas.List.{length-set, get_or-set_same, length-replicate}
use Rattle.std.proofs.lemmas.List.Elements.{All-head}
use Rattle.std.proofs.lemmas.List.FromFn.{fill_by_all}
use Rattle.std.specs.List.{All, Contains, slice_get}
use Rattle.std.specs.Option.{IfSome}
use Rattle.bf_graph.specs.Graph.{parents_of, IsGraph}
use Rattle.bf_search.specs.Reach.{in_mode, Reaches, reaches, reach_row}
use Rattle.bf_search.specs.Candidates.{is_in}
use Rattle.bf_search.proofs.Reaching.{Reaches-refl, Reaches-back, StepsTo, first_step, reaches_decides}
use Rattle.bf_search.proofs.Modes.{parents_of-in_mode, IsGraph-in_mode, length-in_mode}
use Rattle.bf_search.proofs.RowLemmas.{is_in-set, set-kept}
use Rattle.bf_reach.proofs.Marking.{none_marked}

-- what the place that is next reaches
abbrev pub IsAhead : List (List ℕ) → Option ℕ → ℕ → Type 0
IsAhead graph None q = ⊥
IsAhead graph (Some place) q = Reaches (in_mode graph true) place q

-- The marks are those that p reaches along first parents, but for what the next place reaches.
pub record ChainTo (graph : List (List ℕ)) (p : ℕ) (row : List Bool) (next : Option ℕ) : Type 0 where
  pub same_length : length row ≡ length graph
  pub reached : (q : ℕ) → is_in row q ≡ true → Reaches (in_mode graph true) p q
  pub ahead : IfSome next (λ place. Reaches (in_mode graph true) p place)
  pub within : IfSome next (λ place. place < length graph)
  pub complete : (q : ℕ) → Reaches (in_mode graph true) p q → (is_in row q ≡ true) ⊎ IsAhead graph next q

pub ChainTo-start : (graph : List (List ℕ)) (p n : ℕ) → n ≡ length graph → p < length graph → ChainTo graph p (replicate n false) (Some p)
ChainTo-start graph p n e l = record {
  same_length = length-replicate n false ∙ e;
  reached = λ q h. absurd (none_marked n q h);
  ahead = Reaches-refl (in_mode graph true) p;
  within = l;
  complete = λ q h. inr h;
}

only_first : (parent q : ℕ) → Contains (parent ∷ []) q → parent ≡ q
only_first parent q (zero, l, e) = e
only_first parent q (suc k, l, e) = absurd (omega arith)

pub ChainTo-more : (graph : List (List ℕ)) (p : ℕ) (row : List Bool) (place : ℕ) (parents : List ℕ) → parents ≡ parents_of graph place
    → All (λ parent. parent < place) parents
    → ChainTo graph p row (Some place) → ChainTo graph p (set row place true) (slice_get parents 0)
ChainTo-more graph p row place parents are earlier c = record {
  same_length = length-set row place true ∙ c.same_length;
  reached = λ q h. ⊎_elim (λ k. c.reached q k) (λ e. subst (λ (x : ℕ). Reaches (in_mode graph true) p x) e c.ahead) (is_in-set row place q h);
  ahead = ahead_of parents step_of;
  within = within_of parents earlier;
  complete = λ q h.
      ⊎_elim
      (λ k. inl (set-kept row place q k))
      (λ (k : Reaches (in_mode graph true) place q).
      ⊎_elim
      (λ e. inl (subst (λ (x : ℕ). is_in (set row place true) x ≡ true) e (get_or-set_same row place true false here)))
      (λ (s : StepsTo (in_mode graph true) place q). inr (next_of parents q s.parent (subst (λ (x : List ℕ). Contains x s.parent) firsts s.step) s.rest))
      (first_step k))
      (c.complete q h);
}
  where
    firsts : parents_of (in_mode graph true) place ≡ take 1 parents
    firsts = parents_of-in_mode graph place ∙ ap (λ (x : List ℕ). take 1 x) (sym are)

    here : place < length row
    here = rw c.same_length c.within

    step_of : (parent : ℕ) → Contains (take 1 parents) parent → Reaches (in_mode graph true) p parent
    step_of parent h = Reaches-back c.ahead (subst (λ (x : List ℕ). Contains x parent) (sym firsts) h)

    ahead_of : (ps : List ℕ) → ((parent : ℕ) → Contains (take 1 ps) parent → Reaches (in_mode graph true) p parent)
        → IfSome (slice_get ps 0) (λ next. Reaches (in_mode graph true) p next)
    ahead_of [] h = tt
    ahead_of (parent ∷ ps) h = h parent (0, omega arith, refl)

    within_of : (ps : List ℕ) → All (λ parent. parent < place) ps → IfSome (slice_get ps 0) (λ next. next < length graph)
    within_of [] h = tt
    within_of (parent ∷ ps) h = let l : parent < place = All-head (λ parent. parent < place) parent ps h in omega (arith, c.within)

    next_of : (ps : List ℕ) (q parent : ℕ) → Contains (take 1 ps) parent → Reaches (in_mode graph true) parent q → IsAhead graph (slice_get ps 0) q
    next_of [] q parent h rest = absurd (omega (arith, h.1))
    next_of (first ∷ ps) q parent h rest = subst (λ (x : ℕ). Reaches (in_mode graph true) x q) (sym (only_first first parent h)) rest

pub row-from_chain : (graph : List (List ℕ)) (p : ℕ) (row : List Bool) → IsGraph graph → ChainTo graph p row None → row ≡ reach_row (in_mode graph true) p
unfolding reach_row
row-from_chain graph p row g c =
    fill_by_all (λ q. reaches (in_mode graph true) p q) row (length (in_mode graph true)) false (c.same_length ∙ sym (length-in_mode graph true))
    (λ q h.
    same_from_decides (is_in row q) (reaches (in_mode graph true) p q)
    (c.reached q, λ k. ⊎_elim (λ x. x) (λ x. absurd x) (c.complete q k))
    (reaches_decides (in_mode graph true) p q (IsGraph-in_mode graph true g)))
