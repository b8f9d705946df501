-- The candidates never grow along a path.
use Rattle.std.proofs.Common.{◌≡◌, ℕ, ◌≤◌, Bool, true, false, List, [], ◌∷◌, Option, Some, None, refl, sym, ap, ◌∙◌, arith}
use Rattle.bf_graph.specs.Graph.{IsGraph}
use Rattle.bf_search.specs.declared.asks.Ask.TheVariants.{Test}
use Rattle.bf_search.specs.declared.outcomes.Mark.{Mark}
use Rattle.bf_search.specs.declared.outcomes.Mark.TheVariants.{Good, Bad, Skip}
use Rattle.bf_search.specs.Reach.{places}
use Rattle.bf_search.specs.Candidates.{is_candidate}
use Rattle.bf_search.specs.Outcomes.{Outcomes}
use Rattle.bf_search.specs.State.{Search, ask, mark}
use Rattle.bf_search.proofs.Turns.{Asking, asking, count_le}
use Rattle.bf_search.specs.Guesses.{is_candidate_below, is_candidate_of, IsParted}
use Rattle.bf_search.specs.OpenPaths.{left_of, Leads}
use Rattle.bf_state.proofs.Parted.{guesses_part}

one_in : (whole one other : Bool) → IsParted whole one other → one ≡ true → whole ≡ true
one_in whole true other p h = sym p.all
one_in whole false other p h = cc

other_in : (whole one other : Bool) → IsParted whole one other → other ≡ true → whole ≡ true
other_in whole true true p h = sym p.all
other_in whole false true p h = sym p.all
other_in whole one false p h = cc

-- a candidate after a mark of the asked place was one before
pub candidate_before : (graph : List (List ℕ)) (s : Search) (m : Mark) (q p : ℕ) → IsGraph graph → (ask graph s).step.ask ≡ Test q
    → is_candidate_of graph (mark (ask graph s).search m q) p ≡ true → is_candidate_of graph s p ≡ true
unfolding mark
candidate_before graph s Good q p g h k = one_in _ _ _ (guesses_part graph s q p g h) k
candidate_before graph s Bad q p g h k = other_in _ _ _ (guesses_part graph s q p g h) k
candidate_before graph s Skip q p g h k = sym (same_candidates a) ∙ k
  where
    a : Asking graph s (ask graph s) q
    a = asking graph s q g h

    same_candidates : Asking graph s (ask graph s) q → is_candidate_of graph (mark (ask graph s).search Skip q) p ≡ is_candidate_of graph s p
    same_candidates b =
        ap (λ (o : Option ℕ). is_candidate_below graph o (mark (ask graph s).search Skip q) p) b.same.bad
        ∙ same_below s.bad b
      where
        same_below : (o : Option ℕ) → Asking graph s (ask graph s) q
            → is_candidate_below graph o (mark (ask graph s).search Skip q) p ≡ is_candidate_below graph o s p
        same_below None c = refl
        same_below (Some bad) c =
            ap (λ (gs : List ℕ). is_candidate graph bad gs (ask graph s).search.first_parent p) c.same.goods
            ∙ ap (λ (f : Bool). is_candidate graph bad s.goods f p) c.same.first_parent

-- an ask changes no candidate
pub left-asked : (graph : List (List ℕ)) (s : Search) (q : ℕ) → IsGraph graph → (ask graph s).step.ask ≡ Test q
    → left_of graph (ask graph s).search ≤ left_of graph s
unfolding left_of
left-asked graph s q g h = count_le (λ p. is_candidate_of graph (ask graph s).search p) (λ p. is_candidate_of graph s p) (places graph)
    (λ p k. sym (same p a) ∙ k)
  where
    a : Asking graph s (ask graph s) q
    a = asking graph s q g h

    same : (p : ℕ) → Asking graph s (ask graph s) q → is_candidate_of graph (ask graph s).search p ≡ is_candidate_of graph s p
    same p b = ap (λ (o : Option ℕ). is_candidate_below graph o (ask graph s).search p) b.same.bad ∙ below s.bad b
      where
        below : (o : Option ℕ) → Asking graph s (ask graph s) q → is_candidate_below graph o (ask graph s).search p ≡ is_candidate_below graph o s p
        below None c = refl
        below (Some bad) c =
            ap (λ (gs : List ℕ). is_candidate graph bad gs (ask graph s).search.first_parent p) c.same.goods
            ∙ ap (λ (f : Bool). is_candidate graph bad s.goods f p) c.same.first_parent

-- nor does it add one
left-unasked : (graph : List (List ℕ)) (s : Search) (q : ℕ) → IsGraph graph → (ask graph s).step.ask ≡ Test q
    → left_of graph s ≤ left_of graph (ask graph s).search
unfolding left_of
left-unasked graph s q g h = count_le (λ p. is_candidate_of graph s p) (λ p. is_candidate_of graph (ask graph s).search p) (places graph) (λ p k. same p a ∙ k)
  where
    a : Asking graph s (ask graph s) q
    a = asking graph s q g h

    same : (p : ℕ) → Asking graph s (ask graph s) q → is_candidate_of graph (ask graph s).search p ≡ is_candidate_of graph s p
    same p b = ap (λ (o : Option ℕ). is_candidate_below graph o (ask graph s).search p) b.same.bad ∙ below s.bad b
      where
        below : (o : Option ℕ) → Asking graph s (ask graph s) q → is_candidate_below graph o (ask graph s).search p ≡ is_candidate_below graph o s p
        below None c = refl
        below (Some bad) c =
            ap (λ (gs : List ℕ). is_candidate graph bad gs (ask graph s).search.first_parent p) c.same.goods
            ∙ ap (λ (f : Bool). is_candidate graph bad s.goods f p) c.same.first_parent

pub left-asked-same : (graph : List (List ℕ)) (s : Search) (q : ℕ) → IsGraph graph → (ask graph s).step.ask ≡ Test q
    → left_of graph (ask graph s).search ≡ left_of graph s
left-asked-same graph s q g h = omega (arith, left-asked graph s q g h, left-unasked graph s q g h)

-- A mark of the asked place leaves no more candidates.
pub left-marked : (graph : List (List ℕ)) (s : Search) (m : Mark) (q : ℕ) → IsGraph graph → (ask graph s).step.ask ≡ Test q
    → left_of graph (mark (ask graph s).search m q) ≤ left_of graph s
unfolding left_of
left-marked graph s m q g h = count_le (λ p. is_candidate_of graph (mark (ask graph s).search m q) p) (λ p. is_candidate_of graph s p) (places graph)
    (λ p k. candidate_before graph s m q p g h k)

-- Candidates never grow along a path.
pub left-along : (graph : List (List ℕ)) (known : Outcomes) (s : Search) (ms : List Mark) (p left : ℕ) → IsGraph graph → Leads graph known s ms p left
    → left ≤ left_of graph s
left-along graph known s [] p left g h = omega (arith, h.1, left-asked graph s p g h.0)
left-along graph known s (m ∷ ms) p left g h =
    omega (arith, left-along graph known (mark (ask graph s).search m h.0) ms p left g h.3, left-marked graph s m h.0 g h.1)
