-- Lemmas on marks: what a walk keeps, and that at its end the row says what is reached.
use Rattle.std.proofs.Common.{◌≡◌, ℕ, zero, suc, ◌+◌, ◌<◌, ◌≤◌, ◌⊎◌, Bool, true, false, List, [], ◌∷◌, ◌++◌, length, get_or, set, replicate, refl, ap, sym, ◌∙◌}
use Rattle.std.proofs.Common.{subst, inl, inr, ⊎_elim, arith}
use Rattle.std.proofs.lemmas.Bool.{cases_eq, both_ways, false≢true}
use Rattle.std.proofs.lemmas.Bool.Decides.{same_from_decides}
use Rattle.std.proofs.lemmas.List.{length-set, get_or-set_same, length-replicate}
use Rattle.std.proofs.lemmas.List.Elements.{All-head, All-tail, All-contains}
use Rattle.std.proofs.lemmas.List.FromFn.{fill_by_all}
use Rattle.std.specs.Bool.{Decides}
use Rattle.std.specs.List.{All, Contains}
use Rattle.bf_graph.specs.Graph.{parents_of, IsGraph}
use Rattle.bf_search.specs.Reach.{Reaches, reaches, any_reaches, reach_row, reach_row_of}
use Rattle.bf_search.specs.Candidates.{is_in}
use Rattle.bf_search.proofs.Reaching.{Reaches-refl, Reaches-back, Reaches-trans, Reaches-same, reaches_decides, closed_under_reach}
use Rattle.bf_search.proofs.RowLemmas.{is_in-lt, is_in-set, set-kept}
use Rattle.bf_search.proofs.CandidateLemmas.{SomeReaches, any_reaches_decides}
use Rattle.bf_reach.specs.Marks.{marked, RowReaches, Marks}

-- ---- rows with more places true

pub length-marked : (row : List Bool) (ps : List ℕ) → length (marked row ps) ≡ length row
length-marked row [] = refl
length-marked row (p ∷ ps) = length-marked (set row p true) ps ∙ length-set row p true

-- one more place at the end
pub marked-push : (row : List Bool) (ps : List ℕ) (p : ℕ) → marked row (ps ++ p ∷ []) ≡ set (marked row ps) p true
marked-push row [] p = refl
marked-push row (q ∷ ps) p = marked-push (set row q true) ps p

Contains-more : (p : ℕ) (ps : List ℕ) (q : ℕ) → Contains ps q → Contains (p ∷ ps) q
Contains-more p ps q h = (suc h.0, omega (arith, h.1), h.2)

pub marked-tells : (row : List Bool) (ps : List ℕ) (q : ℕ) → is_in (marked row ps) q ≡ true → (is_in row q ≡ true) ⊎ Contains ps q
marked-tells row [] q h = inl h
marked-tells row (p ∷ ps) q h =
    ⊎_elim
    (λ k. ⊎_elim (λ l. inl l) (λ e. inr (0, omega arith, e)) (is_in-set row p q k))
    (λ k. inr (Contains-more p ps q k))
    (marked-tells (set row p true) ps q h)

pub marked-kept : (row : List Bool) (ps : List ℕ) (q : ℕ) → is_in row q ≡ true → is_in (marked row ps) q ≡ true
marked-kept row [] q h = h
marked-kept row (p ∷ ps) q h = marked-kept (set row p true) ps q (set-kept row p q h)

pub marked-true : (row : List Bool) (ps : List ℕ) (q : ℕ) → All (λ p. p < length row) ps → Contains ps q → is_in (marked row ps) q ≡ true
marked-true row [] q all h = absurd (omega (arith, h.1))
marked-true row (p ∷ ps) q all (zero, l, e) =
    marked-kept (set row p true) ps q (subst (λ (x : ℕ). is_in (set row p true) x ≡ true) e
    (get_or-set_same row p true false (All-head (λ p. p < length row) p ps all)))
marked-true row (p ∷ ps) q all (suc k, l, e) =
    marked-true (set row p true) ps q (rw (length-set row p true) (All-tail (λ p. p < length row) p ps all)) (k, omega arith, e)

-- ---- a walk

pub Marks-start : (graph : List (List ℕ)) (row : List Bool) (end : ℕ) → ((p : ℕ) → is_in row p ≡ true → p < end) → Marks graph row row end
Marks-start graph row end below = record {
  same_length = refl;
  reached = λ q h. record { source = q; is_source = h; leads = Reaches-refl graph q };
  kept = λ q h. h;
  closed = λ p q low h _. let l : p < end = below p h in absurd (omega arith);
}

pub Marks-skip : {graph : List (List ℕ)} {start row : List Bool} {low : ℕ} → (p : ℕ) → p + 1 ≡ low → is_in row p ≡ false → Marks graph start row low
    → Marks graph start row p
Marks-skip {graph} {start} {row} {low} p next unmarked m = record {
  same_length = m.same_length;
  reached = m.reached;
  kept = m.kept;
  closed = λ r q l h step.
      ⊎_elim
      (λ e. absurd (both_ways (is_in row r) (subst (λ (x : ℕ). is_in row x ≡ false) (sym e) unmarked) h))
      (λ n. m.closed r q (omega arith) h step)
      (cases_eq r p);
}

pub Marks-more : {graph : List (List ℕ)} {start row : List Bool} {low : ℕ} → (p : ℕ) (parents : List ℕ) → parents ≡ parents_of graph p → p + 1 ≡ low
    → is_in row p ≡ true
    → All (λ parent. parent < p) parents → Marks graph start row low → Marks graph start (marked row parents) p
Marks-more {graph} {start} {row} {low} p parents are next here earlier m = record {
  same_length = length-marked row parents ∙ m.same_length;
  reached = λ q h.
      ⊎_elim
      (λ k. m.reached q k)
      (λ k.
      let from : RowReaches graph start p = m.reached p here in
      record { source = from.source; is_source = from.is_source; leads = Reaches-back from.leads (subst (λ (x : List ℕ). Contains x q) are k) })
      (marked-tells row parents q h);
  kept = λ q h. marked-kept row parents q (m.kept q h);
  closed = λ r q l h step.
      ⊎_elim
      (λ e. marked-true row parents q within (subst (λ (x : List ℕ). Contains x q) (ap (λ (x : ℕ). parents_of graph x) e ∙ sym are) step))
      (λ n.
      ⊎_elim
      (λ k. marked-kept row parents q (m.closed r q (omega arith) k step))
      (λ k. let below : r < p = All-contains (λ parent. parent < p) parents r earlier k in absurd (omega arith))
      (marked-tells row parents r h))
      (cases_eq r p);
}
  where
    here_within : p < length row
    here_within = is_in-lt row p here

    within : All (λ parent. parent < length row) parents
    within = λ k d l. let below : get_or parents k d < p = earlier k d l in omega (arith, here_within)

pub Marks-down : {graph : List (List ℕ)} {start row : List Bool} {low high : ℕ} → low ≤ high → Marks graph start row low → Marks graph start row high
Marks-down {graph} {start} {row} {low} {high} l m = record {
  same_length = m.same_length;
  reached = m.reached;
  kept = m.kept;
  closed = λ p q k h step. m.closed p q (omega arith) h step;
}

-- what the marks reach is marked, as far down as the walk went
pub Marks-complete : (graph : List (List ℕ)) (start row : List Bool) (low q : ℕ) → IsGraph graph → Marks graph start row low → low ≤ q + 1
    → RowReaches graph start q → is_in row q ≡ true
Marks-complete graph start row low q g m l h =
    closed_under_reach graph (λ r. q ≤ r → is_in row r ≡ true)
    (λ p r here step up.
    let below : r < p = All-contains (λ parent. parent < p) (parents_of graph p) r (g.earlier p) step in
    m.closed p r (omega arith) (here (omega arith)) step)
    h.source h.leads.path q h.leads.leads (λ _. m.kept h.source h.is_source) (omega arith)

pub Marks_decide : (graph : List (List ℕ)) (start row : List Bool) (low q : ℕ) → IsGraph graph → Marks graph start row low → low ≤ q + 1
    → Decides (is_in row q) (RowReaches graph start q)
Marks_decide graph start row low q g m l = (m.reached q, Marks-complete graph start row low q g m l)

-- ---- a walk from one place

pub none_marked : (n q : ℕ) → is_in (replicate n false) q ≡ true → ⊥
none_marked zero q h = false≢true h
none_marked (suc n) zero h = false≢true h
none_marked (suc n) (suc q) h = none_marked n q h

pub one_marked : (n place q : ℕ) → is_in (set (replicate n false) place true) q ≡ true → place ≡ q
one_marked n place q h =
    ⊎_elim
    (λ k. absurd (none_marked n q k))
    (λ e. e)
    (is_in-set (replicate n false) place q h)

one_source : (graph : List (List ℕ)) (n place q : ℕ) → RowReaches graph (set (replicate n false) place true) q → Reaches graph place q
one_source graph n place q h = Reaches-trans (Reaches-same graph place h.source (one_marked n place h.source h.is_source)) h.leads

from_one : (graph : List (List ℕ)) (n place q : ℕ) → place < n → Reaches graph place q → RowReaches graph (set (replicate n false) place true) q
from_one graph n place q l h = record {
  source = place;
  is_source = get_or-set_same (replicate n false) place true false (rw (length-replicate n false) l);
  leads = h;
}

-- the answer at one place
pub reaches-from_marks : (graph : List (List ℕ)) (row : List Bool) (n place low q : ℕ) → IsGraph graph → place < n
    → Marks graph (set (replicate n false) place true) row low → low ≤ q + 1 → is_in row q ≡ reaches graph place q
reaches-from_marks graph row n place low q g l m down =
    same_from_decides (is_in row q) (reaches graph place q)
    (λ h. one_source graph n place q (m.reached q h), λ h. Marks-complete graph _ row low q g m down (from_one graph n place q l h))
    (reaches_decides graph place q g)

-- the whole row
pub row-from_marks : (graph : List (List ℕ)) (row : List Bool) (n place : ℕ) → IsGraph graph → n ≡ length graph → place < n
    → Marks graph (set (replicate n false) place true) row 0 → row ≡ reach_row graph place
unfolding reach_row
row-from_marks graph row n place g long l m =
    fill_by_all (λ q. reaches graph place q) row (length graph) false
    (m.same_length ∙ length-set (replicate n false) place true ∙ length-replicate n false ∙ long)
    (λ q h. reaches-from_marks graph row n place 0 q g l m (omega arith))

-- ---- a walk from several places

several_sources : (graph : List (List ℕ)) (n : ℕ) (from : List ℕ) (q : ℕ) → RowReaches graph (marked (replicate n false) from) q → SomeReaches graph from q
several_sources graph n from q h =
    ⊎_elim
    (λ k. absurd (none_marked n h.source k))
    (λ k. record { source = h.source; among = k; leads = h.leads })
    (marked-tells (replicate n false) from h.source h.is_source)

pub row_of-from_marks : (graph : List (List ℕ)) (row : List Bool) (n : ℕ) (from : List ℕ) → IsGraph graph → n ≡ length graph → All (λ p. p < n) from
    → Marks graph (marked (replicate n false) from) row 0 → row ≡ reach_row_of graph from
unfolding reach_row_of
row_of-from_marks graph row n from g long all m =
    fill_by_all (λ q. any_reaches graph from q) row (length graph) false
    (m.same_length ∙ length-marked (replicate n false) from ∙ length-replicate n false ∙ long)
    (λ q h.
    same_from_decides (is_in row q) (any_reaches graph from q) (
      λ k. several_sources graph n from q (m.reached q k),
      λ (k : SomeReaches graph from q).
          Marks-complete graph _ row 0 q g m (omega arith)
          (record {
            source = k.source;
            is_source = marked-true (replicate n false) from k.source (rw (length-replicate n false) all) k.among;
            leads = k.leads;
          }),
    )
    (any_reaches_decides graph from q g))
