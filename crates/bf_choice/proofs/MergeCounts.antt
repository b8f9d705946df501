-- Lemmas on the counts of the merges.
use Rattle.std.proofs.Common.{◌≡◌, ℕ, ◌+◌, ◌-◌, ◌<◌, ◌≤◌, List, length, get_or, set, replicate, ap, sym, ◌∙◌, subst, ⊎_elim, arith}
use Rattle.std.proofs.lemmas.Bool.{cases_eq, cases_lt}
use Rattle.std.proofs.lemmas.List.{length-set, get_or-set_same, get_or-set_other, get_or-replicate, length-replicate}
use Rattle.std.proofs.lemmas.List.FromFn.{fill_by_all}
use Rattle.std.specs.List.{count_by}
use Rattle.bf_graph.specs.Graph.{parents_of, IsGraph}
use Rattle.bf_search.specs.Reach.{reaches}
use Rattle.bf_choice.specs.declared.parents.Parentage.TheVariants.{Merge}
use Rattle.bf_choice.specs.Counted.{count_below}
use Rattle.bf_choice.specs.Sizes.{parentage_of, reach_size, reach_sizes, CountsMerges, CountsBlock, SizesKnown}
use Rattle.bf_choice.specs.BlockRows.{block_row}
use Rattle.bf_choice.proofs.Counting.{count_below-le, count_below-zero, count_below-at}
use Rattle.bf_choice.proofs.Steps.{count_below-reaches_past, reach_size-is}
use Rattle.bf_choice.proofs.Rows.{count_below-block}

-- nothing is counted yet
pub CountsMerges-start : (graph : List (List ℕ)) (n : ℕ) → n ≡ length graph → CountsMerges graph 0 (replicate n 0)
CountsMerges-start graph n long = record {
  size = length-replicate n 0 ∙ long;
  merges = λ p l m. get_or-replicate n p 0 0 (omega arith) ∙ sym (count_below-zero (reaches graph p));
}

-- where there is no merge there is nothing to count
pub CountsMerges-none : (graph : List (List ℕ)) (end : ℕ) (sizes : List ℕ) → length sizes ≡ length graph
    → ((p : ℕ) → p < length graph → parentage_of (parents_of graph p) ≡ Merge → ⊥) → CountsMerges graph end sizes
CountsMerges-none graph end sizes long none = record { size = long; merges = λ p l m. absurd (none p l m) }

-- past the last place there is nothing to count
pub CountsMerges-end : (graph : List (List ℕ)) (end : ℕ) (sizes : List ℕ) → IsGraph graph → length graph ≤ end → CountsMerges graph end sizes
    → CountsMerges graph (length graph) sizes
CountsMerges-end graph end sizes g l counted = record {
  size = counted.size;
  merges = λ p within m.
      let gap : ℕ = end - length graph in
      counted.merges p within m ∙ count_below-at (reaches graph p) end (length graph + gap) (omega arith) ∙ count_below-reaches_past graph p (length graph) gap
      g within;
}

pub CountsMerges-at : (graph : List (List ℕ)) (end other : ℕ) (sizes : List ℕ) → end ≡ other → CountsMerges graph end sizes → CountsMerges graph other sizes
CountsMerges-at graph end other sizes e counted = subst (λ (x : ℕ). CountsMerges graph x sizes) e counted

-- no merge before the block reaches it
pub CountsBlock-start : (graph : List (List ℕ)) (start : ℕ) (sizes : List ℕ) → IsGraph graph → CountsMerges graph start sizes
    → CountsBlock graph start start sizes
CountsBlock-start graph start sizes g counted = record {
  size = counted.size;
  done = λ p below within m. counted.merges p within m ∙ sym (count_below-reaches_past graph p start 512 g below);
  left = λ p above within m. counted.merges p within m;
}

pub CountsBlock-end : (graph : List (List ℕ)) (start place : ℕ) (sizes : List ℕ) → length graph ≤ place → CountsBlock graph start place sizes
    → CountsMerges graph (start + 512) sizes
CountsBlock-end graph start place sizes l counted = record {
  size = counted.size;
  merges = λ p within m. counted.done p (omega arith) within m;
}

-- a merge is counted
pub CountsBlock-more : (graph : List (List ℕ)) (start place : ℕ) (sizes : List ℕ) (count : ℕ) → place < length graph
    → parentage_of (parents_of graph place) ≡ Merge
    → count ≡ count_by (λ v. v) (block_row graph start place) → CountsBlock graph start place sizes
    → CountsBlock graph start (place + 1) (set sizes place (get_or sizes place 0 + count))
CountsBlock-more graph start place sizes count within merge is counted = record {
  size = length-set sizes place _ ∙ counted.size;
  done = λ p below l m.
      ⊎_elim
      (λ (e : p ≡ place).
      subst (λ (x : ℕ). get_or (set sizes place (get_or sizes place 0 + count)) x 0 ≡ count_below (reaches graph x) (start + 512)) (sym e)
      (get_or-set_same sizes place _ 0 (omega (arith, counted.size)) ∙ total))
      (λ (n : p ≡ place → ⊥). get_or-set_other sizes place p _ 0 n ∙ counted.done p (omega arith) l m)
      (cases_eq p place);
  left = λ p above l m. get_or-set_other sizes place p _ 0 (λ e. omega arith) ∙ counted.left p (omega arith) l m;
}
  where
    total : get_or sizes place 0 + count ≡ count_below (reaches graph place) (start + 512)
    total =
        let before : get_or sizes place 0 ≡ count_below (reaches graph place) start = counted.left place (omega arith) within merge in
        ap (λ (n : ℕ). n + count) before ∙ ap (λ (n : ℕ). count_below (reaches graph place) start + n) is ∙ count_below-block graph start place

-- what is counted is at most the number of places
pub CountsBlock-fits : (graph : List (List ℕ)) (start place : ℕ) (sizes : List ℕ) (count : ℕ) → IsGraph graph → place < length graph
    → parentage_of (parents_of graph place) ≡ Merge
    → count ≡ count_by (λ v. v) (block_row graph start place) → CountsBlock graph start place sizes → get_or sizes place 0 + count ≤ length graph
CountsBlock-fits graph start place sizes count g within merge is counted =
    let before : get_or sizes place 0 ≡ count_below (reaches graph place) start = counted.left place (omega arith) within merge in
    let total : count_below (reaches graph place) start + count_by (λ v. v) (block_row graph start place) ≡ count_below (reaches graph place) (start + 512) =
    count_below-block graph start place in
    ⊎_elim
    (λ (short : start + 512 < place + 1). omega (arith, count_below-le (reaches graph place) (start + 512)))
    (λ (long : place + 1 ≤ start + 512).
    let gap : ℕ = start + 512 - (place + 1) in
    let same : count_below (reaches graph place) (start + 512) ≡ count_below (reaches graph place) (place + 1) =
    count_below-at (reaches graph place) (start + 512) (place + 1 + gap) (omega arith) ∙ count_below-reaches_past graph place (place + 1) gap g (omega arith) in
    omega (arith, count_below-le (reaches graph place) (place + 1)))
    (cases_lt (start + 512) (place + 1))

-- ---- the sizes of all places

pub SizesKnown-start : (graph : List (List ℕ)) (sizes : List ℕ) → CountsMerges graph (length graph) sizes → SizesKnown graph 0 sizes
SizesKnown-start graph sizes counted = record {
  size = counted.size;
  before = λ p l. absurd (omega arith);
  merges = λ p within m. counted.merges p within m ∙ sym (reach_size-is graph p);
}

pub SizesKnown-all : (graph : List (List ℕ)) (place : ℕ) (sizes : List ℕ) → length graph ≤ place → SizesKnown graph place sizes → sizes ≡ reach_sizes graph
unfolding reach_sizes
SizesKnown-all graph place sizes l known = fill_by_all (reach_size graph) sizes (length graph) 0 known.size (λ p within. known.before p (omega arith))
