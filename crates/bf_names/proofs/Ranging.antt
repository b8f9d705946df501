-- Ranges of commits, and the rows that they give.
use Rattle.std.proofs.Common.{◌≡◌, ℕ, ◌+◌, ◌<◌, ◌==◌, Bool, true, false, not, ◌&&◌, List, length, take, drop, map, set, replicate, Some, None, Result, Ok, sym}
use Rattle.std.proofs.Common.{◌∙◌, ap, subst, ⊎_elim, arith, get_or-set_other, length-set}
use Rattle.std.proofs.lemmas.Bool.Decides.{eqb_tells}
use Rattle.std.proofs.lemmas.Grind.{get_or-set_at}
use Rattle.std.proofs.lemmas.List.{get_or-replicate, length-replicate}
use Rattle.std.proofs.lemmas.List.FromFn.{fill_by_all, length-map-range_with_len}
use Rattle.std.proofs.lemmas.Simd.{zip2_of_maps}
use Rattle.std.specs.List.{range_with_len}
use Rattle.std.specs.Result.{IsErrAnd}
use Rattle.std.specs.Prelude.{codes}
use Rattle.std.specs.Simd.Lanes.{zip2}
use Rattle.bf_history.specs.Meanings.{History}
use Rattle.bf_search.specs.Reach.{places, reach_row, reaches}
use Rattle.bf_names.specs.declared.fault.NameFault.{NameFault}
use Rattle.bf_names.specs.declared.step.Step.{Step}
use Rattle.bf_names.specs.Names.{Fails, Means, between, first_at, name, place_of, range, range_at, right_steps, row_between, steps_of}
use Rattle.bf_names.proofs.Naming.{means_exit, means_then}
use Rattle.bf_grammar.specs.Forms.{◌>>=◌}

-- ---- the rows

-- one place alone
pub row_of-set : (n place : ℕ) → place < n → set (replicate n false) place true ≡ map (λ q. q == place) (range_with_len 0 n)
row_of-set n place within =
    fill_by_all (λ q. q == place) (set (replicate n false) place true) n false (length-set (replicate n false) place true ∙ length-replicate n false)
    (λ k h.
    ⊎_elim
    (λ same. get_or-set_at (replicate n false) place k true false same.1 (omega (arith, length-replicate n false)) ∙ sym same.0)
    (λ other. get_or-set_other (replicate n false) place k true false other.1 ∙ get_or-replicate n k false false h ∙ sym other.0)
    (eqb_tells k place))

-- what one place reaches without what another does
pub row_between-zip2 : (graph : List (List ℕ)) (from to : ℕ) (row before result : List Bool) → row ≡ reach_row graph to → before ≡ reach_row graph from
    → result ≡ zip2 (λ mine theirs. mine && not theirs) row before → result ≡ row_between graph from to
unfolding reach_row
row_between-zip2 graph from to row before result has has_not is =
    is ∙ zip2_of_maps (λ mine theirs. mine && not theirs) (λ q. reaches graph to q) (λ q. reaches graph from q) (places graph) has has_not

pub length-row_between : (graph : List (List ℕ)) (from to : ℕ) → length (row_between graph from to) ≡ length graph
length-row_between graph from to = length-map-range_with_len (λ q. reaches graph to q && not (reaches graph from q)) 0 (length graph)

-- ---- a range part by part

abbrev pub to_row : History → ℕ → ℕ → Result (List Bool) NameFault
to_row history from to = Ok (row_between history.parents from to)

abbrev pub from_left : History → List ℕ → List Step → ℕ → Result (List Bool) NameFault
from_left history right after from = place_of history right after >>= to_row history from

abbrev pub from_forms : History → List ℕ → List ℕ → List Step → List Step → Result (List Bool) NameFault
from_forms history left right before after = place_of history left before >>= from_left history right after

abbrev pub from_steps : History → List ℕ → List ℕ → List Step → Result (List Bool) NameFault
from_steps history left right before = right_steps right >>= from_forms history left right before

-- both sides are in their form
pub forms_good : (result : Result (List Bool) NameFault) (history : History) (left right : List ℕ) (before after : List Step)
    → steps_of left ≡ Ok before → right_steps right ≡ Ok after
    → Means result (from_forms history left right before after) → Means result (between history left right)
unfolding between
forms_good result history left right before after good_left good_right means =
    means_then result (steps_of left) (from_steps history left right) before good_left
    (means_then result (right_steps right) (from_forms history left right before) after good_right means)

-- the left side is found
pub left_found : (result : Result (List Bool) NameFault) (history : History) (left right : List ℕ) (before after steps : List Step)
    (from : ℕ) → steps ≡ before → place_of history left steps ≡ Ok from
    → Means result (from_left history right after from) → Means result (from_forms history left right before after)
left_found result history left right before after steps from same found means =
    means_then result (place_of history left before) (from_left history right after) from (ap (place_of history left) (sym same) ∙ found) means

-- a side is refused
pub side_refused : (result : Result (List Bool) NameFault) (history : History) (text : List ℕ) (known steps : List Step)
    (fault : NameFault) (next : ℕ → Result (List Bool) NameFault) → steps ≡ known
    → IsErrAnd result (λ other. other ≡ fault) → Fails fault (place_of history text steps) → Means result (place_of history text known >>= next)
side_refused result history text known steps fault next same exit refused =
    means_exit result fault (place_of history text known) next exit (subst (λ (s : List Step). Fails fault (place_of history text s)) same refused)

-- both are found
pub row_found : (history : History) (right : List ℕ) (after steps : List Step) (graph : List (List ℕ)) (from to : ℕ) (row : List Bool)
    → steps ≡ after → place_of history right steps ≡ Ok to
    → graph ≡ history.parents → row ≡ row_between graph from to → Means (Ok row) (from_left history right after from)
row_found history right after steps graph from to row same found is row_is =
    means_then (Ok row) (place_of history right after) (to_row history from) to (ap (place_of history right) (sym same) ∙ found)
    (ap (λ (r : List Bool). Ok r) (sym (row_is ∙ ap (λ (g : List (List ℕ)). row_between g from to) is)))

-- ---- whether a text is a range

abbrev pub alone : History → ℕ → Result (List Bool) NameFault
alone history place = Ok (map (λ q. q == place) (places history.parents))

pub range-dots : (history : History) (text : List ℕ) (at : ℕ) → Some at ≡ first_at (codes "..") text
    → between history (take at text) (drop (at + 2) text) ≡ range history text
unfolding range
range-dots history text at is = ap (range_at history text) is

pub range-name : (history : History) (text : List ℕ) → None ≡ first_at (codes "..") text → (name history text >>= alone history) ≡ range history text
unfolding range
range-name history text is = ap (range_at history text) is

pub alone_found : (history : History) (text : List ℕ) (place len : ℕ) (row : List Bool) → None ≡ first_at (codes "..") text
    → name history text ≡ Ok place → len ≡ length history.parents
    → row ≡ map (λ q. q == place) (range_with_len 0 len) → range history text ≡ Ok row
alone_found history text place len row no_dots found is row_is =
    sym (range-name history text no_dots) ∙ ap (λ (r : Result ℕ NameFault). r >>= alone history) found
    ∙ ap (λ (r : List Bool). Ok r) (sym (row_is ∙ ap (λ n. map (λ q. q == place) (range_with_len 0 n)) is))
