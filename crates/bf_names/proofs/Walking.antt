-- The steps of a name over a graph.
use Rattle.std.proofs.Common.{◌≡◌, ℕ, suc, ◌+◌, ◌-◌, ◌<◌, ◌≤◌, List, ◌∷◌, length, drop, get_or, Option, Some, None, Result, Ok, Err, refl, sym, ◌∙◌, ap, arith}
use Rattle.std.proofs.Common.{add-one, length-drop}
use Rattle.std.proofs.lemmas.List.{nil_from_length}
use Rattle.std.proofs.lemmas.Result.{err_from_is_err_and}
use Rattle.std.proofs.Math.Seq.{drop-cons}
use Rattle.std.specs.List.{slice_get}
use Rattle.std.specs.Option.{ok_or, option_and_then}
use Rattle.std.specs.Result.{IsErrAnd}
use Rattle.bf_graph.specs.Graph.{parents_of}
use Rattle.bf_names.specs.declared.fault.NameFault.{NameFault}
use Rattle.bf_names.specs.declared.fault.NameFault.TheVariants.{NoParent}
use Rattle.bf_names.specs.declared.step.Step.{Step}
use Rattle.bf_names.specs.Names.{ancestor, after_step, after_steps}
use Rattle.bf_grammar.specs.Forms.{◌>>=◌}

pub ancestor-suc : (graph : List (List ℕ)) (n place : ℕ) (parent : Option ℕ) → slice_get (parents_of graph place) 0 ≡ parent
    → ancestor graph (suc n) place ≡ option_and_then (ancestor graph n) parent
unfolding ancestor
ancestor-suc graph n place parent is = ap (option_and_then (ancestor graph n)) is

-- one generation further, where there is a first parent
pub ancestor-parent : (graph : List (List ℕ)) (n place parent : ℕ) → 0 < n → Some parent ≡ slice_get (parents_of graph place) 0
    → ancestor graph n place ≡ ancestor graph (n - 1) parent
ancestor-parent graph n place parent positive is =
    let e : n ≡ suc (n - 1) = omega arith in
    ap (λ m. ancestor graph m place) e ∙ ancestor-suc graph (n - 1) place (Some parent) (sym is)

pub ancestor-none : (graph : List (List ℕ)) (n place : ℕ) → 0 < n → None ≡ slice_get (parents_of graph place) 0 → ancestor graph n place ≡ None
ancestor-none graph n place positive is =
    let e : n ≡ suc (n - 1) = omega arith in
    ap (λ m. ancestor graph m place) e ∙ ancestor-suc graph (n - 1) place None (sym is)

pub ancestor-zero : (graph : List (List ℕ)) (n place : ℕ) → n ≤ 0 → ancestor graph n place ≡ Some place
unfolding ancestor
ancestor-zero graph n place none = let e : n ≡ 0 = omega arith in ap (λ m. ancestor graph m place) e

-- ---- steps one after another

after_first : (graph : List (List ℕ)) (step : Step) (steps : List Step) (place : ℕ) (o : Option ℕ) → after_step graph step place ≡ o
    → after_steps graph (step ∷ steps) place ≡ (ok_or o NoParent >>= after_steps graph steps)
unfolding after_steps
after_first graph step steps place o is = ap (λ (next : Option ℕ). ok_or next NoParent >>= after_steps graph steps) is

front : (graph : List (List ℕ)) (steps : List Step) (i : ℕ) (d : Step) (place : ℕ) → i < length steps
    → after_steps graph (drop i steps) place ≡ after_steps graph (get_or steps i d ∷ drop (i + 1) steps) place
front graph steps i d place within = ap (λ (rest : List Step). after_steps graph rest place) (drop-cons steps i d within ∙ ap
    (λ n. get_or steps i d ∷ drop n steps) (sym (add-one i)))

pub after_steps-next : (graph : List (List ℕ)) (steps : List Step) (i : ℕ) (d : Step) (place next : ℕ) → i < length steps
    → Some next ≡ after_step graph (get_or steps i d) place
    → after_steps graph (drop i steps) place ≡ after_steps graph (drop (i + 1) steps) next
after_steps-next graph steps i d place next within is =
    front graph steps i d place within ∙ after_first graph (get_or steps i d) (drop (i + 1) steps) place (Some next) (sym is)

refused_none : (o : Option ℕ) (fault : NameFault) → ◌≡◌ {A = Result ℕ NameFault} (Err fault) (ok_or o NoParent) → (None ≡ o) × (fault ≡ NoParent)
refused_none (Some place) fault same = cc
refused_none None fault same = (refl, cc)

-- a step that leads nowhere
pub after_steps-none : (graph : List (List ℕ)) (steps : List Step) (i : ℕ) (d : Step) (place : ℕ) (o : Option ℕ) (fault : NameFault)
    (result : Result ℕ NameFault)
    → i < length steps → o ≡ after_step graph (get_or steps i d) place → ◌≡◌ {A = Result ℕ NameFault} (Err fault) (ok_or o NoParent)
    → IsErrAnd result (λ other. other ≡ fault)
    → result ≡ after_steps graph (drop i steps) place
after_steps-none graph steps i d place o fault result within is refused exit =
    let none = refused_none o fault refused in
    let p = err_from_is_err_and result exit in
    p.1 ∙ ap (λ f. Err f) (p.2 ∙ none.1)
    ∙ sym (front graph steps i d place within ∙ after_first graph (get_or steps i d) (drop (i + 1) steps) place None (sym (none.0 ∙ is)))

pub after_steps-all : (graph : List (List ℕ)) (steps : List Step) (i place : ℕ) → length steps ≤ i → after_steps graph (drop i steps) place ≡ Ok place
unfolding after_steps
after_steps-all graph steps i place past =
    ap (λ (rest : List Step). after_steps graph rest place) (nil_from_length (drop i steps) (omega (arith, length-drop i steps)))
