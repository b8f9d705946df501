-- The form of a name: where a text stands in another, and the steps one after another.
use Rattle.std.proofs.Common.{◌≡◌, ℕ, ◌+◌, ◌<◌, ◌≤◌, Bool, true, false, cond, ltb, List, [], ◌∷◌, ◌++◌, length, drop, get_or, Option, Some, None, Result, Ok}
use Rattle.std.proofs.Common.{Err, refl, sym, ◌∙◌, ap, subst, ⊎_elim, arith, append_assoc, zero-add, add-one, length-drop}
use Rattle.std.proofs.lemmas.Bool.{cases_lt, cond-true, cond-false, lt-ltb, le-ltb}
use Rattle.std.proofs.lemmas.List.{append-nil, nil_from_length}
use Rattle.std.proofs.lemmas.List.FromFn.{length-range_with_len, get_or-range_with_len}
use Rattle.std.proofs.lemmas.List.Sums.{position_or_len_is, prefix_len-le-length}
use Rattle.std.proofs.lemmas.Result.{err_from_is_err_and}
use Rattle.std.proofs.Math.Seq.{drop-cons}
use Rattle.std.specs.List.{position, position_or_len, range_with_len, before_first}
use Rattle.std.specs.Option.{option_and_then, option_map, ok_or, unwrap_or}
use Rattle.std.specs.Prelude.{not, IfErr}
use Rattle.std.specs.Result.{IsErrAnd}
use Rattle.bf_names.specs.declared.fault.NameFault.{NameFault}
use Rattle.bf_names.specs.declared.fault.NameFault.TheVariants.{BadForm}
use Rattle.bf_names.specs.declared.step.Step.{Step}
use Rattle.bf_names.specs.Names.{Fails, is_sign, step_of, step_texts, steps_written}

-- ---- the first that passes

place_or_len : (n i : ℕ) → i ≤ n → unwrap_or (cond (ltb i n) (Some i) None) n ≡ i
place_or_len n i within =
    ⊎_elim
    (λ before. ap (λ o. unwrap_or o n) (cond-true (ltb i n) (Some i) None (lt-ltb i n before)))
    (λ past. let same : n ≡ i = omega arith in ap (λ o. unwrap_or o n) (cond-false (ltb i n) (Some i) None (le-ltb i n past)) ∙ same)
    (cases_lt i n)

pub unwrap_or-position : {X : Type 0} (p : X → Bool) (xs : List X) → unwrap_or (position p xs) (length xs) ≡ position_or_len p xs
unwrap_or-position p xs = place_or_len (length xs) (position_or_len p xs) (prefix_len-le-length (λ x. not (p x)) xs)

at_place : (p : ℕ → Bool) (n k : ℕ) (b : Bool) → k < n → p k ≡ b → p (get_or (range_with_len 0 n) k 0) ≡ b
at_place p n k b within h = ap p (get_or-range_with_len 0 n k 0 within ∙ zero-add k) ∙ h

pub position_found : (p : ℕ → Bool) (n at : ℕ) → at < n → ((k : ℕ) → k < at → p k ≡ false) → p at ≡ true → position p (range_with_len 0 n) ≡ Some at
position_found p n at within before here =
    let is : position_or_len p (range_with_len 0 n) ≡ at =
    position_or_len_is p (range_with_len 0 n) at 0 (omega (arith, length-range_with_len 0 n)) (λ k h. at_place p n k false (omega arith)
    (before k h)) (λ _. at_place p n at true within here) in
    ap (λ i. cond (ltb i (length (range_with_len 0 n))) (Some i) None) is
    ∙ cond-true (ltb at (length (range_with_len 0 n))) (Some at) None (lt-ltb at (length (range_with_len 0 n)) (omega (arith, length-range_with_len 0 n)))

pub position_none : (p : ℕ → Bool) (n : ℕ) → ((k : ℕ) → k < n → p k ≡ false) → position p (range_with_len 0 n) ≡ None
position_none p n before =
    let is : position_or_len p (range_with_len 0 n) ≡ n =
    position_or_len_is p (range_with_len 0 n) n 0 (omega (arith, length-range_with_len 0 n)) (λ k h. at_place p n k false h (before k h))
    (λ h. absurd (omega (arith, length-range_with_len 0 n))) in
    ap (λ i. cond (ltb i (length (range_with_len 0 n))) (Some i) None) is
    ∙ cond-false (ltb n (length (range_with_len 0 n))) (Some n) None (le-ltb n (length (range_with_len 0 n)) (omega (arith, length-range_with_len 0 n)))

-- ---- steps after those so far

-- the steps so far, and those that the rest of the text writes
abbrev pub resumed : List Step → List ℕ → Option (List Step)
resumed steps rest = option_map (λ more. steps ++ more) (steps_written (step_texts rest))

pub resumed_none : (rest : List ℕ) → steps_written (step_texts rest) ≡ resumed [] rest
resumed_none rest =
    elim (steps_written (step_texts rest)) as (λ (o : Option (List Step)). o ≡ option_map (λ
    (more : List Step). [] ++ more) o) [ Some steps ↦ refl | None ↦ refl ]

pub resumed_all : (steps : List Step) → resumed steps [] ≡ Some steps
unfolding step_texts steps_written
resumed_all steps = ap (λ (all : List Step). Some all) (append-nil steps)

-- a byte that is no sign
pub resumed_passed : (steps : List Step) (byte : ℕ) (rest : List ℕ) → is_sign byte ≡ false → resumed steps (byte ∷ rest) ≡ resumed steps rest
unfolding step_texts
resumed_passed steps byte rest other = ap (λ texts. option_map (λ more. steps ++ more) (steps_written texts)) (cond-false (is_sign byte)
    ((byte ∷ before_first is_sign rest) ∷ step_texts rest) (step_texts rest) other)

prepended : (steps : List Step) (step : Step) (o : Option (List Step))
    → option_map (λ more. steps ++ more) (option_map (λ more. step ∷ more) o) ≡ option_map (λ more. (steps ++ step ∷ []) ++ more) o
prepended steps step (Some more) = ap (λ (all : List Step). Some all) (sym (append_assoc steps (step ∷ []) more))
prepended steps step None = refl

sign_first : (byte : ℕ) (rest : List ℕ) → is_sign byte ≡ true → step_texts (byte ∷ rest) ≡ (byte ∷ before_first is_sign rest) ∷ step_texts rest
unfolding step_texts
sign_first byte rest sign = cond-true (is_sign byte) ((byte ∷ before_first is_sign rest) ∷ step_texts rest) (step_texts rest) sign

written_first : (text : List ℕ) (texts : List (List ℕ)) (o : Option Step) → step_of text ≡ o
    → steps_written (text ∷ texts) ≡ option_and_then (λ step. option_map (λ steps. step ∷ steps) (steps_written texts)) o
unfolding steps_written
written_first text texts o is = ap (λ (first : Option Step). option_and_then (λ step. option_map (λ steps. step ∷ steps) (steps_written texts)) first) is

-- a sign that begins a step
pub resumed_step : (steps : List Step) (byte : ℕ) (rest : List ℕ) (step : Step) → is_sign byte ≡ true
    → step_of (byte ∷ before_first is_sign rest) ≡ Some step
    → resumed steps (byte ∷ rest) ≡ resumed (steps ++ step ∷ []) rest
resumed_step steps byte rest step sign is =
    ap (λ texts. option_map (λ more. steps ++ more) (steps_written texts)) (sign_first byte rest sign)
    ∙ ap (λ (o : Option (List Step)). option_map (λ more. steps ++ more) o) (written_first (byte ∷ before_first is_sign rest)
    (step_texts rest) (Some step) is)
    ∙ prepended steps step (steps_written (step_texts rest))

-- a sign that begins none
pub resumed_bad : (steps : List Step) (byte : ℕ) (rest : List ℕ) → is_sign byte ≡ true → step_of (byte ∷ before_first is_sign rest) ≡ None
    → resumed steps (byte ∷ rest) ≡ None
resumed_bad steps byte rest sign is =
    ap (λ texts. option_map (λ more. steps ++ more) (steps_written texts)) (sign_first byte rest sign)
    ∙ ap (λ (o : Option (List Step)). option_map (λ more. steps ++ more) o) (written_first (byte ∷ before_first is_sign rest) (step_texts rest) None is)

-- ---- the loop over a text

front : (steps : List Step) (text : List ℕ) (i : ℕ) → i < length text → resumed steps (drop i text) ≡ resumed steps (get_or text i 0 ∷ drop (i + 1) text)
front steps text i within = ap (resumed steps) (drop-cons text i 0 within ∙ ap (λ n. get_or text i 0 ∷ drop n text) (sym (add-one i)))

base_known : (text base : List ℕ) (i : ℕ) (rest : List ℕ) (o : Option Step) → rest ≡ drop (i + 1) text → base ≡ before_first is_sign rest
    → o ≡ step_of (get_or text i 0 ∷ base)
    → step_of (get_or text i 0 ∷ before_first is_sign (drop (i + 1) text)) ≡ o
base_known text base i rest o is_rest is_base is = sym (is ∙ ap (λ b. step_of (get_or text i 0 ∷ b)) (is_base ∙ ap (before_first is_sign) is_rest))

pub resumed-sign : (steps more : List Step) (text base : List ℕ) (i : ℕ) (rest : List ℕ) (o : Option Step) (step : Step)
    → i < length text → is_sign (get_or text i 0) ≡ true
    → rest ≡ drop (i + 1) text → base ≡ before_first is_sign rest → o ≡ step_of (get_or text i 0 ∷ base) → o ≡ Some step → more ≡ steps ++ step ∷ []
    → resumed steps (drop i text) ≡ resumed more (drop (i + 1) text)
resumed-sign steps more text base i rest o step within sign is_rest is_base is some added =
    front steps text i within
    ∙ resumed_step steps (get_or text i 0) (drop (i + 1) text) step sign (base_known text base i rest o is_rest is_base is ∙ some)
    ∙ ap (λ (s : List Step). resumed s (drop (i + 1) text)) (sym added)

pub resumed-other : (steps more : List Step) (text : List ℕ) (i : ℕ) → i < length text → is_sign (get_or text i 0) ≡ false → more ≡ steps
    → resumed steps (drop i text) ≡ resumed more (drop (i + 1) text)
resumed-other steps more text i within other same =
    front steps text i within ∙ resumed_passed steps (get_or text i 0) (drop (i + 1) text) other
    ∙ ap (λ (s : List Step). resumed s (drop (i + 1) text)) (sym same)

pub resumed-end : (steps : List Step) (text : List ℕ) (i : ℕ) → length text ≤ i
    → steps_written (step_texts text) ≡ resumed steps (drop i text) → ok_or (steps_written (step_texts text)) BadForm ≡ Ok steps
resumed-end steps text i past so_far =
    ap (λ (o : Option (List Step)). ok_or o BadForm)
    (so_far ∙ ap (resumed steps) (nil_from_length (drop i text) (omega (arith, length-drop i text))) ∙ resumed_all steps)

none_written : (o : Option Step) (fault : NameFault) → ◌≡◌ {A = Result Step NameFault} (Err fault) (ok_or o BadForm) → (o ≡ None) × (fault ≡ BadForm)
none_written (Some step) fault same = cc
none_written None fault same = (refl, cc)

told : {X Y : Type 0} (result : Result X NameFault) (y fault : NameFault) (meant : Result Y NameFault) → result ≡ Err y → y ≡ BadForm
    → meant ≡ Err BadForm → IfErr result (λ f. Fails f meant)
told {X} {Y} result y fault meant is bad refused =
    subst (λ (r : Result X NameFault). IfErr r (λ f. Fails f meant)) (sym is) (subst (λ (f : NameFault). Fails f meant) (sym bad) refused)

pub resumed-none : {X : Type 0} (result : Result X NameFault) (fault : NameFault) (steps : List Step) (text base : List ℕ) (i : ℕ)
    (rest : List ℕ) (o : Option Step) → i < length text → is_sign (get_or text i 0) ≡ true
    → rest ≡ drop (i + 1) text → base ≡ before_first is_sign rest → o ≡ step_of (get_or text i 0 ∷ base)
    → ◌≡◌ {A = Result Step NameFault} (Err fault) (ok_or o BadForm) → IsErrAnd result (λ other. other ≡ fault)
    → steps_written (step_texts text) ≡ resumed steps (drop i text) → IfErr result (λ f. Fails f (ok_or (steps_written (step_texts text)) BadForm))
resumed-none result fault steps text base i rest o within sign is_rest is_base is refused exit so_far =
    let none = none_written o fault refused in
    let p = err_from_is_err_and result exit in
    told result p.0 fault (ok_or (steps_written (step_texts text)) BadForm) p.1 (p.2 ∙ none.1)
    (ap (λ (all : Option (List Step)). ok_or all BadForm)
    (so_far ∙ front steps text i within
    ∙ resumed_bad steps (get_or text i 0) (drop (i + 1) text) sign (base_known text base i rest o is_rest is_base is ∙ none.0)))
