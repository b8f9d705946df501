-- Lemmas on the numbers of candidates, and on the graph of the candidates alone.
use Rattle.std.proofs.Common.{◌≡◌, ℕ, zero, suc, ◌+◌, ◌<◌, ◌≤◌, Bool, true, false, cond, ◌&&◌, List, [], ◌∷◌, ◌++◌, length, get_or, take, map, refl, ap, sym}
use Rattle.std.proofs.Common.{◌∙◌, subst, ⊎_elim, arith}
use Rattle.std.proofs.lemmas.Bool.{cases_Bool, cases_eq, both_ways}
use Rattle.std.proofs.lemmas.Bool.Decides.{same_from_decides}
use Rattle.std.proofs.lemmas.List.{length-append, get_or_append_left}
use Rattle.std.proofs.Math.Seq.{get_or-append_seam}
use Rattle.std.proofs.lemmas.List.Elements.{All-head, All-tail, All-cons}
use Rattle.std.proofs.lemmas.List.FromFn.{get_or-map-range_with_len, length-map-range_with_len}
use Rattle.std.specs.List.{All, Contains, filter, count_by, range_with_len}
use Rattle.bf_graph.specs.Graph.{parents_of, IsGraph}
use Rattle.bf_search.specs.Reach.{in_mode, IsPath, Reaches, reaches}
use Rattle.bf_search.specs.Candidates.{is_in, weight}
use Rattle.bf_search.proofs.Modes.{parents_of-in_mode}
use Rattle.bf_search.proofs.Reaching.{Reaches-refl, Reaches-same, Reaches-front, Reaches-trans, Reaches-from_test, reaches-true, reaches_decides}
use Rattle.bf_choice.specs.Counted.{count_below}
use Rattle.bf_choice.specs.Numbering.{number_of, candidate_numbers, numbers_of, IsNumbered}
use Rattle.bf_choice.specs.Sizes.{reach_size}
use Rattle.bf_choice.proofs.Counting.{count_below-yes, count_below-no, count_below-zero, count_below-le, count_below-strict, count_below-injective}
use Rattle.bf_choice.proofs.Counting.{count_below-numbered, count_by-range_with_len}

-- ---- numbers

pub number_of-zero : (row : List Bool) → number_of row 0 ≡ 0
unfolding number_of
number_of-zero row = count_below-zero (is_in row)

pub number_of-yes : (row : List Bool) (p : ℕ) → is_in row p ≡ true → number_of row (p + 1) ≡ number_of row p + 1
unfolding number_of
number_of-yes row p h = ap (count_below (is_in row)) (let e : p + 1 ≡ suc p = omega arith in e) ∙ count_below-yes (is_in row) p h

pub number_of-no : (row : List Bool) (p : ℕ) → is_in row p ≡ false → number_of row (p + 1) ≡ number_of row p
unfolding number_of
number_of-no row p h = ap (count_below (is_in row)) (let e : p + 1 ≡ suc p = omega arith in e) ∙ count_below-no (is_in row) p h

pub number_of-le : (row : List Bool) (p : ℕ) → number_of row p ≤ p
unfolding number_of
number_of-le row p = count_below-le (is_in row) p

pub number_of-strict : (row : List Bool) (p q : ℕ) → p < q → is_in row p ≡ true → number_of row p < number_of row q
unfolding number_of
number_of-strict row p q l h = count_below-strict (is_in row) p q l h

pub number_of-injective : (row : List Bool) (p q : ℕ) → is_in row p ≡ true → is_in row q ≡ true → number_of row p ≡ number_of row q → p ≡ q
unfolding number_of
number_of-injective row p q hp hq e = count_below-injective (is_in row) p q hp hq e

pub candidate_numbers-at : (row : List Bool) (p : ℕ) → p < length row → get_or (candidate_numbers row) p 0 ≡ number_of row p
unfolding candidate_numbers
candidate_numbers-at row p l = get_or-map-range_with_len (number_of row) 0 (length row) p p 0 l (omega arith)

pub length-candidate_numbers : (row : List Bool) → length (candidate_numbers row) ≡ length row
unfolding candidate_numbers
length-candidate_numbers row = length-map-range_with_len (number_of row) 0 (length row)

pub candidate_numbers-is : (row : List Bool) (place : ℕ) (numbers : List ℕ) → place ≡ length row → numbers ≡ map (number_of row) (range_with_len 0 place)
    → numbers ≡ candidate_numbers row
unfolding candidate_numbers
candidate_numbers-is row place numbers e is = is ∙ ap (λ (n : ℕ). map (number_of row) (range_with_len 0 n)) e

-- ---- the numbers of some parents

pub numbers_of-push_yes : (row : List Bool) (ps : List ℕ) (p : ℕ) → is_in row p ≡ true
    → numbers_of row (ps ++ p ∷ []) ≡ numbers_of row ps ++ number_of row p ∷ []
numbers_of-push_yes row [] p h = ap (λ (b : Bool). map (number_of row) (cond b (p ∷ []) [])) h
numbers_of-push_yes row (q ∷ qs) p h =
    ⊎_elim
    (λ (t : is_in row q ≡ true).
    ap (λ (b : Bool). map (number_of row) (cond b (q ∷ filter (is_in row) (qs ++ p ∷ [])) (filter (is_in row) (qs ++ p ∷ [])))) t
    ∙ ap (λ (xs : List ℕ). number_of row q ∷ xs) (numbers_of-push_yes row qs p h)
    ∙ ap (λ (b : Bool). map (number_of row) (cond b (q ∷ filter (is_in row) qs) (filter (is_in row) qs)) ++ number_of row p ∷ []) (sym t))
    (λ (t : is_in row q ≡ false).
    ap (λ (b : Bool). map (number_of row) (cond b (q ∷ filter (is_in row) (qs ++ p ∷ [])) (filter (is_in row) (qs ++ p ∷ [])))) t
    ∙ numbers_of-push_yes row qs p h
    ∙ ap (λ (b : Bool). map (number_of row) (cond b (q ∷ filter (is_in row) qs) (filter (is_in row) qs)) ++ number_of row p ∷ []) (sym t))
    (cases_Bool (is_in row q))

pub numbers_of-push_no : (row : List Bool) (ps : List ℕ) (p : ℕ) → is_in row p ≡ false → numbers_of row (ps ++ p ∷ []) ≡ numbers_of row ps
numbers_of-push_no row [] p h = ap (λ (b : Bool). map (number_of row) (cond b (p ∷ []) [])) h
numbers_of-push_no row (q ∷ qs) p h =
    ⊎_elim
    (λ (t : is_in row q ≡ true).
    ap (λ (b : Bool). map (number_of row) (cond b (q ∷ filter (is_in row) (qs ++ p ∷ [])) (filter (is_in row) (qs ++ p ∷ [])))) t
    ∙ ap (λ (xs : List ℕ). number_of row q ∷ xs) (numbers_of-push_no row qs p h)
    ∙ ap (λ (b : Bool). map (number_of row) (cond b (q ∷ filter (is_in row) qs) (filter (is_in row) qs))) (sym t))
    (λ (t : is_in row q ≡ false).
    ap (λ (b : Bool). map (number_of row) (cond b (q ∷ filter (is_in row) (qs ++ p ∷ [])) (filter (is_in row) (qs ++ p ∷ [])))) t
    ∙ numbers_of-push_no row qs p h
    ∙ ap (λ (b : Bool). map (number_of row) (cond b (q ∷ filter (is_in row) qs) (filter (is_in row) qs))) (sym t))
    (cases_Bool (is_in row q))

-- candidates before a place have smaller numbers
pub numbers_of-below : (row : List Bool) (ps : List ℕ) (p : ℕ) → All (λ q. q < p) ps → All (λ n. n < number_of row p) (numbers_of row ps)
numbers_of-below row [] p all = λ k d l. absurd (omega arith)
numbers_of-below row (q ∷ qs) p all =
    let rest = numbers_of-below row qs p (All-tail (λ x. x < p) q qs all) in
    ⊎_elim
    (λ (t : is_in row q ≡ true).
    subst (λ (b : Bool). All (λ n. n < number_of row p) (map (number_of row) (cond b (q ∷ filter (is_in row) qs) (filter (is_in row) qs)))) (sym t)
    (All-cons (λ n. n < number_of row p) (number_of row q) (numbers_of row qs) (number_of-strict row q p (All-head (λ x. x < p) q qs all) t) rest))
    (λ (t : is_in row q ≡ false).
    subst (λ (b : Bool). All (λ n. n < number_of row p) (map (number_of row) (cond b (q ∷ filter (is_in row) qs) (filter (is_in row) qs)))) (sym t) rest)
    (cases_Bool (is_in row q))

-- a candidate parent's number is among the numbers
pub numbers_of-has : (row : List Bool) (ps : List ℕ) (p : ℕ) → Contains ps p → is_in row p ≡ true → Contains (numbers_of row ps) (number_of row p)
numbers_of-has row [] p h t = absurd (omega (arith, h.1))
numbers_of-has row (q ∷ qs) p (zero, l, e) t =
    let here : is_in row q ≡ true = ap (is_in row) e ∙ t in
    subst (λ (b : Bool). Contains (map (number_of row) (cond b (q ∷ filter (is_in row) qs) (filter (is_in row) qs))) (number_of row p)) (sym here)
    (0, omega arith, ap (number_of row) e)
numbers_of-has row (q ∷ qs) p (suc k, l, e) t =
    let rest : Contains (numbers_of row qs) (number_of row p) = numbers_of-has row qs p (k, omega arith, e) t in
    ⊎_elim
    (λ (s : is_in row q ≡ true).
    subst (λ (b : Bool). Contains (map (number_of row) (cond b (q ∷ filter (is_in row) qs) (filter (is_in row) qs))) (number_of row p)) (sym s)
    (suc rest.0, omega (arith, rest.1), rest.2))
    (λ (s : is_in row q ≡ false).
    subst (λ (b : Bool). Contains (map (number_of row) (cond b (q ∷ filter (is_in row) qs) (filter (is_in row) qs))) (number_of row p)) (sym s) rest)
    (cases_Bool (is_in row q))

-- what has a number among these
pub record HasNumber (row : List Bool) (ps : List ℕ) (n : ℕ) : Type 0 where
  pub place : ℕ
  pub among : Contains ps place
  pub candidate : is_in row place ≡ true
  pub number : number_of row place ≡ n

later : (row : List Bool) (q : ℕ) (qs : List ℕ) (n : ℕ) → HasNumber row qs n → HasNumber row (q ∷ qs) n
later row q qs n h = record { place = h.place; among = (suc h.among.0, omega (arith, h.among.1), h.among.2); candidate = h.candidate; number = h.number }

head_or_later : (row : List Bool) (q : ℕ) (qs : List ℕ) (n : ℕ) → is_in row q ≡ true → (Contains (numbers_of row qs) n → HasNumber row qs n)
    → Contains (number_of row q ∷ numbers_of row qs) n → HasNumber row (q ∷ qs) n
head_or_later row q qs n t rest (zero, l, e) = record { place = q; among = (0, omega arith, refl); candidate = t; number = e }
head_or_later row q qs n t rest (suc k, l, e) = later row q qs n (rest (k, omega arith, e))

pub numbers_of-tells : (row : List Bool) (ps : List ℕ) (n : ℕ) → Contains (numbers_of row ps) n → HasNumber row ps n
numbers_of-tells row [] n h = absurd (omega (arith, h.1))
numbers_of-tells row (q ∷ qs) n h =
    ⊎_elim
    (λ (t : is_in row q ≡ true).
    head_or_later row q qs n t (numbers_of-tells row qs n)
    (subst (λ (b : Bool). Contains (map (number_of row) (cond b (q ∷ filter (is_in row) qs) (filter (is_in row) qs))) n) t h))
    (λ (t : is_in row q ≡ false).
    later row q qs n (numbers_of-tells row qs n (subst
    (λ (b : Bool). Contains (map (number_of row) (cond b (q ∷ filter (is_in row) qs) (filter (is_in row) qs))) n) t h)))
    (cases_Bool (is_in row q))

-- ---- the graph of the candidates

pub IsNumbered-start : (graph : List (List ℕ)) (row : List Bool) → IsNumbered graph row 0 []
IsNumbered-start graph row = record { size = sym (number_of-zero row); parents = λ p l h. absurd (omega arith) }

pub IsNumbered-skip : (graph : List (List ℕ)) (row : List Bool) (place : ℕ) (small : List (List ℕ)) → is_in row place ≡ false → IsNumbered graph row place small
    → IsNumbered graph row (place + 1) small
IsNumbered-skip graph row place small out numbered = record {
  size = numbered.size ∙ sym (number_of-no row place out);
  parents = λ p l h.
      ⊎_elim
      (λ (e : p ≡ place). absurd (both_ways (is_in row p) (ap (is_in row) e ∙ out) h))
      (λ n. numbered.parents p (omega arith) h)
      (cases_eq p place);
}

pub IsNumbered-more : (graph : List (List ℕ)) (row : List Bool) (place : ℕ) (small : List (List ℕ)) (parents : List ℕ) → is_in row place ≡ true
    → parents ≡ numbers_of row (parents_of graph place)
    → IsNumbered graph row place small → IsNumbered graph row (place + 1) (small ++ parents ∷ [])
IsNumbered-more graph row place small parents here are numbered = record {
  size = length-append small (parents ∷ []) ∙ ap (λ (n : ℕ). n + 1) numbered.size ∙ sym (number_of-yes row place here);
  parents = λ p l h.
      ⊎_elim
      (λ (e : p ≡ place).
      ap (λ (x : ℕ). parents_of (small ++ parents ∷ []) (number_of row x)) e ∙ ap (λ (n : ℕ). parents_of (small ++ parents ∷ []) n) (sym numbered.size)
      ∙ get_or-append_seam small parents [] [] ∙ are ∙ ap (λ (x : ℕ). numbers_of row (parents_of graph x)) (sym e))
      (λ (n : p ≡ place → ⊥).
      let below : number_of row p < number_of row place = number_of-strict row p place (omega arith) h in
      get_or_append_left small (parents ∷ []) [] (number_of row p) (omega (arith, numbered.size)) ∙ numbered.parents p (omega arith) h)
      (cases_eq p place);
}

pub parents_of-followed : (graph : List (List ℕ)) (first_parent : Bool) (p : ℕ)
    → cond first_parent (take 1 (parents_of graph p)) (parents_of graph p) ≡ parents_of (in_mode graph first_parent) p
parents_of-followed graph true p = sym (parents_of-in_mode graph p)
parents_of-followed graph false p = refl

-- ---- reach in it

-- what stands between two candidates is a candidate
pub record IsClosedBetween (graph : List (List ℕ)) (row : List Bool) : Type 0 where
  pub places : (p : ℕ) → is_in row p ≡ true → p < length graph
  pub between : (p r q : ℕ) → is_in row p ≡ true → is_in row q ≡ true → Reaches graph p r → Reaches graph r q → is_in row r ≡ true

pub path_by_numbers : (graph : List (List ℕ)) (row : List Bool) (small : List (List ℕ)) → IsClosedBetween graph row → IsNumbered graph row (length graph) small
    → (p : ℕ) (path : List ℕ) (q : ℕ) → is_in row p ≡ true → is_in row q ≡ true → IsPath graph p path q
    → IsPath small (number_of row p) (map (number_of row) path) (number_of row q)
path_by_numbers graph row small closed numbered p [] q hp hq leads = ap (number_of row) leads
path_by_numbers graph row small closed numbered p (next ∷ path) q hp hq leads =
    let here : is_in row next ≡ true = closed.between p next q hp hq (record { path = next ∷ []; leads = (leads.0, refl) })
    (record { path = path; leads = leads.1 }) in (
      subst (λ (ps : List ℕ). Contains ps (number_of row next)) (sym (numbered.parents p (closed.places p hp) hp))
          (numbers_of-has row (parents_of graph p) next leads.0 here),
      path_by_numbers graph row small closed numbered next path q here hq leads.1,
    )

-- a candidate that is reached, by its number
record ReachesNumber (graph : List (List ℕ)) (row : List Bool) (p n : ℕ) : Type 0 where
  place : ℕ
  candidate : is_in row place ≡ true
  number : number_of row place ≡ n
  leads : Reaches graph p place

path_from_numbers : (graph : List (List ℕ)) (row : List Bool) (small : List (List ℕ)) → IsClosedBetween graph row → IsNumbered graph row (length graph) small
    → (p m : ℕ) (path : List ℕ) (n : ℕ) → is_in row p ≡ true → number_of row p ≡ m → IsPath small m path n → ReachesNumber graph row p n
path_from_numbers graph row small closed numbered p m [] n hp e leads = record { place = p; candidate = hp; number = e ∙ leads; leads = Reaches-refl graph p }
path_from_numbers graph row small closed numbered p m (next ∷ path) n hp e leads =
    let step : Contains (numbers_of row (parents_of graph p)) next = subst (λ (ps : List ℕ). Contains ps next)
    (ap (parents_of small) (sym e) ∙ numbered.parents p (closed.places p hp) hp) leads.0 in
    let parent : HasNumber row (parents_of graph p) next = numbers_of-tells row (parents_of graph p) next step in
    let rest : ReachesNumber graph row parent.place n = path_from_numbers graph row small closed numbered parent.place next path n parent.candidate
    parent.number leads.1 in
    record { place = rest.place; candidate = rest.candidate; number = rest.number; leads = Reaches-front parent.among rest.leads }

-- the small graph reaches what the whole graph reaches
reaches_by_numbers : (graph : List (List ℕ)) (row : List Bool) (small : List (List ℕ)) → IsGraph graph → IsGraph small → IsClosedBetween graph row
    → IsNumbered graph row (length graph) small
    → (p q : ℕ) → is_in row p ≡ true → is_in row q ≡ true → reaches small (number_of row p) (number_of row q) ≡ reaches graph p q
reaches_by_numbers graph row small g s closed numbered p q hp hq =
    same_from_decides (reaches small (number_of row p) (number_of row q)) (reaches graph p q) (
      λ h.
          let path : Reaches small (number_of row p) (number_of row q) = Reaches-from_test small (number_of row p) (number_of row q) h in
          let found : ReachesNumber graph row p (number_of row q) = path_from_numbers graph row small closed numbered p (number_of row p) path.path
          (number_of row q) hp refl path.leads in
          Reaches-trans found.leads (Reaches-same graph found.place q (number_of-injective row found.place q found.candidate hq found.number)),
      λ (h : Reaches graph p q).
          reaches-true small (number_of row p) (number_of row q) s
          (record { path = map (number_of row) h.path; leads = path_by_numbers graph row small closed numbered p h.path q hp hq h.leads }),
    )
    (reaches_decides graph p q g)

-- so the weight of a candidate is how many places its number reaches
pub weight-by_numbers : (graph : List (List ℕ)) (row : List Bool) (small : List (List ℕ)) → IsGraph graph → IsGraph small → IsClosedBetween graph row
    → IsNumbered graph row (length graph) small
    → (p : ℕ) → is_in row p ≡ true → weight graph row p ≡ reach_size small (number_of row p)
unfolding weight reach_size number_of
weight-by_numbers graph row small g s closed numbered p hp =
    let tests : ℕ → Bool = λ q. is_in row q && reaches graph p q in
    let counted : count_by tests (range_with_len 0 (length graph)) ≡ count_below tests (length graph) =
    omega (
      arith,
      count_by-range_with_len tests 0 (length graph),
      count_below-zero tests,
      ap (count_below tests)
          (let e : 0 + length graph ≡ length graph = omega arith in e),
    ) in
    counted
    ∙ count_below-numbered (is_in row) (reaches graph p) (reaches small (number_of row p)) (length graph)
    (λ q l hq. reaches_by_numbers graph row small g s closed numbered p q hp hq)
    ∙ ap (count_below (reaches small (number_of row p))) (sym numbered.size)
