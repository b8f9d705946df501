-- Lemmas on bases, and on the pieces between them.
use Rattle.std.proofs.Common.{◌≡◌, ℕ, zero, suc, ◌+◌, ◌-◌, ◌<◌, ◌≤◌, Bool, true, false, cond, ◌&&◌, leb, ltb, List, [], ◌∷◌, ◌++◌, length, get_or, set, map}
use Rattle.std.proofs.Common.{replicate, min, refl, ap, sym, ◌∙◌, subst, ⊎_elim, arith}
use Rattle.std.proofs.lemmas.Bool.{cases_Bool, cases_eq, cases_lt, both_ways, and_from, false_from_ne_true, and_left, and_right, le-leb, lt-leb, lt-ltb, le-ltb}
use Rattle.std.proofs.lemmas.List.{get_or_past, get_or-set_same, get_or-set_other, length-set, get_or-replicate, length-replicate}
use Rattle.std.proofs.lemmas.List.Elements.{All-head, All-tail, All-contains}
use Rattle.std.proofs.lemmas.List.FromFn.{get_or-map-range_with_len, length-map-range_with_len}
use Rattle.std.specs.List.{All, Contains, filter, range_with_len}
use Rattle.bf_graph.specs.Graph.{parents_of, IsGraph}
use Rattle.bf_search.specs.Reach.{IsPath, Reaches, reaches}
use Rattle.bf_search.specs.Candidates.{is_in, weight}
use Rattle.bf_search.proofs.Reaching.{Reaches-same, Reaches-front, Reaches-trans, Reaches-le, reaches-true}
use Rattle.bf_choice.specs.Counted.{count_below}
use Rattle.bf_choice.specs.Numbering.{number_of, numbers_of, IsNumbered}
use Rattle.bf_choice.specs.Pieces.{HasTop, IsBase, HasParentsFrom, HasBases, interval, shifted}
use Rattle.bf_choice.specs.Sizes.{reach_size, reach_sizes}
use Rattle.bf_choice.proofs.Counting.{count_below-at, count_below-yes, count_below-no, count_below-none, count_below-past, count_below-zero}
use Rattle.bf_choice.proofs.Counting.{count_by-range_with_len}
use Rattle.bf_choice.proofs.Numbered.{number_of-zero, number_of-yes, number_of-no, IsClosedBetween, path_by_numbers, weight-by_numbers}
use Rattle.bf_choice.proofs.Steps.{reaches_later, reach_size-is}

-- ---- bases

-- the first parent of a place that has one
first_parent_of : (graph : List (List ℕ)) (p : ℕ) → 0 < length (parents_of graph p) → Contains (parents_of graph p) (get_or (parents_of graph p) 0 0)
first_parent_of graph p l = (0, l, head (parents_of graph p) l)
  where
    head : (xs : List ℕ) → 0 < length xs → get_or xs 0 (get_or xs 0 0) ≡ get_or xs 0 0
    head [] l = refl
    head (x ∷ xs) l = refl

reaches_cut : (graph : List (List ℕ)) (cut fuel p : ℕ) → IsGraph graph → 0 < cut → HasParentsFrom graph (cut + 1) cut → cut ≤ p → p ≤ cut + fuel
    → p < length graph → Reaches graph p cut
reaches_cut graph cut zero p g pos has low high within = Reaches-same graph p cut (omega arith)
reaches_cut graph cut (suc fuel) p g pos has low high within =
    ⊎_elim
    (λ (e : p ≡ cut). Reaches-same graph p cut e)
    (λ (n : p ≡ cut → ⊥).
    let above : cut + 1 ≤ p = omega arith in
    let some : 0 < length (parents_of graph p) = has.some p above within pos in
    let step = first_parent_of graph p some in
    let lower : cut ≤ get_or (parents_of graph p) 0 0 = has.from p above within 0 0 some in
    let upper : get_or (parents_of graph p) 0 0 < p = g.earlier p 0 0 some in
    Reaches-front step (reaches_cut graph cut fuel (get_or (parents_of graph p) 0 0) g pos has lower (omega arith) (omega arith)))
    (cases_eq p cut)

path_passes : (graph : List (List ℕ)) (cut p : ℕ) (path : List ℕ) (q : ℕ) → IsGraph graph → HasParentsFrom graph (cut + 1) cut → cut ≤ p → q ≤ cut
    → p < length graph → IsPath graph p path q → Reaches graph cut q
path_passes graph cut p [] q g has low high within leads = Reaches-same graph cut q (let e : p ≡ q = leads in omega arith)
path_passes graph cut p (next ∷ path) q g has low high within leads =
    ⊎_elim
    (λ (e : p ≡ cut). subst (λ (x : ℕ). Reaches graph x q) e (record { path = next ∷ path; leads = leads }))
    (λ (n : p ≡ cut → ⊥).
    let lower : cut ≤ next = All-contains (λ parent. cut ≤ parent) (parents_of graph p) next (has.from p (omega arith) within) leads.0 in
    let upper : next < p = All-contains (λ parent. parent < p) (parents_of graph p) next (g.earlier p) leads.0 in
    path_passes graph cut next path q g has lower high (omega arith) leads.1)
    (cases_eq p cut)

pub IsBase-from_cut : (graph : List (List ℕ)) (cut : ℕ) → IsGraph graph → HasTop graph → 0 < cut → HasParentsFrom graph (cut + 1) cut → IsBase graph (cut + 1)
IsBase-from_cut graph cut g top pos has = record {
  reached = λ p q low within below.
      let from_top : Reaches graph (length graph - 1) q = top.reaches_all q (omega arith) in
      let from_cut : Reaches graph cut q = path_passes graph cut (length graph - 1) from_top.path q g has (omega arith) (omega arith) (omega arith)
      from_top.leads in
      let to_cut : Reaches graph p cut = reaches_cut graph cut p p g pos has (omega arith) (omega arith) within in
      reaches-true graph p q g (Reaches-trans to_cut from_cut);
}

pub IsBase-zero : (graph : List (List ℕ)) → IsBase graph 0
IsBase-zero graph = record { reached = λ p q low within below. absurd (omega arith) }

pub IsBase-end : (graph : List (List ℕ)) (base : ℕ) → length graph ≤ base → IsBase graph base
IsBase-end graph base l = record { reached = λ p q low within below. absurd (omega arith) }

pub HasParentsFrom-end : (graph : List (List ℕ)) (place bound : ℕ) → length graph ≤ place → HasParentsFrom graph place bound
HasParentsFrom-end graph place bound l = record { some = λ p low within pos. absurd (omega arith); from = λ p low within. absurd (omega arith) }

pub HasParentsFrom-more : (graph : List (List ℕ)) (place next bound low : ℕ) → next ≡ place + 1 → HasParentsFrom graph next bound
    → (0 < low → 0 < length (parents_of graph place)) → All (λ parent. low ≤ parent) (parents_of graph place)
    → HasParentsFrom graph place (min bound low)
HasParentsFrom-more graph place next bound low e has some lowest = record {
  some = λ p up within pos.
      ⊎_elim
      (λ (is : p ≡ place). subst (λ (x : ℕ). 0 < length (parents_of graph x)) (sym is) (some (omega arith)))
      (λ (n : p ≡ place → ⊥). has.some p (omega arith) within (omega arith))
      (cases_eq p place);
  from = λ p up within.
      ⊎_elim
      (λ (is : p ≡ place). λ k d l.
      let here : All (λ parent. low ≤ parent) (parents_of graph p) = subst (λ (x : ℕ). All (λ parent. low ≤ parent) (parents_of graph x)) (sym is) lowest in
      let at : low ≤ get_or (parents_of graph p) k d = here k d l in
      omega arith)
      (λ (n : p ≡ place → ⊥). λ k d l. let at : bound ≤ get_or (parents_of graph p) k d = has.from p (omega arith) within k d l in omega arith)
      (cases_eq p place);
}

HasParentsFrom-weaken : (graph : List (List ℕ)) (place bound low : ℕ) → 0 < bound → low ≤ bound → HasParentsFrom graph place bound
    → HasParentsFrom graph place low
HasParentsFrom-weaken graph place bound low pos l has = record {
  some = λ p up within _. has.some p up within pos;
  from = λ p up within k d m. let at : bound ≤ get_or (parents_of graph p) k d = has.from p up within k d m in omega arith;
}

-- what the search for bases keeps
pub HasBases-start : (graph : List (List ℕ)) (n : ℕ) → n ≡ length graph → HasBases graph (replicate n false)
HasBases-start graph n e = record {
  size = length-replicate n false ∙ e;
  told = λ base t. absurd (both_ways (get_or (replicate n false) base false) (never base) t);
}
  where
    never : (base : ℕ) → get_or (replicate n false) base false ≡ false
    never base = ⊎_elim (λ l. get_or-replicate n base false false l) (λ l. get_or_past (replicate n false) base false (omega (arith, length-replicate n false)))
        (cases_lt base n)

pub HasBases-more : (graph : List (List ℕ)) (bases : List Bool) (place bound : ℕ) (is : Bool) → IsGraph graph → HasTop graph → place < length graph
    → HasParentsFrom graph place bound → (is ≡ true → (1 < place) × (place ≤ bound + 1))
    → HasBases graph bases → HasBases graph (set bases place is)
HasBases-more graph bases place bound is g top within has means bases_told = record {
  size = length-set bases place is ∙ bases_told.size;
  told = λ base t.
      ⊎_elim
      (λ (e : base ≡ place).
      let here : is ≡ true = sym (get_or-set_same bases place is false (omega (arith, bases_told.size))) ∙ ap (λ (x : ℕ). get_or (set bases place is) x false)
      (sym e) ∙ t in
      let cut : ℕ = place - 1 in
      let low : 1 < place = (means here).0 in
      let high : place ≤ bound + 1 = (means here).1 in
      let next : cut + 1 ≡ place = omega arith in
      let from_cut : HasParentsFrom graph (cut + 1) cut = subst (λ (x : ℕ). HasParentsFrom graph x cut) (sym next)
      (HasParentsFrom-weaken graph place bound cut (omega arith) (omega arith) has) in
      subst (IsBase graph) (next ∙ sym e) (IsBase-from_cut graph cut g top (omega arith) from_cut))
      (λ (n : base ≡ place → ⊥). bases_told.told base (sym (get_or-set_other bases place base is false n) ∙ t))
      (cases_eq base place);
}

-- ---- a piece

is_in-interval : (n base end p : ℕ) → p < n → is_in (interval n base end) p ≡ (leb base p && ltb p end)
unfolding interval
is_in-interval n base end p l = get_or-map-range_with_len (λ q. leb base q && ltb q end) 0 n p p false l (omega arith)

length-interval : (n base end : ℕ) → length (interval n base end) ≡ n
unfolding interval
length-interval n base end = length-map-range_with_len (λ q. leb base q && ltb q end) 0 n

pub is_in-interval_yes : (n base end p : ℕ) → base ≤ p → p < end → end ≤ n → is_in (interval n base end) p ≡ true
is_in-interval_yes n base end p low high l = is_in-interval n base end p (omega arith) ∙ and_from _ _ (le-leb base p low) (lt-ltb p end high)

is_in-interval_before : (n base end p : ℕ) → p < base → is_in (interval n base end) p ≡ false
is_in-interval_before n base end p l =
    ⊎_elim
    (λ (m : p < n). is_in-interval n base end p m ∙ and_left (leb base p) (ltb p end) (lt-leb base p l))
    (λ (m : n ≤ p). get_or_past (interval n base end) p false (omega (arith, length-interval n base end)))
    (cases_lt p n)

is_in-interval_after : (n base end p : ℕ) → end ≤ p → is_in (interval n base end) p ≡ false
is_in-interval_after n base end p l =
    ⊎_elim
    (λ (m : p < n). is_in-interval n base end p m ∙ and_right (leb base p) (ltb p end) (le-ltb p end l))
    (λ (m : n ≤ p). get_or_past (interval n base end) p false (omega (arith, length-interval n base end)))
    (cases_lt p n)

-- what lies in it
record LiesIn (base end p : ℕ) : Type 0 where
  low : base ≤ p
  high : p < end

lies_in : (n base end p : ℕ) → is_in (interval n base end) p ≡ true → LiesIn base end p
lies_in n base end p t = record {
  low = ⊎_elim (λ (l : p < base). absurd (both_ways (is_in (interval n base end) p) (is_in-interval_before n base end p l) t)) (λ l. l) (cases_lt p base);
  high = ⊎_elim (λ l. l) (λ (l : end ≤ p). absurd (both_ways (is_in (interval n base end) p) (is_in-interval_after n base end p l) t)) (cases_lt p end);
}

pub number_of-interval_before : (n base end p : ℕ) → p ≤ base → number_of (interval n base end) p ≡ 0
number_of-interval_before n base end zero l = number_of-zero (interval n base end)
number_of-interval_before n base end (suc p) l =
    ap (number_of (interval n base end)) (let e : suc p ≡ p + 1 = omega arith in e)
    ∙ number_of-no (interval n base end) p (is_in-interval_before n base end p (omega arith)) ∙ number_of-interval_before n base end p (omega arith)

number_of-interval_from : (n base end k : ℕ) → base + k ≤ end → end ≤ n → number_of (interval n base end) (base + k) ≡ k
number_of-interval_from n base end zero l m = ap (number_of (interval n base end)) (let e : base + 0 ≡ base = omega arith in e) ∙ number_of-interval_before n
    base end base (omega arith)
number_of-interval_from n base end (suc k) l m =
    ap (number_of (interval n base end)) (let e : base + suc k ≡ base + k + 1 = omega arith in e)
    ∙ number_of-yes (interval n base end) (base + k) (is_in-interval_yes n base end (base + k) (omega arith) (omega arith) m)
    ∙ ap (λ (x : ℕ). x + 1) (number_of-interval_from n base end k (omega arith) m) ∙ (let e : k + 1 ≡ suc k = omega arith in e)

pub number_of-interval : (n base end p : ℕ) → base ≤ p → p ≤ end → end ≤ n → number_of (interval n base end) p ≡ p - base
number_of-interval n base end p low high l =
    ap (number_of (interval n base end)) (let e : p ≡ base + (p - base) = omega arith in e) ∙ number_of-interval_from n base end (p - base) (omega arith) l

number_of-interval_past : (n base end k : ℕ) → number_of (interval n base end) (end + k) ≡ number_of (interval n base end) end
unfolding number_of
number_of-interval_past n base end k = count_below-past (is_in (interval n base end)) end k (λ q l. is_in-interval_after n base end q l)

-- the numbers of parents in the piece
pub numbers_of-interval : (n base end place : ℕ) (ps : List ℕ) → place ≤ end → end ≤ n → All (λ p. p < place) ps
    → shifted base ps ≡ numbers_of (interval n base end) ps
numbers_of-interval n base end place [] l m all = refl
numbers_of-interval n base end place (p ∷ ps) l m all =
    let below : p < place = All-head (λ x. x < place) p ps all in
    let rest : shifted base ps ≡ numbers_of (interval n base end) ps = numbers_of-interval n base end place ps l m (All-tail (λ x. x < place) p ps all) in
    let row : List Bool = interval n base end in
    ⊎_elim
    (λ (early : p < base).
    ap (λ (b : Bool). map (λ x. x - base) (cond b (p ∷ filter (λ x. leb base x) ps) (filter (λ x. leb base x) ps))) (lt-leb base p early)
    ∙ rest
    ∙ ap (λ (b : Bool). map (number_of row) (cond b (p ∷ filter (is_in row) ps) (filter (is_in row) ps))) (sym (is_in-interval_before n base end p early)))
    (λ (late : base ≤ p).
    ap (λ (b : Bool). map (λ x. x - base) (cond b (p ∷ filter (λ x. leb base x) ps) (filter (λ x. leb base x) ps))) (le-leb base p late)
    ∙ ap (λ (xs : List ℕ). (p - base) ∷ xs) rest
    ∙ ap (λ (x : ℕ). x ∷ numbers_of row ps) (sym (number_of-interval n base end p late (omega arith) m))
    ∙ ap (λ (b : Bool). map (number_of row) (cond b (p ∷ filter (is_in row) ps) (filter (is_in row) ps)))
    (sym (is_in-interval_yes n base end p late (omega arith) m)))
    (cases_lt p base)

pub IsNumbered-piece_start : (graph : List (List ℕ)) (base end : ℕ) → IsNumbered graph (interval (length graph) base end) base []
IsNumbered-piece_start graph base end = record {
  size = sym (number_of-interval_before (length graph) base end base (omega arith));
  parents = λ p l t. absurd (both_ways (is_in (interval (length graph) base end) p) (is_in-interval_before (length graph) base end p l) t);
}

-- a piece is numbered up to the end of the graph
IsNumbered-piece_end : (graph : List (List ℕ)) (base end : ℕ) (piece : List (List ℕ)) → end ≤ length graph
    → IsNumbered graph (interval (length graph) base end) end piece → IsNumbered graph (interval (length graph) base end) (length graph) piece
IsNumbered-piece_end graph base end piece l numbered = record {
  size =
      let gap : ℕ = length graph - end in
      numbered.size ∙ sym (number_of-interval_past (length graph) base end gap) ∙ ap (number_of (interval (length graph) base end))
      (let e : end + gap ≡ length graph = omega arith in e);
  parents = λ p within t. let lies : LiesIn base end p = lies_in (length graph) base end p t in numbered.parents p lies.high t;
}

IsClosedBetween-interval : (graph : List (List ℕ)) (base end : ℕ) → IsGraph graph → end ≤ length graph
    → IsClosedBetween graph (interval (length graph) base end)
IsClosedBetween-interval graph base end g l = record {
  places = λ p t. let lies : LiesIn base end p = lies_in (length graph) base end p t in omega (arith, lies.high);
  between = λ p r q tp tq first second.
      let above : LiesIn base end p = lies_in (length graph) base end p tp in
      let below : LiesIn base end q = lies_in (length graph) base end q tq in
      let up : r ≤ p = Reaches-le g first in
      let down : q ≤ r = Reaches-le g second in
      is_in-interval_yes (length graph) base end r (omega (arith, below.low)) (omega (arith, above.high)) l;
}

-- ---- sizes by pieces

count_below-all : (f : ℕ → Bool) (n : ℕ) → ((q : ℕ) → q < n → f q ≡ true) → count_below f n ≡ n
count_below-all f zero h = count_below-zero f
count_below-all f (suc n) h = count_below-yes f n (h n (omega arith)) ∙ ap (λ (x : ℕ). x + 1) (count_below-all f n (λ q l. h q (omega arith))) ∙
    (let e : n + 1 ≡ suc n = omega arith in e)

count_below-with_base : (f g : ℕ → Bool) (base k : ℕ) → ((q : ℕ) → q < base → f q ≡ true) → ((q : ℕ) → q < base → g q ≡ false)
    → ((q : ℕ) → base ≤ q → f q ≡ g q) → count_below f (base + k) ≡ base + count_below g (base + k)
count_below-with_base f g base zero all none same =
    let a : count_below f (base + 0) ≡ base = count_below-at f (base + 0) base (omega arith) ∙ count_below-all f base all in
    let b : count_below g (base + 0) ≡ 0 = count_below-at g (base + 0) base (omega arith) ∙ count_below-none g base none in
    omega arith
count_below-with_base f g base (suc k) all none same =
    let rest : count_below f (base + k) ≡ base + count_below g (base + k) = count_below-with_base f g base k all none same in
    let next_f : count_below f (base + suc k) ≡ count_below f (suc (base + k)) = count_below-at f (base + suc k) (suc (base + k)) (omega arith) in
    let next_g : count_below g (base + suc k) ≡ count_below g (suc (base + k)) = count_below-at g (base + suc k) (suc (base + k)) (omega arith) in
    let here : f (base + k) ≡ g (base + k) = same (base + k) (omega arith) in
    ⊎_elim
    (λ (t : g (base + k) ≡ true).
    let yes = count_below-yes g (base + k) t in
    let yes' = count_below-yes f (base + k) (here ∙ t) in
    omega arith)
    (λ (t : g (base + k) ≡ false).
    let no = count_below-no g (base + k) t in
    let no' = count_below-no f (base + k) (here ∙ t) in
    omega arith)
    (cases_Bool (g (base + k)))

weight-counted : (graph : List (List ℕ)) (row : List Bool) (p : ℕ) → weight graph row p ≡ count_below (λ q. is_in row q && reaches graph p q) (length graph)
unfolding weight
weight-counted graph row p =
    let tests : ℕ → Bool = λ q. is_in row q && reaches graph p q in
    omega (arith, count_by-range_with_len tests 0 (length graph), count_below-zero tests, count_below-at tests (0 + length graph) (length graph) (omega arith))

pub reach_sizes-at : (graph : List (List ℕ)) (p : ℕ) → p < length graph → get_or (reach_sizes graph) p 0 ≡ reach_size graph p
unfolding reach_sizes
reach_sizes-at graph p l = get_or-map-range_with_len (reach_size graph) 0 (length graph) p p 0 l (omega arith)

-- a place of a piece reaches all before the piece, and in the piece what it reaches there
reach_size-with_base : (graph : List (List ℕ)) (base end p : ℕ) → IsGraph graph → IsBase graph base → base ≤ p → p < end → end ≤ length graph
    → reach_size graph p ≡ base + count_below (λ q. is_in (interval (length graph) base end) q && reaches graph p q) (length graph)
reach_size-with_base graph base end p g based low high l =
    let row : List Bool = interval (length graph) base end in
    let gap : ℕ = length graph - base in
    let all : base + gap ≡ length graph = omega arith in
    let counted : count_below (reaches graph p) (base + gap) ≡ base + count_below (λ q. is_in row q && reaches graph p q) (base + gap) =
    count_below-with_base (reaches graph p) (λ q. is_in row q && reaches graph p q) base gap
    (λ q below. based.reached p q low (omega arith) below)
    (λ q below. and_left (is_in row q) (reaches graph p q) (is_in-interval_before (length graph) base end q below))
    (λ q above.
    ⊎_elim
    (λ (m : q < end). ap (λ (b : Bool). b && reaches graph p q) (sym (is_in-interval_yes (length graph) base end q above m l)))
    (λ (m : end ≤ q). reaches_later graph p q g (omega arith) ∙ sym (and_right (is_in row q) (reaches graph p q) (reaches_later graph p q g (omega arith))))
    (cases_lt q end)) in
    reach_size-is graph p
    ∙ subst (λ (n : ℕ). count_below (reaches graph p) n ≡ base + count_below (λ q. is_in row q && reaches graph p q) n) all counted

pub reach_size-in_piece : (graph piece : List (List ℕ)) (base end k : ℕ) → IsGraph graph → IsGraph piece → IsBase graph base → base ≤ end → end ≤ length graph
    → IsNumbered graph (interval (length graph) base end) end piece
    → k < length piece → base + get_or (reach_sizes piece) k 0 ≡ reach_size graph (base + k)
reach_size-in_piece graph piece base end k g s based order l numbered within =
    let row : List Bool = interval (length graph) base end in
    let long : length piece ≡ end - base = numbered.size ∙ number_of-interval (length graph) base end end order (omega arith) l in
    let number : number_of row (base + k) ≡ k = number_of-interval_from (length graph) base end k (omega arith) l in
    let here : is_in row (base + k) ≡ true = is_in-interval_yes (length graph) base end (base + k) (omega arith) (omega arith) l in
    let weighed : weight graph row (base + k) ≡ reach_size piece (number_of row (base + k)) =
    weight-by_numbers graph row piece g s (IsClosedBetween-interval graph base end g l) (IsNumbered-piece_end graph base end piece l numbered) (base + k)
    here in
    ap (λ (x : ℕ). base + x) (reach_sizes-at piece k within ∙ ap (reach_size piece) (sym number) ∙ sym weighed ∙ weight-counted graph row (base + k))
    ∙ sym (reach_size-with_base graph base end (base + k) g based (omega arith) (omega arith) l)

pub length-piece : (graph piece : List (List ℕ)) (base end : ℕ) → base ≤ end → end ≤ length graph
    → IsNumbered graph (interval (length graph) base end) end piece → length piece ≡ end - base
length-piece graph piece base end order l numbered = numbered.size ∙ number_of-interval (length graph) base end end order (omega arith) l

pub sizes-all : (graph : List (List ℕ)) (base : ℕ) (sizes : List ℕ) → base ≡ length graph → sizes ≡ map (reach_size graph) (range_with_len 0 base)
    → sizes ≡ reach_sizes graph
unfolding reach_sizes
sizes-all graph base sizes e is = is ∙ ap (λ (n : ℕ). map (reach_size graph) (range_with_len 0 n)) e

-- ---- the top of the candidates

-- a candidate with this number
record HasNumberBelow (row : List Bool) (n i : ℕ) : Type 0 where
  place : ℕ
  candidate : is_in row place ≡ true
  number : number_of row place ≡ i

number_of-found : (row : List Bool) (n i : ℕ) → i < number_of row n → HasNumberBelow row n i
number_of-found row zero i l = absurd (omega (arith, number_of-zero row))
number_of-found row (suc n) i l =
    let at : number_of row (suc n) ≡ number_of row (n + 1) = ap (number_of row) (let e : suc n ≡ n + 1 = omega arith in e) in
    ⊎_elim
    (λ (t : is_in row n ≡ true).
    let yes = number_of-yes row n t in
    ⊎_elim
    (λ (m : i < number_of row n). widen (number_of-found row n i m))
    (λ (m : number_of row n ≤ i). record { place = n; candidate = t; number = omega arith })
    (cases_lt i (number_of row n)))
    (λ (t : is_in row n ≡ false).
    let no = number_of-no row n t in
    widen (number_of-found row n i (omega arith)))
    (cases_Bool (is_in row n))
  where
    widen : HasNumberBelow row n i → HasNumberBelow row (suc n) i
    widen h = record { place = h.place; candidate = h.candidate; number = h.number }

number_of-past : (row : List Bool) (m k : ℕ) → ((q : ℕ) → m ≤ q → is_in row q ≡ false) → number_of row (m + k) ≡ number_of row m
unfolding number_of
number_of-past row m k h = count_below-past (is_in row) m k h

-- where one candidate reaches all others, its number is the last, and reaches all numbers
pub HasTop-by_numbers : (graph : List (List ℕ)) (row : List Bool) (small : List (List ℕ)) (bad : ℕ) → IsGraph graph → IsClosedBetween graph row
    → IsNumbered graph row (length graph) small
    → ((q : ℕ) → is_in row q ≡ true → (is_in row bad ≡ true) × Reaches graph bad q) → HasTop small
HasTop-by_numbers graph row small bad g closed numbered reach = record {
  reaches_all = λ q l.
      let found : HasNumberBelow row (length graph) q = number_of-found row (length graph) q (omega (arith, numbered.size)) in
      let bad_in : is_in row bad ≡ true = (reach found.place found.candidate).0 in
      let early : bad < length graph = closed.places bad bad_in in
      let gap : ℕ = length graph - (bad + 1) in
      let last : number_of row (bad + 1 + gap) ≡ number_of row (bad + 1) =
      number_of-past row (bad + 1) gap (λ r up. false_from_ne_true (is_in row r)
      (λ t. let down : r ≤ bad = Reaches-le g (reach r t).1 in absurd (omega arith))) in
      let all : number_of row (bad + 1 + gap) ≡ number_of row (length graph) = ap (number_of row) (let e : bad + 1 + gap ≡ length graph = omega arith in e) in
      let one : number_of row (bad + 1) ≡ number_of row bad + 1 = number_of-yes row bad bad_in in
      let top : length small - 1 ≡ number_of row bad = omega (arith, numbered.size) in
      let leads : Reaches graph bad found.place = (reach found.place found.candidate).1 in
      let path : Reaches small (number_of row bad) (number_of row found.place) =
      record {
        path = map (number_of row) leads.path;
        leads = path_by_numbers graph row small closed numbered bad leads.path found.place bad_in found.candidate
            leads.leads;
      } in
      subst (λ (x : ℕ). Reaches small x q) (sym top) (subst (λ (x : ℕ). Reaches small (number_of row bad) x) found.number path);
}

-- ---- one parent more

pub shifted-push_yes : (base : ℕ) (ps : List ℕ) (p : ℕ) → base ≤ p → shifted base (ps ++ p ∷ []) ≡ shifted base ps ++ (p - base) ∷ []
shifted-push_yes base [] p l = ap (λ (b : Bool). map (λ x. x - base) (cond b (p ∷ []) [])) (le-leb base p l)
shifted-push_yes base (q ∷ qs) p l =
    elim (leb base q) as (λ b. map (λ x. x - base) (cond b (q ∷ filter (λ x. leb base x) (qs ++ p ∷ [])) (filter (λ x. leb base x) (qs ++ p ∷ []))) ≡ map
    (λ x. x - base) (cond b (q ∷ filter (λ x. leb base x) qs) (filter (λ x. leb base x) qs)) ++ (p - base) ∷ [])
    [ true ↦ ap (λ (xs : List ℕ). (q - base) ∷ xs) (shifted-push_yes base qs p l) | false ↦ shifted-push_yes base qs p l ]

pub shifted-push_no : (base : ℕ) (ps : List ℕ) (p : ℕ) → p < base → shifted base (ps ++ p ∷ []) ≡ shifted base ps
shifted-push_no base [] p l = ap (λ (b : Bool). map (λ x. x - base) (cond b (p ∷ []) [])) (lt-leb base p l)
shifted-push_no base (q ∷ qs) p l =
    elim (leb base q) as (λ b. map (λ x. x - base) (cond b (q ∷ filter (λ x. leb base x) (qs ++ p ∷ [])) (filter (λ x. leb base x) (qs ++ p ∷ []))) ≡ map
    (λ x. x - base) (cond b (q ∷ filter (λ x. leb base x) qs) (filter (λ x. leb base x) qs)))
    [ true ↦ ap (λ (xs : List ℕ). (q - base) ∷ xs) (shifted-push_no base qs p l) | false ↦ shifted-push_no base qs p l ]

-- where a piece ends, the next begins with a base
pub IsBase-next : (graph : List (List ℕ)) (bases : List Bool) (next : ℕ) → HasBases graph bases → (next < length bases → get_or bases next false ≡ true)
    → IsBase graph next
IsBase-next graph bases next told at =
    ⊎_elim
    (λ (l : next < length bases). told.told next (at l))
    (λ (l : length bases ≤ next). IsBase-end graph next (omega (arith, told.size)))
    (cases_lt next (length bases))
