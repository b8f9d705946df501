-- Lemmas on the rows of a block.
use Rattle.std.proofs.Common.{◌≡◌, ℕ, zero, suc, ◌+◌, ◌<◌, ◌≤◌, Bool, true, false, cond, ◌||◌, ◌==◌, List, [], ◌∷◌, length, get_or, set, take, map, replicate}
use Rattle.std.proofs.Common.{refl, ap, sym, ◌∙◌, eq-eqb, arith}
use Rattle.std.proofs.Math.Bool.{or_assoc}
use Rattle.std.proofs.lemmas.Bool.{ne_eqb}
use Rattle.std.proofs.lemmas.List.Folds.{list_any_more, sum_by-replicate}
use Rattle.std.proofs.lemmas.List.Sums.{sum_by-cons}
use Rattle.std.proofs.lemmas.Simd.{zip2_of_maps}
use Rattle.std.proofs.lemmas.List.FromFn.{length-map-range_with_len}
use Rattle.std.specs.List.{list_any, count_by, range_with_len}
use Rattle.std.specs.Simd.Lanes.{zip2}
use Rattle.bf_graph.specs.Graph.{parents_of, IsGraph}
use Rattle.bf_reach.specs.Blocks.{empty_row}
use Rattle.bf_search.specs.Reach.{reaches}
use Rattle.bf_choice.specs.Counted.{count_below}
use Rattle.bf_choice.specs.Sizes.{parentage_of}
use Rattle.bf_choice.specs.declared.parents.Parentage.TheVariants.{Single}
use Rattle.bf_choice.specs.BlockRows.{columns, block_row, own_row, joined_row}
use Rattle.bf_choice.proofs.Counting.{count_by-range_with_len}
use Rattle.bf_choice.proofs.Steps.{reaches_step, reaches_later, reaches_single}

pub map-same : (f g : ℕ → Bool) → ((q : ℕ) → f q ≡ g q) → (qs : List ℕ) → map f qs ≡ map g qs
map-same f g h [] = refl
map-same f g h (q ∷ qs) = rw (h q, map-same f g h qs)

map-same_in : (a k : ℕ) (f g : ℕ → Bool) → ((q : ℕ) → a ≤ q → q < a + k → f q ≡ g q) → map f (range_with_len a k) ≡ map g (range_with_len a k)
map-same_in a zero f g h = refl
map-same_in a (suc k) f g h = rw (h a (omega arith) (omega arith), map-same_in (a + 1) k f g (λ q low high. h q (omega arith) (omega arith)))

-- ---- an empty row, and a row with one place

none_from : (f : ℕ → Bool) (a k : ℕ) → ((q : ℕ) → a ≤ q → f q ≡ false) → replicate k false ≡ map f (range_with_len a k)
none_from f a zero h = refl
none_from f a (suc k) h =
    ap (λ (xs : List Bool). false ∷ xs) (none_from f (a + 1) k (λ q up. h q (omega arith)))
    ∙ ap (λ (b : Bool). b ∷ map f (range_with_len (a + 1) k)) (sym (h a (omega arith)))

own_in : (p a k c : ℕ) → a + c ≡ p → c < k → set (replicate k false) c true ≡ map (λ q. p == q) (range_with_len a k)
own_in p a zero c e l = absurd (omega arith)
own_in p a (suc k) zero e l =
    ap (λ (xs : List Bool). true ∷ xs) (none_from (λ q. p == q) (a + 1) k (λ q up. ne_eqb p q (λ same. absurd (omega arith))))
    ∙ ap (λ (b : Bool). b ∷ map (λ q. p == q) (range_with_len (a + 1) k)) (sym (eq-eqb p a (omega arith)))
own_in p a (suc k) (suc c) e l =
    ap (λ (xs : List Bool). false ∷ xs) (own_in p (a + 1) k c (omega arith) (omega arith))
    ∙ ap (λ (b : Bool). b ∷ map (λ q. p == q) (range_with_len (a + 1) k)) (sym (ne_eqb p a (λ same. absurd (omega arith))))

none_in_short : (p a k : ℕ) → a + k ≤ p → replicate k false ≡ map (λ q. p == q) (range_with_len a k)
none_in_short p a zero l = refl
none_in_short p a (suc k) l =
    ap (λ (xs : List Bool). false ∷ xs) (none_in_short p (a + 1) k (omega arith))
    ∙ ap (λ (b : Bool). b ∷ map (λ q. p == q) (range_with_len (a + 1) k)) (sym (ne_eqb p a (λ same. absurd (omega arith))))

empty_row-is : empty_row ≡ replicate columns false
unfolding empty_row columns
empty_row-is = refl

pub columns-is : columns ≡ 512
unfolding columns
columns-is = refl

-- a place of the block marks itself
pub own_row-within : (start p c : ℕ) → start + c ≡ p → c < 512 → set empty_row c true ≡ own_row start p
unfolding own_row
own_row-within start p c e l = ap (λ (row : List Bool). set row c true) empty_row-is ∙ own_in p start columns c e (omega (arith, columns-is))

pub own_row-past : (start p : ℕ) → start + 512 ≤ p → empty_row ≡ own_row start p
unfolding own_row
own_row-past start p l = empty_row-is ∙ none_in_short p start columns (omega (arith, columns-is))

-- an empty row joins nothing
or_none : (row : List Bool) (k : ℕ) → length row ≡ k → zip2 ◌||◌ row (replicate k false) ≡ row
or_none [] zero e = refl
or_none [] (suc k) e = absurd (omega (arith, e))
or_none (b ∷ row) zero e = absurd (omega (arith, e))
or_none (b ∷ row) (suc k) e =
    ap (λ (rest : List Bool). (b || false) ∷ rest) (or_none row k (omega (arith, e)))
    ∙ ap (λ (first : Bool). first ∷ row) (elim b as (λ b. (b || false) ≡ b) [ true ↦ refl | false ↦ refl ])

pub or_empty : (row : List Bool) → length row ≡ 512 → zip2 ◌||◌ row empty_row ≡ row
or_empty row e = ap (λ (other : List Bool). zip2 ◌||◌ row other) empty_row-is ∙ or_none row columns (e ∙ sym columns-is)

-- a place before the block reaches none of it
pub block_row-before : (graph : List (List ℕ)) (start p : ℕ) → IsGraph graph → p < start → empty_row ≡ block_row graph start p
unfolding block_row
block_row-before graph start p g l = empty_row-is ∙ none_from (reaches graph p) start columns (λ q up. reaches_later graph p q g (omega arith))

-- ---- a row joined with the rows of its parents

-- without a parent there is the place itself
pub joined_row-start : (graph : List (List ℕ)) (start p : ℕ) → own_row start p ≡ joined_row graph start p []
unfolding own_row joined_row
joined_row-start graph start p = map-same (λ q. p == q) (λ q. (p == q) || false)
    (λ q. elim (p == q) as (λ b. b ≡ (b || false)) [ true ↦ refl | false ↦ refl ]) (range_with_len start columns)

-- a parent more
pub joined_row-more : (graph : List (List ℕ)) (start p : ℕ) (parents : List ℕ) (k : ℕ) → k < length parents
    → zip2 ◌||◌ (joined_row graph start p (take k parents)) (block_row graph start (get_or parents k 0)) ≡ joined_row graph start p (take (k + 1) parents)
unfolding joined_row block_row
joined_row-more graph start p parents k l =
    zip2_of_maps ◌||◌ (λ q. (p == q) || list_any (λ r. reaches graph r q) (take k parents)) (reaches graph (get_or parents k 0)) (range_with_len start columns)
    refl refl
    ∙ map-same (λ q. ((p == q) || list_any (λ r. reaches graph r q) (take k parents)) || reaches graph (get_or parents k 0) q)
    (λ q. (p == q) || list_any (λ r. reaches graph r q) (take (k + 1) parents))
    (λ q. or_assoc (p == q) (list_any (λ r. reaches graph r q) (take k parents)) (reaches graph (get_or parents k 0) q)
    ∙ ap (λ (b : Bool). (p == q) || b) (sym (list_any_more (λ r. reaches graph r q) parents k 0 l)))
    (range_with_len start columns)

length-joined_row : (graph : List (List ℕ)) (start p : ℕ) (parents : List ℕ) → length (joined_row graph start p parents) ≡ 512
unfolding joined_row
length-joined_row graph start p parents =
    length-map-range_with_len (λ (q : ℕ). (p == q) || list_any (λ r. reaches graph r q) parents) start columns ∙ columns-is

-- a parent that reaches no place of the block adds none
pub joined_row-none : (graph : List (List ℕ)) (start p : ℕ) (parents : List ℕ) (k : ℕ) → k < length parents
    → empty_row ≡ block_row graph start (get_or parents k 0) → joined_row graph start p (take k parents) ≡ joined_row graph start p (take (k + 1) parents)
joined_row-none graph start p parents k l none =
    sym (or_empty (joined_row graph start p (take k parents)) (length-joined_row graph start p (take k parents)))
    ∙ ap (λ (row : List Bool). zip2 ◌||◌ (joined_row graph start p (take k parents)) row) none
    ∙ joined_row-more graph start p parents k l

-- with all of its parents it is the row of the place
pub joined_row-whole : (graph : List (List ℕ)) (start p : ℕ) → IsGraph graph → joined_row graph start p (parents_of graph p) ≡ block_row graph start p
unfolding joined_row block_row
joined_row-whole graph start p g = map-same (λ q. (p == q) || list_any (λ r. reaches graph r q) (parents_of graph p)) (reaches graph p)
    (λ q. sym (reaches_step graph p q g)) (range_with_len start columns)

-- past the block the row of a place with a single parent is that of its parent
pub block_row-shared : (graph : List (List ℕ)) (start p only : ℕ) → IsGraph graph → start + 512 ≤ p → parentage_of (parents_of graph p) ≡ Single only
    → block_row graph start only ≡ block_row graph start p
unfolding block_row
block_row-shared graph start p only g l single = map-same_in start columns (reaches graph only) (reaches graph p)
    (λ q low high. sym (reaches_single graph p only q g single (omega (arith, columns-is))))

pub count_by-map : (f : ℕ → Bool) (qs : List ℕ) → count_by (λ v. v) (map f qs) ≡ count_by f qs
count_by-map f [] = refl
count_by-map f (q ∷ qs) =
    sum_by-cons (λ (v : Bool). cond v 1 0) (f q) (map f qs) ∙ ap (λ (n : ℕ). cond (f q) 1 0 + n) (count_by-map f qs) ∙ sym
    (sum_by-cons (λ x. cond (f x) 1 0) q qs)

pub count_by-empty : count_by (λ v. v) empty_row ≡ 0
count_by-empty = ap (λ (row : List Bool). count_by (λ v. v) row) empty_row-is ∙ sum_by-replicate (λ (v : Bool). cond v 1 0) columns false ∙ omega arith

-- what a place reaches before a block and in it
pub count_below-block : (graph : List (List ℕ)) (start p : ℕ)
    → count_below (reaches graph p) start + count_by (λ v. v) (block_row graph start p) ≡ count_below (reaches graph p) (start + 512)
unfolding block_row
count_below-block graph start p =
    ap (λ (n : ℕ). count_below (reaches graph p) start + n) (count_by-map (reaches graph p) (range_with_len start columns)) ∙ count_by-range_with_len
    (reaches graph p) start columns
    ∙ ap (λ (n : ℕ). count_below (reaches graph p) (start + n)) columns-is
