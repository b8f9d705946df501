-- Lemmas on the rows that places share.
use Rattle.std.proofs.Common.{◌≡◌, ◌⊎◌, ℕ, suc, ◌+◌, ◌-◌, ◌<◌, ◌≤◌, Bool, true, false, cond, nat_lt, ◌||◌, List, [], length, get_or, set, Option, None, Some}
use Rattle.std.proofs.Common.{refl, ap, sym, ◌∙◌, subst, ⊎_elim, arith}
use Rattle.std.proofs.lemmas.Bool.{cases_eq, lt-ltb, le-ltb}
use Rattle.std.proofs.lemmas.List.{length-set, get_or-set_same, get_or-set_other, set-set}
use Rattle.std.specs.Simd.Lanes.{zip2}
use Rattle.std.specs.Option.{IfSome}
use Rattle.bf_graph.specs.Graph.{parents_of, IsGraph}
use Rattle.bf_reach.specs.Blocks.{row_at, empty_row}
use Rattle.bf_choice.specs.declared.parents.Parentage.{Parentage}
use Rattle.bf_choice.specs.declared.parents.Parentage.TheVariants.{Root, Single, Merge}
use Rattle.bf_choice.specs.declared.sharing.SharedRows.{SharedRows}
use Rattle.bf_choice.specs.Sizes.{parentage_of}
use Rattle.bf_choice.specs.BlockRows.{is_apart, apart_below, numbered_row, number_in, block_row, FitsGraph, AreFilled, HasBlockRows}
use Rattle.bf_choice.proofs.Counting.{count_below-zero, count_below-yes, count_below-no, count_below-mono, count_below-le, count_below-at}
use Rattle.bf_choice.proofs.Steps.{single-earlier}
use Rattle.bf_choice.proofs.Rows.{block_row-before, block_row-shared}

pub number_in-before : (start p : ℕ) (numbers : List (Option ℕ)) → p < start → number_in start numbers p ≡ None
number_in-before start p numbers l = ap (λ (b : Bool). cond b None (get_or numbers p None)) (lt-ltb p start l)

pub number_in-from : (start p : ℕ) (numbers : List (Option ℕ)) → start ≤ p → number_in start numbers p ≡ get_or numbers p None
number_in-from start p numbers l = ap (λ (b : Bool). cond b None (get_or numbers p None)) (le-ltb p start l)

number_in-other : (start place p : ℕ) (numbers : List (Option ℕ)) (number : Option ℕ) → (p ≡ place → ⊥)
    → number_in start (set numbers place number) p ≡ number_in start numbers p
number_in-other start place p numbers number n =
    ap (λ (x : Option ℕ). cond (nat_lt p start) None x) (get_or-set_other numbers place p number None n)

number_in-same : (start place : ℕ) (numbers : List (Option ℕ)) (number : Option ℕ) → start ≤ place → place < length numbers
    → number_in start (set numbers place number) place ≡ number
number_in-same start place numbers number up l =
    number_in-from start place (set numbers place number) up ∙ get_or-set_same numbers place number None l

-- rows that are taken stay
pub numbered_row-kept : (old new : List (List Bool)) (number : Option ℕ) (taken : ℕ) → IfSome number (λ n. n < taken)
    → ((n : ℕ) → n < taken → row_at new n ≡ row_at old n) → numbered_row new number ≡ numbered_row old number
numbered_row-kept old new None taken below same = refl
numbered_row-kept old new (Some n) taken below same = same n below

pub taken-more : (number : Option ℕ) (taken more : ℕ) → taken ≤ more → IfSome number (λ n. n < taken) → IfSome number (λ n. n < more)
taken-more None taken more l below = below
taken-more (Some n) taken more l below = omega (arith, below)

-- before any row is taken
pub HasBlockRows-start : (graph : List (List ℕ)) (start : ℕ) (shared : SharedRows) → IsGraph graph → FitsGraph graph shared → shared.taken ≡ 0
    → ((n : ℕ) → n < length shared.blocks → row_at shared.blocks n ≡ empty_row) → HasBlockRows graph start start shared
HasBlockRows-start graph start shared g fits none empty = record {
  fits = fits;
  before = record {
    filled = λ p below within. ap (numbered_row shared.blocks) (number_in-before start p shared.numbers.items below) ∙ block_row-before graph start p g below;
    taken = λ p below within. subst (λ (x : Option ℕ). IfSome x (λ n. n < shared.taken)) (sym (number_in-before start p shared.numbers.items below)) tt;
  };
  empty = λ n up within. empty n within;
  each = omega (arith, none);
  past = omega (arith, none);
}

-- one place more has its number
pub AreFilled-more : (graph : List (List ℕ)) (start place : ℕ) (old new : SharedRows) (number : Option ℕ) → start ≤ place → place < length graph
    → length old.numbers.items ≡ length graph → AreFilled graph start place old
    → new.numbers.items ≡ set old.numbers.items place number → old.taken ≤ new.taken
    → ((n : ℕ) → n < old.taken → row_at new.blocks n ≡ row_at old.blocks n)
    → numbered_row new.blocks number ≡ block_row graph start place → IfSome number (λ n. n < new.taken) → AreFilled graph start (place + 1) new
AreFilled-more graph start place old new number up within long before is more same row below = record {
  filled = λ p less inside. ⊎_elim
      (λ (e : p ≡ place). subst (λ (x : ℕ). numbered_row new.blocks (number_in start new.numbers.items x) ≡ block_row graph start x) (sym e)
      (ap (numbered_row new.blocks) here ∙ row))
      (λ (n : p ≡ place → ⊥). ap (numbered_row new.blocks) (other p n)
      ∙ numbered_row-kept old.blocks new.blocks (number_in start old.numbers.items p) old.taken (before.taken p (omega arith) inside) same
      ∙ before.filled p (omega arith) inside)
      (cases_eq p place);
  taken = λ p less inside. ⊎_elim
      (λ (e : p ≡ place). subst (λ (x : ℕ). IfSome (number_in start new.numbers.items x) (λ n. n < new.taken)) (sym e)
      (subst (λ (x : Option ℕ). IfSome x (λ n. n < new.taken)) (sym here) below))
      (λ (n : p ≡ place → ⊥). subst (λ (x : Option ℕ). IfSome x (λ n. n < new.taken)) (sym (other p n))
      (taken-more (number_in start old.numbers.items p) old.taken new.taken more (before.taken p (omega arith) inside)))
      (cases_eq p place);
}
  where
    here : number_in start new.numbers.items place ≡ number
    here = ap (λ (xs : List (Option ℕ)). number_in start xs place) is ∙ number_in-same start place old.numbers.items number up (omega (arith, long))

    other : (p : ℕ) → (p ≡ place → ⊥) → number_in start new.numbers.items p ≡ number_in start old.numbers.items p
    other p n = ap (λ (xs : List (Option ℕ)). number_in start xs p) is ∙ number_in-other start place p old.numbers.items number n

-- a row is joined to the next one
pub joined-step : (blocks now : List (List Bool)) (taken at number : ℕ) (row parent next : List Bool) → taken < length blocks → at ≡ taken
    → now ≡ set blocks taken row → number < taken → row_at blocks number ≡ parent → zip2 ◌||◌ row parent ≡ next
    → set now at (zip2 ◌||◌ (row_at now at) (row_at now number)) ≡ set blocks taken next
joined-step blocks now taken at number row parent next within here is below theirs joined =
    ap (λ (x : ℕ). set now x (zip2 ◌||◌ (row_at now x) (row_at now number))) here
    ∙ ap (λ (b : List (List Bool)). set b taken (zip2 ◌||◌ (row_at now taken) (row_at now number))) is
    ∙ set-set blocks taken _ _
    ∙ ap (λ (r : List Bool). set blocks taken r) (ap (λ (r : List Bool). zip2 ◌||◌ r (row_at now number)) own ∙ ap (λ (r : List Bool). zip2 ◌||◌ row r) other ∙ joined)
  where
    own : row_at now taken ≡ row
    own = ap (λ (b : List (List Bool)). row_at b taken) is ∙ get_or-set_same blocks taken row [] within

    other : row_at now number ≡ parent
    other = ap (λ (b : List (List Bool)). row_at b number) is ∙ get_or-set_other blocks taken number row [] (λ e. omega (arith, e, below)) ∙ theirs

-- ---- as many rows as are needed

pub apart_below-zero : (graph : List (List ℕ)) → apart_below graph 0 ≡ 0
apart_below-zero graph = count_below-zero (λ q. is_apart (parentage_of (parents_of graph q)))

pub apart_below-le : (graph : List (List ℕ)) (p : ℕ) → apart_below graph p ≤ p
apart_below-le graph p = count_below-le (λ q. is_apart (parentage_of (parents_of graph q))) p

pub apart_below-no : (graph : List (List ℕ)) (p : ℕ) → is_apart (parentage_of (parents_of graph p)) ≡ false
    → apart_below graph (p + 1) ≡ apart_below graph p
apart_below-no graph p h = count_below-at (λ q. is_apart (parentage_of (parents_of graph q))) (p + 1) (suc p) (omega arith)
    ∙ count_below-no (λ q. is_apart (parentage_of (parents_of graph q))) p h

pub apart_below-yes : (graph : List (List ℕ)) (p : ℕ) → is_apart (parentage_of (parents_of graph p)) ≡ true
    → apart_below graph (p + 1) ≡ apart_below graph p + 1
apart_below-yes graph p h = count_below-at (λ q. is_apart (parentage_of (parents_of graph q))) (p + 1) (suc p) (omega arith)
    ∙ count_below-yes (λ q. is_apart (parentage_of (parents_of graph q))) p h

pub apart_below-mono : (graph : List (List ℕ)) (p q : ℕ) → p ≤ q → apart_below graph p ≤ apart_below graph q
apart_below-mono graph p q l =
    let gap : ℕ = q - p in
    omega (
      arith,
      count_below-mono (λ r. is_apart (parentage_of (parents_of graph r))) p gap,
      count_below-at (λ r. is_apart (parentage_of (parents_of graph r))) (p + gap) q (omega arith),
    )

pub apart_from : (parentage : Parentage) → ((parent : ℕ) → parentage ≡ Single parent → ⊥) → is_apart parentage ≡ true
apart_from Root none = refl
apart_from (Single parent) none = absurd (none parent refl)
apart_from Merge none = refl

-- a place of the block, and a root or a merge, finds a row that is not taken
pub has_room : (graph : List (List ℕ)) (start place : ℕ) (shared : SharedRows) → place < length graph → HasBlockRows graph start place shared
    → ((place < start + 512) ⊎ (is_apart (parentage_of (parents_of graph place)) ≡ true)) → shared.taken < length shared.blocks
has_room graph start place shared within has why = ⊎_elim
    (λ (inside : place < start + 512). omega (arith, has.fits.rows, has.each))
    (λ (apart : is_apart (parentage_of (parents_of graph place)) ≡ true).
    omega (arith, has.fits.rows, has.each, has.past, apart_below-yes graph place apart, apart_below-mono graph (place + 1) (length graph) (omega arith)))
    why

-- no more rows are taken than there are
pub taken-within : {graph : List (List ℕ)} {start place : ℕ} {shared : SharedRows} → HasBlockRows graph start place shared → place ≤ length graph
    → shared.taken ≤ length shared.blocks
taken-within {graph} {start} {place} {shared} has within =
    omega (arith, has.fits.rows, has.each, has.past, apart_below-mono graph place (length graph) within)

-- ---- one place more

-- a place shares the row of its parent
pub HasBlockRows-shared : (graph : List (List ℕ)) (start place parent : ℕ) (old new : SharedRows) → IsGraph graph → start + 512 ≤ place → place < length graph
    → parentage_of (parents_of graph place) ≡ Single parent → HasBlockRows graph start place old
    → new.blocks ≡ old.blocks → new.taken ≡ old.taken
    → new.numbers.items ≡ set old.numbers.items place (number_in start old.numbers.items parent) → HasBlockRows graph start (place + 1) new
HasBlockRows-shared graph start place parent old new g past within single has blocks taken numbers = record {
  fits = record {
    rows = ap (λ (b : List (List Bool)). length b) blocks ∙ has.fits.rows;
    numbers = ap (λ (xs : List (Option ℕ)). length xs) numbers ∙ length-set old.numbers.items place _ ∙ has.fits.numbers;
  };
  before = AreFilled-more graph start place old new (number_in start old.numbers.items parent) (omega (arith, past)) within has.fits.numbers has.before numbers
      (omega (arith, taken)) (λ n below. ap (λ (b : List (List Bool)). row_at b n) blocks)
      (ap (λ (b : List (List Bool)). numbered_row b (number_in start old.numbers.items parent)) blocks
      ∙ has.before.filled parent earlier (omega (arith, earlier, within)) ∙ block_row-shared graph start place parent g past single)
      (taken-more (number_in start old.numbers.items parent) old.taken new.taken (omega (arith, taken)) (has.before.taken parent earlier
      (omega (arith, earlier, within))));
  empty = λ n up inside. ap (λ (b : List (List Bool)). row_at b n) blocks ∙ has.empty n (omega (arith, taken, up))
      (omega (arith, inside, ap (λ (b : List (List Bool)). length b) blocks));
  each = omega (arith, taken, has.each);
  past = omega (arith, taken, has.past, apart_below-mono graph place (place + 1) (omega arith));
}
  where
    earlier : parent < place
    earlier = single-earlier graph place parent g single

-- a place takes a row
pub HasBlockRows-taken : (graph : List (List ℕ)) (start place : ℕ) (old new : SharedRows) → start ≤ place → place < length graph
    → ((place < start + 512) ⊎ (is_apart (parentage_of (parents_of graph place)) ≡ true)) → HasBlockRows graph start place old
    → new.blocks ≡ set old.blocks old.taken (block_row graph start place) → new.taken ≡ old.taken + 1
    → new.numbers.items ≡ set old.numbers.items place (Some old.taken) → HasBlockRows graph start (place + 1) new
HasBlockRows-taken graph start place old new up within why has blocks taken numbers = record {
  fits = record {
    rows = long ∙ has.fits.rows;
    numbers = ap (λ (xs : List (Option ℕ)). length xs) numbers ∙ length-set old.numbers.items place _ ∙ has.fits.numbers;
  };
  before = AreFilled-more graph start place old new (Some old.taken) up within has.fits.numbers has.before numbers (omega (arith, taken))
      (λ n below. other n (λ e. omega (arith, e, below)))
      (ap (λ (b : List (List Bool)). row_at b old.taken) blocks ∙ get_or-set_same old.blocks old.taken _ [] (has_room graph start place old within has why))
      (omega (arith, taken));
  empty = λ n above inside. other n (λ e. omega (arith, e, above, taken)) ∙ has.empty n (omega (arith, above, taken)) (omega (arith, inside, long));
  each = omega (arith, taken, has.each);
  past = ⊎_elim
      (λ (inside : place < start + 512). omega (arith, taken, has.each, inside))
      (λ (apart : is_apart (parentage_of (parents_of graph place)) ≡ true). omega (arith, taken, has.past, apart_below-yes graph place apart))
      why;
}
  where
    long : length new.blocks ≡ length old.blocks
    long = ap (λ (b : List (List Bool)). length b) blocks ∙ length-set old.blocks old.taken _

    other : (n : ℕ) → (n ≡ old.taken → ⊥) → row_at new.blocks n ≡ row_at old.blocks n
    other n ne = ap (λ (b : List (List Bool)). row_at b n) blocks ∙ get_or-set_other old.blocks old.taken n _ [] ne
