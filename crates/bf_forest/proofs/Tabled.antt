-- Entries by their numbers, in a table that grows.
use Rattle.std.proofs.Common.{◌≡◌, ℕ, zero, suc, ◌<◌, ◌≤◌, nat_lt, Bool, true, List, [], ◌∷◌, ◌++◌, length, take, drop, get_or, refl, sym, ap, ◌∙◌, arith}
use Rattle.std.specs.List.{list_all}
use Rattle.std.proofs.lemmas.Bool.{and_parts, and_from, ltb-true, lt-ltb}
use Rattle.std.proofs.lemmas.List.{get_or-take}
use Rattle.std.proofs.Math.ListN.{length-map}
use Rattle.bf_forest.specs.declared.nodes.Entry.{Entry}
use Rattle.bf_forest.specs.declared.pool.KeptTree.{KeptTree}
use Rattle.bf_forest.specs.Nodes.{Node, no_entry, entry_at, stood, are_within, node_of, nodes_of, are_kept_within}
use Rattle.bf_forest.proofs.Settling.{kept_length}

pub entry_kept : (a b : List Entry) (number : ℕ) → take (length a) b ≡ a → number < length a → entry_at b number ≡ entry_at a number
entry_kept a b number e h = sym (get_or-take (length a) b number no_entry h) ∙ ap (λ v. get_or v number no_entry) e

pub stood_kept : (a b : List Entry) (numbers : List ℕ) → take (length a) b ≡ a → are_within (length a) numbers ≡ true → stood b numbers ≡ stood a numbers
stood_kept a b [] e h = refl
stood_kept a b (number ∷ numbers) e h =
    let parts = and_parts _ (are_within (length a) numbers) h in
    ap (λ (v : Entry). v ∷ stood b numbers) (entry_kept a b number e (ltb-true number (length a) parts.0)) ∙ ap (λ v. entry_at a number ∷ v)
    (stood_kept a b numbers e parts.1)

pub within_more : (a b : ℕ) (numbers : List ℕ) → a ≤ b → are_within a numbers ≡ true → are_within b numbers ≡ true
within_more a b [] l h = refl
within_more a b (number ∷ numbers) l h =
    let parts = and_parts _ (are_within a numbers) h in
    let less = ltb-true number a parts.0 in
    and_from _ _ (lt-ltb number b (omega (arith, less, l))) (within_more a b numbers l parts.1)

pub within_kept : (a b : List Entry) (numbers : List ℕ) → take (length a) b ≡ a → are_within (length a) numbers ≡ true → are_within (length b) numbers ≡ true
within_kept a b numbers e h = within_more (length a) (length b) numbers (kept_length a b e) h

pub nodes_kept : (a b : List Entry) (kept : List KeptTree) → take (length a) b ≡ a → are_kept_within (length a) kept ≡ true → nodes_of b kept ≡ nodes_of a kept
nodes_kept a b [] e h = refl
nodes_kept a b (tree ∷ kept) e h =
    let parts = and_parts (are_within (length a) tree.numbers) (are_kept_within (length a) kept) h in
    ap (λ (v : List Entry). record { entries = v; name = tree.name } ∷ nodes_of b kept) (stood_kept a b tree.numbers e parts.0) ∙ ap (λ v. node_of a tree ∷ v)
    (nodes_kept a b kept e parts.1)

pub kept_within_more : (a b : ℕ) (kept : List KeptTree) → a ≤ b → are_kept_within a kept ≡ true → are_kept_within b kept ≡ true
kept_within_more a b [] l h = refl
kept_within_more a b (tree ∷ kept) l h =
    let parts = and_parts (are_within a tree.numbers) (are_kept_within a kept) h in
    and_from _ _ (within_more a b tree.numbers l parts.0) (kept_within_more a b kept l parts.1)

pub kept_within_push : (count : ℕ) (kept : List KeptTree) (tree : KeptTree) → are_kept_within count kept ≡ true → are_within count tree.numbers ≡ true
    → are_kept_within count (kept ++ tree ∷ []) ≡ true
kept_within_push count [] tree h k = and_from _ _ k refl
kept_within_push count (first ∷ kept) tree h k =
    let parts = and_parts (are_within count first.numbers) (are_kept_within count kept) h in
    and_from _ _ parts.0 (kept_within_push count kept tree parts.1 k)

pub kept_within_take : (count n : ℕ) (kept : List KeptTree) → are_kept_within count kept ≡ true → are_kept_within count (take n kept) ≡ true
kept_within_take count zero [] h = refl
kept_within_take count zero (tree ∷ kept) h = refl
kept_within_take count (suc n) [] h = refl
kept_within_take count (suc n) (tree ∷ kept) h =
    let parts = and_parts (are_within count tree.numbers) (are_kept_within count kept) h in
    and_from _ _ parts.0 (kept_within_take count n kept parts.1)

pub kept_within_at : (count : ℕ) (kept : List KeptTree) (i : ℕ) (tree : KeptTree) → are_kept_within count kept ≡ true → i < length kept → tree ≡ get_or kept i tree
    → are_within count tree.numbers ≡ true
kept_within_at count [] i tree h l e = absurd (omega arith)
kept_within_at count (first ∷ kept) zero tree h l e =
    ap (λ (v : KeptTree). are_within count v.numbers) e ∙ (and_parts (are_within count first.numbers) (are_kept_within count kept) h).0
kept_within_at count (first ∷ kept) (suc i) tree h l e = kept_within_at count kept i tree
    (and_parts (are_within count first.numbers) (are_kept_within count kept) h).1 (omega arith) e

pub length-nodes : (table : List Entry) (kept : List KeptTree) → length (nodes_of table kept) ≡ length kept
length-nodes table kept = length-map {A = KeptTree} {B = Node} kept (node_of table)

pub length-stood : (table : List Entry) (numbers : List ℕ) → length (stood table numbers) ≡ length numbers
length-stood table numbers = length-map {A = ℕ} {B = Entry} numbers (entry_at table)

pub node-at : (table : List Entry) (kept : List KeptTree) (i : ℕ) (tree : KeptTree) → tree ≡ get_or kept i tree
    → node_of table tree ≡ get_or (nodes_of table kept) i (node_of table tree)
node-at table [] i tree e = refl
node-at table (first ∷ kept) zero tree e = ap (node_of table) e
node-at table (first ∷ kept) (suc i) tree e = node-at table kept i tree e

pub nodes-push : (table : List Entry) (kept : List KeptTree) (tree : KeptTree) → nodes_of table (kept ++ tree ∷ []) ≡ nodes_of table kept ++ node_of table tree ∷ []
nodes-push table [] tree = refl
nodes-push table (first ∷ kept) tree = ap (λ v. node_of table first ∷ v) (nodes-push table kept tree)

pub nodes-front : (table : List Entry) (kept : List KeptTree) (n : ℕ) → nodes_of table (take n kept) ≡ take n (nodes_of table kept)
nodes-front table [] zero = refl
nodes-front table [] (suc n) = refl
nodes-front table (tree ∷ kept) zero = refl
nodes-front table (tree ∷ kept) (suc n) = ap (λ v. node_of table tree ∷ v) (nodes-front table kept n)

pub stood_append : (table : List Entry) (a b : List ℕ) → stood table (a ++ b) ≡ stood table a ++ stood table b
stood_append table [] b = refl
stood_append table (number ∷ a) b = ap (λ v. entry_at table number ∷ v) (stood_append table a b)

pub stood_take : (table : List Entry) (numbers : List ℕ) (n : ℕ) → stood table (take n numbers) ≡ take n (stood table numbers)
stood_take table [] zero = refl
stood_take table [] (suc n) = refl
stood_take table (number ∷ numbers) zero = refl
stood_take table (number ∷ numbers) (suc n) = ap (λ v. entry_at table number ∷ v) (stood_take table numbers n)

pub stood_drop : (table : List Entry) (numbers : List ℕ) (n : ℕ) → stood table (drop n numbers) ≡ drop n (stood table numbers)
stood_drop table [] zero = refl
stood_drop table [] (suc n) = refl
stood_drop table (number ∷ numbers) zero = refl
stood_drop table (number ∷ numbers) (suc n) = stood_drop table numbers n

pub all_drop : {X : Type 0} (p : X → Bool) (xs : List X) (n : ℕ) → list_all p xs ≡ true → list_all p (drop n xs) ≡ true
all_drop p [] zero h = h
all_drop p [] (suc n) h = h
all_drop p (x ∷ xs) zero h = h
all_drop p (x ∷ xs) (suc n) h = all_drop p xs n (and_parts (p x) _ h).1

pub all_take : {X : Type 0} (p : X → Bool) (xs : List X) (n : ℕ) → list_all p xs ≡ true → list_all p (take n xs) ≡ true
all_take p [] zero h = h
all_take p [] (suc n) h = h
all_take p (x ∷ xs) zero h = refl
all_take p (x ∷ xs) (suc n) h = and_from _ _ (and_parts _ _ h).0 (all_take p xs n (and_parts (p x) _ h).1)

pub within_get : (count : ℕ) (numbers : List ℕ) (i : ℕ) → are_within count numbers ≡ true → i < length numbers → get_or numbers i 0 < count
within_get count [] i h l = absurd (omega arith)
within_get count (first ∷ numbers) zero h l = ltb-true first count (and_parts _ (are_within count numbers) h).0
within_get count (first ∷ numbers) (suc i) h l = within_get count numbers i (and_parts _ (are_within count numbers) h).1 (omega arith)

pub stood_get : (table : List Entry) (p : Entry → Bool) (numbers : List ℕ) (i : ℕ) → list_all p (stood table numbers) ≡ true → i < length numbers
    → p (entry_at table (get_or numbers i 0)) ≡ true
stood_get table p [] i h l = absurd (omega arith)
stood_get table p (first ∷ numbers) zero h l = (and_parts (p (entry_at table first)) _ h).0
stood_get table p (first ∷ numbers) (suc i) h l = stood_get table p numbers i (and_parts (p (entry_at table first)) _ h).1 (omega arith)

-- the entries of each directory that is open
abbrev pub levels_of : List Entry → List (List ℕ) → List (List Entry)
levels_of table [] = []
levels_of table (level ∷ levels) = stood table level ∷ levels_of table levels

pub levels-push : (table : List Entry) (levels : List (List ℕ)) (level : List ℕ)
    → levels_of table (levels ++ level ∷ []) ≡ levels_of table levels ++ stood table level ∷ []
levels-push table [] level = refl
levels-push table (first ∷ levels) level = ap (λ v. stood table first ∷ v) (levels-push table levels level)

pub length-levels : (table : List Entry) (levels : List (List ℕ)) → length (levels_of table levels) ≡ length levels
length-levels table [] = refl
length-levels table (level ∷ levels) = let more = length-levels table levels in omega (arith, more)

pub stood_none : (table : List Entry) (numbers : List ℕ) → stood table numbers ≡ [] → numbers ≡ []
stood_none table [] e = refl
stood_none table (number ∷ numbers) e = absurd (let h : entry_at table number ∷ stood table numbers ≡ [] = e in cc)

pub stood_more : (a b : List Entry) (numbers : List ℕ) (number : ℕ) (entry : Entry) → take (length a) b ≡ a → are_within (length a) numbers ≡ true
    → entry_at b number ≡ entry
    → stood b (numbers ++ number ∷ []) ≡ stood a numbers ++ entry ∷ []
stood_more a b numbers number entry e h at =
    stood_append b numbers (number ∷ []) ∙ ap (λ v. v ++ entry_at b number ∷ []) (stood_kept a b numbers e h) ∙ ap (λ (v : Entry). stood a numbers ++ v ∷ []) at

pub within_push : (count : ℕ) (numbers : List ℕ) (number : ℕ) → are_within count numbers ≡ true → number < count
    → are_within count (numbers ++ number ∷ []) ≡ true
within_push count [] number h l = and_from _ _ (lt-ltb number count l) refl
within_push count (first ∷ numbers) number h l =
    let parts = and_parts (nat_lt first count) (are_within count numbers) h in
    and_from _ _ parts.0 (within_push count numbers number parts.1 l)
