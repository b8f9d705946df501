-- Edits, and the files of a directory, leave each file before those that follow it, and apart from them.
use Rattle.std.proofs.Common.{◌≡◌, ℕ, Bool, true, false, not, ◌&&◌, cond, List, [], ◌∷◌, ◌++◌, refl, sym, ap, ◌∙◌}
use Rattle.std.specs.Ordering.{nat_cmp, is_lt, ordering_then, ordering_reverse}
use Rattle.std.specs.declared.cmp.Ordering.{Ordering}
use Rattle.std.specs.declared.cmp.Ordering.TheVariants.{Less, Equal, Greater}
use Rattle.std.specs.Cmp.{nat_cmp_is}
use Rattle.std.specs.Cmp.Lexicographic.{slice_cmp, nat_list_cmp_total}
use Rattle.std.specs.List.{filter, list_all, fold}
use Rattle.std.proofs.lemmas.Bool.{false≢true, and_parts, and_from, eq-eqb}
use Rattle.bf_paths.specs.Components.{path_text}
use Rattle.bf_oid.specs.declared.object.Mode.{Mode}
use Rattle.bf_oid.specs.declared.object.Oid.{Oid}
use Rattle.bf_forest.specs.declared.entries.FileEntry.{FileEntry}
use Rattle.bf_forest.specs.declared.edits.Edit.{Edit}
use Rattle.bf_forest.specs.declared.edits.Edit.TheVariants.{Set, Remove, Clear}
use Rattle.bf_forest.specs.declared.edits.Part.TheVariants.{Before, Behind, Outside}
use Rattle.bf_forest.specs.Files.{Files, is_same, leads_to, are_apart, is_before, is_in_part, set_file, edited_by, edited, comes_before, is_tree}

-- ---- the order of texts

pub less : (o : Ordering) → is_lt o ≡ true → o ≡ Less
less Less h = refl
less Equal h = absurd (false≢true h)
less Greater h = absurd (false≢true h)

pub is_before-trans : (a b c : List (List ℕ)) → is_before a b ≡ true → is_before b c ≡ true → is_before a c ≡ true
is_before-trans a b c p q =
    ap is_lt (nat_list_cmp_total.trans (path_text a) (path_text b) (path_text c) (less _ p) (less _ q))

-- a path does not come before itself
pub not_before : (a : List (List ℕ)) → is_before a a ≡ true → ⊥
not_before a p =
    let back = nat_list_cmp_total.antisymm (path_text a) (path_text a) in
    let first = less _ p in
    let turned : Less ≡ ordering_reverse Less = sym first ∙ back ∙ ap ordering_reverse first in
    cc

pub and_swap : (x y : Bool) → (x && y) ≡ true → (y && x) ≡ true
and_swap x y h = and_from y x (and_parts x y h).1 (and_parts x y h).0

pub are_apart-swap : (a b : List (List ℕ)) → are_apart a b ≡ true → are_apart b a ≡ true
are_apart-swap a b h = and_swap (not (leads_to a b)) (not (leads_to b a)) h

-- ---- filters

pub list_all-filter : {X : Type 0} (p q : X → Bool) (xs : List X) → list_all p xs ≡ true → list_all p (filter q xs) ≡ true
list_all-filter p q [] h = refl
list_all-filter p q (x ∷ xs) h =
    let more = list_all-filter p q xs (and_parts _ _ h).1 in
    elim (q x) as (λ b. list_all p (cond b (x ∷ filter q xs) (filter q xs)) ≡ true) [
      | true ↦ and_from _ _ (and_parts _ _ h).0 more
      | false ↦ more
    ]

-- what passes a test has what the test implies
list_all-passed : {X : Type 0} (p q : X → Bool) → ((x : X) → q x ≡ true → p x ≡ true) → (xs : List X) → list_all p (filter q xs) ≡ true
list_all-passed p q h [] = refl
list_all-passed p q h (x ∷ xs) =
    let more = list_all-passed p q h xs in
    let by : (b : Bool) → q x ≡ b → list_all p (cond b (x ∷ filter q xs) (filter q xs)) ≡ true =
    λ b. elim b as (λ v. q x ≡ v → list_all p (cond v (x ∷ filter q xs) (filter q xs)) ≡ true) [
      | true ↦ λ e. and_from _ _ (h x e) more
      | false ↦ λ e. more
    ] in
    by (q x) refl

pub is_tree-filter : (q : FileEntry → Bool) (files : Files) → is_tree files ≡ true → is_tree (filter q files) ≡ true
unfolding is_tree
is_tree-filter q [] h = refl
is_tree-filter q (file ∷ files) h =
    let more = is_tree-filter q files (and_parts _ _ h).1 in
    elim (q file) as (λ b. is_tree (cond b (file ∷ filter q files) (filter q files)) ≡ true) [
      | true ↦ and_from _ _ (list_all-filter (comes_before file) q files (and_parts _ _ h).0) more
      | false ↦ more
    ]

-- ---- two lists, one behind the other

-- each of the first comes before each of the second
abbrev pub all_before : Files → Files → Bool
all_before xs ys = list_all (λ x. list_all (comes_before x) ys) xs

list_all-append : {X : Type 0} (p : X → Bool) (xs ys : List X) → list_all p xs ≡ true → list_all p ys ≡ true → list_all p (xs ++ ys) ≡ true
list_all-append p [] ys h k = k
list_all-append p (x ∷ xs) ys h k = and_from _ _ (and_parts _ _ h).0 (list_all-append p xs ys (and_parts _ _ h).1 k)

pub is_tree-append : (xs ys : Files) → is_tree xs ≡ true → is_tree ys ≡ true → all_before xs ys ≡ true → is_tree (xs ++ ys) ≡ true
unfolding is_tree
is_tree-append [] ys h k b = k
is_tree-append (x ∷ xs) ys h k b =
    and_from _ _ (list_all-append (comes_before x) xs ys (and_parts _ _ h).0 (and_parts _ _ b).0)
    (is_tree-append xs ys (and_parts _ _ h).1 k (and_parts _ _ b).1)

all_before-cons : (xs : Files) (y : FileEntry) (ys : Files) → list_all (λ x. comes_before x y) xs ≡ true → all_before xs ys ≡ true
    → all_before xs (y ∷ ys) ≡ true
all_before-cons [] y ys h b = refl
all_before-cons (x ∷ xs) y ys h b =
    let h_parts = and_parts (comes_before x y) (list_all (λ v. comes_before v y) xs) h in
    let b_parts = and_parts (list_all (comes_before x) ys) (all_before xs ys) b in
    and_from (comes_before x y && list_all (comes_before x) ys) (all_before xs (y ∷ ys))
    (and_from (comes_before x y) (list_all (comes_before x) ys) h_parts.0 b_parts.0) (all_before-cons xs y ys h_parts.1 b_parts.1)

-- ---- a file is set

before_path : (path : List (List ℕ)) (file : FileEntry) → is_in_part Before path file ≡ true → is_before file.path path ≡ true
before_path path file h = (and_parts _ _ h).1

behind_path : (path : List (List ℕ)) (file : FileEntry) → is_in_part Behind path file ≡ true → is_before path file.path ≡ true
behind_path path file h = (and_parts _ _ h).1

-- of two files on either side of a path, of which one comes before the other
across : (path : List (List ℕ)) (x y : FileEntry) → is_before x.path path ≡ true → is_before path y.path ≡ true → are_apart x.path y.path ≡ true
    → comes_before x y ≡ true
across path x y p q apart = and_from _ _ (is_before-trans x.path path y.path p q) apart

-- what all the others come behind
others_first : (path : List (List ℕ)) (file : FileEntry) (files : Files) → is_before path file.path ≡ true → list_all (comes_before file) files ≡ true
    → list_all (λ x. comes_before x file) (filter (is_in_part Before path) files) ≡ true
others_first path file [] p h = refl
others_first path file (x ∷ files) p h =
    let more = others_first path file files p (and_parts _ _ h).1 in
    let by : (b : Bool) → is_in_part Before path x ≡ b
    → list_all (λ v. comes_before v file) (cond b (x ∷ filter (is_in_part Before path) files) (filter (is_in_part Before path) files)) ≡ true =
    λ b. elim b as (λ v. is_in_part Before path x ≡ v
    → list_all (λ v. comes_before v file) (cond v (x ∷ filter (is_in_part Before path) files) (filter (is_in_part Before path) files)) ≡ true) [
      | true ↦ λ e. and_from _ _ (across path x file (before_path path x e) p (are_apart-swap file.path x.path (and_parts _ _ (and_parts _ _ h).0).1)) more
      | false ↦ λ e. more
    ] in
    by (is_in_part Before path x) refl

sides : (path : List (List ℕ)) (files : Files) → is_tree files ≡ true
    → all_before (filter (is_in_part Before path) files) (filter (is_in_part Behind path) files) ≡ true
unfolding is_tree
sides path [] h = refl
sides path (file ∷ files) h =
    let before = filter (is_in_part Before path) files in
    let behind = filter (is_in_part Behind path) files in
    let more : all_before before behind ≡ true = sides path files (and_parts _ _ h).1 in
    let by : (b d : Bool) → is_in_part Before path file ≡ b → is_in_part Behind path file ≡ d
    → all_before (cond b (file ∷ before) before) (cond d (file ∷ behind) behind) ≡ true =
    λ b d. elim b as (λ v. is_in_part Before path file ≡ v → is_in_part Behind path file ≡ d
    → all_before (cond v (file ∷ before) before) (cond d (file ∷ behind) behind) ≡ true) [
      | true ↦ elim d as (λ w. is_in_part Before path file ≡ true → is_in_part Behind path file ≡ w
          → all_before (file ∷ before) (cond w (file ∷ behind) behind) ≡ true) [
            | true ↦ λ e f. absurd (not_before path (is_before-trans path file.path path (behind_path path file f) (before_path path file e)))
            | false ↦ λ e f. and_from _ _ (list_all-filter (comes_before file) (is_in_part Behind path) files (and_parts _ _ h).0) more
          ]
      | false ↦ elim d as (λ w. is_in_part Before path file ≡ false → is_in_part Behind path file ≡ w
          → all_before before (cond w (file ∷ behind) behind) ≡ true) [
            | true ↦ λ e f. all_before-cons before file behind (others_first path file files (behind_path path file f) (and_parts _ _ h).0) more
            | false ↦ λ e f. more
          ]
    ] in
    by (is_in_part Before path file) (is_in_part Behind path file) refl refl

pub is_tree-set : (path : List (List ℕ)) (mode : Mode) (oid : Oid) (files : Files) → is_tree files ≡ true → is_tree (set_file path mode oid files) ≡ true
unfolding is_tree
is_tree-set path mode oid files h =
    let new : FileEntry = record { path = path; mode = mode; oid = oid } in
    let before = filter (is_in_part Before path) files in
    let behind = filter (is_in_part Behind path) files in
    let first : list_all (λ x. comes_before x new) before ≡ true =
    list_all-passed (λ x. comes_before x new) (is_in_part Before path) (λ x e. and_swap (are_apart x.path path) (is_before x.path path) e) files in
    let last : list_all (comes_before new) behind ≡ true =
    list_all-passed (comes_before new) (is_in_part Behind path)
    (λ x e. and_from _ _ (and_parts _ _ e).1 (are_apart-swap x.path path (and_parts _ _ e).0)) files in
    is_tree-append before (new ∷ behind) (is_tree-filter (is_in_part Before path) files h)
    (and_from _ _ last (is_tree-filter (is_in_part Behind path) files h)) (all_before-cons before new behind first (sides path files h))

is_tree-edited_by : (files : Files) (edit : Edit) → is_tree files ≡ true → is_tree (edited_by files edit) ≡ true
unfolding is_tree
is_tree-edited_by files (Set path mode oid) h = is_tree-set path mode oid files h
is_tree-edited_by files (Remove path) h = is_tree-filter (is_in_part Outside path) files h
is_tree-edited_by files Clear h = refl

is_tree-fold : (edits : List Edit) (files : Files) → is_tree files ≡ true → is_tree (fold edited_by files edits) ≡ true
is_tree-fold [] files h = h
is_tree-fold (edit ∷ edits) files h = is_tree-fold edits (edited_by files edit) (is_tree-edited_by files edit h)

pub is_tree-edited : (files : Files) (edits : List Edit) → is_tree files ≡ true → is_tree (edited files edits) ≡ true
unfolding edited
is_tree-edited files edits h = is_tree-fold edits files h

-- ---- the files of a directory

pub is_same-refl : (a : List ℕ) → is_same a a ≡ true
is_same-refl [] = refl
is_same-refl (x ∷ xs) = and_from _ _ (eq-eqb x x refl) (is_same-refl xs)

pub nat_cmp-same : (x : ℕ) → nat_cmp x x ≡ Equal
nat_cmp-same x = sym (nat_cmp_is x x Equal refl)

pub cmp-front : (front a b : List ℕ) → slice_cmp nat_cmp (front ++ a) (front ++ b) ≡ slice_cmp nat_cmp a b
cmp-front [] a b = refl
cmp-front (x ∷ front) a b = ap (λ o. ordering_then o (slice_cmp nat_cmp (front ++ a) (front ++ b))) (nat_cmp-same x) ∙ cmp-front front a b

-- behind one component both stand in the same order
pub before-behind : (name x y : List ℕ) (xs ys : List (List ℕ)) → is_before (name ∷ x ∷ xs) (name ∷ y ∷ ys) ≡ is_before (x ∷ xs) (y ∷ ys)
before-behind name x y xs ys = ap is_lt (cmp-front name (47 ∷ path_text (x ∷ xs)) (47 ∷ path_text (y ∷ ys)))

pub leads-behind : (name : List ℕ) (xs ys : List (List ℕ)) → leads_to (name ∷ xs) (name ∷ ys) ≡ leads_to xs ys
leads-behind name xs ys = ap (λ b. b && leads_to xs ys) (is_same-refl name)

pub is_tree-nil : is_tree [] ≡ true
unfolding is_tree
is_tree-nil = refl
