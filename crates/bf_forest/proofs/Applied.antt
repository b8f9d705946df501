-- What an edit makes of the files of a directory is what a change of one entry makes of them.
use Rattle.std.proofs.Common.{◌≡◌, ℕ, Bool, true, false, not, ◌==◌, ◌&&◌, ◌||◌, List, [], ◌∷◌, ◌++◌, length, Some, refl, sym, ap, ◌∙◌, ◌⊎◌, inl, inr, subst}
use Rattle.std.proofs.Common.{arith}
use Rattle.std.specs.Ordering.{nat_cmp, is_lt, ordering_reverse}
use Rattle.std.specs.declared.cmp.Ordering.{Ordering}
use Rattle.std.specs.declared.cmp.Ordering.TheVariants.{Less, Equal, Greater}
use Rattle.std.specs.Cmp.Lexicographic.{slice_cmp, pointwise, nat_list_cmp_total}
use Rattle.std.specs.List.{list_all, filter}
use Rattle.std.proofs.lemmas.Bool.{false≢true, and_parts, and_from, and_right, lt-ltb, cases_Bool}
use Rattle.std.proofs.lemmas.List.{take_all}
use Rattle.std.proofs.lemmas.List.Folds.{list_any-append, list_all-append}
use Rattle.std.proofs.lemmas.Map.Lookups.{exact_bytes}
use Rattle.bf_oid.specs.declared.object.Mode.{Mode}
use Rattle.bf_oid.specs.declared.object.Oid.{Oid}
use Rattle.bf_paths.specs.Components.{is_component, is_path, path_text, path_of}
use Rattle.bf_paths.proofs.Splitting.{path_of-path_text}
use Rattle.bf_forest.specs.declared.entries.FileEntry.{FileEntry}
use Rattle.bf_forest.specs.declared.edits.Part.TheVariants.{Before, Behind, Outside}
use Rattle.bf_forest.specs.Files.{Files, is_same, leads_to, are_apart, is_before, is_in_part, set_file, remove_file, comes_before, is_tree}
use Rattle.bf_forest.specs.Trees.{mode_text, is_same_file}
use Rattle.bf_forest.specs.Listing.{key_for, name_in, Listing, is_entry, is_listing, shown, beneath}
use Rattle.bf_forest.specs.Slots.{directory_key}
use Rattle.bf_forest.proofs.Entered.{key_shape}
use Rattle.bf_forest.proofs.Keys.{name_bytes, name_in-plain, name_in-slash, name_in-key}
use Rattle.bf_forest.proofs.Listed.{at_key, has-shown, are_paths-shown, is_tree-shown}
use Rattle.bf_forest.proofs.Members.{has, are_paths, path-refl, has-filter, same_files_by, or_first, or_second}
use Rattle.bf_forest.proofs.Ordered.{is_same-refl, list_all-filter, leads-behind, before-behind}
use Rattle.bf_forest.proofs.Sameness.{same_name}

-- a file by its parts
abbrev pub file_of : List (List ℕ) → Mode → Oid → FileEntry
file_of path mode oid = record { path = path; mode = mode; oid = oid }

-- ---- files seen from outside of their directory

pub same_beneath : (n : List ℕ) (p : List (List ℕ)) (m : Mode) (o : Oid) (file : FileEntry)
    → is_same_file (file_of (n ∷ p) m o) (record file { path = n ∷ file.path }) ≡ is_same_file (file_of p m o) file
same_beneath n p m o file =
    ap (λ b. ((b && pointwise is_same p file.path) && is_same (mode_text m) (mode_text file.mode)) && is_same o.0 file.oid.0) (is_same-refl n)

pub has-beneath : (n : List ℕ) (p : List (List ℕ)) (m : Mode) (o : Oid) (files : Files)
    → has (file_of (n ∷ p) m o) (beneath n files) ≡ has (file_of p m o) files
has-beneath n p m o [] = refl
has-beneath n p m o (file ∷ files) =
    ap (λ b. b || has (file_of (n ∷ p) m o) (beneath n files)) (same_beneath n p m o file)
    ∙ ap (λ b. is_same_file (file_of p m o) file || b) (has-beneath n p m o files)

before_beneath : (n : List ℕ) (x y : FileEntry) → is_path x.path ≡ true → is_path y.path ≡ true → comes_before x y ≡ true
    → comes_before (record x { path = n ∷ x.path }) (record y { path = n ∷ y.path }) ≡ true
before_beneath n x y p q h = go x.path y.path p q h
  where
    go : (a b : List (List ℕ)) → is_path a ≡ true → is_path b ≡ true → (is_before a b && are_apart a b) ≡ true
        → (is_before (n ∷ a) (n ∷ b) && are_apart (n ∷ a) (n ∷ b)) ≡ true
    go [] b p q h = absurd (false≢true p)
    go (a ∷ ar) [] p q h = absurd (false≢true q)
    go (a ∷ ar) (b ∷ br) p q h =
        and_from _ _ (before-behind n a b ar br ∙ (and_parts _ _ h).0)
        (ap (λ v. not v && not (leads_to (n ∷ b ∷ br) (n ∷ a ∷ ar))) (leads-behind n (a ∷ ar) (b ∷ br))
        ∙ ap (λ v. not (leads_to (a ∷ ar) (b ∷ br)) && not v) (leads-behind n (b ∷ br) (a ∷ ar)) ∙ (and_parts _ _ h).1)

all_beneath : (n : List ℕ) (x : FileEntry) (files : Files) → is_path x.path ≡ true → are_paths files ≡ true → list_all (comes_before x) files ≡ true
    → list_all (comes_before (record x { path = n ∷ x.path })) (beneath n files) ≡ true
all_beneath n x [] p q h = refl
all_beneath n x (y ∷ files) p q h =
    and_from _ _ (before_beneath n x y p (and_parts _ _ q).0 (and_parts _ _ h).0) (all_beneath n x files p (and_parts _ _ q).1 (and_parts _ _ h).1)

pub is_tree-beneath : (n : List ℕ) (files : Files) → are_paths files ≡ true → is_tree files ≡ true → is_tree (beneath n files) ≡ true
unfolding is_tree
is_tree-beneath n [] p h = refl
is_tree-beneath n (file ∷ files) p h =
    and_from _ _ (all_beneath n file files (and_parts _ _ p).0 (and_parts _ _ p).1 (and_parts _ _ h).0)
    (is_tree-beneath n files (and_parts _ _ p).1 (and_parts _ _ h).1)

pub path_cons : (a : List ℕ) (ar : List (List ℕ)) → is_component a ≡ true → list_all is_component ar ≡ true → is_path (a ∷ ar) ≡ true
path_cons a ar h k = and_from _ _ (lt-ltb 0 (length (a ∷ ar)) (omega arith)) (and_from (is_component a) (list_all is_component ar) h k)

path_beneath : (n : List ℕ) (p : List (List ℕ)) → is_component n ≡ true → is_path p ≡ true
    → (is_same (key_for (n ∷ p)) (directory_key n) && is_path (n ∷ p)) ≡ true
path_beneath n [] c h = absurd (false≢true h)
path_beneath n (a ∷ ar) c h =
    and_from _ _ (is_same-refl (directory_key n)) (path_cons n (a ∷ ar) c (and_parts _ (is_component a && list_all is_component ar) h).1)

keys_beneath : (n : List ℕ) (files : Files) → is_component n ≡ true → are_paths files ≡ true
    → list_all (λ file. is_same (key_for file.path) (directory_key n) && is_path file.path) (beneath n files) ≡ true
keys_beneath n [] c h = refl
keys_beneath n (file ∷ files) c h = and_from _ _ (path_beneath n file.path c (and_parts _ _ h).0) (keys_beneath n files c (and_parts _ _ h).1)

pub entry-beneath : (n : List ℕ) (files : Files) → is_component n ≡ true → are_paths files ≡ true → is_tree files ≡ true
    → is_entry (directory_key n) (beneath n files) ≡ true
entry-beneath n files c p h =
    and_from _ _ (ap is_component (name_in-slash n) ∙ c) (and_from _ _ (keys_beneath n files c p) (is_tree-beneath n files p h))

pub entry-file : (n : List ℕ) (m : Mode) (o : Oid) → is_component n ≡ true → is_entry n (file_of (n ∷ []) m o ∷ []) ≡ true
unfolding is_tree
entry-file n m o c =
    and_from _ _ (ap is_component (name_in-plain n (name_bytes n c)) ∙ c)
    (and_from _ _ (and_from _ _ (and_from _ _ (is_same-refl n) (path_cons n [] c refl)) refl) refl)

-- ---- what is among files after an edit

pub leads-refl : (p : List (List ℕ)) → leads_to p p ≡ true
leads-refl p = ap (λ v. pointwise is_same p v) (take_all (length p) p (omega arith)) ∙ path-refl p

text_apart : (p q : List (List ℕ)) → is_path p ≡ true → is_path q ≡ true → are_apart p q ≡ true → (is_before p q || is_before q p) ≡ true
text_apart p q hp hq h =
    let by : (o : Ordering) → slice_cmp nat_cmp (path_text p) (path_text q) ≡ o → (is_before p q || is_before q p) ≡ true =
    λ o. elim o as (λ v. slice_cmp nat_cmp (path_text p) (path_text q) ≡ v → (is_before p q || is_before q p) ≡ true) [
      | Less ↦ λ e. or_first _ _ (ap is_lt e)
      | Equal ↦ λ e.
          let found : Some p ≡ Some q = sym (path_of-path_text p hp) ∙ ap path_of (exact_bytes (path_text p) (path_text q) e) ∙ path_of-path_text q hq in
          let same : p ≡ q = cc in
          absurd (false≢true (sym (ap (λ v. not v && not (leads_to p p)) (leads-refl p)) ∙ ap (are_apart p) same ∙ h))
      | Greater ↦ λ e. or_second (is_before p q) _ (ap is_lt (nat_list_cmp_total.antisymm (path_text q) (path_text p) ∙ ap ordering_reverse e))
    ] in
    by (slice_cmp nat_cmp (path_text p) (path_text q)) refl

set_bits : (h a b c s : Bool) → (a ≡ true → (b || c) ≡ true) → ((h && (a && b)) || (s || (h && (a && c)))) ≡ ((h && a) || s)
set_bits false a b c true e = refl
set_bits false a b c false e = refl
set_bits true false b c true e = refl
set_bits true false b c false e = refl
set_bits true true true c s e = refl
set_bits true true false true true e = refl
set_bits true true false true false e = refl
set_bits true true false false s e = absurd (false≢true (e refl))

pub has-set : (path : List (List ℕ)) (m : Mode) (o : Oid) (files : Files) (x : FileEntry) → is_path path ≡ true → is_path x.path ≡ true
    → has x (set_file path m o files) ≡ ((has x files && are_apart x.path path) || is_same_file x (file_of path m o))
has-set path m o files x hp hx =
    let before = is_in_part Before path in
    let behind = is_in_part Behind path in
    let same = is_same_file x (file_of path m o) in
    list_any-append (is_same_file x) (filter before files) (file_of path m o ∷ filter behind files)
    ∙ ap (λ v. v || (same || has x (filter behind files))) (has-filter x before files)
    ∙ ap (λ v. (has x files && before x) || (same || v)) (has-filter x behind files)
    ∙ set_bits (has x files) (are_apart x.path path) (is_before x.path path) (is_before path x.path) same (text_apart x.path path hx hp)

pub are_paths-set : (path : List (List ℕ)) (m : Mode) (o : Oid) (files : Files) → is_path path ≡ true → are_paths files ≡ true
    → are_paths (set_file path m o files) ≡ true
are_paths-set path m o files hp h =
    let valid : FileEntry → Bool = λ file. is_path file.path in
    list_all-append valid (filter (is_in_part Before path) files) (file_of path m o ∷ filter (is_in_part Behind path) files)
    ∙ and_from _ _ (list_all-filter valid (is_in_part Before path) files h) (and_from _ _ hp (list_all-filter valid (is_in_part Behind path) files h))

pub are_paths-remove : (path : List (List ℕ)) (files : Files) → are_paths files ≡ true → are_paths (remove_file path files) ≡ true
are_paths-remove path files h = list_all-filter (λ file. is_path file.path) (is_in_part Outside path) files h

-- ---- the two keys of a name

pub two_keys : (n : List ℕ) → is_component n ≡ true → (q : List ℕ) → name_in q ≡ n → (q ≡ n) ⊎ (q ≡ directory_key n)
two_keys n c q h =
    elim (key_shape q) [
      | inl plain ↦ inl (plain ∙ h)
      | inr slash ↦ inr (slash ∙ ap directory_key h)
    ]

pub key_not : (a n q : List ℕ) (ar : List (List ℕ)) → is_component a ≡ true → is_same a n ≡ false → name_in q ≡ n → is_same (key_for (a ∷ ar)) q ≡ false
key_not a n q ar c other h =
    elim (cases_Bool (is_same (key_for (a ∷ ar)) q)) [
      | inl same ↦ absurd (false≢true (sym other ∙ ap (λ v. is_same v n) (sym (name_in-key a ar c) ∙ ap name_in (same_name (key_for (a ∷ ar)) q same) ∙ h) ∙
          is_same-refl n))
      | inr not_there ↦ not_there
    ]

pub keys_differ : (n : List ℕ) → is_component n ≡ true → is_same n (directory_key n) ≡ false
keys_differ n c = longer n
  where
    longer : (a : List ℕ) → is_same a (a ++ 47 ∷ []) ≡ false
    longer [] = refl
    longer (x ∷ xs) = and_right (x == x) _ (longer xs)

-- ---- files by what they have at each name

pub shown_as : (es : Listing) (files : Files) (n : List ℕ) → is_listing es ≡ true → is_tree files ≡ true → are_paths files ≡ true
    → ((a : List ℕ) (ar : List (List ℕ)) (m : Mode) (o : Oid) → is_path (a ∷ ar) ≡ true → is_same a n ≡ false
    → has (file_of (a ∷ ar) m o) files ≡ has (file_of (a ∷ ar) m o) (at_key (key_for (a ∷ ar)) es))
    → ((m : Mode) (o : Oid) → has (file_of (n ∷ []) m o) files ≡ has (file_of (n ∷ []) m o) (at_key n es))
    → ((next : List ℕ) (rest : List (List ℕ)) (m : Mode) (o : Oid) → is_path (n ∷ next ∷ rest) ≡ true
    → has (file_of (n ∷ next ∷ rest) m o) files ≡ has (file_of (n ∷ next ∷ rest) m o) (at_key (directory_key n) es))
    → shown es ≡ files
shown_as es files n h t p other here inside =
    same_files_by (shown es) files (is_tree-shown es h) t (are_paths-shown es h) p
    (λ x v. has-shown es x h ∙ sym (go x.path x.mode x.oid v))
  where
    named : (ar : List (List ℕ)) (m : Mode) (o : Oid) → is_path (n ∷ ar) ≡ true
        → has (file_of (n ∷ ar) m o) files ≡ has (file_of (n ∷ ar) m o) (at_key (key_for (n ∷ ar)) es)
    named [] m o v = here m o
    named (next ∷ rest) m o v = inside next rest m o v

    go : (path : List (List ℕ)) (m : Mode) (o : Oid) → is_path path ≡ true → has (file_of path m o) files ≡ has (file_of path m o) (at_key (key_for path) es)
    go [] m o v = absurd (false≢true v)
    go (a ∷ ar) m o v =
        elim (cases_Bool (is_same a n)) [
          | inl same ↦
              let at : n ≡ a = sym (same_name a n same) in
              subst (λ q. has (file_of (q ∷ ar) m o) files ≡ has (file_of (q ∷ ar) m o) (at_key (key_for (q ∷ ar)) es))
              at (named ar m o (ap (λ q. is_path (q ∷ ar)) at ∙ v))
          | inr differs ↦ other a ar m o v differs
        ]
