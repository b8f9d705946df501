-- Files in order are told by what is among them.
use Rattle.std.proofs.Common.{◌≡◌, ℕ, Bool, true, false, ◌&&◌, ◌||◌, cond, List, [], ◌∷◌, refl, sym, ap, ◌∙◌, inl, inr}
use Rattle.std.specs.Cmp.Lexicographic.{pointwise}
use Rattle.std.specs.List.{filter, list_all, list_any}
use Rattle.std.proofs.lemmas.Bool.{false≢true, and_parts, and_from, cases_Bool, or_cases}
use Rattle.bf_paths.specs.Components.{is_path}
use Rattle.bf_forest.specs.declared.entries.FileEntry.{FileEntry}
use Rattle.bf_forest.specs.Files.{Files, is_same, comes_before, is_tree}
use Rattle.bf_forest.specs.Trees.{mode_text, is_same_file}
use Rattle.bf_forest.proofs.Ordered.{is_same-refl, is_before-trans, not_before}
use Rattle.bf_forest.proofs.Sameness.{same_file}

-- a file is among files
abbrev pub has : FileEntry → Files → Bool
has file files = list_any (is_same_file file) files

-- each file has a path
abbrev pub are_paths : Files → Bool
are_paths files = list_all (λ file. is_path file.path) files

pub path-refl : (a : List (List ℕ)) → pointwise is_same a a ≡ true
path-refl [] = refl
path-refl (x ∷ xs) = and_from _ _ (is_same-refl x) (path-refl xs)

pub is_same_file-refl : (file : FileEntry) → is_same_file file file ≡ true
is_same_file-refl file =
    and_from _ _ (and_from _ _ (path-refl file.path) (is_same-refl (mode_text file.mode))) (is_same-refl file.oid.0)

-- what holds of each file holds of one that is among them
pub of_member : (p : FileEntry → Bool) (files : Files) (x : FileEntry) → list_all p files ≡ true → has x files ≡ true → p x ≡ true
of_member p [] x h k = absurd (false≢true k)
of_member p (file ∷ files) x h k =
    elim (or_cases (is_same_file x file) (has x files) k) [
      | inl here ↦ ap p (same_file x file here) ∙ (and_parts _ _ h).0
      | inr later ↦ of_member p files x (and_parts _ _ h).1 later
    ]

pub or_second : (a b : Bool) → b ≡ true → (a || b) ≡ true
or_second true b h = refl
or_second false b h = h

pub or_first : (a b : Bool) → a ≡ true → (a || b) ≡ true
or_first true b h = refl
or_first false b h = absurd (false≢true h)

pub each_member : (p : FileEntry → Bool) (files : Files) → ((x : FileEntry) → has x files ≡ true → p x ≡ true) → list_all p files ≡ true
each_member p [] h = refl
each_member p (file ∷ files) h =
    and_from _ _ (h file (or_first _ _ (is_same_file-refl file)))
    (each_member p files (λ x k. h x (or_second (is_same_file x file) (has x files) k)))

-- ---- a filter

kept_there : (s h p : Bool) → (s ≡ true → p ≡ true) → (s || (h && p)) ≡ ((s || h) && p)
kept_there true h p e = sym (e refl)
kept_there false h p e = refl

left_there : (s h p : Bool) → (s ≡ true → p ≡ false) → (h && p) ≡ ((s || h) && p)
left_there true true p e = refl
left_there true false p e = sym (e refl)
left_there false h p e = refl

pub has-filter : (x : FileEntry) (p : FileEntry → Bool) (files : Files) → has x (filter p files) ≡ (has x files && p x)
has-filter x p [] = refl
has-filter x p (file ∷ files) =
    let more = has-filter x p files in
    let by : (b : Bool) → p file ≡ b → has x (cond b (file ∷ filter p files) (filter p files)) ≡ ((is_same_file x file || has x files) && p x) =
    λ b. elim b as (λ v. p file ≡ v → has x (cond v (file ∷ filter p files) (filter p files)) ≡ ((is_same_file x file || has x files) && p x)) [
      | true ↦ λ e. ap (λ v. is_same_file x file || v) more ∙ kept_there (is_same_file x file) (has x files) (p x) (λ s. ap p (same_file x file s) ∙ e)
      | false ↦ λ e. more ∙ left_there (is_same_file x file) (has x files) (p x) (λ s. ap p (same_file x file s) ∙ e)
    ] in
    by (p file) refl

-- ---- two lists in order with the same members

not_itself : (x : FileEntry) (files : Files) → list_all (comes_before x) files ≡ true → has x files ≡ false
not_itself x files h =
    elim (cases_Bool (has x files)) [
      | inl there ↦ absurd (not_before x.path (and_parts _ _ (of_member (comes_before x) files x h there)).0)
      | inr not_there ↦ not_there
    ]

or_false : (a b : Bool) → a ≡ false → (a || b) ≡ b
or_false true b h = absurd (false≢true (sym h))
or_false false b h = refl

same_first : (x y : FileEntry) (xs ys : Files) → list_all (comes_before x) xs ≡ true → list_all (comes_before y) ys ≡ true
    → has x (y ∷ ys) ≡ true → has y (x ∷ xs) ≡ true → x ≡ y
same_first x y xs ys p q h k =
    elim (or_cases (is_same_file x y) (has x ys) h) [
      | inl here ↦ same_file x y here
      | inr later ↦ elim (or_cases (is_same_file y x) (has y xs) k) [
        | inl here ↦ sym (same_file y x here)
        | inr last ↦
            let back = (and_parts _ _ (of_member (comes_before y) ys x q later)).0 in
            let forth = (and_parts _ _ (of_member (comes_before x) xs y p last)).0 in
            absurd (not_before x.path (is_before-trans x.path y.path x.path forth back))
      ]
    ]

pub same_members : (a b : Files) → is_tree a ≡ true → is_tree b ≡ true → ((x : FileEntry) → has x a ≡ has x b) → a ≡ b
unfolding is_tree
same_members [] [] s t h = refl
same_members [] (y ∷ ys) s t h = absurd (false≢true (h y ∙ or_first _ _ (is_same_file-refl y)))
same_members (x ∷ xs) [] s t h = absurd (false≢true (sym (h x) ∙ or_first _ _ (is_same_file-refl x)))
same_members (x ∷ xs) (y ∷ ys) s t h =
    let p = (and_parts _ _ s).0 in
    let q = (and_parts _ _ t).0 in
    let first : x ≡ y = same_first x y xs ys p q (sym (h x) ∙ or_first _ _ (is_same_file-refl x)) (h y ∙ or_first _ _ (is_same_file-refl y)) in
    let rest : (z : FileEntry) → has z xs ≡ has z ys =
    λ z. elim (cases_Bool (is_same_file z x)) [
      | inl here ↦
          let at : z ≡ x = same_file z x here in
          ap (λ v. has v xs) at ∙ not_itself x xs p ∙ sym (ap (λ v. has v ys) (at ∙ first) ∙ not_itself y ys q)
      | inr other ↦ sym (or_false _ _ other) ∙ h z ∙ or_false _ _ (ap (is_same_file z) (sym first) ∙ other)
    ] in
    ap (λ v. v ∷ xs) first ∙ ap (λ v. y ∷ v) (same_members xs ys (and_parts _ _ s).1 (and_parts _ _ t).1 rest)

no_path : (x : FileEntry) (files : Files) → are_paths files ≡ true → is_path x.path ≡ false → has x files ≡ false
no_path x files h e =
    elim (cases_Bool (has x files)) [
      | inl there ↦ absurd (false≢true (sym e ∙ of_member (λ file. is_path file.path) files x h there))
      | inr not_there ↦ not_there
    ]

-- only the files with a path need to be looked at
pub same_files_by : (a b : Files) → is_tree a ≡ true → is_tree b ≡ true → are_paths a ≡ true → are_paths b ≡ true
    → ((x : FileEntry) → is_path x.path ≡ true → has x a ≡ has x b) → a ≡ b
same_files_by a b s t p q h =
    same_members a b s t
    (λ x. elim (cases_Bool (is_path x.path)) [
      | inl good ↦ h x good
      | inr bad ↦ no_path x a p bad ∙ sym (no_path x b q bad)
    ])
