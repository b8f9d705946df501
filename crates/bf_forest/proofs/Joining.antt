-- Trees that join a pool.
use Rattle.std.proofs.Common.{◌≡◌, ◌+◌, true, false, List, [], ◌∷◌, ◌++◌, length, take, Result, Ok, Err, OnOk, refl, sym, ap, ◌∙◌, arith}
use Rattle.std.specs.List.{list_any, fold, flat_map}
use Rattle.std.proofs.lemmas.Bool.{cond-true, cond-false}
use Rattle.std.proofs.lemmas.List.Sums.{sum_by-append, fold-append}
use Rattle.bf_forest.specs.Files.{Files}
use Rattle.bf_forest.specs.Trees.{names, are_same, with_tree, with_directories, entries_of, files_at}
use Rattle.bf_forest.proofs.Making.{inside_of, directories-is}

pub entries_of-push : (trees : List Files) (files : Files) → entries_of (trees ++ files ∷ []) ≡ entries_of trees + length (names files)
unfolding entries_of
entries_of-push trees files =
    let both = sum_by-append (λ list. length (names list)) trees (files ∷ []) in
    omega (arith, both)

pub with_tree-new : (trees : List Files) (files : Files) → list_any (λ tree. are_same tree files) trees ≡ false → with_tree trees files ≡ trees ++ files ∷ []
with_tree-new trees files e = cond-false _ _ _ e

pub with_tree-there : (trees : List Files) (files : Files) → list_any (λ tree. are_same tree files) trees ≡ true → with_tree trees files ≡ trees
with_tree-there trees files e = cond-true _ _ _ e

take_whole : {X : Type 0} (xs : List X) → take (length xs) xs ≡ xs
take_whole [] = refl
take_whole (x ∷ xs) = ap (λ ys. x ∷ ys) (take_whole xs)

pub take_front : {X : Type 0} (xs ys : List X) → take (length xs) (xs ++ ys) ≡ xs
take_front [] ys = refl
take_front (x ∷ xs) ys = ap (λ zs. x ∷ zs) (take_front xs ys)

-- what is kept of what is kept
pub kept_trans : {X : Type 0} (a b c : List X) → take (length a) b ≡ a → take (length b) c ≡ b → take (length a) c ≡ a
kept_trans [] b c p q = refl
kept_trans (x ∷ a) [] c p q = absurd (let e : [] ≡ x ∷ a = p in cc)
kept_trans (x ∷ a) (y ∷ b) [] p q = absurd (let e : [] ≡ y ∷ b = q in cc)
kept_trans (x ∷ a) (y ∷ b) (z ∷ c) p q =
    let first : y ≡ x = cc in
    let second : z ≡ y = cc in
    let rest : take (length a) b ≡ a = cc in
    let more : take (length b) c ≡ b = cc in
    ap (λ v. v ∷ take (length a) c) (second ∙ first) ∙ ap (λ zs. x ∷ zs) (kept_trans a b c rest more)

pub kept_refl : {X : Type 0} (a : List X) → take (length a) a ≡ a
kept_refl a = take_whole a

-- the directories inside have joined, and then all the files do
pub with_directories-is : (trees : List Files) (files : Files)
    → with_tree (fold with_tree trees (flat_map (inside_of files) (names files))) files ≡ with_directories trees files
unfolding with_directories
with_directories-is trees files =
    sym (ap (fold with_tree trees) (directories-is files) ∙ fold-append with_tree trees (flat_map (inside_of files) (names files)) (files ∷ []))

-- the place behind the last
pub at_push : (trees : List Files) (files : Files) → files_at (trees ++ files ∷ []) (length trees) ≡ files
at_push [] files = refl
at_push (tree ∷ trees) files = at_push trees files

-- ---- what a call answers

pub on_ok : {T E : Type 0} (r : Result T E) (P Q : Type 0) → (P → Q) → OnOk r P → OnOk r Q
on_ok (Ok x) P Q f h = f h
on_ok (Err e) P Q f h = h

-- ---- the list of a pool, by what it is kept in
