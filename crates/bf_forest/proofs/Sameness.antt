-- Files that are the same by their parts are equal.
use Rattle.std.proofs.Common.{◌≡◌, ℕ, true, List, [], ◌∷◌, refl, ap, ◌∙◌}
use Rattle.std.specs.Cmp.Lexicographic.{pointwise}
use Rattle.std.proofs.lemmas.Bool.{false≢true, and_parts}
use Rattle.std.proofs.lemmas.Slice.Eq.{bytes_eq-Decides}
use Rattle.bf_oid.specs.declared.object.Mode.{Mode}
use Rattle.bf_oid.specs.declared.object.Mode.TheVariants.{Plain, Exec, Link, Module}
use Rattle.bf_forest.specs.declared.entries.FileEntry.{FileEntry}
use Rattle.bf_forest.specs.Files.{Files, is_same}
use Rattle.bf_forest.specs.Trees.{mode_text, is_same_file, are_same}

same_mode : (a b : Mode) → is_same (mode_text a) (mode_text b) ≡ true → a ≡ b
same_mode Plain Plain h = refl
same_mode Plain Exec h = absurd (false≢true h)
same_mode Plain Link h = absurd (false≢true h)
same_mode Plain Module h = absurd (false≢true h)
same_mode Exec Plain h = absurd (false≢true h)
same_mode Exec Exec h = refl
same_mode Exec Link h = absurd (false≢true h)
same_mode Exec Module h = absurd (false≢true h)
same_mode Link Plain h = absurd (false≢true h)
same_mode Link Exec h = absurd (false≢true h)
same_mode Link Link h = refl
same_mode Link Module h = absurd (false≢true h)
same_mode Module Plain h = absurd (false≢true h)
same_mode Module Exec h = absurd (false≢true h)
same_mode Module Link h = absurd (false≢true h)
same_mode Module Module h = refl

pub same_name : (a b : List ℕ) → is_same a b ≡ true → a ≡ b
same_name a b h = (bytes_eq-Decides a b).0 h

pub same_path : (a b : List (List ℕ)) → pointwise is_same a b ≡ true → a ≡ b
same_path [] [] h = refl
same_path [] (y ∷ ys) h = absurd (false≢true h)
same_path (x ∷ xs) [] h = absurd (false≢true h)
same_path (x ∷ xs) (y ∷ ys) h =
    let first = same_name x y (and_parts _ _ h).0 in
    let rest = same_path xs ys (and_parts _ _ h).1 in
    ap (λ n. n ∷ xs) first ∙ ap (λ ns. y ∷ ns) rest

pub same_file : (a b : FileEntry) → is_same_file a b ≡ true → a ≡ b
same_file a b h =
    let path = same_path a.path b.path (and_parts _ _ (and_parts _ _ h).0).0 in
    let mode = same_mode a.mode b.mode (and_parts _ _ (and_parts _ _ h).0).1 in
    let oid = same_name a.oid.0 b.oid.0 (and_parts _ _ h).1 in
    λ i. record { path = path i; mode = mode i; oid = record { 0 = oid i } }

pub same_files : (a b : Files) → are_same a b ≡ true → a ≡ b
same_files [] [] h = refl
same_files [] (y ∷ ys) h = absurd (false≢true h)
same_files (x ∷ xs) [] h = absurd (false≢true h)
same_files (x ∷ xs) (y ∷ ys) h =
    let first = same_file x y (and_parts _ _ h).0 in
    let rest = same_files xs ys (and_parts _ _ h).1 in
    ap (λ f. f ∷ xs) first ∙ ap (λ fs. y ∷ fs) rest
