use Rattle.std.proofs.Common.{◌≡◌, ℕ, zero, suc, ◌<◌, Bool, true, false, not, ◌&&◌, List, [], ◌∷◌, length, filter, take, get_or, refl, sym, ap, ◌∙◌, true≢false, Option, Some, None, IsTrue, arith}
use Rattle.std.specs.List.{list_all}
use Rattle.std.proofs.lemmas.List.Folds.{list_all-map}
use Rattle.bf_forest.specs.declared.entries.FileEntry.{FileEntry}
use Rattle.bf_forest.specs.Files.{Files, are_apart, is_before, comes_before, is_tree}
use Rattle.bf_forest.proofs.Ordered.{list_all-filter}
use Rattle.bf_tester.specs.Grounds.{File}
use Rattle.bf_history.specs.Contents.{Blobs, bytes_named}
use Rattle.bf_history.specs.Meanings.{is_module}
use Rattle.bf_checkout.specs.Checkouts.{checked_out}
use Rattle.bf_checkout.specs.Folders.{HasRoomAt, Holds}

-- ---- truth values

and-true : (a b : Bool) → (a && b) ≡ true → (a ≡ true) × (b ≡ true)
and-true true b e = (refl, e)
and-true false b e = absurd (true≢false (sym e))

true-and : (a b : Bool) → a ≡ true → b ≡ true → (a && b) ≡ true
true-and true b first second = second
true-and false b first second = first

-- ---- room for the next file

all_at : {X : Type 0} (p : X → Bool) (xs : List X) (i : ℕ) (d : X) → list_all p xs ≡ true → i < length xs → p (get_or xs i d) ≡ true
all_at p [] i d all within = absurd (omega arith)
all_at p (x ∷ xs) zero d all within = (and-true (p x) (list_all p xs) all).0
all_at p (x ∷ xs) (suc i) d all within = all_at p xs i d (and-true (p x) (list_all p xs) all).1 (omega arith)

-- the files of a tree before one of them may stand beside it
apart_before : (files : Files) (i : ℕ) (d : FileEntry) → is_tree files ≡ true → i < length files
    → list_all (λ (file : FileEntry). are_apart file.path (get_or files i d).path) (take i files) ≡ true
unfolding is_tree
apart_before [] i d tree within = absurd (omega arith)
apart_before (file ∷ files) zero d tree within = refl
apart_before (file ∷ files) (suc i) d tree within =
    let both = and-true (list_all (comes_before file) files) (is_tree files) tree in
    let first = all_at (comes_before file) files i d both.0 (omega arith) in
    true-and (are_apart file.path (get_or files i d).path) (list_all (λ (file : FileEntry). are_apart file.path (get_or files i d).path) (take i files))
    (and-true (is_before file.path (get_or files i d).path) (are_apart file.path (get_or files i d).path) first).1
    (apart_before files i d both.1 (omega arith))

-- there is room for the next file of a tree, where those before it are checked out
pub room-next : (told : Option (List File)) (blobs : Blobs) (files : Files) (i : ℕ) (d : FileEntry) → IsTrue (is_tree files) → i < length files
    → Holds told (checked_out blobs (take i files)) → HasRoomAt told (get_or files i d).path
room-next None blobs files i d tree within holds = tt
room-next (Some held) blobs files i d tree within holds =
    let path = (get_or files i d).path in
    let p : File → Bool = λ (file : File). are_apart file.path path in
    let q : FileEntry → Bool = λ (file : FileEntry). are_apart file.path path in
    let before : list_all q (take i files) ≡ true = apart_before files i d tree within in
    let has_file : FileEntry → Bool = λ (file : FileEntry). not (is_module file.mode) in
    let with_bytes : FileEntry → File = λ (file : FileEntry). record { path = file.path; bytes = bytes_named blobs file.oid } in
    let kept : list_all q (filter has_file (take i files)) ≡ true = list_all-filter q has_file (take i files) before in
    let all : list_all p (checked_out blobs (take i files)) ≡ true = list_all-map p with_bytes (filter has_file (take i files)) ∙ kept in
    ap (list_all p) holds ∙ all
