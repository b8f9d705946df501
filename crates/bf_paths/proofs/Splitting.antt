-- Components and the texts that they stand in.
use Rattle.std.proofs.Common.{◌≡◌, ℕ, zero, suc, ◌+◌, ◌<◌, ◌≤◌, Bool, true, false, not, ◌&&◌, ◌==◌, ltb, List, [], ◌∷◌, ◌++◌, length, take, get_or, Some, None}
use Rattle.std.proofs.Common.{cond, refl, sym, ap, ◌∙◌, append_assoc, arith, rules}
use Rattle.std.specs.List.{list_all, slice_split, join_with_byte, All}
use Rattle.std.proofs.lemmas.Bool.{and_parts, and_from, and_right, lt-ltb, not-true, cond-true, cond-false}
use Rattle.std.proofs.lemmas.List.{take_more, get_or_default}
use Rattle.std.proofs.lemmas.List.Folds.{list_all_at}
use Rattle.std.proofs.lemmas.List.Splits.{slice_split_none, slice_split_at, length-slice_split}
use Rattle.bf_paths.specs.Components.{is_slash, is_name_byte, is_component, is_path, path_text, path_of}

-- one more component
join_with_byte-push : (c : ℕ) (xs : List (List ℕ)) (y x : List ℕ) → join_with_byte c (y ∷ xs ++ x ∷ []) ≡ join_with_byte c (y ∷ xs) ++ c ∷ x
join_with_byte-push c [] y x = refl
join_with_byte-push c (z ∷ xs) y x = ap (λ t. y ++ c ∷ t) (join_with_byte-push c xs z x) ∙ sym (append_assoc y (c ∷ join_with_byte c (z ∷ xs)) (c ∷ x))

path_text-push : (xs : List (List ℕ)) (x : List ℕ) → 0 < length xs → path_text (xs ++ x ∷ []) ≡ path_text xs ++ 47 ∷ x
path_text-push [] x h = absurd (omega arith)
path_text-push (y ∷ xs) x h = join_with_byte-push 47 xs y x

path_text_first : (xs : List (List ℕ)) → 0 < length xs → path_text (take (0 + 1) xs) ≡ get_or xs 0 []
path_text_first [] h = absurd (omega arith)
path_text_first (x ∷ xs) h = refl

path_text_more : (xs : List (List ℕ)) (i : ℕ) → 0 < i → i < length xs → path_text (take (i + 1) xs) ≡ path_text (take i xs) ++ 47 ∷ get_or xs i []
path_text_more xs i p h =
    let some : 0 < length (take i xs) = grind arith in
    ap path_text (take_more xs i [] h) ∙ path_text-push (take i xs) (get_or xs i []) some

-- the component at a place was added, behind a slash where it is not the first
pub path_text_at : (xs : List (List ℕ)) (i : ℕ) (x text next : List ℕ) → i < length xs → x ≡ get_or xs i x → text ≡ path_text (take i xs)
    → (i ≡ 0 → next ≡ text ++ x) → (0 < i → next ≡ text ++ 47 ∷ x) → next ≡ path_text (take (i + 1) xs)
path_text_at xs zero x text next h e so_far first later =
    first refl ∙ ap (λ t. t ++ x) so_far ∙ e ∙ get_or_default xs 0 x [] h ∙ sym (path_text_first xs h)
path_text_at xs (suc i) x text next h e so_far first later =
    let more = path_text_more xs (suc i) (omega arith) h in
    later (omega arith) ∙ ap (λ t. t ++ 47 ∷ x) so_far ∙ ap (λ y. path_text (take (suc i) xs) ++ 47 ∷ y) (e ∙ get_or_default xs (suc i) x [] h) ∙ sym more

-- a component has no slash
no_slash : (c : ℕ) → is_name_byte c ≡ true → is_slash c ≡ false
no_slash c h = not-true (is_slash c) (and_parts _ _ h).1

All-no_slash : (xs : List ℕ) → list_all is_name_byte xs ≡ true → All (λ c. is_slash c ≡ false) xs
All-no_slash [] h k d l = absurd (omega arith)
All-no_slash (x ∷ xs) h zero d l = no_slash x (and_parts _ _ h).0
All-no_slash (x ∷ xs) h (suc k) d l = All-no_slash xs (and_parts _ _ h).1 k d (omega arith)

-- a path is read back from its text
split-path_text : (x : List ℕ) (xs : List (List ℕ)) → list_all is_component (x ∷ xs) ≡ true → slice_split is_slash (path_text (x ∷ xs)) ≡ x ∷ xs
split-path_text x [] h = slice_split_none is_slash x (All-no_slash x (and_parts _ _ (and_parts _ _ h).0).0)
split-path_text x (y ∷ xs) h =
    slice_split_at is_slash x 47 (path_text (y ∷ xs)) (All-no_slash x (and_parts _ _ (and_parts _ _ h).0).0) refl
    ∙ ap (λ parts. x ∷ parts) (split-path_text y xs (and_parts _ _ h).1)

pub path_of-path_text : (p : List (List ℕ)) → is_path p ≡ true → path_of (path_text p) ≡ Some p
path_of-path_text [] h = cc
path_of-path_text (x ∷ xs) h =
    let parts = split-path_text x xs (and_parts _ _ h).1 in
    rw parts (cond-true _ _ _ h)

-- the text of a path has bytes alone
abbrev pub are_bytes : List ℕ → Bool
are_bytes text = list_all (λ byte. ltb byte 256) text

are_bytes-append : (xs ys : List ℕ) → are_bytes xs ≡ true → are_bytes ys ≡ true → are_bytes (xs ++ ys) ≡ true
are_bytes-append [] ys p q = q
are_bytes-append (x ∷ xs) ys p q = and_from _ _ (and_parts _ _ p).0 (are_bytes-append xs ys (and_parts _ _ p).1 q)

are_bytes-name : (xs : List ℕ) → list_all is_name_byte xs ≡ true → are_bytes xs ≡ true
are_bytes-name [] h = refl
are_bytes-name (x ∷ xs) h = and_from _ _ (and_parts _ _ (and_parts _ _ (and_parts _ _ h).0).0).1 (are_bytes-name xs (and_parts _ _ h).1)

pub are_bytes-path_text : (p : List (List ℕ)) → list_all is_component p ≡ true → are_bytes (path_text p) ≡ true
are_bytes-path_text [] h = refl
are_bytes-path_text (x ∷ []) h = are_bytes-name x (and_parts _ _ (and_parts _ _ h).0).0
are_bytes-path_text (x ∷ y ∷ xs) h =
    are_bytes-append x (47 ∷ path_text (y ∷ xs)) (are_bytes-name x (and_parts _ _ (and_parts _ _ h).0).0)
    (are_bytes-path_text (y ∷ xs) (and_parts _ _ h).1)

-- a part is no component
pub path_of-bad : (text : List ℕ) (i : ℕ) (name : List ℕ) → i < length (slice_split is_slash text) → name ≡ get_or (slice_split is_slash text) i name
    → is_component name ≡ false → path_of text ≡ None
path_of-bad text i name h e bad =
    let parts = slice_split is_slash text in
    let some = list_all_at is_component parts i name h (ap is_component (sym e) ∙ bad) in
    cond-false _ _ _ (and_right _ _ some)

-- all parts are components
length-split : (text : List ℕ) → 0 < length (slice_split is_slash text)
length-split text = omega (arith, length-slice_split is_slash text)

pub path_of-good : (text : List ℕ) (parts : List (List ℕ)) → parts ≡ slice_split is_slash text → list_all is_component parts ≡ true → path_of text ≡ Some parts
path_of-good text parts e good =
    let whole : is_path (slice_split is_slash text) ≡ true =
    and_from _ _ (lt-ltb 0 _ (length-split text)) (ap (list_all is_component) (sym e) ∙ good) in
    cond-true _ _ _ whole ∙ ap Some (sym e)
