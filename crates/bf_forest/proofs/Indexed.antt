-- An index that has something for each tree, and what it says of a tree that it has nothing for.
use Rattle.std.proofs.Common.{◌≡◌, ℕ, zero, suc, ◌+◌, ◌<◌, Bool, true, false, cond, List, [], ◌∷◌, ◌++◌, length, take, Option, Some, None, IsSome, refl, sym}
use Rattle.std.proofs.Common.{ap, ◌∙◌, subst, inl, inr, length-append, arith}
use Rattle.std.specs.List.{list_any}
use Rattle.std.specs.Ordering.{nat_cmp}
use Rattle.std.specs.Cmp.Lexicographic.{slice_cmp}
use Rattle.std.specs.BTreeMap.{get, BTreeMap, Updates, is_at}
use Rattle.std.proofs.lemmas.Bool.{or_from, cases_Bool, cases_lt}
use Rattle.std.proofs.lemmas.List.{length-take}
use Rattle.bf_forest.specs.Files.{Files}
use Rattle.bf_forest.specs.Index.{IsIndexed}
use Rattle.bf_forest.specs.Trees.{tree_name, are_same, files_at}
use Rattle.bf_forest.proofs.Joining.{at_push}
use Rattle.bf_forest.proofs.Sameness.{same_files}

-- no tree has these files where none has their name
none_same : (trees : List Files) (files : Files) → ((number : ℕ) → number < length trees → tree_name (files_at trees number) ≡ tree_name files → ⊥)
    → list_any (λ tree. are_same tree files) trees ≡ false
none_same [] files h = refl
none_same (tree ∷ trees) files h =
    let more = none_same trees files (λ number l. h (suc number) (omega arith)) in
    elim (cases_Bool (are_same tree files)) [
      | inl same ↦ absurd (h 0 (omega arith) (ap tree_name (same_files tree files same)))
      | inr other ↦ or_from (are_same tree files) (list_any (λ t. are_same t files) trees) other more
    ]

pub not_indexed : (index : BTreeMap (List ℕ) ℕ) (trees : List Files) (files : Files) → IsIndexed index trees
    → get (slice_cmp nat_cmp) index (tree_name files) ≡ None → list_any (λ tree. are_same tree files) trees ≡ false
not_indexed index trees files h none =
    none_same trees files (λ number l e.
    let some : IsSome (get (slice_cmp nat_cmp) index (tree_name (files_at trees number))) = h number l in
    let same : get (slice_cmp nat_cmp) index (tree_name (files_at trees number)) ≡ None = ap (get (slice_cmp nat_cmp) index) e ∙ none in
    let P : Option ℕ → Type 0 = λ o. IsSome o in
    let nothing : IsSome {T = ℕ} None = subst P same some in
    cc)

some_or : (b : Bool) (value : ℕ) (o : Option ℕ) → IsSome o → IsSome (cond b (Some value) o)
some_or true value o h = refl
some_or false value o h = h

pub IsIndexed-insert : (index next : BTreeMap (List ℕ) ℕ) (trees : List Files) (key : List ℕ) (value : ℕ)
    → Updates (slice_cmp nat_cmp) index next key (Some value)
    → IsIndexed index trees → IsIndexed next trees
IsIndexed-insert index next trees key value u h =
    λ number l. let q = tree_name (files_at trees number) in
    let P : Option ℕ → Type 0 = λ o. IsSome o in
    subst P (sym (u.0 q)) (some_or (is_at (slice_cmp nat_cmp key) q) value (get (slice_cmp nat_cmp) index q) (h number l))

pub files_at-front : (trees more : List Files) (number : ℕ) → number < length trees → files_at (trees ++ more) number ≡ files_at trees number
files_at-front [] more number l = absurd (omega arith)
files_at-front (tree ∷ trees) more zero l = refl
files_at-front (tree ∷ trees) more (suc number) l = files_at-front trees more number (omega arith)

pub IsIndexed-push : (index : BTreeMap (List ℕ) ℕ) (trees : List Files) (files : Files) → IsIndexed index trees
    → IsSome (get (slice_cmp nat_cmp) index (tree_name files)) → IsIndexed index (trees ++ files ∷ [])
IsIndexed-push index trees files h new =
    λ number l.
    let P : Files → Type 0 = λ list. IsSome (get (slice_cmp nat_cmp) index (tree_name list)) in
    let size : length (trees ++ files ∷ []) ≡ length trees + 1 = length-append trees (files ∷ []) in
    elim (cases_lt number (length trees)) [
      | inl before ↦ subst P (sym (files_at-front trees (files ∷ []) number before)) (h number before)
      | inr last ↦
          let at : number ≡ length trees = omega arith in
          subst P (sym (ap (files_at (trees ++ files ∷ [])) at ∙ at_push trees files)) new
    ]

take_at : (trees : List Files) (count number : ℕ) → number < length (take count trees) → files_at (take count trees) number ≡ files_at trees number
take_at [] zero number l = absurd (omega arith)
take_at [] (suc count) number l = absurd (omega arith)
take_at (tree ∷ trees) zero number l = absurd (omega arith)
take_at (tree ∷ trees) (suc count) zero l = refl
take_at (tree ∷ trees) (suc count) (suc number) l = take_at trees count number (omega arith)

pub IsIndexed-take : (index : BTreeMap (List ℕ) ℕ) (trees : List Files) (count : ℕ) → IsIndexed index trees → IsIndexed index (take count trees)
IsIndexed-take index trees count h =
    λ number l.
    let P : Files → Type 0 = λ list. IsSome (get (slice_cmp nat_cmp) index (tree_name list)) in
    subst P (sym (take_at trees count number l)) (h number (omega (arith, length-take {A = Files} count trees)))
