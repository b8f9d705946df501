-- Edits whose paths are cut.
use Rattle.std.proofs.Common.{◌≡◌, ◌<◌, ◌-◌, ℕ, true, List, [], ◌∷◌, length, take, drop, refl, sym, ap, subst, arith, length-drop}
use Rattle.std.proofs.lemmas.List.{take_all}
use Rattle.bf_paths.specs.Components.{is_path}
use Rattle.bf_forest.specs.declared.edits.Edit.{Edit}
use Rattle.bf_forest.specs.declared.edits.Edit.TheVariants.{Set, Remove, Clear}
use Rattle.bf_forest.specs.Cuts.{path_in, with_path, inside}
use Rattle.bf_forest.specs.Slots.{has_path}
use Rattle.bf_forest.proofs.Changed.{path_rest}

rest_path : (path : List (List ℕ)) → is_path path ≡ true → 1 < length path → is_path (drop 1 path) ≡ true
rest_path [] h l = absurd (omega arith)
rest_path (name ∷ []) h l = absurd (omega arith)
rest_path (name ∷ next ∷ rest) h l = path_rest name next rest h

-- an edit whose path is cut once more
abbrev IsInside : Edit → List (List ℕ) → Edit → Type 0
IsInside edit path cut = (has_path (with_path edit path) ≡ true) × (path_in (with_path edit path) ≡ path) × (with_path edit path ≡ inside cut)

inside_at : (edit : Edit) (path : List (List ℕ)) → has_path (with_path edit path) ≡ true → path_in (with_path edit path) ≡ path → 1 < length path
    → IsInside edit (drop 1 path) (with_path edit path)
inside_at (Set old mode oid) path h e l = (rest_path path h l, refl, refl)
inside_at (Remove old) path h e l = (rest_path path h l, refl, refl)
inside_at Clear path h e l = absurd (let size = ap length e in omega (arith, size, l))

pub cut_inside : (edit : Edit) (path : List (List ℕ)) (cut : Edit) → with_path edit path ≡ cut → has_path (with_path edit path) ≡ true
    → path_in (with_path edit path) ≡ path
    → 1 < length (path_in cut) → IsInside edit (take (length path - 1) (drop 1 path)) cut
cut_inside edit path cut view h e l =
    let same : take (length path - 1) (drop 1 path) ≡ drop 1 path = take_all (length path - 1) (drop 1 path) (omega (arith, length-drop 1 path)) in
    let size : 1 < length path = let a = ap (λ v. length (path_in v)) view in let b = ap length e in omega (arith, a, b, l) in
    let P : Edit → Type 0 = λ v. IsInside edit (drop 1 path) v in
    let Q : List (List ℕ) → Type 0 = λ v. IsInside edit v cut in
    subst Q (sym same) (subst P view (inside_at edit path h e size))
