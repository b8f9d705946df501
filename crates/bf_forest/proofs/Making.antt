-- What a rule makes of files is what it makes of them by what it makes of the directories in them.
use Rattle.std.proofs.Common.{◌≡◌, ℕ, zero, suc, ◌≤◌, true, false, List, [], ◌∷◌, ◌++◌, length, Option, Some, None, if◌then◌else◌, refl, sym, ap, ◌∙◌, inl, inr}
use Rattle.std.proofs.Common.{arith}
use Rattle.std.specs.List.{cons_option, flat_map}
use Rattle.std.specs.Option.{option_map}
use Rattle.std.proofs.lemmas.Bool.{cases_lt}
use mathlib.Core.Path.{fun_ext}
use Rattle.bf_oid.specs.Object.{name_of}
use Rattle.bf_oid.specs.declared.object.Kind.TheVariants.{Tree}
use Rattle.bf_forest.specs.declared.entries.FileEntry.{FileEntry}
use Rattle.bf_forest.specs.Files.{Files, is_same}
use Rattle.bf_forest.specs.Trees.{names, path_below, below, depth, where_some, made_within, made, entry_with, name_by, tree_name, or_none, directories_by}
use Rattle.bf_forest.specs.Trees.{directories}

-- ---- a directory inside is less deep

depth_step : (name : List ℕ) (file : FileEntry) (path : List (List ℕ)) (more : Files) (d : ℕ) → length path ≤ suc d → depth more ≤ d
    → depth (cons_option (option_map (λ p. record file { path = p }) (path_below name path)) more) ≤ d
depth_step name file [] more d h k = k
depth_step name file (first ∷ []) more d h k = k
depth_step name file (first ∷ next ∷ rest) more d h k =
    let short : suc (length rest) ≤ d = omega arith in
    elim (is_same first name) as (λ b. depth (cons_option (option_map (λ p. record file { path = p }) (if b then Some (next ∷ rest) else None)) more) ≤ d) [
      | true ↦ omega arith
      | false ↦ k
    ]

depth-below : (name : List ℕ) (files : Files) (d : ℕ) → depth files ≤ suc d → depth (below name files) ≤ d
unfolding below
depth-below name [] d h = omega arith
depth-below name (file ∷ files) d h = depth_step name file file.path _ d (omega arith) (depth-below name files d (omega arith))

none_step : (name : List ℕ) (file : FileEntry) (path : List (List ℕ)) (more : Files) → length path ≤ 1 → more ≡ []
    → cons_option (option_map (λ p. record file { path = p }) (path_below name path)) more ≡ []
none_step name file [] more h k = k
none_step name file (first ∷ []) more h k = k
none_step name file (first ∷ next ∷ rest) more h k = absurd (omega arith)

below_none : (name : List ℕ) (files : Files) → depth files ≤ 1 → below name files ≡ []
unfolding below
below_none name [] h = refl
below_none name (file ∷ files) h = none_step name file file.path _ (omega arith) (below_none name files (omega arith))

-- ---- turns enough

where_some-same : {X : Type 0} (f g : Files → X) (files : Files) → f files ≡ g files → where_some f files ≡ where_some g files
where_some-same f g [] h = refl
where_some-same f g (file ∷ files) h = ap Some h

made_more : {X : Type 0} (rule : Files → (List ℕ → Option X) → X) (d : ℕ) (files : Files) → depth files ≤ d
    → made_within rule (suc d) files ≡ made_within rule d files
made_more rule zero files h = ap (rule files) (fun_ext (λ name. ap (where_some (made_within rule zero)) (below_none name files (omega arith))))
made_more rule (suc d) files h =
    ap (rule files) (fun_ext (λ name.
    where_some-same (made_within rule (suc d)) (made_within rule d) (below name files) (made_more rule d (below name files) (depth-below name files d h))))

made_to : {X : Type 0} (rule : Files → (List ℕ → Option X) → X) (e d : ℕ) (files : Files) → d ≤ e → depth files ≤ d
    → made_within rule e files ≡ made_within rule d files
made_to rule zero d files l h = ap (λ n. made_within rule n files) (let same : 0 ≡ d = omega arith in same)
made_to rule (suc e) d files l h =
    elim (cases_lt d (suc e)) [
      | inl less ↦ made_more rule e files (omega arith) ∙ made_to rule e d files (omega arith) h
      | inr same ↦ ap (λ n. made_within rule n files) (let equal : suc e ≡ d = omega arith in equal)
    ]

pub made-is : {X : Type 0} (rule : Files → (List ℕ → Option X) → X) (files : Files)
    → made rule files ≡ rule files (λ name. where_some (made rule) (below name files))
made-is rule files =
    sym (made_more rule (depth files) files (omega arith))
    ∙ ap (rule files) (fun_ext (λ name.
    where_some-same (made_within rule (depth files)) (made rule) (below name files)
    (made_to rule (depth files) (depth (below name files)) (below name files) (depth-below name files (depth files) (omega arith)) (omega arith))))

-- ---- the two rules

-- the bytes of the entry with a name
abbrev pub entry_of : Files → List ℕ → List ℕ
entry_of files name = entry_with files name (where_some tree_name (below name files))

-- the directories in the directory with a name
abbrev pub inside_of : Files → List ℕ → List Files
inside_of files name = or_none (where_some directories (below name files))

pub tree_name-is : (files : Files) → tree_name files ≡ name_of Tree (flat_map (entry_of files) (names files))
unfolding tree_name
tree_name-is files = made-is name_by files

pub directories-is : (files : Files) → directories files ≡ flat_map (inside_of files) (names files) ++ files ∷ []
unfolding directories
directories-is files = made-is directories_by files
