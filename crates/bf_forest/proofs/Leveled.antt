-- A walk through the files of a tree, by the directories that are open.
use Rattle.std.proofs.Common.{◌≡◌, ℕ, suc, ◌+◌, ◌-◌, ◌*◌, ◌<◌, ◌≤◌, true, List, [], ◌∷◌, ◌++◌, length, take, refl, sym, ap, ◌∙◌, subst, length-append, arith}
use Rattle.std.specs.List.{list_all}
use Rattle.std.proofs.lemmas.Bool.{false≢true, and_parts, ltb-true}
use Rattle.std.proofs.lemmas.List.{append_assoc}
use Rattle.std.proofs.lemmas.List.Folds.{list_all-append}
use Rattle.bf_oid.specs.declared.object.Mode.{Mode}
use Rattle.bf_oid.specs.declared.object.Oid.{Oid}
use Rattle.bf_paths.specs.Components.{is_component}
use Rattle.bf_forest.specs.declared.nodes.Entry.{Entry}
use Rattle.bf_forest.specs.declared.nodes.EntryKind.{EntryKind}
use Rattle.bf_forest.specs.declared.nodes.EntryKind.TheVariants.{File, Directory}
use Rattle.bf_forest.specs.Files.{Files}
use Rattle.bf_forest.specs.Listing.{name_in, beneath}
use Rattle.bf_forest.specs.Nodes.{kind_files, listed, files_in, has_some, is_filled, is_node, is_good}
use Rattle.bf_forest.specs.Trees.{files_at}
use Rattle.bf_forest.proofs.Pooled.{node-good, node-filled}

-- the files that are still to be walked: those of the innermost directory first
abbrev pub lefts : List Files → List (List Entry) → List (List ℕ) → List Entry → Files
lefts trees [] names rest = files_in trees rest
lefts trees (level ∷ below) [] rest = []
lefts trees (level ∷ below) (name ∷ names) rest = beneath name (lefts trees below names rest) ++ files_in trees level

-- entries of a directory that is walked
abbrev pub IsLevel : List Files → List Entry → Type 0
IsLevel trees entries = (list_all (is_good (length trees)) entries ≡ true) × (list_all is_filled (listed trees entries) ≡ true)

abbrev pub AreLevels : List Files → List (List Entry) → Type 0
AreLevels trees [] = Unit {0}
AreLevels trees (level ∷ levels) = IsLevel trees level × AreLevels trees levels

pub node_level : (trees : List Files) (entries : List Entry) → is_node trees entries ≡ true → IsLevel trees entries
node_level trees entries h = (node-good trees entries h, node-filled trees entries h)

pub level_rest : (trees : List Files) (entry : Entry) (entries : List Entry) → IsLevel trees (entry ∷ entries) → IsLevel trees entries
level_rest trees entry entries h =
    ((and_parts (is_good (length trees) entry) _ h.0).1, (and_parts (is_filled (entry.key, kind_files trees entry.key entry.kind)) _ h.1).1)

pub levels_more : (trees : List Files) (levels : List (List Entry)) (level : List Entry) → AreLevels trees levels → IsLevel trees level
    → AreLevels trees (levels ++ level ∷ [])
levels_more trees [] level h k = (k, tt)
levels_more trees (first ∷ levels) level h k = (h.0, levels_more trees levels level h.1 k)

pub levels_less : (trees : List Files) (levels : List (List Entry)) (level : List Entry) → AreLevels trees (levels ++ level ∷ [])
    → AreLevels trees levels × IsLevel trees level
levels_less trees [] level h = (tt, h.0)
levels_less trees (first ∷ levels) level h = let less = levels_less trees levels level h.1 in ((h.0, less.0), less.1)

-- ---- a file is walked

pub lefts_file : (trees : List Files) (below : List (List Entry)) (names : List (List ℕ)) (key : List ℕ) (mode : Mode) (oid : Oid) (rest : List Entry)
    → length below ≡ length names
    → lefts trees below names (record { key = key; kind = File mode oid } ∷ rest)
    ≡ record { path = names ++ name_in key ∷ []; mode = mode; oid = oid } ∷ lefts trees below names rest
lefts_file trees [] [] key mode oid rest e = refl
lefts_file trees [] (name ∷ names) key mode oid rest e = absurd (omega (arith, e))
lefts_file trees (level ∷ below) [] key mode oid rest e = absurd (omega (arith, e))
lefts_file trees (level ∷ below) (name ∷ names) key mode oid rest e =
    ap (λ v. beneath name v ++ files_in trees level) (lefts_file trees below names key mode oid rest (omega (arith, e)))

-- ---- a directory is entered, and left

pub lefts_push : (trees : List Files) (below : List (List Entry)) (names : List (List ℕ)) (key : List ℕ) (number : ℕ) (rest inner : List Entry)
    → length below ≡ length names
    → files_in trees inner ≡ files_at trees number
    → lefts trees below names (record { key = key; kind = Directory number } ∷ rest) ≡ lefts trees (below ++ rest ∷ []) (names ++ name_in key ∷ []) inner
lefts_push trees [] [] key number rest inner e h = ap (λ v. beneath (name_in key) v ++ files_in trees rest) (sym h)
lefts_push trees [] (name ∷ names) key number rest inner e h = absurd (omega (arith, e))
lefts_push trees (level ∷ below) [] key number rest inner e h = absurd (omega (arith, e))
lefts_push trees (level ∷ below) (name ∷ names) key number rest inner e h =
    ap (λ v. beneath name v ++ files_in trees level) (lefts_push trees below names key number rest inner (omega (arith, e)) h)

pub lefts_pop : (trees : List Files) (below : List (List Entry)) (names : List (List ℕ)) (level : List Entry) (name : List ℕ) → length below ≡ length names
    → lefts trees (below ++ level ∷ []) (names ++ name ∷ []) [] ≡ lefts trees below names level
lefts_pop trees [] [] level name e = refl
lefts_pop trees [] (first ∷ names) level name e = absurd (omega (arith, e))
lefts_pop trees (first ∷ below) [] level name e = absurd (omega (arith, e))
lefts_pop trees (first ∷ below) (other ∷ names) level name e =
    ap (λ v. beneath other v ++ files_in trees first) (lefts_pop trees below names level name (omega (arith, e)))

-- ---- what is still to be walked falls

-- twice the components of the files
abbrev pub length_of : Files → ℕ
length_of [] = 0
length_of (file ∷ files) = 2 * length file.path + length_of files

abbrev pub lengths_of : List Files → List (List Entry) → ℕ
lengths_of trees [] = 0
lengths_of trees (level ∷ levels) = suc (length_of (files_in trees level)) + lengths_of trees levels

length_append : (a b : Files) → length_of (a ++ b) ≡ length_of a + length_of b
length_append [] b = omega arith
length_append (file ∷ a) b = omega (arith, length_append a b)

length_beneath : (name : List ℕ) (files : Files) → length_of (beneath name files) ≡ length_of files + 2 * length files
length_beneath name [] = omega arith
length_beneath name (file ∷ files) = omega (arith, length_beneath name files)

pub lengths_more : (trees : List Files) (levels : List (List Entry)) (level : List Entry)
    → lengths_of trees (levels ++ level ∷ []) ≡ lengths_of trees levels + suc (length_of (files_in trees level))
lengths_more trees [] level = omega arith
lengths_more trees (first ∷ levels) level = omega (arith, lengths_more trees levels level)

pub length_file : (trees : List Files) (key : List ℕ) (mode : Mode) (oid : Oid) (rest : List Entry)
    → length_of (files_in trees (record { key = key; kind = File mode oid } ∷ rest)) ≡ 2 + length_of (files_in trees rest)
length_file trees key mode oid rest = omega arith

some_length : (files : Files) → has_some files ≡ true → 1 ≤ length files
some_length [] h = absurd (false≢true h)
some_length (file ∷ files) h = omega arith

pub some_beneath : (name : List ℕ) (files : Files) → has_some (beneath name files) ≡ true → has_some files ≡ true
some_beneath name [] h = h
some_beneath name (file ∷ files) h = refl

pub length_push : (trees : List Files) (key : List ℕ) (number : ℕ) (rest inner : List Entry)
    → list_all is_filled (listed trees (record { key = key; kind = Directory number } ∷ rest)) ≡ true
    → files_in trees inner ≡ files_at trees number
    → length_of (files_in trees inner) + length_of (files_in trees rest) + 2 ≤ length_of (files_in trees (record { key = key; kind = Directory number } ∷ rest))
length_push trees key number rest inner filled h =
    let name = name_in key in
    let files = files_at trees number in
    let some = some_length files (some_beneath name files (and_parts _ _ filled).0) in
    let same = ap length_of h in
    omega (arith, length_append (beneath name files) (files_in trees rest), length_beneath name files, some, same)

-- ---- the steps of the walk

split_last : (names : List (List ℕ)) → 0 < length names → (name : List ℕ) × (names ≡ take (length names - 1) names ++ name ∷ [])
split_last [] h = absurd (omega arith)
split_last (name ∷ []) h = (name, refl)
split_last (name ∷ next ∷ names) h =
    let more = split_last (next ∷ names) (omega arith) in
    let size : length (name ∷ next ∷ names) - 1 ≡ suc (length (next ∷ names) - 1) = omega arith in
    (more.0, ap (λ v. name ∷ v) more.1 ∙ ap (λ n. take n (name ∷ next ∷ names) ++ more.0 ∷ []) (sym size))

-- what is known where the directories on top are left
abbrev pub IsLeft : List Files → List (List Entry) → List (List ℕ) → List (List Entry) → List (List ℕ) → List Entry → Type 0
IsLeft trees below names less fewer level =
    (lefts trees below names [] ≡ lefts trees less fewer level) × (list_all is_component names ≡ true → list_all is_component fewer ≡ true)
    × (length less ≡ length fewer)

pub is_left : (trees : List Files) (below less : List (List Entry)) (names fewer : List (List ℕ)) (level : List Entry) → below ≡ less ++ level ∷ []
    → length below ≡ length names
    → fewer ≡ take (length names - 1) names → IsLeft trees below names less fewer level
is_left trees below less names fewer level e size f =
    let whole = ap length e ∙ length-append less (level ∷ []) in
    let last = split_last names (omega (arith, whole, size)) in
    let same : names ≡ fewer ++ last.0 ∷ [] = last.1 ∙ ap (λ v. v ++ last.0 ∷ []) (sym f) in
    let count = ap length same ∙ length-append fewer (last.0 ∷ []) in
    let depth : length less ≡ length fewer = omega (arith, whole, size, count) in (
      ap (λ v. lefts trees v names []) e ∙ ap (λ v. lefts trees (less ++ level ∷ []) v []) same ∙ lefts_pop trees less fewer level last.0 depth,
      λ h. (and_parts (list_all is_component fewer) _ (sym (list_all-append is_component fewer (last.0 ∷ [])) ∙ ap (list_all is_component) (sym same) ∙ h)).0,
      depth,
    )

entry_as : (entry : Entry) (kind : EntryKind) → entry.kind ≡ kind → entry ≡ record { key = entry.key; kind = kind }
entry_as entry kind e = ap (λ (k : EntryKind). record entry { kind = k }) e

pub walked_file : (trees : List Files) (below : List (List Entry)) (names : List (List ℕ)) (rest others : List Entry) (entry : Entry) (mode : Mode) (oid : Oid)
    (name : List ℕ) (files next all : Files)
    → rest ≡ entry ∷ others → entry.kind ≡ File mode oid → name ≡ name_in entry.key → length below ≡ length names
    → next ≡ files ++ record { path = names ++ name ∷ []; mode = mode; oid = oid } ∷ [] → files ++ lefts trees below names rest ≡ all
    → next ++ lefts trees below names others ≡ all
walked_file trees below names rest others entry mode oid name files next all first is named depth added walked =
    let more = lefts trees below names others in
    ap (λ v. v ++ more) (added ∙ ap (λ (n : List ℕ). files ++ record { path = names ++ n ∷ []; mode = mode; oid = oid } ∷ []) named)
    ∙ append_assoc files (record { path = names ++ name_in entry.key ∷ []; mode = mode; oid = oid } ∷ []) more
    ∙ ap (λ v. files ++ v) (sym (lefts_file trees below names entry.key mode oid others depth))
    ∙ ap (λ v. files ++ lefts trees below names v) (sym (first ∙ ap (λ (v : Entry). v ∷ others) (entry_as entry (File mode oid) is))) ∙ walked

pub walked_push : (trees : List Files) (below next : List (List Entry)) (names more : List (List ℕ)) (rest others inner : List Entry) (entry : Entry)
    (number : ℕ) (name : List ℕ)
    → rest ≡ entry ∷ others → entry.kind ≡ Directory number → name ≡ name_in entry.key → length below ≡ length names → next ≡ below ++ others ∷ []
    → more ≡ names ++ name ∷ []
    → files_in trees inner ≡ files_at trees number → lefts trees next more inner ≡ lefts trees below names rest
walked_push trees below next names more rest others inner entry number name first is named depth deeper longer files =
    ap (λ v. lefts trees v more inner) deeper ∙ ap (λ v. lefts trees (below ++ others ∷ []) v inner) (longer ∙ ap (λ n. names ++ n ∷ []) named)
    ∙ sym (lefts_push trees below names entry.key number others inner depth files)
    ∙ ap (lefts trees below names) (sym (first ∙ ap (λ (v : Entry). v ∷ others) (entry_as entry (Directory number) is)))

pub falls_push : (trees : List Files) (rest others inner : List Entry) (entry : Entry) (number : ℕ) → rest ≡ entry ∷ others → entry.kind ≡ Directory number
    → IsLevel trees rest
    → files_in trees inner ≡ files_at trees number
    → length_of (files_in trees inner) + length_of (files_in trees others) + 2 ≤ length_of (files_in trees rest)
falls_push trees rest others inner entry number first is level files =
    let same = first ∙ ap (λ (v : Entry). v ∷ others) (entry_as entry (Directory number) is) in
    let P : List Entry → Type 0 = λ v. list_all is_filled (listed trees v) ≡ true in
    let Q : List Entry → Type 0 = λ v. length_of (files_in trees inner) + length_of (files_in trees others) + 2 ≤ length_of (files_in trees v) in
    subst Q (sym same) (length_push trees entry.key number others inner (subst P same level.1) files)

pub falls_file : (trees : List Files) (rest others : List Entry) (entry : Entry) (mode : Mode) (oid : Oid) → rest ≡ entry ∷ others → entry.kind ≡ File mode oid
    → length_of (files_in trees others) + 2 ≤ length_of (files_in trees rest)
falls_file trees rest others entry mode oid first is =
    let same = ap (λ v. length_of (files_in trees v)) (first ∙ ap (λ (v : Entry). v ∷ others) (entry_as entry (File mode oid) is)) in
    omega (arith, same, length_file trees entry.key mode oid others)

pub directory_earlier : (count : ℕ) (entry : Entry) (number : ℕ) → is_good count entry ≡ true → entry.kind ≡ Directory number → number < count
directory_earlier count entry number good is =
    let P : Entry → Type 0 = λ v. is_good count v ≡ true in
    let whole = subst P (entry_as entry (Directory number) is) good in
    ltb-true number count (and_parts (is_component (name_in entry.key)) _ whole).1
