-- Trees as entries that name other trees by their numbers.
use Rattle.std.proofs.Common.{◌≡◌, ℕ, zero, suc, ◌+◌, ◌<◌, true, ◌&&◌, cond, List, [], ◌∷◌, ◌++◌, length, take, get_or, Option, Some, None, refl, sym, ap, ◌∙◌}
use Rattle.std.proofs.Common.{inl, inr, subst, length-append, arith}
use Rattle.std.specs.List.{list_all, list_any, flat_map, filter_map, cons_option, fold, AllByRecursion}
use Rattle.std.specs.Option.{option_map}
use Rattle.std.proofs.lemmas.Bool.{false≢true, and_parts, and_from, cases_lt, lt-ltb, ltb-true}
use Rattle.std.proofs.lemmas.List.{take_all, get_or-take, get_or_past, append-nil, length-take-le}
use Rattle.std.proofs.lemmas.List.Folds.{flat_map-map, list_any-append, list_all-append, list_any_at}
use Rattle.std.proofs.Math.ListN.{length-map}
use Rattle.bf_oid.specs.Object.{name_of}
use Rattle.bf_oid.specs.declared.object.Kind.TheVariants.{Tree}
use Rattle.bf_paths.specs.Components.{is_component, is_path}
use Rattle.bf_forest.specs.declared.nodes.Entry.{Entry}
use Rattle.bf_forest.specs.declared.nodes.EntryKind.{EntryKind}
use Rattle.bf_forest.specs.declared.nodes.EntryKind.TheVariants.{File, Directory}
use Rattle.bf_forest.specs.Files.{Files, is_tree}
use Rattle.bf_forest.specs.Listing.{name_in, Listing, is_listing, shown, beneath}
use Rattle.bf_forest.specs.Nodes.{Node, kind_files, listed, files_in, has_some, is_filled, is_node, is_earlier, is_good, kind_bytes, body_of, trees_from}
use Rattle.bf_forest.specs.Nodes.{AreNodes, IsSound, IsPosition}
use Rattle.bf_forest.specs.Trees.{names, below, file_below, file_bytes, entry_with, where_some, or_none, tree_name, directories, are_same, with_tree, files_at}
use Rattle.bf_forest.proofs.Indexed.{files_at-front}
use Rattle.bf_forest.proofs.Joining.{at_push, kept_refl, kept_trans, take_front, with_tree-there}
use Rattle.bf_forest.proofs.Listed.{are_paths-shown, is_tree-shown, listing-entry, listing-rest}
use Rattle.bf_forest.proofs.Making.{entry_of, inside_of, tree_name-is, directories-is}
use Rattle.bf_forest.proofs.Members.{are_paths, is_same_file-refl, or_first, or_second}
use Rattle.bf_forest.proofs.Named.{below_alone, bytes_alone, flat_map-each, names-shown}
use Rattle.bf_forest.proofs.Ordered.{is_same-refl}

-- ---- trees one after another

pub trees-append : (trees : List Files) (a b : List Node) → trees_from trees (a ++ b) ≡ trees_from (trees_from trees a) b
trees-append trees [] b = refl
trees-append trees (node ∷ a) b = trees-append (trees ++ files_in trees node.entries ∷ []) a b

pub nodes-append : (trees : List Files) (a b : List Node) → AreNodes trees a → AreNodes (trees_from trees a) b → AreNodes trees (a ++ b)
nodes-append trees [] b h k = k
nodes-append trees (node ∷ a) b h k = (h.0, h.1, nodes-append (trees ++ files_in trees node.entries ∷ []) a b h.2 k)

pub length-trees : (trees : List Files) (nodes : List Node) → length (trees_from trees nodes) ≡ length trees + length nodes
length-trees trees [] = omega arith
length-trees trees (node ∷ nodes) =
    let next = trees ++ files_in trees node.entries ∷ [] in
    let size : length next ≡ length trees + 1 = length-append trees (files_in trees node.entries ∷ []) in
    omega (arith, length-trees next nodes, size)

pub trees-kept : (trees : List Files) (nodes : List Node) → take (length trees) (trees_from trees nodes) ≡ trees
trees-kept trees [] = kept_refl trees
trees-kept trees (node ∷ nodes) =
    let next = trees ++ files_in trees node.entries ∷ [] in
    kept_trans trees next (trees_from next nodes) (take_front trees (files_in trees node.entries ∷ [])) (trees-kept next nodes)

trees_take : (trees : List Files) (nodes : List Node) (count : ℕ) → take (length trees + count) (trees_from trees nodes) ≡ trees_from trees (take count nodes)
trees_take trees [] zero = take_all (length trees + 0) trees (omega arith)
trees_take trees [] (suc count) = take_all (length trees + suc count) trees (omega arith)
trees_take trees (node ∷ nodes) zero =
    ap (λ n. take n (trees_from trees (node ∷ nodes))) (let same : length trees + 0 ≡ length trees = omega arith in same) ∙ trees-kept trees (node ∷ nodes)
trees_take trees (node ∷ nodes) (suc count) =
    let next = trees ++ files_in trees node.entries ∷ [] in
    let size : length next ≡ length trees + 1 = length-append trees (files_in trees node.entries ∷ []) in
    let same : length trees + suc count ≡ length next + count = omega (arith, size) in
    ap (λ n. take n (trees_from next nodes)) same ∙ trees_take next nodes count

pub trees-take : (nodes : List Node) (count : ℕ) → take count (trees_from [] nodes) ≡ trees_from [] (take count nodes)
trees-take nodes count =
    ap (λ n. take n (trees_from [] nodes)) (let same : count ≡ length {A = Files} [] + count = omega arith in same) ∙ trees_take [] nodes count

pub nodes-take : (trees : List Files) (nodes : List Node) (count : ℕ) → AreNodes trees nodes → AreNodes trees (take count nodes)
nodes-take trees [] zero h = h
nodes-take trees [] (suc count) h = h
nodes-take trees (node ∷ nodes) zero h = tt
nodes-take trees (node ∷ nodes) (suc count) h = (h.0, h.1, nodes-take (trees ++ files_in trees node.entries ∷ []) nodes count h.2)

pub files_at_kept : (a b : List Files) (i : ℕ) → take (length a) b ≡ a → i < length a → files_at b i ≡ files_at a i
files_at_kept a b i e h = sym (get_or-take (length a) b i [] h) ∙ ap (λ v. get_or v i []) e

-- what is known of the node at a place
abbrev IsAt : List Files → List Files → Node → ℕ → Type 0
IsAt before trees node place =
    (is_node before node.entries ≡ true) × (node.name.0 ≡ tree_name (files_in before node.entries)) × (files_at trees place ≡ files_in before node.entries)

at_node : (trees : List Files) (nodes : List Node) (i : ℕ) (d : Node) → AreNodes trees nodes → i < length nodes
    → IsAt (trees_from trees (take i nodes)) (trees_from trees nodes) (get_or nodes i d) (length trees + i)
at_node trees [] i d h l = absurd (omega arith)
at_node trees (node ∷ nodes) zero d h l =
    let files = files_in trees node.entries in
    let next = trees ++ files ∷ [] in
    let size : length next ≡ length trees + 1 = length-append trees (files ∷ []) in
    let place : length trees + 0 ≡ length trees = omega arith in (
      h.0,
      h.1,
      ap (files_at (trees_from next nodes)) place
          ∙ files_at_kept next (trees_from next nodes) (length trees) (trees-kept next nodes) (omega (arith, size))
          ∙ at_push trees files,
    )
at_node trees (node ∷ nodes) (suc i) d h l =
    let next = trees ++ files_in trees node.entries ∷ [] in
    let size : length next ≡ length trees + 1 = length-append trees (files_in trees node.entries ∷ []) in
    let at = at_node next nodes i d h.2 (omega arith) in
    let same : length trees + suc i ≡ length next + i = omega (arith, size) in
    (at.0, at.1, ap (files_at (trees_from next nodes)) same ∙ at.2)

-- ---- entries of a node

earlier_kind : (trees : List Files) (entry : Entry) → is_filled (entry.key, kind_files trees entry.key entry.kind) ≡ true
    → is_earlier (length trees) entry ≡ true
earlier_kind trees entry h = go entry.kind h
  where
    go : (kind : EntryKind) → has_some (kind_files trees entry.key kind) ≡ true → is_earlier (length trees) (record entry { kind = kind }) ≡ true
    go (File mode oid) k = refl
    go (Directory number) k =
        elim (cases_lt number (length trees)) [
          | inl less ↦ lt-ltb number (length trees) less
          | inr past ↦ absurd (false≢true (sym (ap (λ v. has_some (beneath (name_in entry.key) v)) (get_or_past trees number [] past)) ∙ k))
        ]

pub all_earlier : (trees : List Files) (entries : List Entry) → list_all is_filled (listed trees entries) ≡ true
    → list_all (is_earlier (length trees)) entries ≡ true
all_earlier trees [] h = refl
all_earlier trees (entry ∷ entries) h =
    and_from _ _ (earlier_kind trees entry (and_parts _ _ h).0)
    (all_earlier trees entries (and_parts (is_filled (entry.key, kind_files trees entry.key entry.kind)) _ h).1)

kind_kept : (a b : List Files) (key : List ℕ) (kind : EntryKind) → take (length a) b ≡ a → is_earlier (length a) (record { key = key; kind = kind }) ≡ true
    → kind_files b key kind ≡ kind_files a key kind
kind_kept a b key (File mode oid) e h = refl
kind_kept a b key (Directory number) e h = ap (beneath (name_in key)) (files_at_kept a b number e (ltb-true number (length a) h))

pub listed_kept : (a b : List Files) (entries : List Entry) → take (length a) b ≡ a → list_all (is_earlier (length a)) entries ≡ true
    → listed b entries ≡ listed a entries
listed_kept a b [] e h = refl
listed_kept a b (entry ∷ entries) e h =
    ap {A = Files} {B = Listing} (λ v. (entry.key, v) ∷ listed b entries) (kind_kept a b entry.key entry.kind e (and_parts _ _ h).0)
    ∙ ap (λ v. (entry.key, kind_files a entry.key entry.kind) ∷ v) (listed_kept a b entries e (and_parts (is_earlier (length a) entry) _ h).1)

pub node-listing : (trees : List Files) (entries : List Entry) → is_node trees entries ≡ true → is_listing (listed trees entries) ≡ true
unfolding is_node
node-listing trees entries h = (and_parts _ _ h).0

pub node-filled : (trees : List Files) (entries : List Entry) → is_node trees entries ≡ true → list_all is_filled (listed trees entries) ≡ true
unfolding is_node
node-filled trees entries h = (and_parts (is_listing (listed trees entries)) _ h).1

pub node-from : (trees : List Files) (entries : List Entry) → is_listing (listed trees entries) ≡ true → list_all is_filled (listed trees entries) ≡ true
    → is_node trees entries ≡ true
unfolding is_node
node-from trees entries h k = and_from _ _ h k

good_entries : (trees : List Files) (count : ℕ) (entries : List Entry) → is_listing (listed trees entries) ≡ true → list_all (is_earlier count) entries ≡ true
    → list_all (is_good count) entries ≡ true
good_entries trees count [] h k = refl
good_entries trees count (entry ∷ entries) h k =
    let e : List ℕ × Files = (entry.key, kind_files trees entry.key entry.kind) in
    and_from _ _
    (and_from _ _ (and_parts (is_component (name_in entry.key)) _ (listing-entry e (listed trees entries) h)).0 (and_parts (is_earlier count entry) _ k).0)
    (good_entries trees count entries (listing-rest e (listed trees entries) h) (and_parts (is_earlier count entry) _ k).1)

pub node-good : (trees : List Files) (entries : List Entry) → is_node trees entries ≡ true → list_all (is_good (length trees)) entries ≡ true
node-good trees entries h = good_entries trees (length trees) entries (node-listing trees entries h) (all_earlier trees entries (node-filled trees entries h))

-- the same entries of a pool that has grown
pub node-kept : (a b : List Files) (entries : List Entry) → take (length a) b ≡ a → is_node a entries ≡ true → is_node b entries ≡ true
node-kept a b entries e h =
    let same = listed_kept a b entries e (all_earlier a entries (node-filled a entries h)) in
    node-from b entries (ap is_listing same ∙ node-listing a entries h) (ap (list_all is_filled) same ∙ node-filled a entries h)

-- what is known of the node with a number
abbrev pub IsNumbered : List Files → Node → ℕ → Type 0
IsNumbered trees node number =
    (files_in trees node.entries ≡ files_at trees number) × (is_node trees node.entries ≡ true) × (list_all (is_good number) node.entries ≡ true)
    × (node.name.0 ≡ tree_name (files_at trees number))

pub numbered : (nodes : List Node) (i : ℕ) (d : Node) → AreNodes [] nodes → i < length nodes → IsNumbered (trees_from [] nodes) (get_or nodes i d) i
numbered nodes i d h l =
    let node = get_or nodes i d in
    let trees = trees_from [] nodes in
    let before = trees_from [] (take i nodes) in
    let at = at_node [] nodes i d h l in
    let size : length before ≡ i = omega (arith, length-trees [] (take i nodes), length-take-le i nodes (omega arith)) in
    let front : take (length before) trees ≡ before = ap (λ n. take n trees) size ∙ trees-take nodes i in
    let same = listed_kept before trees node.entries front (all_earlier before node.entries (node-filled before node.entries at.0)) in
    let place : length {A = Files} [] + i ≡ i = omega arith in
    let found : files_at trees i ≡ files_in before node.entries = ap (files_at trees) (sym place) ∙ at.2 in (
      ap shown same ∙ sym found,
      node-kept before trees node.entries front at.0,
      ap (λ n. list_all (is_good n) node.entries) (sym size) ∙ node-good before node.entries at.0,
      at.1 ∙ ap tree_name (sym found),
    )

-- ---- the files of a directory, seen from inside

pub below_beneath : (name : List ℕ) (files : Files) → are_paths files ≡ true → below name (beneath name files) ≡ files
unfolding below
below_beneath name [] h = refl
below_beneath name (file ∷ files) h =
    ap (λ o. cons_option o (filter_map (file_below name) (beneath name files))) (go file.path (and_parts _ _ h).0)
    ∙ ap (λ v. file ∷ v) (below_beneath name files (and_parts (is_path file.path) _ h).1)
  where
    go : (path : List (List ℕ)) → is_path path ≡ true → file_below name (record file { path = name ∷ path }) ≡ Some (record file { path = path })
    go [] k = absurd (false≢true k)
    go (a ∷ ar) k = ap (λ v. option_map (λ path. record file { path = path }) (cond v (Some (a ∷ ar)) None)) (is_same-refl name)

each_map : (P Q : List ℕ × Files → Type 0) → ((e : List ℕ × Files) → P e → Q e) → (es : Listing) → AllByRecursion P es → AllByRecursion Q es
each_map P Q f [] h = tt
each_map P Q f (e ∷ es) h = (f e h.0, each_map P Q f es h.1)

-- the directories in all the files are those in each entry
pub directories_inside : (es : Listing) → is_listing es ≡ true → list_all is_filled es ≡ true
    → flat_map (inside_of (shown es)) (names (shown es)) ≡ flat_map (λ e. inside_of e.1 (name_in e.0)) es
directories_inside es h filled =
    ap (flat_map (inside_of (shown es))) (names-shown es h filled)
    ∙ flat_map-map (inside_of (shown es)) (λ (e : List ℕ × Files). name_in e.0) es
    ∙ flat_map-each (λ e. inside_of (shown es) (name_in e.0)) (λ e. inside_of e.1 (name_in e.0)) es
    (each_map (λ e. below (name_in e.0) (shown es) ≡ below (name_in e.0) e.1) (λ e. inside_of (shown es) (name_in e.0) ≡ inside_of e.1 (name_in e.0))
    (λ e k. ap (λ v. or_none (where_some directories v)) k) es (below_alone es h))

-- ---- a pool has the directories of its trees

-- each of these trees is there
abbrev AllIn : List Files → List Files → Type 0
AllIn trees list = list_all (λ files. list_any (λ tree. are_same tree files) trees) list ≡ true

fold_all_in : (trees list : List Files) → AllIn trees list → fold with_tree trees list ≡ trees
fold_all_in trees [] h = refl
fold_all_in trees (files ∷ list) h =
    ap (λ v. fold with_tree v list) (with_tree-there trees files (and_parts _ _ h).0) ∙ fold_all_in trees list
    (and_parts (list_any (λ tree. are_same tree files) trees) _ h).1

all_in_more : (trees more list : List Files) → AllIn trees list → AllIn (trees ++ more) list
all_in_more trees more [] h = refl
all_in_more trees more (files ∷ list) h =
    let parts = and_parts (list_any (λ tree. are_same tree files) trees) (list_all (λ f. list_any (λ tree. are_same tree f) trees) list) h in
    and_from (list_any (λ tree. are_same tree files) (trees ++ more)) (list_all (λ f. list_any (λ tree. are_same tree f) (trees ++ more)) list)
    (list_any-append (λ tree. are_same tree files) trees more ∙ or_first (list_any (λ tree. are_same tree files) trees)
    (list_any (λ tree. are_same tree files) more) parts.0)
    (all_in_more trees more list parts.1)

all_in_append : (trees a b : List Files) → AllIn trees a → AllIn trees b → AllIn trees (a ++ b)
all_in_append trees a b h k = list_all-append (λ files. list_any (λ tree. are_same tree files) trees) a b ∙ and_from _ _ h k

pub same-refl : (files : Files) → are_same files files ≡ true
same-refl [] = refl
same-refl (file ∷ files) = and_from _ _ (is_same_file-refl file) (same-refl files)

-- each tree has files with paths, and its directories are there
abbrev pub IsClosed : List Files → Type 0
IsClosed trees = (number : ℕ) → number < length trees → (are_paths (files_at trees number) ≡ true) × AllIn trees (directories (files_at trees number))

kind_in : (trees : List Files) (key : List ℕ) (kind : EntryKind) → IsClosed trees → has_some (kind_files trees key kind) ≡ true
    → AllIn trees (inside_of (kind_files trees key kind) (name_in key))
unfolding below
kind_in trees key (File mode oid) closed h = refl
kind_in trees key (Directory number) closed h =
    let less : number < length trees = ltb-true number (length trees) (earlier_kind trees (record { key = key; kind = Directory number }) h) in
    let at = closed number less in
    let files = files_at trees number in
    let by : (v : Files) → v ≡ files → AllIn trees (or_none (where_some directories v)) =
    λ v. elim v as (λ w. w ≡ files → AllIn trees (or_none (where_some directories w))) [
      | [] ↦ λ e. refl
      | file ∷ rest ↦ λ e. ap (λ w. list_all (λ f. list_any (λ tree. are_same tree f) trees) (directories w)) e ∙ at.1
    ] in
    by (below (name_in key) (beneath (name_in key) files)) (below_beneath (name_in key) files at.0)

entries_in : (trees : List Files) (entries : List Entry) → IsClosed trees → list_all is_filled (listed trees entries) ≡ true
    → AllIn trees (flat_map (λ e. inside_of e.1 (name_in e.0)) (listed trees entries))
entries_in trees [] closed h = refl
entries_in trees (entry ∷ entries) closed h =
    all_in_append trees (inside_of (kind_files trees entry.key entry.kind) (name_in entry.key))
    (flat_map (λ e. inside_of e.1 (name_in e.0)) (listed trees entries))
    (kind_in trees entry.key entry.kind closed (and_parts _ _ h).0)
    (entries_in trees entries closed (and_parts (is_filled (entry.key, kind_files trees entry.key entry.kind)) _ h).1)

closed_push : (trees : List Files) (entries : List Entry) → IsClosed trees → is_node trees entries ≡ true → IsClosed (trees ++ files_in trees entries ∷ [])
closed_push trees entries closed h =
    let files = files_in trees entries in
    let next = trees ++ files ∷ [] in
    let list = listed trees entries in
    let listing = node-listing trees entries h in
    let filled = node-filled trees entries h in
    let size : length next ≡ length trees + 1 = length-append trees (files ∷ []) in
    let inside : AllIn next (flat_map (inside_of files) (names files)) =
    ap (λ v. list_all (λ f. list_any (λ tree. are_same tree f) next) v) (directories_inside list listing filled)
    ∙ all_in_more trees (files ∷ []) (flat_map (λ e. inside_of e.1 (name_in e.0)) list) (entries_in trees entries closed filled) in
    let itself : AllIn next (files ∷ []) =
    and_from _ _ (list_any-append (λ tree. are_same tree files) trees (files ∷ []) ∙ or_second (list_any (λ tree. are_same tree files) trees) _
    (or_first _ _ (same-refl files))) refl in
    let whole : AllIn next (directories files) =
    ap (λ v. list_all (λ f. list_any (λ tree. are_same tree f) next) v) (directories-is files) ∙ all_in_append next (flat_map (inside_of files) (names files))
    (files ∷ []) inside itself in
    λ number l. elim (cases_lt number (length trees)) [
      | inl before ↦
          let at = closed number before in
          let same : files_at next number ≡ files_at trees number = files_at-front trees (files ∷ []) number before in (
            ap are_paths same ∙ at.0,
            ap (λ v. list_all (λ f. list_any (λ tree. are_same tree f) next) (directories v)) same ∙ all_in_more trees (files ∷ [])
                (directories (files_at trees number)) at.1,
          )
      | inr last ↦
          let place : number ≡ length trees = omega (arith, size) in
          let same : files_at next number ≡ files = ap (files_at next) place ∙ at_push trees files in
          (ap are_paths same ∙ are_paths-shown list listing, ap (λ v. list_all (λ f. list_any (λ tree. are_same tree f) next) (directories v)) same ∙ whole)
    ]

closed_from : (trees : List Files) (nodes : List Node) → IsClosed trees → AreNodes trees nodes → IsClosed (trees_from trees nodes)
closed_from trees [] closed h = closed
closed_from trees (node ∷ nodes) closed h =
    closed_from (trees ++ files_in trees node.entries ∷ []) nodes (closed_push trees node.entries closed h.0) h.2

pub closed_pool : (nodes : List Node) → AreNodes [] nodes → IsClosed (trees_from [] nodes)
closed_pool nodes h = closed_from [] nodes (λ number l. absurd (omega arith)) h

pub directories_there : (trees : List Files) (number : ℕ) → IsClosed trees → number < length trees
    → fold with_tree trees (directories (files_at trees number)) ≡ trees
directories_there trees number closed h = fold_all_in trees (directories (files_at trees number)) (closed number h).1

-- ---- the name of a tree by its entries

by_bytes : (a b : Files) (name : List ℕ) (tree : Option (List ℕ)) → flat_map (file_bytes name) a ≡ flat_map (file_bytes name) b
    → entry_with a name tree ≡ entry_with b name tree
by_bytes a b name None h = h
by_bytes a b name (Some tree) h = refl

entry_alone : (all : Files) (e : List ℕ × Files) → below (name_in e.0) all ≡ below (name_in e.0) e.1
    → flat_map (file_bytes (name_in e.0)) all ≡ flat_map (file_bytes (name_in e.0)) e.1
    → entry_of all (name_in e.0) ≡ entry_of e.1 (name_in e.0)
entry_alone all e h k =
    ap (λ v. entry_with all (name_in e.0) (where_some tree_name v)) h ∙ by_bytes all e.1 (name_in e.0) (where_some tree_name (below (name_in e.0) e.1)) k

entries_alone : (all : Files) (es : Listing) → AllByRecursion (λ (e : List ℕ × Files). below (name_in e.0) all ≡ below (name_in e.0) e.1) es
    → AllByRecursion (λ (e : List ℕ × Files). flat_map (file_bytes (name_in e.0)) all ≡ flat_map (file_bytes (name_in e.0)) e.1) es
    → AllByRecursion (λ (e : List ℕ × Files). entry_of all (name_in e.0) ≡ entry_of e.1 (name_in e.0)) es
entries_alone all [] h k = tt
entries_alone all (e ∷ es) h k = (entry_alone all e h.0 k.0, entries_alone all es h.1 k.1)

kind_entry : (trees : List Files) (key : List ℕ) (kind : EntryKind) → IsClosed trees → has_some (kind_files trees key kind) ≡ true
    → entry_of (kind_files trees key kind) (name_in key) ≡ kind_bytes trees key kind
unfolding below
kind_entry trees key (File mode oid) closed h =
    ap (λ v. cond (v && true) (kind_bytes trees key (File mode oid)) [] ++ []) (is_same-refl (name_in key)) ∙ append-nil (kind_bytes trees key (File mode oid))
kind_entry trees key (Directory number) closed h =
    let less : number < length trees = ltb-true number (length trees) (earlier_kind trees (record { key = key; kind = Directory number }) h) in
    let files = files_at trees number in
    let by : (v : Files) → v ≡ files → has_some (beneath (name_in key) files) ≡ true
    → entry_with (beneath (name_in key) files) (name_in key) (where_some tree_name v) ≡ kind_bytes trees key (Directory number) =
    λ v. elim v as (λ w. w ≡ files → has_some (beneath (name_in key) files) ≡ true
    → entry_with (beneath (name_in key) files) (name_in key) (where_some tree_name w) ≡ kind_bytes trees key (Directory number)) [
      | [] ↦ λ e k. absurd (false≢true (ap (λ w. has_some (beneath (name_in key) w)) e ∙ k))
      | file ∷ rest ↦ λ e k. ap (λ w. entry_with (beneath (name_in key) files) (name_in key) (Some (tree_name w))) e
    ] in
    by (below (name_in key) (beneath (name_in key) files)) (below_beneath (name_in key) files (closed number less).0) h

kinds_body : (trees : List Files) (entries : List Entry) → IsClosed trees → list_all is_filled (listed trees entries) ≡ true
    → flat_map (λ e. entry_of e.1 (name_in e.0)) (listed trees entries) ≡ body_of trees entries
kinds_body trees [] closed h = refl
kinds_body trees (entry ∷ entries) closed h =
    ap (λ v. v ++ flat_map (λ e. entry_of e.1 (name_in e.0)) (listed trees entries)) (kind_entry trees entry.key entry.kind closed (and_parts _ _ h).0)
    ∙ ap (λ v. kind_bytes trees entry.key entry.kind ++ v)
    (kinds_body trees entries closed (and_parts (is_filled (entry.key, kind_files trees entry.key entry.kind)) _ h).1)

pub name_by_entries : (trees : List Files) (entries : List Entry) → IsClosed trees → is_node trees entries ≡ true
    → name_of Tree (body_of trees entries) ≡ tree_name (files_in trees entries)
name_by_entries trees entries closed h =
    let es = listed trees entries in
    let listing = node-listing trees entries h in
    let filled = node-filled trees entries h in
    let body : flat_map (entry_of (shown es)) (names (shown es)) ≡ body_of trees entries =
    ap (flat_map (entry_of (shown es))) (names-shown es listing filled)
    ∙ flat_map-map (entry_of (shown es)) (λ (e : List ℕ × Files). name_in e.0) es
    ∙ flat_map-each (λ e. entry_of (shown es) (name_in e.0)) (λ e. entry_of e.1 (name_in e.0)) es
    (entries_alone (shown es) es (below_alone es listing) (bytes_alone es listing))
    ∙ kinds_body trees entries closed filled in
    ap (name_of Tree) (sym body) ∙ sym (tree_name-is (shown es))

pub count_names : (trees : List Files) (entries : List Entry) → is_node trees entries ≡ true → length (names (files_in trees entries)) ≡ length entries
count_names trees entries h =
    ap length (names-shown (listed trees entries) (node-listing trees entries h) (node-filled trees entries h))
    ∙ length-map (listed trees entries) (λ (e : List ℕ × Files). name_in e.0)
    ∙ length-map {A = Entry} {B = List ℕ × Files} entries (λ entry. (entry.key, kind_files trees entry.key entry.kind))

-- ---- the nodes that a pool is kept in

pub node_within : (nodes : List Node) (trees : List Files) (number count : ℕ) → trees_from [] nodes ≡ trees → count ≡ length nodes → number < length trees
    → number < count
node_within nodes trees number count view size h = omega (arith, ap length view, length-trees [] nodes, size, h)

pub numbered_in : (nodes : List Node) (trees : List Files) (number : ℕ) (node : Node) → AreNodes [] nodes → trees_from [] nodes ≡ trees → number < length trees
    → node ≡ get_or nodes number node → IsNumbered trees node number
numbered_in nodes trees number node h view less at =
    let known : IsNumbered (trees_from [] nodes) (get_or nodes number node) number = numbered nodes number node h
    (node_within nodes trees number (length nodes) view refl less) in
    let P : Node → Type 0 = λ v. IsNumbered trees v number in
    let Q : List Files → Type 0 = λ v. IsNumbered v (get_or nodes number node) number in
    subst P (sym at) (subst Q view known)

pub closed_in : (nodes : List Node) (trees : List Files) → AreNodes [] nodes → trees_from [] nodes ≡ trees → IsClosed trees
closed_in nodes trees h view =
    let P : List Files → Type 0 = λ v. IsClosed v in
    subst P view (closed_pool nodes h)

sound_pool : (nodes : List Node) → AreNodes [] nodes → IsSound (trees_from [] nodes)
sound_pool nodes h =
    λ number l.
    let within : number < length nodes = node_within nodes (trees_from [] nodes) number (length nodes) refl refl l in
    let node = some_node nodes number within in
    let at = numbered nodes number node h within in
    let list = listed (trees_from [] nodes) (get_or nodes number node).entries in
    let listing = node-listing (trees_from [] nodes) (get_or nodes number node).entries at.1 in
    (ap are_paths (sym at.0) ∙ are_paths-shown list listing, ap is_tree (sym at.0) ∙ is_tree-shown list listing)
  where
    some_node : (list : List Node) (i : ℕ) → i < length list → Node
    some_node [] i l = absurd (omega arith)
    some_node (first ∷ list) i l = first

pub sound_in : (nodes : List Node) (trees : List Files) → AreNodes [] nodes → trees_from [] nodes ≡ trees → IsSound trees
sound_in nodes trees h view =
    let P : List Files → Type 0 = λ v. IsSound v in
    subst P view (sound_pool nodes h)

-- ---- a directory has files

some_append : (a b : Files) → has_some a ≡ true → has_some (a ++ b) ≡ true
some_append [] b h = absurd (false≢true h)
some_append (file ∷ a) b h = refl

pub some_files : (trees : List Files) (entries : List Entry) → is_node trees entries ≡ true → (entries ≡ [] → ⊥) → has_some (files_in trees entries) ≡ true
some_files trees [] h filled = absurd (filled refl)
some_files trees (entry ∷ entries) h filled =
    some_append (kind_files trees entry.key entry.kind) (files_in trees entries) (and_parts _ _ (node-filled trees (entry ∷ entries) h)).0

pub joined_base : (trees : List Files) (files : Files) (number : ℕ) → IsClosed trees → number < length trees → files ≡ files_at trees number
    → fold with_tree trees (or_none (where_some directories files)) ≡ trees
joined_base trees [] number closed l e = refl
joined_base trees (file ∷ files) number closed l e = ap (λ v. fold with_tree trees (directories v)) e ∙ directories_there trees number closed l

-- ---- where a tree stands

pub position_there : (trees : List Files) (files : Files) (o : Option ℕ) (number : ℕ) → o ≡ Some number → IsPosition trees files o
    → trees ≡ with_tree trees files
position_there trees files o number e h =
    let P : Option ℕ → Type 0 = λ v. IsPosition trees files v in
    let at : IsPosition trees files (Some number) = subst P e h in
    sym (with_tree-there trees files (list_any_at (λ tree. are_same tree files) trees number [] at.0 (ap (λ v. are_same v files) at.1 ∙ same-refl files)))

-- ---- a node more

pub trees_pushed : (nodes next : List Node) (trees : List Files) (node : Node) → next ≡ nodes ++ node ∷ [] → trees_from [] nodes ≡ trees
    → trees_from [] next ≡ trees ++ files_in trees node.entries ∷ []
trees_pushed nodes next trees node e view =
    ap (trees_from []) e ∙ trees-append [] nodes (node ∷ []) ∙ ap (λ v. v ++ files_in v node.entries ∷ []) view

pub nodes_pushed : (nodes next : List Node) (trees : List Files) (node : Node) → next ≡ nodes ++ node ∷ [] → trees_from [] nodes ≡ trees → AreNodes [] nodes
    → is_node trees node.entries ≡ true → node.name.0 ≡ tree_name (files_in trees node.entries) → AreNodes [] next
nodes_pushed nodes next trees node e view h k named =
    let P : List Node → Type 0 = λ v. AreNodes [] v in
    let Q : List Files → Type 0 = λ v. AreNodes v (node ∷ []) in
    let last : AreNodes trees (node ∷ []) = (k, named, tt) in
    subst P (sym e) (nodes-append [] nodes (node ∷ []) h (subst Q (sym view) last))

pub node-nil : (trees : List Files) → is_node trees [] ≡ true
unfolding is_node is_listing
node-nil trees = refl
