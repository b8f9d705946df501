-- Slots that become entries, and the trees of the directories in them.
use Rattle.std.proofs.Common.{◌≡◌, ℕ, ◌≤◌, Bool, true, false, ◌==◌, cond, List, [], ◌∷◌, ◌++◌, length, take, Option, Some, None, refl, sym, ap, ◌∙◌, arith}
use Rattle.std.specs.List.{list_all, filter, flat_map, fold}
use Rattle.std.proofs.lemmas.Bool.{false≢true, and_parts, and_from, ltb-true, lt-ltb, eqb-true}
use Rattle.std.proofs.lemmas.List.{append_assoc, map-append, length-take, nil_from_length}
use Rattle.std.proofs.lemmas.List.Folds.{list_all-append}
use Rattle.std.proofs.lemmas.List.Sums.{fold-append}
use Rattle.bf_forest.specs.declared.edits.Edit.{Edit}
use Rattle.bf_forest.specs.declared.nodes.Entry.{Entry}
use Rattle.bf_forest.specs.declared.nodes.EntryKind.{EntryKind}
use Rattle.bf_forest.specs.declared.nodes.EntryKind.TheVariants as kind
use Rattle.bf_forest.specs.declared.slots.EntrySlot.{EntrySlot}
use Rattle.bf_forest.specs.declared.slots.EntrySlot.TheVariants.{File, Directory}
use Rattle.bf_forest.specs.Files.{Files, edited}
use Rattle.bf_forest.specs.Listing.{name_in, Listing, stands_before, is_listing, shown, beneath}
use Rattle.bf_forest.specs.Nodes.{kind_files, listed, files_in, has_some, is_filled, is_earlier, IsSound, IsSettled}
use Rattle.bf_forest.specs.Opened.{IsSettling, IsMade}
use Rattle.bf_forest.specs.Slots.{base_files, slot_files, contents, slot_directories, is_base, is_based, is_slot, has_path}
use Rattle.bf_forest.specs.Trees.{names, below, where_some, or_none, directories, with_tree, with_directories, files_at}
use Rattle.bf_forest.proofs.Joining.{with_directories-is}
use Rattle.bf_forest.proofs.Listed.{listing-entry, listing-first, listing-rest, listing-cons}
use Rattle.bf_forest.proofs.Making.{inside_of}
use Rattle.bf_forest.proofs.Pooled.{directories_inside, below_beneath, node-from, listed_kept, files_at_kept}
use Rattle.bf_forest.proofs.Slotted.{are_paths-edited, base-sound}

-- ---- entries without files

all_filter : {X : Type 0} (p q : X → Bool) (xs : List X) → list_all p xs ≡ true → list_all p (filter q xs) ≡ true
all_filter p q [] h = refl
all_filter p q (x ∷ xs) h =
    let more = all_filter p q xs (and_parts (p x) _ h).1 in
    elim (q x) as (λ b. list_all p (cond b (x ∷ filter q xs) (filter q xs)) ≡ true) [
      | true ↦ and_from _ _ (and_parts _ _ h).0 more
      | false ↦ more
    ]

passed : {X : Type 0} (q : X → Bool) (xs : List X) → list_all q (filter q xs) ≡ true
passed q [] = refl
passed q (x ∷ xs) =
    let more = passed q xs in
    let by : (b : Bool) → q x ≡ b → list_all q (cond b (x ∷ filter q xs) (filter q xs)) ≡ true =
    λ b. elim b as (λ v. q x ≡ v → list_all q (cond v (x ∷ filter q xs) (filter q xs)) ≡ true) [
      | true ↦ λ e. and_from _ _ e more
      | false ↦ λ e. more
    ] in
    by (q x) refl

listing-filter : (q : List ℕ × Files → Bool) (es : Listing) → is_listing es ≡ true → is_listing (filter q es) ≡ true
listing-filter q [] h = h
listing-filter q (e ∷ es) h =
    let more = listing-filter q es (listing-rest e es h) in
    elim (q e) as (λ b. is_listing (cond b (e ∷ filter q es) (filter q es)) ≡ true) [
      | true ↦ listing-cons e (filter q es) (listing-entry e es h) (all_filter (λ o. stands_before e.0 o.0) q es (listing-first e es h)) more
      | false ↦ more
    ]

-- what gives nothing of no files gives the same without the entries that have none
filled_map : {Y : Type 0} (g : List ℕ → Files → List Y) → ((key : List ℕ) → g key [] ≡ []) → (es : Listing)
    → flat_map (λ e. g e.0 e.1) (filter is_filled es) ≡ flat_map (λ e. g e.0 e.1) es
filled_map g none [] = refl
filled_map g none (e ∷ es) = go e.1 (filled_map g none es)
  where
    go : (files : Files) → flat_map (λ e. g e.0 e.1) (filter is_filled es) ≡ flat_map (λ e. g e.0 e.1) es
        → flat_map (λ e. g e.0 e.1) (cond (has_some files) ((e.0, files) ∷ filter is_filled es) (filter is_filled es)) ≡ g e.0 files ++ flat_map
        (λ e. g e.0 e.1) es
    go [] more = more ∙ sym (ap (λ v. v ++ flat_map (λ e. g e.0 e.1) es) (none e.0))
    go (file ∷ files) more = ap (λ v. g e.0 (file ∷ files) ++ v) more

shown-filled : (es : Listing) → shown (filter is_filled es) ≡ shown es
shown-filled es = filled_map (λ key files. files) (λ key. refl) es

inside_none : (key : List ℕ) → inside_of [] (name_in key) ≡ []
unfolding below
inside_none key = refl

-- ---- the directories in slots

slot_inside : (trees : List Files) (key : List ℕ) (slot : EntrySlot) (bound : ℕ) → IsSound trees → is_slot (length trees) bound slot ≡ true
    → inside_of (slot_files trees key slot) (name_in key) ≡ slot_directories trees slot
unfolding below
slot_inside trees key (File mode oid) bound sound h = refl
slot_inside trees key (Directory base pending) bound sound h =
    let parts = and_parts (is_base (length trees) base) _ h in
    let paths = are_paths-edited pending (base_files trees base) (and_parts (list_all has_path pending) _ parts.1).0 (base-sound trees base sound parts.0).0 in
    ap (λ v. or_none (where_some directories v)) (below_beneath (name_in key) (edited (base_files trees base) pending) paths)

slots_inside : (trees : List Files) (slots : List (List ℕ × EntrySlot)) (bound : ℕ) → IsSound trees
    → list_all (λ slot. is_slot (length trees) bound slot.1) slots ≡ true
    → flat_map (λ e. inside_of e.1 (name_in e.0)) (contents trees slots) ≡ flat_map (λ slot. slot_directories trees slot.1) slots
slots_inside trees [] bound sound h = refl
slots_inside trees (slot ∷ slots) bound sound h =
    ap (λ v. v ++ flat_map (λ e. inside_of e.1 (name_in e.0)) (contents trees slots)) (slot_inside trees slot.0 slot.1 bound sound (and_parts _ _ h).0)
    ∙ ap (λ v. slot_directories trees slot.1 ++ v) (slots_inside trees slots bound sound (and_parts (is_slot (length trees) bound slot.1) _ h).1)

all_inside : (trees : List Files) (slots : List (List ℕ × EntrySlot)) (bound : ℕ) → IsSound trees → is_listing (contents trees slots) ≡ true
    → list_all (λ slot. is_slot (length trees) bound slot.1) slots ≡ true
    → flat_map (λ slot. slot_directories trees slot.1) slots ≡ flat_map (inside_of (shown (contents trees slots))) (names (shown (contents trees slots)))
all_inside trees slots bound sound listing h =
    let es = contents trees slots in
    let some = filter is_filled es in
    sym (slots_inside trees slots bound sound h) ∙ sym (filled_map (λ key files. inside_of files (name_in key)) inside_none es)
    ∙ sym (directories_inside some (listing-filter is_filled es listing) (passed is_filled es))
    ∙ ap (λ v. flat_map (inside_of v) (names v)) (shown-filled es)

-- ---- the entries that are made

pub made : (trees next : List Files) (slots : List (List ℕ × EntrySlot)) (bound : ℕ) (files : Files) (entries : List Entry) → IsSound trees
    → is_listing (contents trees slots) ≡ true
    → list_all (λ slot. is_slot (length trees) bound slot.1) slots ≡ true → shown (contents trees slots) ≡ files
    → next ≡ fold with_tree trees (flat_map (λ slot. slot_directories trees slot.1) slots) → listed next entries ≡ filter is_filled (contents trees slots)
    → IsMade trees next files entries
made trees next slots bound files entries sound listing h e joined added =
    let es = contents trees slots in
    let whole : files_in next entries ≡ files = ap shown added ∙ shown-filled es ∙ e in
    let pool : next ≡ fold with_tree trees (flat_map (inside_of files) (names files)) =
    joined ∙ ap (fold with_tree trees) (all_inside trees slots bound sound listing h ∙ ap (λ v. flat_map (inside_of v) (names v)) e) in (
      whole,
      node-from next entries (ap is_listing added ∙ listing-filter is_filled es listing) (ap (list_all is_filled) added ∙ passed is_filled es),
      ap (λ v. with_tree next v) whole ∙ ap (λ v. with_tree v files) pool ∙ with_directories-is trees files,
    )

-- the pool of the directories in no files is as it was
pub made_none : (trees next : List Files) (slots : List (List ℕ × EntrySlot)) (bound : ℕ) (files : Files) → IsSound trees → is_listing (contents trees slots) ≡ true
    → list_all (λ slot. is_slot (length trees) bound slot.1) slots ≡ true → shown (contents trees slots) ≡ files
    → next ≡ fold with_tree trees (flat_map (λ slot. slot_directories trees slot.1) slots) → files ≡ []
    → next ≡ fold with_tree trees (or_none (where_some directories files))
unfolding names
made_none trees next slots bound files sound listing h e joined empty =
    joined ∙ ap (fold with_tree trees) (all_inside trees slots bound sound listing h ∙ ap (λ v. flat_map (inside_of v) (names v)) (e ∙ empty))
    ∙ sym (ap (λ v. fold with_tree trees (or_none (where_some directories v))) empty)

pub joined_some : (trees : List Files) (files : Files) → has_some files ≡ true
    → with_directories trees files ≡ fold with_tree trees (or_none (where_some directories files))
unfolding with_directories
joined_some trees [] h = absurd (false≢true h)
joined_some trees (file ∷ files) h = refl

pub edited-nil : (files : Files) (edits : List Edit) → edits ≡ [] → edited files edits ≡ files
unfolding edited
edited-nil files edits e = ap (edited files) e

-- ---- bounds

slot_based : (count bound : ℕ) (slot : EntrySlot) → is_slot count bound slot ≡ true → is_based count slot ≡ true
slot_based count bound (File mode oid) h = refl
slot_based count bound (Directory base pending) h = (and_parts (is_base count base) _ h).0

pub slots_based : (count bound : ℕ) (slots : List (List ℕ × EntrySlot)) → list_all (λ slot. is_slot count bound slot.1) slots ≡ true
    → list_all (λ slot. is_based count slot.1) slots ≡ true
slots_based count bound [] h = refl
slots_based count bound (slot ∷ slots) h =
    and_from _ _ (slot_based count bound slot.1 (and_parts _ _ h).0) (slots_based count bound slots (and_parts (is_slot count bound slot.1) _ h).1)

-- ---- pools that grow

pub kept_length : {X : Type 0} (a b : List X) → take (length a) b ≡ a → length a ≤ length b
kept_length a b e = let size = ap length e in omega (arith, size, length-take (length a) b)

kind_earlier_more : (a b : ℕ) (entry : Entry) → a ≤ b → is_earlier a entry ≡ true → is_earlier b entry ≡ true
kind_earlier_more a b entry l h = go entry.kind h
  where
    go : (kind : EntryKind) → is_earlier a (record entry { kind = kind }) ≡ true → is_earlier b (record entry { kind = kind }) ≡ true
    go (kind.File mode oid) k = refl
    go (kind.Directory number) k = let less = ltb-true number a k in lt-ltb number b (omega (arith, less, l))

pub earlier_more : (a b : ℕ) (entries : List Entry) → a ≤ b → list_all (is_earlier a) entries ≡ true → list_all (is_earlier b) entries ≡ true
earlier_more a b [] l h = refl
earlier_more a b (entry ∷ entries) l h =
    and_from _ _ (kind_earlier_more a b entry l (and_parts _ _ h).0) (earlier_more a b entries l (and_parts (is_earlier a entry) _ h).1)

base_kept : (a b : List Files) (base : Option ℕ) → take (length a) b ≡ a → is_base (length a) base ≡ true → base_files b base ≡ base_files a base
base_kept a b None e h = refl
base_kept a b (Some number) e h = files_at_kept a b number e (ltb-true number (length a) h)

pub slot_files_kept : (a b : List Files) (key : List ℕ) (slot : EntrySlot) → take (length a) b ≡ a → is_based (length a) slot ≡ true
    → slot_files b key slot ≡ slot_files a key slot
slot_files_kept a b key (File mode oid) e h = refl
slot_files_kept a b key (Directory base pending) e h = ap (λ v. beneath (name_in key) (edited v pending)) (base_kept a b base e h)

pub slot_directories_kept : (a b : List Files) (slot : EntrySlot) → take (length a) b ≡ a → is_based (length a) slot ≡ true
    → slot_directories b slot ≡ slot_directories a slot
slot_directories_kept a b (File mode oid) e h = refl
slot_directories_kept a b (Directory base pending) e h = ap (λ v. or_none (where_some directories (edited v pending))) (base_kept a b base e h)

-- ---- one slot

pub listed_more : (trees : List Files) (entries : List Entry) (entry : Entry)
    → listed trees (entries ++ entry ∷ []) ≡ listed trees entries ++ (entry.key, kind_files trees entry.key entry.kind) ∷ []
listed_more trees entries entry = map-append {A = Entry} {B = List ℕ × Files} (λ entry. (entry.key, kind_files trees entry.key entry.kind)) entries (entry ∷ [])

-- what a slot adds to the entries
abbrev pub IsAdded : List Files → List Files → List Entry → List ℕ → EntrySlot → List Entry → Type 0
IsAdded trees next old key slot entries =
    (listed next entries ≡ listed trees old ++ filter is_filled ((key, slot_files trees key slot) ∷ [])) × (list_all (is_earlier (length next)) entries ≡ true)

pub directory_added : (trees next : List Files) (old entries : List Entry) (key : List ℕ) (base : Option ℕ) (pending : List Edit) (number : ℕ)
    → list_all (is_earlier (length trees)) old ≡ true
    → take (length trees) next ≡ trees → IsSettled next (edited (base_files trees base) pending) (Some number)
    → entries ≡ old ++ record { key = key; kind = kind.Directory number } ∷ [] → IsAdded trees next old key (Directory base pending) entries
directory_added trees next old entries key base pending number h kept settled e =
    let entry : Entry = record { key = key; kind = kind.Directory number } in
    let files = edited (base_files trees base) pending in
    let last : List ℕ × Files = (key, beneath (name_in key) (files_at next number)) in (
      ap (listed next) e ∙ listed_more next old entry ∙ ap (λ v. v ++ last ∷ []) (listed_kept trees next old kept h)
          ∙ ap {A = Files} {B = Listing} (λ v. listed trees old ++ (key, beneath (name_in key) v) ∷ []) settled.1
          ∙ some_kept (listed trees old) key files settled.2,
      ap (list_all (is_earlier (length next))) e ∙ list_all-append (is_earlier (length next)) old (entry ∷ [])
          ∙ and_from _ _ (earlier_more (length trees) (length next) old (kept_length trees next kept) h)
          (and_from _ _ (lt-ltb number (length next) settled.0) refl),
    )
  where
    some_kept : (list : Listing) (k : List ℕ) (files : Files) → has_some files ≡ true
        → list ++ (k, beneath (name_in k) files) ∷ [] ≡ list ++ filter is_filled ((k, beneath (name_in k) files) ∷ [])
    some_kept list k [] s = absurd (false≢true s)
    some_kept list k (file ∷ files) s = refl

pub no_edits : (edits : List Edit) (empty : Bool) → empty ≡ (length edits == 0) → empty ≡ true → edits ≡ []
no_edits edits empty e t = nil_from_length edits (eqb-true (length edits) 0 (sym e ∙ t))

-- ---- slots one after another

filter_cons : (e : List ℕ × Files) (es : Listing) → filter is_filled (e ∷ es) ≡ filter is_filled (e ∷ []) ++ filter is_filled es
filter_cons e es =
    elim (has_some e.1) as (λ b. cond b (e ∷ filter is_filled es) (filter is_filled es) ≡ cond b (e ∷ []) [] ++ filter is_filled es) [
      | true ↦ refl
      | false ↦ refl
    ]

pub settling_next : (trees : List Files) (slots : List (List ℕ × EntrySlot)) (now next : List Files) (old entries : List Entry) (key : List ℕ) (slot : EntrySlot)
    (rest : List (List ℕ × EntrySlot))
    → IsSettling trees slots now old ((key, slot) ∷ rest) → take (length trees) next ≡ trees
    → next ≡ fold with_tree now (slot_directories now slot) → listed next entries ≡ listed now old ++ filter is_filled ((key, slot_files now key slot) ∷ [])
    → list_all (is_earlier (length next)) entries ≡ true
    → IsSettling trees slots next entries rest
settling_next trees slots now next old entries key slot rest (kept, pool, list, earlier, bases) still joined added last =
    let parts = and_parts (is_based (length trees) slot) (list_all (λ slot. is_based (length trees) slot.1) rest) bases in
    let es = contents trees rest in
    let first : List ℕ × Files = (key, slot_files trees key slot) in (
      still,
      ap (λ v. fold with_tree v (flat_map (λ slot. slot_directories trees slot.1) rest))
          (joined ∙ ap (fold with_tree now) (slot_directories_kept trees now slot kept parts.0))
          ∙ sym (fold-append with_tree now (slot_directories trees slot) (flat_map (λ slot. slot_directories trees slot.1) rest)) ∙ pool,
      ap (λ v. v ++ filter is_filled es) added
          ∙ ap {A = Files} {B = Listing} (λ v. (listed now old ++ filter is_filled ((key, v) ∷ [])) ++ filter is_filled es)
          (slot_files_kept trees now key slot kept parts.0)
          ∙ append_assoc (listed now old) (filter is_filled (first ∷ [])) (filter is_filled es)
          ∙ ap (λ v. listed now old ++ v) (sym (filter_cons first es)) ∙ list,
      last,
      parts.1,
    )
