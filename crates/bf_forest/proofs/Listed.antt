-- The files of the entries of a directory.
use Rattle.std.proofs.Common.{◌≡◌, ℕ, Bool, true, false, ◌&&◌, ◌||◌, if◌then◌else◌, List, [], ◌∷◌, refl, sym, ap, ◌∙◌, inl, inr}
use Rattle.std.specs.Ordering.{nat_cmp, is_lt}
use Rattle.std.specs.Cmp.Lexicographic.{slice_cmp}
use Rattle.std.specs.List.{list_all}
use Rattle.std.proofs.lemmas.Bool.{false≢true, and_parts, and_from, cases_Bool, cond-true, cond-false}
use Rattle.std.proofs.lemmas.List.Folds.{list_any-append, list_all-append}
use Rattle.bf_paths.specs.Components.{is_path}
use Rattle.bf_forest.specs.declared.entries.FileEntry.{FileEntry}
use Rattle.bf_forest.specs.Files.{Files, is_same, comes_before, is_tree}
use Rattle.bf_forest.specs.Trees.{is_same_file}
use Rattle.bf_forest.specs.Listing.{key_for, Listing, is_entry, stands_before, is_listing, shown}
use Rattle.bf_forest.proofs.Keys.{cmp-same, in_order}
use Rattle.bf_forest.proofs.Members.{has, are_paths, of_member, each_member}
use Rattle.bf_forest.proofs.Ordered.{is_tree-append}
use Rattle.bf_forest.proofs.Sameness.{same_name}

-- the files of the entry with a key
abbrev pub at_key : List ℕ → Listing → Files
at_key key [] = []
at_key key (entry ∷ entries) = if is_same key entry.0 then entry.1 else at_key key entries

-- ---- what an entry has

entry_paths : (files : Files) (key : List ℕ) → list_all (λ file. is_same (key_for file.path) key && is_path file.path) files ≡ true → are_paths files ≡ true
entry_paths files key h =
    each_member (λ file. is_path file.path) files
    (λ x k. (and_parts (is_same (key_for x.path) key) (is_path x.path)
    (of_member (λ file. is_same (key_for file.path) key && is_path file.path) files x h k)).1)

pub entry-paths : (key : List ℕ) (files : Files) → is_entry key files ≡ true → are_paths files ≡ true
entry-paths key files h = entry_paths files key (and_parts _ _ (and_parts _ _ h).1).0

pub entry-tree : (key : List ℕ) (files : Files) → is_entry key files ≡ true → is_tree files ≡ true
entry-tree key files h = (and_parts _ _ (and_parts _ _ h).1).1

pub entry-key : (key : List ℕ) (files : Files) (x : FileEntry) → is_entry key files ≡ true → has x files ≡ true → key_for x.path ≡ key
entry-key key files x h k =
    same_name (key_for x.path) key
    (and_parts (is_same (key_for x.path) key) (is_path x.path)
    (of_member (λ file. is_same (key_for file.path) key && is_path file.path) files x (and_parts _ _ (and_parts _ _ h).1).0 k)).0

-- ---- the first entry, and the others

pub listing-entry : (e : List ℕ × Files) (es : Listing) → is_listing (e ∷ es) ≡ true → is_entry e.0 e.1 ≡ true
unfolding is_listing
listing-entry e es h = (and_parts _ _ h).0

pub listing-first : (e : List ℕ × Files) (es : Listing) → is_listing (e ∷ es) ≡ true → list_all (λ other. stands_before e.0 other.0) es ≡ true
unfolding is_listing
listing-first e es h = (and_parts _ _ (and_parts _ _ h).1).0

pub listing-rest : (e : List ℕ × Files) (es : Listing) → is_listing (e ∷ es) ≡ true → is_listing es ≡ true
unfolding is_listing
listing-rest e es h = (and_parts _ _ (and_parts _ _ h).1).1

pub listing-cons : (e : List ℕ × Files) (es : Listing) → is_entry e.0 e.1 ≡ true → list_all (λ other. stands_before e.0 other.0) es ≡ true
    → is_listing es ≡ true → is_listing (e ∷ es) ≡ true
unfolding is_listing
listing-cons e es h k l = and_from _ _ h (and_from _ _ k l)

-- ---- look-ups

not_before_itself : (key : List ℕ) → stands_before key key ≡ true → ⊥
not_before_itself key h = false≢true (sym (ap is_lt (cmp-same key)) ∙ (and_parts (is_lt (slice_cmp nat_cmp key key)) _ h).0)

pub none_behind : (key : List ℕ) (es : Listing) → list_all (λ other. stands_before key other.0) es ≡ true → at_key key es ≡ []
none_behind key [] h = refl
none_behind key (e ∷ es) h =
    elim (cases_Bool (is_same key e.0)) [
      | inl here ↦ absurd (not_before_itself key (ap (stands_before key) (same_name key e.0 here) ∙ (and_parts _ _ h).0))
      | inr other ↦ cond-false _ _ _ other ∙ none_behind key es (and_parts _ _ h).1
    ]

-- what holds of each key holds of one that has files
pub of_key : (p : List ℕ → Bool) (key : List ℕ) (es : Listing) (x : FileEntry) → list_all (λ e. p e.0) es ≡ true → has x (at_key key es) ≡ true → p key ≡ true
of_key p key [] x h k = absurd (false≢true k)
of_key p key (e ∷ es) x h k =
    elim (cases_Bool (is_same key e.0)) [
      | inl here ↦ ap p (same_name key e.0 here) ∙ (and_parts _ _ h).0
      | inr other ↦ of_key p key es x (and_parts _ _ h).1 (ap (has x) (sym (cond-false _ e.1 (at_key key es) other)) ∙ k)
    ]

not_in : (e : List ℕ × Files) (x : FileEntry) → is_entry e.0 e.1 ≡ true → is_same (key_for x.path) e.0 ≡ false → has x e.1 ≡ false
not_in e x h other =
    elim (cases_Bool (has x e.1)) [
      | inl there ↦ absurd (false≢true (sym other ∙ (and_parts (is_same (key_for x.path) e.0) (is_path x.path)
          (of_member (λ file. is_same (key_for file.path) e.0 && is_path file.path) e.1 x (and_parts _ _ (and_parts _ _ h).1).0 there)).0))
      | inr not_there ↦ not_there
    ]

or_false : (a b : Bool) → b ≡ false → (a || b) ≡ a
or_false true b h = refl
or_false false b h = h

or_nothing : (a b : Bool) → a ≡ false → (a || b) ≡ b
or_nothing true b h = absurd (false≢true (sym h))
or_nothing false b h = refl

-- a file is among all where it is among those of its key
pub has-shown : (es : Listing) (x : FileEntry) → is_listing es ≡ true → has x (shown es) ≡ has x (at_key (key_for x.path) es)
has-shown [] x h = refl
has-shown (e ∷ es) x h =
    let more = has-shown es x (listing-rest e es h) in
    let start = list_any-append (is_same_file x) e.1 (shown es) ∙ ap (λ b. has x e.1 || b) more in
    elim (cases_Bool (is_same (key_for x.path) e.0)) [
      | inl here ↦
          let key : key_for x.path ≡ e.0 = same_name (key_for x.path) e.0 here in
          let nothing : has x (at_key (key_for x.path) es) ≡ false =
          ap (λ k. has x (at_key k es)) key ∙ ap (has x) (none_behind e.0 es (listing-first e es h)) in
          start ∙ or_false (has x e.1) (has x (at_key (key_for x.path) es)) nothing ∙ sym (ap (has x) (cond-true _ e.1 (at_key (key_for x.path) es) here))
      | inr other ↦
          start ∙ or_nothing (has x e.1) (has x (at_key (key_for x.path) es)) (not_in e x (listing-entry e es h) other)
          ∙ sym (ap (has x) (cond-false _ e.1 (at_key (key_for x.path) es) other))
    ]

pub are_paths-shown : (es : Listing) → is_listing es ≡ true → are_paths (shown es) ≡ true
are_paths-shown [] h = refl
are_paths-shown (e ∷ es) h =
    list_all-append (λ file. is_path file.path) e.1 (shown es)
    ∙ and_from _ _ (entry-paths e.0 e.1 (listing-entry e es h)) (are_paths-shown es (listing-rest e es h))

-- ---- the order of all the files

first_before : (e : List ℕ × Files) (es : Listing) (x y : FileEntry) → is_listing (e ∷ es) ≡ true → has x e.1 ≡ true → has y (shown es) ≡ true
    → comes_before x y ≡ true
first_before e es x y h k l =
    let rest = listing-rest e es h in
    let key = entry-key e.0 e.1 x (listing-entry e es h) k in
    let behind : stands_before e.0 (key_for y.path) ≡ true =
    of_key (stands_before e.0) (key_for y.path) es y (listing-first e es h) (sym (has-shown es y rest) ∙ l) in
    in_order x.path y.path (of_member (λ file. is_path file.path) e.1 x (entry-paths e.0 e.1 (listing-entry e es h)) k)
    (of_member (λ file. is_path file.path) (shown es) y (are_paths-shown es rest) l)
    (ap (λ v. stands_before v (key_for y.path)) key ∙ behind)

pub is_tree-shown : (es : Listing) → is_listing es ≡ true → is_tree (shown es) ≡ true
unfolding is_tree
is_tree-shown [] h = refl
is_tree-shown (e ∷ es) h =
    is_tree-append e.1 (shown es) (entry-tree e.0 e.1 (listing-entry e es h)) (is_tree-shown es (listing-rest e es h))
    (each_member (λ x. list_all (comes_before x) (shown es)) e.1
    (λ x k. each_member (comes_before x) (shown es) (λ y l. first_before e es x y h k l)))
