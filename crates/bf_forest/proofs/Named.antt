-- The names in the files of entries, and what stands below each.
use Rattle.std.proofs.Common.{◌≡◌, ℕ, Bool, true, false, not, ◌||◌, if◌then◌else◌, List, [], ◌∷◌, ◌++◌, map, Some, None, refl, sym, ap, ◌∙◌}
use Rattle.std.specs.Ordering.{nat_cmp, is_lt}
use Rattle.std.specs.Cmp.Lexicographic.{slice_cmp, pointwise}
use Rattle.std.specs.List.{list_all, list_any, filter_map, flat_map, fold, cons_option, AllByRecursion}
use Rattle.std.proofs.lemmas.Bool.{false≢true, and_parts, and_from, cond-true, cond-false, not-true, not_from_false, or_from, and_left}
use Rattle.std.specs.Option.{option_map}
use Rattle.std.proofs.lemmas.List.{append-nil, append_assoc}
use Rattle.std.proofs.lemmas.List.Concat.{flat_map-append}
use Rattle.std.proofs.lemmas.List.Folds.{list_any-append}
use Rattle.std.proofs.lemmas.List.Sums.{fold-append}
use Rattle.bf_paths.specs.Components.{is_path}
use Rattle.bf_forest.specs.Files.{Files, is_same}
use Rattle.bf_forest.specs.Trees.{add_first, add_name, names, below, file_below, file_bytes}
use Rattle.bf_forest.specs.Listing.{key_for, name_in, Listing, is_entry, stands_before, is_listing, shown}
use Rattle.bf_forest.specs.Nodes.{has_some, is_filled}
use Rattle.bf_forest.proofs.Keys.{first_component, name_in-key, not_same}
use Rattle.bf_forest.proofs.Listed.{entry-key, entry-paths, listing-entry, listing-first, listing-rest, has-shown, are_paths-shown, of_key}
use Rattle.bf_forest.proofs.Loops.{filter_map-append}
use Rattle.bf_forest.proofs.Members.{of_member, each_member}
use Rattle.bf_forest.proofs.Ordered.{is_same-refl}
use Rattle.bf_forest.proofs.Sameness.{same_name}

-- a path begins with a name
abbrev pub begins : List ℕ → List (List ℕ) → Bool
begins name [] = false
begins name (first ∷ rest) = is_same first name

-- ---- the first components in an entry

first_is : (key : List ℕ) (path : List (List ℕ)) → is_path path ≡ true → key_for path ≡ key → begins (name_in key) path ≡ true
first_is key [] p e = absurd (false≢true p)
first_is key (a ∷ ar) p e =
    ap (is_same a) (sym (ap name_in e) ∙ name_in-key a ar (first_component a ar p)) ∙ is_same-refl a

pub entry-begins : (key : List ℕ) (files : Files) → is_entry key files ≡ true → list_all (λ file. begins (name_in key) file.path) files ≡ true
entry-begins key files h =
    each_member (λ file. begins (name_in key) file.path) files
    (λ x k. first_is key x.path (of_member (λ file. is_path file.path) files x (entry-paths key files h) k) (entry-key key files x h k))

other_first : (name other : List ℕ) (path : List (List ℕ)) → begins name path ≡ true → is_same name other ≡ false → begins other path ≡ false
other_first name other [] h k = absurd (false≢true h)
other_first name other (a ∷ ar) h k = ap (λ v. is_same v other) (same_name a name h) ∙ k

-- no file begins with a name
abbrev pub are_away : List ℕ → Files → Bool
are_away name files = list_all (λ file. not (begins name file.path)) files

entry-away : (key name : List ℕ) (files : Files) → is_entry key files ≡ true → is_same (name_in key) name ≡ false → are_away name files ≡ true
entry-away key name files h k =
    each_member (λ file. not (begins name file.path)) files
    (λ x l. not_from_false _ (other_first (name_in key) name x.path (of_member (λ file. begins (name_in key) file.path) files x (entry-begins key files h) l)
    k))

pub names_differ : (key other : List ℕ) → stands_before key other ≡ true → is_same (name_in key) (name_in other) ≡ false
names_differ key other h = not-true _ (and_parts (is_lt (slice_cmp nat_cmp key other)) _ h).1

rest-away : (e : List ℕ × Files) (es : Listing) → is_listing (e ∷ es) ≡ true → are_away (name_in e.0) (shown es) ≡ true
rest-away e es h =
    let rest = listing-rest e es h in
    each_member (λ file. not (begins (name_in e.0) file.path)) (shown es)
    (λ x l.
    let before : stands_before e.0 (key_for x.path) ≡ true =
    of_key (stands_before e.0) (key_for x.path) es x (listing-first e es h) (sym (has-shown es x rest) ∙ l) in
    not_from_false _
    (other_first (name_in (key_for x.path)) (name_in e.0) x.path
    (first_is (key_for x.path) x.path (of_member (λ file. is_path file.path) (shown es) x (are_paths-shown es rest) l) refl)
    (not_same (name_in e.0) (name_in (key_for x.path)) (names_differ e.0 (key_for x.path) before))))

-- ---- what only the entry with a name gives

others_give : {Y : Type 0} (g : List ℕ → Files → List Y) → ((name : List ℕ) (a b : Files) → g name (a ++ b) ≡ g name a ++ g name b)
    → ((name : List ℕ) (files : Files) → are_away name files ≡ true → g name files ≡ []) → (key : List ℕ) (files : Files) (all : Files) (es : Listing)
    → is_entry key files ≡ true → list_all (λ o. stands_before key o.0) es ≡ true
    → AllByRecursion (λ (e : List ℕ × Files). g (name_in e.0) all ≡ g (name_in e.0) e.1) es
    → AllByRecursion (λ (e : List ℕ × Files). g (name_in e.0) (files ++ all) ≡ g (name_in e.0) e.1) es
others_give g add away key files all [] h k each = tt
others_give g add away key files all (e ∷ es) h k each = (
  add (name_in e.0) files all
      ∙ ap (λ v. v ++ g (name_in e.0) all) (away (name_in e.0) files (entry-away key (name_in e.0) files h (names_differ key e.0 (and_parts _ _ k).0)))
      ∙ each.0,
  others_give g add away key files all es h (and_parts _ _ k).1 each.1,
)

pub alone : {Y : Type 0} (g : List ℕ → Files → List Y) → ((name : List ℕ) (a b : Files) → g name (a ++ b) ≡ g name a ++ g name b)
    → ((name : List ℕ) (files : Files) → are_away name files ≡ true → g name files ≡ []) → (es : Listing) → is_listing es ≡ true
    → AllByRecursion (λ (e : List ℕ × Files). g (name_in e.0) (shown es) ≡ g (name_in e.0) e.1) es
alone g add away [] h = tt
alone g add away (e ∷ es) h = (
  add (name_in e.0) e.1 (shown es) ∙ ap (λ v. g (name_in e.0) e.1 ++ v) (away (name_in e.0) (shown es) (rest-away e es h)) ∙ append-nil (g (name_in e.0) e.1),
  others_give g add away e.0 e.1 (shown es) es (listing-entry e es h) (listing-first e es h) (alone g add away es (listing-rest e es h)),
)

below_away : (name : List ℕ) (files : Files) → are_away name files ≡ true → below name files ≡ []
unfolding below
below_away name [] h = refl
below_away name (file ∷ files) h = ap (λ o. cons_option o (filter_map (file_below name) files)) (go file.path (and_parts _ _ h).0) ∙ below_away name files
    (and_parts _ _ h).1
  where
    go : (path : List (List ℕ)) → not (begins name path) ≡ true → file_below name (record file { path = path }) ≡ None
    go [] k = refl
    go (a ∷ []) k = refl
    go (a ∷ b ∷ r) k = ap (λ v. option_map (λ path. record file { path = path }) (if v then Some (b ∷ r) else None)) (not-true _ k)

below_append : (name : List ℕ) (a b : Files) → below name (a ++ b) ≡ below name a ++ below name b
unfolding below
below_append name a b = filter_map-append (file_below name) a b

pub below_alone : (es : Listing) → is_listing es ≡ true → AllByRecursion (λ (e : List ℕ × Files). below (name_in e.0) (shown es) ≡ below (name_in e.0) e.1) es
below_alone es h = alone below below_append below_away es h

bytes_away : (name : List ℕ) (files : Files) → are_away name files ≡ true → flat_map (file_bytes name) files ≡ []
bytes_away name [] h = refl
bytes_away name (file ∷ files) h = ap (λ v. v ++ flat_map (file_bytes name) files) (go file.path (and_parts _ _ h).0) ∙ bytes_away name files
    (and_parts _ _ h).1
  where
    go : (path : List (List ℕ)) → not (begins name path) ≡ true → file_bytes name (record file { path = path }) ≡ []
    go [] k = refl
    go (a ∷ ar) k = cond-false _ _ _ (and_left (is_same a name) (pointwise is_same ar []) (not-true _ k))

pub bytes_alone : (es : Listing) → is_listing es ≡ true
    → AllByRecursion (λ (e : List ℕ × Files). flat_map (file_bytes (name_in e.0)) (shown es) ≡ flat_map (file_bytes (name_in e.0)) e.1) es
bytes_alone es h = alone (λ name. flat_map (file_bytes name)) (λ name. flat_map-append (file_bytes name)) bytes_away es h

pub flat_map-each : {Y : Type 0} (f g : List ℕ × Files → List Y) (es : Listing) → AllByRecursion (λ (e : List ℕ × Files). f e ≡ g e) es
    → flat_map f es ≡ flat_map g es
flat_map-each f g [] h = refl
flat_map-each f g (e ∷ es) h = ap (λ v. v ++ flat_map f es) h.0 ∙ ap (λ v. g e ++ v) (flat_map-each f g es h.1)

-- ---- the names

-- a name is among names
abbrev among : List ℕ → List (List ℕ) → Bool
among name names = list_any (λ other. is_same other name) names

stays : (name : List ℕ) (so_far : List (List ℕ)) (files : Files) → among name so_far ≡ true → list_all (λ file. begins name file.path) files ≡ true
    → fold add_name so_far files ≡ so_far
stays name so_far [] h k = refl
stays name so_far (file ∷ files) h k =
    ap (λ v. fold add_name v files) (go file.path (and_parts _ _ k).0) ∙ stays name so_far files h (and_parts _ _ k).1
  where
    go : (path : List (List ℕ)) → begins name path ≡ true → add_first so_far path ≡ so_far
    go [] l = refl
    go (a ∷ ar) l = cond-true _ _ _ (ap (λ v. among v so_far) (same_name a name l) ∙ h)

joins : (name : List ℕ) (so_far : List (List ℕ)) (files : Files) → among name so_far ≡ false → has_some files ≡ true
    → list_all (λ file. begins name file.path) files ≡ true
    → fold add_name so_far files ≡ so_far ++ name ∷ []
joins name so_far [] h filled k = absurd (false≢true filled)
joins name so_far (file ∷ files) h filled k =
    ap (λ v. fold add_name v files) (go file.path (and_parts _ _ k).0) ∙ stays name (so_far ++ name ∷ []) files there (and_parts _ _ k).1
  where
    there : among name (so_far ++ name ∷ []) ≡ true
    there = list_any-append (λ other. is_same other name) so_far (name ∷ []) ∙ ap (λ v. v || (is_same name name || false)) h ∙ ap (λ v. v || false)
        (is_same-refl name)

    go : (path : List (List ℕ)) → begins name path ≡ true → add_first so_far path ≡ so_far ++ name ∷ []
    go [] l = absurd (false≢true l)
    go (a ∷ ar) l =
        ap (λ v. if among v so_far then so_far else so_far ++ v ∷ []) (same_name a name l) ∙ cond-false _ _ _ h

-- no name of the entries is among names
abbrev are_fresh : List (List ℕ) → Listing → Bool
are_fresh so_far es = list_all (λ e. not (among (name_in e.0) so_far)) es

fresh_more : (key : List ℕ) (so_far : List (List ℕ)) (es : Listing) → are_fresh so_far es ≡ true → list_all (λ o. stands_before key o.0) es ≡ true
    → are_fresh (so_far ++ name_in key ∷ []) es ≡ true
fresh_more key so_far [] h k = refl
fresh_more key so_far (e ∷ es) h k =
    let old = not-true _ (and_parts _ _ h).0 in
    let new = names_differ key e.0 (and_parts _ _ k).0 in
    and_from _ _
    (not_from_false _ (list_any-append (λ other. is_same other (name_in e.0)) so_far (name_in key ∷ []) ∙ or_from _ _ old (or_from _ false new refl)))
    (fresh_more key so_far es (and_parts _ _ h).1 (and_parts _ _ k).1)

names_from : (so_far : List (List ℕ)) (es : Listing) → is_listing es ≡ true → list_all is_filled es ≡ true → are_fresh so_far es ≡ true
    → fold add_name so_far (shown es) ≡ so_far ++ map (λ e. name_in e.0) es
names_from so_far [] h filled fresh = sym (append-nil so_far)
names_from so_far (e ∷ es) h filled fresh =
    fold-append add_name so_far e.1 (shown es)
    ∙ ap (λ v. fold add_name v (shown es))
    (joins (name_in e.0) so_far e.1 (not-true _ (and_parts _ _ fresh).0) (and_parts _ _ filled).0 (entry-begins e.0 e.1 (listing-entry e es h)))
    ∙ names_from (so_far ++ name_in e.0 ∷ []) es (listing-rest e es h) (and_parts _ _ filled).1
    (fresh_more e.0 so_far es (and_parts _ _ fresh).1 (listing-first e es h))
    ∙ append_assoc so_far (name_in e.0 ∷ []) (map (λ e. name_in e.0) es)

all_fresh : (es : Listing) → are_fresh [] es ≡ true
all_fresh [] = refl
all_fresh (e ∷ es) = all_fresh es

pub names-shown : (es : Listing) → is_listing es ≡ true → list_all is_filled es ≡ true → names (shown es) ≡ map (λ e. name_in e.0) es
unfolding names
names-shown es h filled = names_from [] es h filled (all_fresh es)
