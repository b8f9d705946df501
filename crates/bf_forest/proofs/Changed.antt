-- The four changes of entries that edits are.
use Rattle.std.proofs.Common.{◌≡◌, ℕ, Bool, true, false, not, ◌&&◌, ◌||◌, List, [], ◌∷◌, refl, sym, ap, ◌∙◌, ◌⊎◌, inl, inr}
use Rattle.std.specs.Cmp.Lexicographic.{pointwise}
use Rattle.std.specs.List.{list_all, list_any}
use Rattle.std.proofs.lemmas.Bool.{and_left, and_right, cond-true, cond-false, and_parts, and_from, or_cases, not_from_false, false≢true}
use Rattle.bf_oid.specs.declared.object.Mode.{Mode}
use Rattle.bf_oid.specs.declared.object.Oid.{Oid}
use Rattle.bf_paths.specs.Components.{is_component, is_path}
use Rattle.bf_forest.specs.declared.edits.Part.TheVariants.{Outside}
use Rattle.bf_forest.specs.Files.{Files, is_same, leads_to, are_apart, is_in_part, set_file, remove_file, is_tree}
use Rattle.bf_forest.specs.Trees.{mode_text, is_same_file}
use Rattle.bf_forest.specs.Listing.{key_for, name_in, Listing, is_listing, stands_before, shown, beneath}
use Rattle.bf_forest.proofs.Applied.{file_of, same_beneath, has-beneath, entry-beneath, entry-file, leads-refl, has-set, are_paths-set, are_paths-remove}
use Rattle.bf_forest.proofs.Applied.{path_cons, two_keys, key_not, keys_differ, shown_as}
use Rattle.bf_forest.specs.Slots.{put, without, directory_key}
use Rattle.bf_forest.proofs.Entered.{at-put, at-without, all-without, may_stand_by, listing-put, listing-without, cleared, others_named}
use Rattle.bf_forest.proofs.Keys.{name_bytes, first_component, name_in-plain, name_in-slash, apart_by_first, not_same}
use Rattle.bf_forest.proofs.Listed.{at_key, listing-first, listing-rest, has-shown, are_paths-shown, is_tree-shown}
use Rattle.bf_forest.proofs.Members.{has, are_paths, has-filter, or_first, or_second}
use Rattle.bf_forest.proofs.Named.{names_differ}
use Rattle.bf_forest.proofs.Ordered.{is_same-refl, is_tree-set, is_tree-filter, leads-behind}
use Rattle.bf_forest.proofs.Sameness.{same_name}

-- ---- look-ups after a change

at_put_same : (k : List ℕ) (v : Files) (es : Listing) → at_key k (put es k v) ≡ v
at_put_same k v es = at-put k k v es ∙ cond-true _ _ _ (is_same-refl k)

at_put_other : (q k : List ℕ) (v : Files) (es : Listing) → is_same q k ≡ false → at_key q (put es k v) ≡ at_key q es
at_put_other q k v es h = at-put q k v es ∙ cond-false _ _ _ h

at_gone : (k : List ℕ) (es : Listing) → is_listing es ≡ true → at_key k (without k es) ≡ []
at_gone k es h = at-without k k es h ∙ cond-true _ _ _ (is_same-refl k)

pub at_left : (q k : List ℕ) (es : Listing) → is_listing es ≡ true → is_same q k ≡ false → at_key q (without k es) ≡ at_key q es
at_left q k es h other = at-without q k es h ∙ cond-false _ _ _ other

-- ---- the two keys of a name

both_names : (n : List ℕ) → is_component n ≡ true → name_in (directory_key n) ≡ name_in n
both_names n c = name_in-slash n ∙ sym (name_in-plain n (name_bytes n c))

swap : {A B : Type 0} → A ⊎ B → B ⊎ A
swap (inl a) = inr a
swap (inr b) = inl b

-- the key of the file may stand by all, where that of the directory is gone, and the other way round
file_cleared : (n : List ℕ) (es : Listing) → is_component n ≡ true → is_listing es ≡ true
    → list_all (λ o. may_stand_by n o.0) (without (directory_key n) es) ≡ true
file_cleared n es c h =
    cleared n (directory_key n) es (both_names n c) (λ q e. two_keys n c q (e ∙ name_in-plain n (name_bytes n c))) h

directory_cleared : (n : List ℕ) (es : Listing) → is_component n ≡ true → is_listing es ≡ true
    → list_all (λ o. may_stand_by (directory_key n) o.0) (without n es) ≡ true
directory_cleared n es c h =
    cleared (directory_key n) n es (sym (both_names n c)) (λ q e. swap (two_keys n c q (e ∙ name_in-slash n))) h

-- ---- paths with another first component

keep_bits : (h a s : Bool) → a ≡ true → s ≡ false → ((h && a) || s) ≡ h
keep_bits h a s p q = ap (λ v. (h && v) || s) p ∙ ap (λ v. (h && true) || v) q ∙ both h
  where
    both : (b : Bool) → ((b && true) || false) ≡ b
    both true = refl
    both false = refl

drop_bits : (h a s : Bool) → a ≡ false → s ≡ false → ((h && a) || s) ≡ false
drop_bits h a s p q = ap (λ v. (h && v) || s) p ∙ ap (λ v. (h && false) || v) q ∙ both h
  where
    both : (b : Bool) → ((b && false) || false) ≡ false
    both true = refl
    both false = refl

and_true : (h a : Bool) → a ≡ true → (h && a) ≡ h
and_true true a p = p
and_true false a p = refl

new_bits : (h a s : Bool) → a ≡ false → ((h && a) || s) ≡ (s || false)
new_bits h a s p = ap (λ v. (h && v) || s) p ∙ both h s
  where
    both : (b c : Bool) → ((b && false) || c) ≡ (c || false)
    both true true = refl
    both true false = refl
    both false true = refl
    both false false = refl

set_other : (n : List ℕ) (t : List (List ℕ)) (m : Mode) (o : Oid) (es : Listing) → is_listing es ≡ true → is_path (n ∷ t) ≡ true
    → (a : List ℕ) (ar : List (List ℕ)) (k : Mode) (l : Oid) → is_path (a ∷ ar) ≡ true → is_same a n ≡ false
    → has (file_of (a ∷ ar) k l) (set_file (n ∷ t) m o (shown es)) ≡ has (file_of (a ∷ ar) k l) (at_key (key_for (a ∷ ar)) es)
set_other n t m o es h p a ar k l v other =
    let x = file_of (a ∷ ar) k l in
    let same : is_same_file x (file_of (n ∷ t) m o) ≡ false =
    ap (λ b. ((b && pointwise is_same ar t) && is_same (mode_text k) (mode_text m)) && is_same l.0 o.0) other in
    has-set (n ∷ t) m o (shown es) x p v
    ∙ keep_bits (has x (shown es)) (are_apart (a ∷ ar) (n ∷ t)) (is_same_file x (file_of (n ∷ t) m o)) (apart_by_first a n ar t other) same
    ∙ has-shown es x h

remove_other : (n : List ℕ) (t : List (List ℕ)) (es : Listing) → is_listing es ≡ true
    → (a : List ℕ) (ar : List (List ℕ)) (k : Mode) (l : Oid) → is_same a n ≡ false
    → has (file_of (a ∷ ar) k l) (remove_file (n ∷ t) (shown es)) ≡ has (file_of (a ∷ ar) k l) (at_key (key_for (a ∷ ar)) es)
remove_other n t es h a ar k l other =
    let x = file_of (a ∷ ar) k l in
    has-filter x (is_in_part Outside (n ∷ t)) (shown es)
    ∙ and_true (has x (shown es)) (not (leads_to (n ∷ t) (a ∷ ar))) (ap (λ v. not (v && leads_to t ar)) (not_same a n other)) ∙ has-shown es x h

-- ---- a file is set here

abbrev pub with_file : List ℕ → Mode → Oid → Listing → Listing
with_file n m o es = put (without (directory_key n) es) n (file_of (n ∷ []) m o ∷ [])

pub listing-file : (n : List ℕ) (m : Mode) (o : Oid) (es : Listing) → is_component n ≡ true → is_listing es ≡ true → is_listing (with_file n m o es) ≡ true
listing-file n m o es c h =
    listing-put n (file_of (n ∷ []) m o ∷ []) (without (directory_key n) es) (listing-without (directory_key n) es h) (entry-file n m o c)
    (file_cleared n es c h)

pub shown-file : (n : List ℕ) (m : Mode) (o : Oid) (es : Listing) → is_path (n ∷ []) ≡ true → is_listing es ≡ true
    → shown (with_file n m o es) ≡ set_file (n ∷ []) m o (shown es)
shown-file n m o es p h =
    let c = first_component n [] p in
    let new = file_of (n ∷ []) m o in
    let less = without (directory_key n) es in
    shown_as (with_file n m o es) (set_file (n ∷ []) m o (shown es)) n (listing-file n m o es c h) (is_tree-set (n ∷ []) m o (shown es) (is_tree-shown es h))
    (are_paths-set (n ∷ []) m o (shown es) p (are_paths-shown es h))
    (λ a ar k l v other.
    set_other n [] m o es h p a ar k l v other
    ∙ sym (ap (has (file_of (a ∷ ar) k l))
    (at_put_other (key_for (a ∷ ar)) n (new ∷ []) less (key_not a n n ar (first_component a ar v) other (name_in-plain n (name_bytes n c)))
    ∙ at_left (key_for (a ∷ ar)) (directory_key n) es h (key_not a n (directory_key n) ar (first_component a ar v) other (name_in-slash n)))))
    (λ k l.
    let x = file_of (n ∷ []) k l in
    has-set (n ∷ []) m o (shown es) x p p
    ∙ new_bits (has x (shown es)) (are_apart (n ∷ []) (n ∷ [])) (is_same_file x new) (ap (λ v. not v && not (leads_to (n ∷ []) (n ∷ []))) (leads-refl (n ∷ [])))
    ∙ sym (ap (has x) (at_put_same n (new ∷ []) less)))
    (λ next rest k l v.
    let x = file_of (n ∷ next ∷ rest) k l in
    has-set (n ∷ []) m o (shown es) x p v
    ∙ drop_bits (has x (shown es)) (are_apart (n ∷ next ∷ rest) (n ∷ [])) (is_same_file x new)
    (and_right (not (leads_to (n ∷ next ∷ rest) (n ∷ []))) _ (ap not (leads-behind n [] (next ∷ rest))))
    (and_left _ (is_same l.0 o.0) (and_left _ (is_same (mode_text k) (mode_text m)) (and_right (is_same n n) false refl)))
    ∙ sym (ap (has x) (at_put_other (directory_key n) n (new ∷ []) less (not_same n (directory_key n) (keys_differ n c)) ∙ at_gone (directory_key n) es h)))

-- ---- a file is set in a directory

-- the files of an entry are those in a directory, seen from outside
abbrev pub IsInside : List ℕ → Listing → Files → Type 0
IsInside n es inside = (next : List ℕ) (rest : List (List ℕ)) (m : Mode) (o : Oid)
    → has (file_of (n ∷ next ∷ rest) m o) (at_key (directory_key n) es) ≡ has (file_of (next ∷ rest) m o) inside

abbrev pub with_inside : List ℕ → Files → Listing → Listing
with_inside n files es = put (without (directory_key n) (without n es)) (directory_key n) (beneath n files)

pub listing-inside : (n : List ℕ) (files : Files) (es : Listing) → is_component n ≡ true → is_listing es ≡ true → are_paths files ≡ true → is_tree files ≡ true
    → is_listing (with_inside n files es) ≡ true
listing-inside n files es c h p t =
    listing-put (directory_key n) (beneath n files) (without (directory_key n) (without n es))
    (listing-without (directory_key n) (without n es) (listing-without n es h))
    (entry-beneath n files c p t) (all-without (λ o. may_stand_by (directory_key n) o.0) (directory_key n) (without n es) (directory_cleared n es c h))

pub path_rest : (n p : List ℕ) (r : List (List ℕ)) → is_path (n ∷ p ∷ r) ≡ true → is_path (p ∷ r) ≡ true
path_rest n p r h =
    let all = (and_parts (is_component n) _ (and_parts _ (is_component n && list_all is_component (p ∷ r)) h).1).1 in
    path_cons p r (and_parts (is_component p) _ all).0 (and_parts (is_component p) (list_all is_component r) all).1

pub shown-inside : (n p : List ℕ) (r : List (List ℕ)) (m : Mode) (o : Oid) (es : Listing) (inside : Files) → is_path (n ∷ p ∷ r) ≡ true → is_listing es ≡ true
    → are_paths inside ≡ true → is_tree inside ≡ true → IsInside n es inside
    → shown (with_inside n (set_file (p ∷ r) m o inside) es) ≡ set_file (n ∷ p ∷ r) m o (shown es)
shown-inside n p r m o es inside hp h paths tree is =
    let c = first_component n (p ∷ r) hp in
    let q = path_rest n p r hp in
    let path = n ∷ p ∷ r in
    let new = file_of path m o in
    let made = set_file (p ∷ r) m o inside in
    let less = without (directory_key n) (without n es) in
    let fewer = listing-without n es h in
    shown_as (with_inside n made es) (set_file path m o (shown es)) n
    (listing-inside n made es c h (are_paths-set (p ∷ r) m o inside q paths) (is_tree-set (p ∷ r) m o inside tree))
    (is_tree-set path m o (shown es) (is_tree-shown es h))
    (are_paths-set path m o (shown es) hp (are_paths-shown es h))
    (λ a ar k l v other.
    set_other n (p ∷ r) m o es h hp a ar k l v other
    ∙ sym (ap (has (file_of (a ∷ ar) k l))
    (at_put_other (key_for (a ∷ ar)) (directory_key n) (beneath n made) less (key_not a n (directory_key n) ar (first_component a ar v) other (name_in-slash n))
    ∙ at_left (key_for (a ∷ ar)) (directory_key n) (without n es) fewer (key_not a n (directory_key n) ar (first_component a ar v) other (name_in-slash n))
    ∙ at_left (key_for (a ∷ ar)) n es h (key_not a n n ar (first_component a ar v) other (name_in-plain n (name_bytes n c))))))
    (λ k l.
    let x = file_of (n ∷ []) k l in
    has-set path m o (shown es) x hp (path_cons n [] c refl)
    ∙ drop_bits (has x (shown es)) (are_apart (n ∷ []) path) (is_same_file x new)
    (ap (λ v. not v && not (leads_to path (n ∷ []))) (leads-behind n [] (p ∷ r)))
    (and_left _ (is_same l.0 o.0) (and_left _ (is_same (mode_text k) (mode_text m)) (and_right (is_same n n) false refl)))
    ∙ sym (ap (has x) (at_put_other n (directory_key n) (beneath n made) less (keys_differ n c) ∙ at_left n (directory_key n) (without n es) fewer
    (keys_differ n c) ∙ at_gone n es h)))
    (λ next rest k l v.
    let x = file_of (n ∷ next ∷ rest) k l in
    let y = file_of (next ∷ rest) k l in
    let apart : are_apart (n ∷ next ∷ rest) path ≡ are_apart (next ∷ rest) (p ∷ r) =
    ap (λ b. not b && not (leads_to path (n ∷ next ∷ rest))) (leads-behind n (next ∷ rest) (p ∷ r))
    ∙ ap (λ b. not (leads_to (next ∷ rest) (p ∷ r)) && not b) (leads-behind n (p ∷ r) (next ∷ rest)) in
    has-set path m o (shown es) x hp v
    ∙ ap (λ b. (b && are_apart (n ∷ next ∷ rest) path) || is_same_file x new) (has-shown es x h ∙ is next rest k l)
    ∙ ap (λ b. (has y inside && b) || is_same_file x new) apart
    ∙ ap (λ b. (has y inside && are_apart (next ∷ rest) (p ∷ r)) || b) (same_beneath n (next ∷ rest) k l (file_of (p ∷ r) m o))
    ∙ sym (has-set (p ∷ r) m o inside y q (path_rest n next rest v))
    ∙ sym (has-beneath n (next ∷ rest) k l made)
    ∙ sym (ap (has x) (at_put_same (directory_key n) (beneath n made) less)))

-- ---- a file or a directory is removed here

abbrev pub without_both : List ℕ → Listing → Listing
without_both n es = without (directory_key n) (without n es)

pub shown-gone : (n : List ℕ) (es : Listing) → is_path (n ∷ []) ≡ true → is_listing es ≡ true → shown (without_both n es) ≡ remove_file (n ∷ []) (shown es)
shown-gone n es p h =
    let c = first_component n [] p in
    let fewer = listing-without n es h in
    shown_as (without_both n es) (remove_file (n ∷ []) (shown es)) n (listing-without (directory_key n) (without n es) fewer)
    (is_tree-filter (is_in_part Outside (n ∷ [])) (shown es) (is_tree-shown es h)) (are_paths-remove (n ∷ []) (shown es) (are_paths-shown es h))
    (λ a ar k l v other.
    remove_other n [] es h a ar k l other
    ∙ sym (ap (has (file_of (a ∷ ar) k l))
    (at_left (key_for (a ∷ ar)) (directory_key n) (without n es) fewer (key_not a n (directory_key n) ar (first_component a ar v) other (name_in-slash n))
    ∙ at_left (key_for (a ∷ ar)) n es h (key_not a n n ar (first_component a ar v) other (name_in-plain n (name_bytes n c))))))
    (λ k l.
    let x = file_of (n ∷ []) k l in
    has-filter x (is_in_part Outside (n ∷ [])) (shown es)
    ∙ and_right (has x (shown es)) _ (ap not (leads-refl (n ∷ [])))
    ∙ sym (ap (has x) (at_left n (directory_key n) (without n es) fewer (keys_differ n c) ∙ at_gone n es h)))
    (λ next rest k l v.
    let x = file_of (n ∷ next ∷ rest) k l in
    has-filter x (is_in_part Outside (n ∷ [])) (shown es)
    ∙ and_right (has x (shown es)) _ (ap not (leads-behind n [] (next ∷ rest)))
    ∙ sym (ap (has x) (at_gone (directory_key n) (without n es) fewer)))

-- ---- something is removed in a directory

abbrev pub with_less : List ℕ → Files → Listing → Listing
with_less n files es = put (without (directory_key n) es) (directory_key n) (beneath n files)

remove_here : (n p : List ℕ) (r : List (List ℕ)) (es : Listing) (k : Mode) (l : Oid) → is_listing es ≡ true
    → has (file_of (n ∷ []) k l) (remove_file (n ∷ p ∷ r) (shown es)) ≡ has (file_of (n ∷ []) k l) (at_key n es)
remove_here n p r es k l h =
    let x = file_of (n ∷ []) k l in
    has-filter x (is_in_part Outside (n ∷ p ∷ r)) (shown es)
    ∙ and_true (has x (shown es)) (not (leads_to (n ∷ p ∷ r) (n ∷ []))) (ap not (leads-behind n (p ∷ r) [])) ∙ has-shown es x h

pub shown-none : (n p : List ℕ) (r : List (List ℕ)) (es : Listing) → is_path (n ∷ p ∷ r) ≡ true → is_listing es ≡ true → IsInside n es []
    → shown (without (directory_key n) es) ≡ remove_file (n ∷ p ∷ r) (shown es)
shown-none n p r es hp h is =
    let c = first_component n (p ∷ r) hp in
    let path = n ∷ p ∷ r in
    shown_as (without (directory_key n) es) (remove_file path (shown es)) n (listing-without (directory_key n) es h)
    (is_tree-filter (is_in_part Outside path) (shown es) (is_tree-shown es h)) (are_paths-remove path (shown es) (are_paths-shown es h))
    (λ a ar k l v other.
    remove_other n (p ∷ r) es h a ar k l other
    ∙ sym (ap (has (file_of (a ∷ ar) k l))
    (at_left (key_for (a ∷ ar)) (directory_key n) es h (key_not a n (directory_key n) ar (first_component a ar v) other (name_in-slash n)))))
    (λ k l. remove_here n p r es k l h ∙ sym (ap (has (file_of (n ∷ []) k l)) (at_left n (directory_key n) es h (keys_differ n c))))
    (λ next rest k l v.
    let x = file_of (n ∷ next ∷ rest) k l in
    has-filter x (is_in_part Outside path) (shown es)
    ∙ and_left (has x (shown es)) (is_in_part Outside path x) (has-shown es x h ∙ is next rest k l)
    ∙ sym (ap (has x) (at_gone (directory_key n) es h)))

-- ---- something is removed in a directory that is there

of_key : (p : List ℕ → Bool) (key : List ℕ) (es : Listing) → list_all (λ e. p e.0) es ≡ true → list_any (λ e. is_same key e.0) es ≡ true → p key ≡ true
of_key p key [] h k = absurd (false≢true k)
of_key p key (e ∷ es) h k =
    elim (or_cases (is_same key e.0) _ k) [
      | inl here ↦ ap p (same_name key e.0 here) ∙ (and_parts _ _ h).0
      | inr later ↦ of_key p key es (and_parts (p e.0) _ h).1 later
    ]

-- the key of an entry may stand by all
stands : (key : List ℕ) (es : Listing) → is_listing es ≡ true → list_any (λ e. is_same key e.0) es ≡ true → list_all (λ o. may_stand_by key o.0) es ≡ true
stands key [] h k = refl
stands key (e ∷ es) h k =
    let first = listing-first e es h in
    elim (or_cases (is_same key e.0) _ k) [
      | inl here ↦
          let same : e.0 ≡ key = sym (same_name key e.0 here) in
          and_from _ _ (or_first _ _ here) (others_named key key es refl (ap (λ v. list_all (λ o. stands_before v o.0) es) (sym same) ∙ first))
      | inr later ↦
          let before : stands_before e.0 key ≡ true = of_key (stands_before e.0) key es first later in
          and_from _ _
          (or_second (is_same key e.0) _ (not_from_false _ (not_same (name_in e.0) (name_in key) (names_differ e.0 key before))))
          (stands key es (listing-rest e es h) later)
    ]

pub listing-less : (n : List ℕ) (files : Files) (es : Listing) → is_component n ≡ true → is_listing es ≡ true → are_paths files ≡ true → is_tree files ≡ true
    → list_any (λ e. is_same (directory_key n) e.0) es ≡ true → is_listing (with_less n files es) ≡ true
listing-less n files es c h p t there =
    listing-put (directory_key n) (beneath n files) (without (directory_key n) es) (listing-without (directory_key n) es h) (entry-beneath n files c p t)
    (all-without (λ o. may_stand_by (directory_key n) o.0) (directory_key n) es (stands (directory_key n) es h there))

pub shown-less : (n p : List ℕ) (r : List (List ℕ)) (es : Listing) (inside : Files) → is_path (n ∷ p ∷ r) ≡ true → is_listing es ≡ true
    → are_paths inside ≡ true → is_tree inside ≡ true → IsInside n es inside → list_any (λ e. is_same (directory_key n) e.0) es ≡ true
    → shown (with_less n (remove_file (p ∷ r) inside) es) ≡ remove_file (n ∷ p ∷ r) (shown es)
shown-less n p r es inside hp h paths tree is there =
    let c = first_component n (p ∷ r) hp in
    let path = n ∷ p ∷ r in
    let made = remove_file (p ∷ r) inside in
    let less = without (directory_key n) es in
    shown_as (with_less n made es) (remove_file path (shown es)) n
    (listing-less n made es c h (are_paths-remove (p ∷ r) inside paths) (is_tree-filter (is_in_part Outside (p ∷ r)) inside tree) there)
    (is_tree-filter (is_in_part Outside path) (shown es) (is_tree-shown es h)) (are_paths-remove path (shown es) (are_paths-shown es h))
    (λ a ar k l v other.
    remove_other n (p ∷ r) es h a ar k l other
    ∙ sym (ap (has (file_of (a ∷ ar) k l))
    (at_put_other (key_for (a ∷ ar)) (directory_key n) (beneath n made) less (key_not a n (directory_key n) ar (first_component a ar v) other (name_in-slash n))
    ∙ at_left (key_for (a ∷ ar)) (directory_key n) es h (key_not a n (directory_key n) ar (first_component a ar v) other (name_in-slash n)))))
    (λ k l.
    remove_here n p r es k l h
    ∙ sym (ap (has (file_of (n ∷ []) k l)) (at_put_other n (directory_key n) (beneath n made) less (keys_differ n c) ∙ at_left n (directory_key n) es h
    (keys_differ n c))))
    (λ next rest k l v.
    let x = file_of (n ∷ next ∷ rest) k l in
    let y = file_of (next ∷ rest) k l in
    has-filter x (is_in_part Outside path) (shown es)
    ∙ ap (λ b. b && not (leads_to path (n ∷ next ∷ rest))) (has-shown es x h ∙ is next rest k l)
    ∙ ap (λ b. has y inside && not b) (leads-behind n (p ∷ r) (next ∷ rest))
    ∙ sym (has-filter y (is_in_part Outside (p ∷ r)) inside)
    ∙ sym (has-beneath n (next ∷ rest) k l made)
    ∙ sym (ap (has x) (at_put_same (directory_key n) (beneath n made) less)))
