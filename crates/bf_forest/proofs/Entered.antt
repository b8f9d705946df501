-- An entry that is put among the entries of a directory, or taken from them.
use Rattle.std.proofs.Common.{◌≡◌, ℕ, Bool, true, false, not, ◌==◌, ◌||◌, cond, if◌then◌else◌, List, [], ◌∷◌, ◌++◌, refl, sym, ap, ◌∙◌, ◌⊎◌, inl, inr}
use Rattle.std.specs.Ordering.{nat_cmp, is_lt, is_eq, ordering_reverse, match_ordering}
use Rattle.std.specs.declared.cmp.Ordering.{Ordering}
use Rattle.std.specs.declared.cmp.Ordering.TheVariants.{Less, Equal, Greater}
use Rattle.std.specs.Cmp.Lexicographic.{slice_cmp, nat_list_cmp_total}
use Rattle.std.specs.List.{list_all}
use Rattle.std.proofs.lemmas.Bool.{false≢true, and_parts, and_from, cases_Bool, cond-true, cond-false, not_from_false, or_cases, not-true, eqb-true}
use Rattle.std.proofs.lemmas.Map.Lookups.{exact_bytes}
use Rattle.bf_forest.specs.Files.{Files, is_same}
use Rattle.bf_forest.specs.Listing.{name_in, Listing, is_entry, stands_before, is_listing}
use Rattle.bf_forest.specs.Slots.{put, without}
use Rattle.bf_forest.proofs.Keys.{cmp-same, not_same}
use Rattle.bf_forest.proofs.Listed.{at_key, none_behind, listing-entry, listing-first, listing-rest, listing-cons}
use Rattle.bf_forest.proofs.Members.{or_first, or_second}
use Rattle.bf_forest.proofs.Ordered.{is_same-refl, less}
use Rattle.bf_forest.proofs.Sameness.{same_name}

-- ---- look-ups

differ : (a b : List ℕ) (o : Ordering) → slice_cmp nat_cmp a b ≡ o → (o ≡ Equal → ⊥) → is_same a b ≡ false
differ a b o e h =
    elim (cases_Bool (is_same a b)) [
      | inl same ↦ absurd (h (sym e ∙ ap (slice_cmp nat_cmp a) (sym (same_name a b same)) ∙ cmp-same a))
      | inr other ↦ other
    ]

pub at-put : (q key : List ℕ) (files : Files) (es : Listing) → at_key q (put es key files) ≡ (if is_same q key then files else at_key q es)
at-put q key files [] = refl
at-put q key files (e ∷ es) =
    let more = at-put q key files es in
    let rest = if is_same q e.0 then e.1 else at_key q es in
    let by : (o : Ordering) → slice_cmp nat_cmp key e.0 ≡ o
    → at_key q (match_ordering o ((key, files) ∷ e ∷ es) ((e.0, files) ∷ es) (e ∷ put es key files)) ≡ (if is_same q key then files else rest) =
    λ o. elim o as (λ p. slice_cmp nat_cmp key e.0 ≡ p
    → at_key q (match_ordering p ((key, files) ∷ e ∷ es) ((e.0, files) ∷ es) (e ∷ put es key files)) ≡ (if is_same q key then files else rest)) [
      | Less ↦ λ h. refl
      | Equal ↦ λ h.
          let same : e.0 ≡ key = sym (exact_bytes key e.0 h) in
          ap (λ k. if is_same q k then files else at_key q es) same ∙ (elim (cases_Bool (is_same q key)) [
            | inl here ↦ cond-true _ _ _ here ∙ sym (cond-true _ _ _ here)
            | inr other ↦ cond-false _ _ _ other ∙ sym (cond-false _ _ _ other ∙ cond-false _ _ _ (ap (is_same q) same ∙ other))
          ])
      | Greater ↦ λ h. elim (cases_Bool (is_same q e.0)) [
        | inl here ↦
            let other : is_same q key ≡ false =
            ap (λ k. is_same k key) (same_name q e.0 here) ∙ not_same key e.0 (differ key e.0 Greater h (λ l. cc)) in
            cond-true _ _ _ here ∙ sym (cond-false _ _ _ other ∙ cond-true _ _ _ here)
        | inr there ↦ cond-false _ _ _ there ∙ more ∙ ap (λ v. if is_same q key then files else v) (sym (cond-false _ _ _ there))
      ]
    ] in
    by (slice_cmp nat_cmp key e.0) refl

pub equal_is : (o : Ordering) → is_eq o ≡ true → o ≡ Equal
equal_is Less h = absurd (false≢true h)
equal_is Equal h = refl
equal_is Greater h = absurd (false≢true h)

pub not_equal : (key q : List ℕ) → is_eq (slice_cmp nat_cmp key q) ≡ false → is_same key q ≡ false
not_equal key q h =
    elim (cases_Bool (is_same key q)) [
      | inl same ↦ absurd (false≢true (sym h ∙ ap (λ k. is_eq (slice_cmp nat_cmp key k)) (sym (same_name key q same)) ∙ ap is_eq (cmp-same key)))
      | inr other ↦ other
    ]

pub at-without : (q key : List ℕ) (es : Listing) → is_listing es ≡ true → at_key q (without key es) ≡ (if is_same q key then [] else at_key q es)
at-without q key [] h =
    elim (is_same q key) as (λ b. ◌≡◌ {A = Files} [] (if b then [] else [])) [
      | true ↦ refl
      | false ↦ refl
    ]
at-without q key (e ∷ es) h =
    let more = at-without q key es (listing-rest e es h) in
    let rest = if is_same q e.0 then e.1 else at_key q es in
    let by : (b : Bool) → is_eq (slice_cmp nat_cmp key e.0) ≡ b → at_key q (cond b es (e ∷ without key es)) ≡ (if is_same q key then [] else rest) =
    λ b. elim b as (λ v. is_eq (slice_cmp nat_cmp key e.0) ≡ v → at_key q (cond v es (e ∷ without key es)) ≡ (if is_same q key then [] else rest)) [
      | true ↦ λ k.
          let same : key ≡ e.0 = exact_bytes key e.0 (equal_is _ k) in
          elim (cases_Bool (is_same q key)) [
            | inl here ↦
                ap (λ v. at_key v es) (same_name q key here ∙ same) ∙ none_behind e.0 es (listing-first e es h) ∙ sym (cond-true _ _ _ here)
            | inr other ↦ sym (cond-false _ _ _ other ∙ cond-false _ _ _ (ap (is_same q) (sym same) ∙ other))
          ]
      | false ↦ λ k. elim (cases_Bool (is_same q e.0)) [
        | inl here ↦
            let other : is_same q key ≡ false = ap (λ v. is_same v key) (same_name q e.0 here) ∙ not_same key e.0 (not_equal key e.0 k) in
            cond-true _ _ _ here ∙ sym (cond-false _ _ _ other ∙ cond-true _ _ _ here)
        | inr there ↦ cond-false _ _ _ there ∙ more ∙ ap (λ v. if is_same q key then [] else v) (sym (cond-false _ _ _ there))
      ]
    ] in
    by (is_eq (slice_cmp nat_cmp key e.0)) refl

-- ---- what holds of each entry

pub all-put : {X : Type 0} (p : List ℕ × X → Bool) (key : List ℕ) (x : X) (es : List (List ℕ × X)) → ((q : List ℕ) → q ≡ key → p (q, x) ≡ true)
    → list_all p es ≡ true → list_all p (put es key x) ≡ true
all-put p key x [] new h = and_from _ _ (new key refl) refl
all-put p key x (e ∷ es) new h =
    let here = (and_parts _ _ h).0 in
    let rest = (and_parts _ _ h).1 in
    let by : (o : Ordering) → slice_cmp nat_cmp key e.0 ≡ o → list_all p (match_ordering o ((key, x) ∷ e ∷ es) ((e.0, x) ∷ es) (e ∷ put es key x)) ≡ true =
    λ o. elim o as (λ v. slice_cmp nat_cmp key e.0 ≡ v → list_all p (match_ordering v ((key, x) ∷ e ∷ es) ((e.0, x) ∷ es) (e ∷ put es key x)) ≡ true) [
      | Less ↦ λ k. and_from _ _ (new key refl) h
      | Equal ↦ λ k. and_from _ _ (new e.0 (sym (exact_bytes key e.0 k))) rest
      | Greater ↦ λ k. and_from _ _ here (all-put p key x es new rest)
    ] in
    by (slice_cmp nat_cmp key e.0) refl

pub all-without : {X : Type 0} (p : List ℕ × X → Bool) (key : List ℕ) (es : List (List ℕ × X)) → list_all p es ≡ true → list_all p (without key es) ≡ true
all-without p key [] h = refl
all-without p key (e ∷ es) h =
    elim (is_eq (slice_cmp nat_cmp key e.0)) as (λ b. list_all p (cond b es (e ∷ without key es)) ≡ true) [
      | true ↦ (and_parts _ _ h).1
      | false ↦ and_from _ _ (and_parts _ _ h).0 (all-without p key es (and_parts _ _ h).1)
    ]

-- ---- the entries stay those of one directory

-- a key is that of another name, or the same
abbrev pub may_stand_by : List ℕ → List ℕ → Bool
may_stand_by key other = is_same key other || not (is_same (name_in key) (name_in other))

other_name : (key q : List ℕ) → may_stand_by key q ≡ true → is_same key q ≡ false → not (is_same (name_in key) (name_in q)) ≡ true
other_name key q h k =
    elim (or_cases (is_same key q) _ h) [
      | inl same ↦ absurd (false≢true (sym k ∙ same))
      | inr names ↦ names
    ]

less_before : (key q : List ℕ) → slice_cmp nat_cmp key q ≡ Less → may_stand_by key q ≡ true → stands_before key q ≡ true
less_before key q h k = and_from _ _ (ap is_lt h) (other_name key q k (differ key q Less h (λ l. cc)))

all_behind : (key : List ℕ) (e : List ℕ × Files) (es : Listing) → slice_cmp nat_cmp key e.0 ≡ Less → list_all (λ o. stands_before e.0 o.0) es ≡ true
    → list_all (λ o. may_stand_by key o.0) es ≡ true → list_all (λ o. stands_before key o.0) es ≡ true
all_behind key e [] h k l = refl
all_behind key e (o ∷ es) h k l =
    let next = less _ (and_parts (is_lt (slice_cmp nat_cmp e.0 o.0)) _ (and_parts _ _ k).0).0 in
    and_from _ _ (less_before key o.0 (nat_list_cmp_total.trans key e.0 o.0 h next) (and_parts _ _ l).0)
    (all_behind key e es h (and_parts _ _ k).1 (and_parts _ _ l).1)

greater_before : (key q : List ℕ) → slice_cmp nat_cmp key q ≡ Greater → may_stand_by key q ≡ true → stands_before q key ≡ true
greater_before key q h k =
    let back : slice_cmp nat_cmp q key ≡ Less = nat_list_cmp_total.antisymm q key ∙ ap ordering_reverse h in
    and_from _ _ (ap is_lt back)
    (not_from_false _ (not_same (name_in key) (name_in q) (not-true _ (other_name key q k (differ key q Greater h (λ l. cc))))))

pub listing-put : (key : List ℕ) (files : Files) (es : Listing) → is_listing es ≡ true → is_entry key files ≡ true
    → list_all (λ o. may_stand_by key o.0) es ≡ true
    → is_listing (put es key files) ≡ true
listing-put key files [] h new l = listing-cons (key, files) [] new refl h
listing-put key files (e ∷ es) h new l =
    let entry = listing-entry e es h in
    let first = listing-first e es h in
    let rest = listing-rest e es h in
    let by : (o : Ordering) → slice_cmp nat_cmp key e.0 ≡ o
    → is_listing (match_ordering o ((key, files) ∷ e ∷ es) ((e.0, files) ∷ es) (e ∷ put es key files)) ≡ true =
    λ o. elim o as (λ v. slice_cmp nat_cmp key e.0 ≡ v
    → is_listing (match_ordering v ((key, files) ∷ e ∷ es) ((e.0, files) ∷ es) (e ∷ put es key files)) ≡ true) [
      | Less ↦ λ k. listing-cons (key, files) (e ∷ es) new
          (and_from _ _ (less_before key e.0 k (and_parts _ _ l).0) (all_behind key e es k first (and_parts _ _ l).1)) h
      | Equal ↦ λ k. listing-cons (e.0, files) es (ap (λ q. is_entry q files) (sym (exact_bytes key e.0 k)) ∙ new) first rest
      | Greater ↦ λ k. listing-cons e (put es key files) entry
          (all-put (λ o. stands_before e.0 o.0) key files es (λ q same. ap (stands_before e.0) same ∙ greater_before key e.0 k (and_parts _ _ l).0) first)
          (listing-put key files es rest new (and_parts _ _ l).1)
    ] in
    by (slice_cmp nat_cmp key e.0) refl

pub listing-without : (key : List ℕ) (es : Listing) → is_listing es ≡ true → is_listing (without key es) ≡ true
listing-without key [] h = h
listing-without key (e ∷ es) h =
    let more = listing-without key es (listing-rest e es h) in
    elim (is_eq (slice_cmp nat_cmp key e.0)) as (λ b. is_listing (cond b es (e ∷ without key es)) ≡ true) [
      | true ↦ listing-rest e es h
      | false ↦ listing-cons e (without key es) (listing-entry e es h) (all-without (λ o. stands_before e.0 o.0) key es (listing-first e es h)) more
    ]

-- ---- the two keys of a name

pub key_shape : (q : List ℕ) → (q ≡ name_in q) ⊎ (q ≡ name_in q ++ 47 ∷ [])
key_shape [] = inl refl
key_shape (b ∷ []) =
    elim (cases_Bool (b == 47)) [
      | inl slash ↦ inr (ap (λ v. v ∷ []) (eqb-true b 47 slash) ∙ sym (ap (λ v. v ++ 47 ∷ []) (cond-true _ [] (b ∷ []) slash)))
      | inr other ↦ inl (sym (cond-false _ _ _ other))
    ]
key_shape (b ∷ c ∷ rest) =
    elim (key_shape (c ∷ rest)) [
      | inl same ↦ inl (ap (λ v. b ∷ v) same)
      | inr slash ↦ inr (ap (λ v. b ∷ v) slash)
    ]

pub others_named : (key : List ℕ) (other : List ℕ) (es : Listing) → name_in other ≡ name_in key → list_all (λ o. stands_before other o.0) es ≡ true
    → list_all (λ o. may_stand_by key o.0) es ≡ true
others_named key other [] e h = refl
others_named key other (o ∷ es) e h =
    let names : not (is_same (name_in other) (name_in o.0)) ≡ true = (and_parts (is_lt (slice_cmp nat_cmp other o.0)) _ (and_parts _ _ h).0).1 in
    and_from _ _ (or_second (is_same key o.0) _ (ap (λ v. not (is_same v (name_in o.0))) (sym e) ∙ names)) (others_named key other es e (and_parts _ _ h).1)

kept_name : (key other q : List ℕ) → ((q : List ℕ) → name_in q ≡ name_in key → (q ≡ key) ⊎ (q ≡ other)) → is_eq (slice_cmp nat_cmp other q) ≡ false
    → may_stand_by key q ≡ true
kept_name key other q two k =
    elim (cases_Bool (is_same (name_in key) (name_in q))) [
      | inl names ↦ elim (two q (sym (same_name (name_in key) (name_in q) names))) [
        | inl same ↦ or_first _ _ (ap (is_same key) same ∙ is_same-refl key)
        | inr gone ↦ absurd (false≢true (sym k ∙ ap (λ v. is_eq (slice_cmp nat_cmp other v)) gone ∙ ap is_eq (cmp-same other)))
      ]
      | inr names ↦ or_second (is_same key q) _ (not_from_false _ names)
    ]

-- where the other key of its name is gone, a key may stand by all
pub cleared : (key other : List ℕ) (es : Listing) → name_in other ≡ name_in key → ((q : List ℕ) → name_in q ≡ name_in key → (q ≡ key) ⊎ (q ≡ other))
    → is_listing es ≡ true → list_all (λ o. may_stand_by key o.0) (without other es) ≡ true
cleared key other [] e two h = refl
cleared key other (o ∷ es) e two h =
    let more = cleared key other es e two (listing-rest o es h) in
    let by : (b : Bool) → is_eq (slice_cmp nat_cmp other o.0) ≡ b → list_all (λ o. may_stand_by key o.0) (cond b es (o ∷ without other es)) ≡ true =
    λ b. elim b as (λ v. is_eq (slice_cmp nat_cmp other o.0) ≡ v → list_all (λ o. may_stand_by key o.0) (cond v es (o ∷ without other es)) ≡ true) [
      | true ↦ λ k.
          let same : other ≡ o.0 = exact_bytes other o.0 (equal_is _ k) in
          others_named key other es e (ap (λ v. list_all (λ o. stands_before v o.0) es) same ∙ listing-first o es h)
      | false ↦ λ k. and_from _ _ (kept_name key other o.0 two k) more
    ] in
    by (is_eq (slice_cmp nat_cmp other o.0)) refl
