-- Changes that lie over entries.
use Rattle.std.proofs.Common.{◌≡◌, ℕ, Bool, true, false, cond, List, [], ◌∷◌, ◌++◌, Option, Some, None, refl, sym, ap, ◌∙◌}
use Rattle.std.specs.Ordering.{nat_cmp, is_lt, is_eq, ordering_reverse, match_ordering}
use Rattle.std.specs.declared.cmp.Ordering.{Ordering}
use Rattle.std.specs.declared.cmp.Ordering.TheVariants.{Less, Equal, Greater}
use Rattle.std.specs.Cmp.Lexicographic.{slice_cmp, nat_list_cmp_total}
use Rattle.std.specs.List.{list_all, AllByRecursion}
use Rattle.std.specs.List.Sorted.{IsStrictlySortedBy}
use Rattle.std.specs.Map.{keys_of}
use Rattle.std.proofs.lemmas.Bool.{false≢true, and_parts, and_from}
use Rattle.std.proofs.lemmas.Map.Lookups.{exact_bytes}
use Rattle.bf_forest.specs.Overlays.{changed_at, overlaid, is_below, do_ascend, change_entry, are_from}
use Rattle.bf_forest.specs.Slots.{put, without, found}
use Rattle.bf_forest.proofs.Entered.{equal_is, all-put, all-without}
use Rattle.bf_forest.proofs.Keys.{cmp-same}
use Rattle.bf_forest.proofs.Ordered.{less}

-- ---- keys

-- whether a look-up for a key stops at another one
is_found : List ℕ → List ℕ → Bool
is_found q key = is_eq (slice_cmp nat_cmp q key)

pub greater : (a b : List ℕ) → slice_cmp nat_cmp a b ≡ Less → slice_cmp nat_cmp b a ≡ Greater
greater a b h = nat_list_cmp_total.antisymm b a ∙ ap ordering_reverse h

pub lesser : (a b : List ℕ) → slice_cmp nat_cmp a b ≡ Greater → slice_cmp nat_cmp b a ≡ Less
lesser a b h = nat_list_cmp_total.antisymm b a ∙ ap ordering_reverse h

found_same : (q key : List ℕ) → is_found q key ≡ true → q ≡ key
unfolding is_found
found_same q key h = exact_bytes q key (equal_is _ h)

found_self : (key : List ℕ) → is_found key key ≡ true
unfolding is_found
found_self key = ap is_eq (cmp-same key)

not_both : (q a b : List ℕ) → is_found a b ≡ false → is_found q a ≡ true → is_found q b ≡ true → ⊥
not_both q a b differ h k = false≢true (sym differ ∙ ap (λ v. is_found v b) (sym (found_same q a h)) ∙ k)

module _ {X : Type 0} where
  pub below_less : (key : List ℕ) (e : List ℕ × X) (es : List (List ℕ × X)) → is_below key (e ∷ es) ≡ true → slice_cmp nat_cmp key e.0 ≡ Less
  below_less key e es h = less _ (and_parts (is_lt (slice_cmp nat_cmp key e.0)) (is_below key es) h).0

  pub below_rest : (key : List ℕ) (e : List ℕ × X) (es : List (List ℕ × X)) → is_below key (e ∷ es) ≡ true → is_below key es ≡ true
  below_rest key e es h = (and_parts (is_lt (slice_cmp nat_cmp key e.0)) (is_below key es) h).1

  pub below_more : (key other : List ℕ) (es : List (List ℕ × X)) → slice_cmp nat_cmp key other ≡ Less → is_below other es ≡ true → is_below key es ≡ true
  below_more key other [] l h = refl
  below_more key other (e ∷ es) l h =
      and_from _ _ (ap is_lt (nat_list_cmp_total.trans key other e.0 l (below_less other e es h))) (below_more key other es l (below_rest other e es h))

  -- ---- the keys ascend

  pub ascend_put : (es : List (List ℕ × X)) (key : List ℕ) (x : X) → do_ascend es ≡ true → do_ascend (put es key x) ≡ true
  ascend_put [] key x h = refl
  ascend_put (e ∷ es) key x h =
      let first = (and_parts (is_below e.0 es) (do_ascend es) h).0 in
      let rest = (and_parts (is_below e.0 es) (do_ascend es) h).1 in
      let by : (o : Ordering) → slice_cmp nat_cmp key e.0 ≡ o → do_ascend (match_ordering o ((key, x) ∷ e ∷ es) ((e.0, x) ∷ es) (e ∷ put es key x)) ≡ true =
      λ o. elim o as (λ v. slice_cmp nat_cmp key e.0 ≡ v → do_ascend (match_ordering v ((key, x) ∷ e ∷ es) ((e.0, x) ∷ es) (e ∷ put es key x)) ≡ true) [
        | Less ↦ λ l. and_from (is_below key (e ∷ es)) _ (and_from (is_lt (slice_cmp nat_cmp key e.0)) _ (ap is_lt l) (below_more key e.0 es l first)) h
        | Equal ↦ λ l. h
        | Greater ↦ λ l.
            and_from _ _ (all-put (λ o. is_lt (slice_cmp nat_cmp e.0 o.0)) key x es
            (λ q same. ap (λ v. is_lt (slice_cmp nat_cmp e.0 v)) same ∙ ap is_lt (lesser key e.0 l)) first)
            (ascend_put es key x rest)
      ] in
      by (slice_cmp nat_cmp key e.0) refl

  pub ascend_without : (key : List ℕ) (es : List (List ℕ × X)) → do_ascend es ≡ true → do_ascend (without key es) ≡ true
  ascend_without key [] h = refl
  ascend_without key (e ∷ es) h =
      let first = (and_parts (is_below e.0 es) (do_ascend es) h).0 in
      let rest = (and_parts (is_below e.0 es) (do_ascend es) h).1 in
      elim (is_eq (slice_cmp nat_cmp key e.0)) as (λ b. do_ascend (cond b es (e ∷ without key es)) ≡ true) [
        | true ↦ rest
        | false ↦ and_from _ _ (all-without (λ o. is_lt (slice_cmp nat_cmp e.0 o.0)) key es first) (ascend_without key es rest)
      ]

  pub ascend_changed : (es : List (List ℕ × X)) (key : List ℕ) (change : Option X) → do_ascend es ≡ true → do_ascend (changed_at es key change) ≡ true
  ascend_changed es key None h = ascend_without key es h
  ascend_changed es key (Some x) h = ascend_put es key x h

  pub ascend_overlaid : (es : List (List ℕ × X)) (changes : List (List ℕ × Option X)) → do_ascend es ≡ true → do_ascend (overlaid es changes) ≡ true
  ascend_overlaid es [] h = h
  ascend_overlaid es (c ∷ changes) h = ascend_changed (overlaid es changes) c.0 c.1 (ascend_overlaid es changes h)

  -- what holds of the keys of entries and changes
  pub all_overlaid : (p : List ℕ → Bool) (es : List (List ℕ × X)) (changes : List (List ℕ × Option X)) → list_all (λ e. p e.0) es ≡ true
      → list_all (λ c. p c.0) changes ≡ true
      → list_all (λ e. p e.0) (overlaid es changes) ≡ true
  all_overlaid p es [] h k = h
  all_overlaid p es (c ∷ changes) h k = go c.1 (all_overlaid p es changes h (and_parts (p c.0) _ k).1)
    where
      go : (change : Option X) → list_all (λ e. p e.0) (overlaid es changes) ≡ true → list_all (λ e. p e.0) (changed_at (overlaid es changes) c.0 change) ≡ true
      go None m = all-without (λ e. p e.0) c.0 (overlaid es changes) m
      go (Some x) m = all-put (λ e. p e.0) c.0 x (overlaid es changes) (λ q same. ap p same ∙ (and_parts (p c.0) _ k).0) m

  -- ---- what is found

  pub none_below : (key : List ℕ) (es : List (List ℕ × X)) → is_below key es ≡ true → found key es ≡ None
  none_below key [] h = refl
  none_below key (e ∷ es) h =
      ap (λ o. cond (is_eq o) (Some e.1) (found key es)) (below_less key e es h) ∙ none_below key es (below_rest key e es h)

  twice : (b : Bool) (x y r : Option X) → cond b x (cond b y r) ≡ cond b x r
  twice true x y r = refl
  twice false x y r = refl

  swap : (a b : Bool) (x y r : Option X) → (a ≡ true → b ≡ true → ⊥) → cond a x (cond b y r) ≡ cond b y (cond a x r)
  swap true true x y r h = absurd (h refl refl)
  swap true false x y r h = refl
  swap false true x y r h = refl
  swap false false x y r h = refl

  found_put : (q key : List ℕ) (x : X) (es : List (List ℕ × X)) → found q (put es key x) ≡ cond (is_found q key) (Some x) (found q es)
  unfolding is_found
  found_put q key x [] = refl
  found_put q key x (e ∷ es) =
      let rest = cond (is_eq (slice_cmp nat_cmp q e.0)) (Some e.1) (found q es) in
      let all = cond (is_eq (slice_cmp nat_cmp q key)) (Some x) rest in
      let by : (o : Ordering) → slice_cmp nat_cmp key e.0 ≡ o → found q (match_ordering o ((key, x) ∷ e ∷ es) ((e.0, x) ∷ es) (e ∷ put es key x)) ≡ all =
      λ o. elim o as (λ v. slice_cmp nat_cmp key e.0 ≡ v → found q (match_ordering v ((key, x) ∷ e ∷ es) ((e.0, x) ∷ es) (e ∷ put es key x)) ≡ all) [
        | Less ↦ λ l. refl
        | Equal ↦ λ l.
            let same : e.0 ≡ key = sym (exact_bytes key e.0 l) in
            ap (λ k. cond (is_eq (slice_cmp nat_cmp q k)) (Some x) (found q es)) same
            ∙ sym (twice (is_eq (slice_cmp nat_cmp q key)) (Some x) (Some e.1) (found q es))
            ∙ ap (λ k. cond (is_eq (slice_cmp nat_cmp q key)) (Some x) (cond (is_eq (slice_cmp nat_cmp q k)) (Some e.1) (found q es))) (sym same)
        | Greater ↦ λ l.
            ap (cond (is_eq (slice_cmp nat_cmp q e.0)) (Some e.1)) (found_put q key x es)
            ∙ swap (is_eq (slice_cmp nat_cmp q e.0)) (is_eq (slice_cmp nat_cmp q key)) (Some e.1) (Some x) (found q es)
            (λ h k. not_both q key e.0 (ap is_eq l) k h)
      ] in
      by (slice_cmp nat_cmp key e.0) refl

  found_without : (q key : List ℕ) (es : List (List ℕ × X)) → do_ascend es ≡ true → found q (without key es) ≡ cond (is_found q key) None (found q es)
  unfolding is_found
  found_without q key [] h = elim (is_eq (slice_cmp nat_cmp q key)) as (λ b. ◌≡◌ {A = Option X} None (cond b None None)) [
    | true ↦ refl
    | false ↦ refl
  ]
  found_without q key (e ∷ es) h =
      let first = (and_parts (is_below e.0 es) (do_ascend es) h).0 in
      let more = found_without q key es (and_parts (is_below e.0 es) (do_ascend es) h).1 in
      let rest = cond (is_eq (slice_cmp nat_cmp q e.0)) (Some e.1) (found q es) in
      let all = cond (is_eq (slice_cmp nat_cmp q key)) None rest in
      let gone : key ≡ e.0 → (b : Bool) → is_eq (slice_cmp nat_cmp q key) ≡ b → found q es ≡ cond b None rest =
      λ same b. elim b as (λ v. is_eq (slice_cmp nat_cmp q key) ≡ v → found q es ≡ cond v None rest) [
        | true ↦ λ k. ap (λ v. found v es) (exact_bytes q key (equal_is _ k) ∙ same) ∙ none_below e.0 es first
        | false ↦ λ k. sym (ap (λ v. cond v (Some e.1) (found q es)) (ap (λ v. is_eq (slice_cmp nat_cmp q v)) (sym same) ∙ k))
      ] in
      let by : (b : Bool) → is_eq (slice_cmp nat_cmp key e.0) ≡ b → found q (cond b es (e ∷ without key es)) ≡ all =
      λ b. elim b as (λ v. is_eq (slice_cmp nat_cmp key e.0) ≡ v → found q (cond v es (e ∷ without key es)) ≡ all) [
        | true ↦ λ k. gone (exact_bytes key e.0 (equal_is _ k)) (is_eq (slice_cmp nat_cmp q key)) refl
        | false ↦ λ k.
            ap (cond (is_eq (slice_cmp nat_cmp q e.0)) (Some e.1)) more
            ∙ swap (is_eq (slice_cmp nat_cmp q e.0)) (is_eq (slice_cmp nat_cmp q key)) (Some e.1) None (found q es) (λ m n. not_both q key e.0 k n m)
      ] in
      by (is_eq (slice_cmp nat_cmp key e.0)) refl

  found_changed : (q key : List ℕ) (change : Option X) (es : List (List ℕ × X)) → do_ascend es ≡ true
      → found q (changed_at es key change) ≡ cond (is_found q key) change (found q es)
  found_changed q key None es h = found_without q key es h
  found_changed q key (Some x) es h = found_put q key x es

  -- a change, or else the entry below it
  abbrev pub change_or : Option (Option X) → Option X → Option X
  change_or None entry = entry
  change_or (Some change) entry = change

  pub found_overlaid : (q : List ℕ) (es : List (List ℕ × X)) (changes : List (List ℕ × Option X)) → do_ascend es ≡ true
      → found q (overlaid es changes) ≡ change_or (found q changes) (found q es)
  unfolding is_found
  found_overlaid q es [] h = refl
  found_overlaid q es (c ∷ changes) h =
      let more = found_overlaid q es changes h in
      found_changed q c.0 c.1 (overlaid es changes) (ascend_overlaid es changes h)
      ∙ (elim (is_eq (slice_cmp nat_cmp q c.0)) as (λ b. cond b c.1 (found q (overlaid es changes)) ≡ change_or (cond b (Some c.1) (found q changes))
      (found q es)) [
        | true ↦ refl
        | false ↦ more
      ])

  -- ---- entries with ascending keys are what is found in them

  found_first : (e : List ℕ × X) (es : List (List ℕ × X)) → found e.0 (e ∷ es) ≡ Some e.1
  found_first e es = ap (λ o. cond (is_eq o) (Some e.1) (found e.0 es)) (cmp-same e.0)

  pair_same : (x y : List ℕ × X) → x.0 ≡ y.0 → x.1 ≡ y.1 → x ≡ y
  pair_same x y p q = λ i. (p i, q i)

  pub same_found : (a b : List (List ℕ × X)) → do_ascend a ≡ true → do_ascend b ≡ true → ((q : List ℕ) → found q a ≡ found q b) → a ≡ b
  same_found [] [] s t h = refl
  same_found [] (y ∷ b) s t h = absurd (let e : None ≡ Some y.1 = h y.0 ∙ found_first y b in cc)
  same_found (x ∷ a) [] s t h = absurd (let e : Some x.1 ≡ None = sym (found_first x a) ∙ h x.0 in cc)
  same_found (x ∷ a) (y ∷ b) s t h =
      let one = and_parts (is_below x.0 a) (do_ascend a) s in
      let two = and_parts (is_below y.0 b) (do_ascend b) t in
      let by : (o : Ordering) → slice_cmp nat_cmp x.0 y.0 ≡ o → x ∷ a ≡ y ∷ b =
      λ o. elim o as (λ v. slice_cmp nat_cmp x.0 y.0 ≡ v → x ∷ a ≡ y ∷ b) [
        | Less ↦ λ l. absurd (
            let none = none_below x.0 (y ∷ b) (and_from (is_lt (slice_cmp nat_cmp x.0 y.0)) _ (ap is_lt l) (below_more x.0 y.0 b l two.0)) in
            let e : Some x.1 ≡ None = sym (found_first x a) ∙ h x.0 ∙ none in cc)
        | Equal ↦ λ l.
            let same : x.0 ≡ y.0 = exact_bytes x.0 y.0 l in
            let value : Some x.1 ≡ Some y.1 = sym (found_first x a) ∙ h x.0 ∙ ap (λ k. found k (y ∷ b)) same ∙ found_first y b in
            let values : x.1 ≡ y.1 = cc in
            let rest : (q : List ℕ) → (v : Bool) → is_eq (slice_cmp nat_cmp q x.0) ≡ v → found q a ≡ found q b =
            λ q v. elim v as (λ w. is_eq (slice_cmp nat_cmp q x.0) ≡ w → found q a ≡ found q b) [
              | true ↦ λ k.
                  let here : q ≡ x.0 = exact_bytes q x.0 (equal_is _ k) in
                  ap (λ n. found n a) here ∙ none_below x.0 a one.0 ∙ sym (ap (λ n. found n b) (here ∙ same) ∙ none_below y.0 b two.0)
              | false ↦ λ k.
                  sym (ap (λ n. cond n (Some x.1) (found q a)) k) ∙ h q ∙ ap (λ n. cond n (Some y.1) (found q b))
                  (ap (λ n. is_eq (slice_cmp nat_cmp q n)) (sym same) ∙ k)
            ] in
            ap (λ v. v ∷ a) (pair_same x y same values) ∙ ap (λ v. y ∷ v) (same_found a b one.1 two.1 (λ q. rest q (is_eq (slice_cmp nat_cmp q x.0)) refl))
        | Greater ↦ λ l. absurd (
            let k = lesser x.0 y.0 l in
            let none = none_below y.0 (x ∷ a) (and_from (is_lt (slice_cmp nat_cmp y.0 x.0)) _ (ap is_lt k) (below_more y.0 x.0 a k one.0)) in
            let e : None ≡ Some y.1 = sym none ∙ h y.0 ∙ found_first y b in cc)
      ] in
      by (slice_cmp nat_cmp x.0 y.0) refl

  -- ---- one change more

  changed_again : (es : List (List ℕ × X)) (key : List ℕ) (c d : Option X) → do_ascend es ≡ true → changed_at (changed_at es key c) key d ≡ changed_at es key d
  changed_again es key c d h =
      let once = ascend_changed es key c h in
      same_found (changed_at (changed_at es key c) key d) (changed_at es key d) (ascend_changed (changed_at es key c) key d once) (ascend_changed es key d h)
      (λ q. found_changed q key d (changed_at es key c) once ∙ ap (cond (is_found q key) d) (found_changed q key c es h)
      ∙ twice (is_found q key) d c (found q es) ∙ sym (found_changed q key d es h))

  changed_swap : (es : List (List ℕ × X)) (k l : List ℕ) (c d : Option X) → do_ascend es ≡ true → is_found k l ≡ false
      → changed_at (changed_at es k c) l d ≡ changed_at (changed_at es l d) k c
  changed_swap es k l c d h differ =
      let one = ascend_changed es k c h in
      let two = ascend_changed es l d h in
      same_found (changed_at (changed_at es k c) l d) (changed_at (changed_at es l d) k c) (ascend_changed (changed_at es k c) l d one)
      (ascend_changed (changed_at es l d) k c two)
      (λ q. found_changed q l d (changed_at es k c) one ∙ ap (cond (is_found q l) d) (found_changed q k c es h)
      ∙ swap (is_found q l) (is_found q k) d c (found q es) (λ m n. not_both q k l differ n m)
      ∙ sym (found_changed q k c (changed_at es l d) two ∙ ap (cond (is_found q k) c) (found_changed q l d es h)))

  pub overlaid_put : (es : List (List ℕ × X)) (changes : List (List ℕ × Option X)) (key : List ℕ) (change : Option X) → do_ascend es ≡ true
      → overlaid es (put changes key change) ≡ changed_at (overlaid es changes) key change
  unfolding is_found
  overlaid_put es [] key change h = refl
  overlaid_put es (c ∷ changes) key change h =
      let under = overlaid es changes in
      let ascends = ascend_overlaid es changes h in
      let all = changed_at (changed_at under c.0 c.1) key change in
      let by : (o : Ordering) → slice_cmp nat_cmp key c.0 ≡ o
      → overlaid es (match_ordering o ((key, change) ∷ c ∷ changes) ((c.0, change) ∷ changes) (c ∷ put changes key change)) ≡ all =
      λ o. elim o as (λ v. slice_cmp nat_cmp key c.0 ≡ v
      → overlaid es (match_ordering v ((key, change) ∷ c ∷ changes) ((c.0, change) ∷ changes) (c ∷ put changes key change)) ≡ all) [
        | Less ↦ λ l. refl
        | Equal ↦ λ l.
            let same : key ≡ c.0 = exact_bytes key c.0 l in
            sym (changed_again under c.0 c.1 change ascends) ∙ ap (λ k. changed_at (changed_at under c.0 c.1) k change) (sym same)
        | Greater ↦ λ l.
            ap (λ v. changed_at v c.0 c.1) (overlaid_put es changes key change h)
            ∙ changed_swap under key c.0 change c.1 ascends (ap is_eq l)
      ] in
      by (slice_cmp nat_cmp key c.0) refl

  -- ---- the first change is taken

  changed_before : (x : List ℕ × X) (es : List (List ℕ × X)) (key : List ℕ) (change : Option X) → slice_cmp nat_cmp x.0 key ≡ Less
      → changed_at (x ∷ es) key change ≡ x ∷ changed_at es key change
  changed_before x es key None l = ap (λ o. cond (is_eq o) es (x ∷ without key es)) (greater x.0 key l)
  changed_before x es key (Some y) l = ap (λ o. match_ordering o ((key, y) ∷ x ∷ es) ((x.0, y) ∷ es) (x ∷ put es key y)) (greater x.0 key l)

  overlaid_before : (x : List ℕ × X) (es : List (List ℕ × X)) (changes : List (List ℕ × Option X)) → is_below x.0 changes ≡ true
      → overlaid (x ∷ es) changes ≡ x ∷ overlaid es changes
  overlaid_before x es [] h = refl
  overlaid_before x es (c ∷ changes) h =
      ap (λ v. changed_at v c.0 c.1) (overlaid_before x es changes (and_parts (is_lt (slice_cmp nat_cmp x.0 c.0)) (is_below x.0 changes) h).1)
      ∙ changed_before x (overlaid es changes) c.0 c.1 (less _ (and_parts (is_lt (slice_cmp nat_cmp x.0 c.0)) (is_below x.0 changes) h).0)

  -- entries below all changes stay
  pub overlaid_front : (front back : List (List ℕ × X)) (changes : List (List ℕ × Option X)) → list_all (λ x. is_below x.0 changes) front ≡ true
      → overlaid (front ++ back) changes ≡ front ++ overlaid back changes
  overlaid_front [] back changes h = refl
  overlaid_front (x ∷ front) back changes h =
      overlaid_before x (front ++ back) changes (and_parts (is_below x.0 changes) _ h).0
      ∙ ap (λ v. x ∷ v) (overlaid_front front back changes (and_parts (is_below x.0 changes) _ h).1)

  pub without_below : (key : List ℕ) (es : List (List ℕ × X)) → is_below key es ≡ true → without key es ≡ es
  without_below key [] h = refl
  without_below key (e ∷ es) h =
      ap (λ o. cond (is_eq o) es (e ∷ without key es)) (below_less key e es h)
      ∙ ap (λ v. e ∷ v) (without_below key es (below_rest key e es h))

  changed_first : (es : List (List ℕ × X)) (key : List ℕ) (change : Option X) → is_below key es ≡ true
      → changed_at es key change ≡ change_entry key change ++ es
  changed_first es key None h = without_below key es h
  changed_first [] key (Some x) h = refl
  changed_first (e ∷ es) key (Some x) h = ap (λ o. match_ordering o ((key, x) ∷ e ∷ es) ((e.0, x) ∷ es) (e ∷ put es key x)) (below_less key e es h)

  changed_here : (e : List ℕ × X) (es : List (List ℕ × X)) (key : List ℕ) (change : Option X) → slice_cmp nat_cmp key e.0 ≡ Equal
      → changed_at (e ∷ es) key change ≡ change_entry key change ++ es
  changed_here e es key None l = ap (λ o. cond (is_eq o) es (e ∷ without key es)) l
  changed_here e es key (Some x) l =
      ap (λ o. match_ordering o ((key, x) ∷ e ∷ es) ((e.0, x) ∷ es) (e ∷ put es key x)) l ∙ ap {A = List ℕ} {B = List (List ℕ × X)} (λ k. (k, x) ∷ es)
      (sym (exact_bytes key e.0 l))

  pub overlaid_first : (es : List (List ℕ × X)) (key : List ℕ) (change : Option X) (changes : List (List ℕ × Option X)) → do_ascend es ≡ true
      → are_from key es ≡ true → is_below key changes ≡ true
      → overlaid es ((key, change) ∷ changes) ≡ change_entry key change ++ overlaid (without key es) changes
  overlaid_first [] key change changes h from below = changed_first (overlaid [] changes) key change
      (all_overlaid (λ k. is_lt (slice_cmp nat_cmp key k)) [] changes refl below)
  overlaid_first (e ∷ es) key change changes h from below =
      let first = (and_parts (is_below e.0 es) (do_ascend es) h).0 in
      let by : (o : Ordering) → slice_cmp nat_cmp key e.0 ≡ o
      → changed_at (overlaid (e ∷ es) changes) key change ≡ change_entry key change ++ overlaid (cond (is_eq o) es (e ∷ without key es)) changes =
      λ o. elim o as (λ v. slice_cmp nat_cmp key e.0 ≡ v
      → changed_at (overlaid (e ∷ es) changes) key change ≡ change_entry key change ++ overlaid (cond (is_eq v) es (e ∷ without key es)) changes) [
        | Less ↦ λ l.
            let above : is_below key (e ∷ es) ≡ true = and_from (is_lt (slice_cmp nat_cmp key e.0)) _ (ap is_lt l) (below_more key e.0 es l first) in
            changed_first (overlaid (e ∷ es) changes) key change (all_overlaid (λ k. is_lt (slice_cmp nat_cmp key k)) (e ∷ es) changes above below)
            ∙ ap (λ v. change_entry key change ++ overlaid (e ∷ v) changes) (sym (without_below key es (below_rest key e es above)))
        | Equal ↦ λ l.
            let same : key ≡ e.0 = exact_bytes key e.0 l in
            ap (λ v. changed_at v key change) (overlaid_before e es changes (ap (λ k. is_below k changes) (sym same) ∙ below))
            ∙ changed_here e (overlaid es changes) key change l
        | Greater ↦ λ l. absurd (false≢true (ap (λ v. cond (is_lt v) false true) (sym (lesser key e.0 l)) ∙ from))
      ] in
      by (slice_cmp nat_cmp key e.0) refl

  -- ---- keys that a map keeps ascend

  below_sorted : (key : List ℕ) (es : List (List ℕ × X)) → AllByRecursion (λ k. slice_cmp nat_cmp key k ≡ Less) (keys_of es) → is_below key es ≡ true
  below_sorted key [] h = refl
  below_sorted key (e ∷ es) h = and_from (is_lt (slice_cmp nat_cmp key e.0)) _ (ap is_lt h.0) (below_sorted key es h.1)

  pub ascend_sorted : (es : List (List ℕ × X)) → IsStrictlySortedBy (slice_cmp nat_cmp) (keys_of es) → do_ascend es ≡ true
  unfolding IsStrictlySortedBy
  ascend_sorted [] h = refl
  ascend_sorted (e ∷ es) h = and_from _ _ (below_sorted e.0 es h.0) (ascend_sorted es h.1)
