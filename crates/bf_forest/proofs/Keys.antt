-- Entries in order of their keys hold paths in order of their texts.
use Rattle.std.proofs.Common.{◌≡◌, ℕ, true, false, not, ◌==◌, ◌&&◌, List, [], ◌∷◌, ◌++◌, refl, sym, ap, ◌∙◌, inl, inr}
use Rattle.std.specs.Ordering.{nat_cmp, is_lt, ordering_then}
use Rattle.std.specs.declared.cmp.Ordering.{Ordering}
use Rattle.std.specs.declared.cmp.Ordering.TheVariants.{Less, Equal, Greater}
use Rattle.std.specs.Cmp.Lexicographic.{slice_cmp}
use Rattle.std.specs.List.{list_all}
use Rattle.std.proofs.lemmas.Bool.{false≢true, and_parts, and_from, cases_Bool, not-true, cond-false}
use Rattle.std.proofs.lemmas.Map.Lookups.{exact_unsigned}
use Rattle.std.proofs.lemmas.List.{append-nil, append_assoc}
use Rattle.bf_paths.specs.Components.{is_name_byte, is_component, is_path, path_text}
use Rattle.bf_forest.specs.Files.{is_same, leads_to, are_apart, is_before}
use Rattle.bf_forest.specs.Listing.{key_for, name_in, stands_before}
use Rattle.bf_forest.proofs.Ordered.{is_same-refl, less, nat_cmp-same}
use Rattle.bf_forest.proofs.Sameness.{same_name}

pub cmp-same : (a : List ℕ) → slice_cmp nat_cmp a a ≡ Equal
cmp-same [] = refl
cmp-same (x ∷ xs) = ap (λ o. ordering_then o (slice_cmp nat_cmp xs xs)) (nat_cmp-same x) ∙ cmp-same xs

-- ---- texts that go on behind two keys

text_order : (a b u v : List ℕ) → slice_cmp nat_cmp a b ≡ Less → ((w : List ℕ) → b ≡ a ++ w → slice_cmp nat_cmp u (w ++ v) ≡ Less)
    → slice_cmp nat_cmp (a ++ u) (b ++ v) ≡ Less
text_order [] [] u v h k = absurd (let e : Equal ≡ Less = h in cc)
text_order [] (y ∷ ys) u v h k = k (y ∷ ys) refl
text_order (x ∷ xs) [] u v h k = absurd (let e : Greater ≡ Less = h in cc)
text_order (x ∷ xs) (y ∷ ys) u v h k =
    let by : (o : Ordering) → nat_cmp x y ≡ o → ordering_then o (slice_cmp nat_cmp xs ys) ≡ Less
    → ordering_then o (slice_cmp nat_cmp (xs ++ u) (ys ++ v)) ≡ Less =
    λ o. elim o as (λ p. nat_cmp x y ≡ p → ordering_then p (slice_cmp nat_cmp xs ys) ≡ Less → ordering_then p (slice_cmp nat_cmp (xs ++ u) (ys ++ v)) ≡ Less) [
      | Less ↦ λ e l. refl
      | Equal ↦ λ e l. text_order xs ys u v l (λ w p. k w (ap (λ n. n ∷ ys) (sym (exact_unsigned x y e)) ∙ ap (λ n. x ∷ n) p))
      | Greater ↦ λ e l. absurd (let f : Greater ≡ Less = l in cc)
    ] in
    by (nat_cmp x y) refl h

-- ---- names and keys

no_slash : (a w : List ℕ) → list_all is_name_byte (a ++ 47 ∷ w) ≡ true → ⊥
no_slash [] w h = false≢true h
no_slash (x ∷ xs) w h = no_slash xs w (and_parts (is_name_byte x) (list_all is_name_byte (xs ++ 47 ∷ w)) h).1

same_front : (a b w : List ℕ) → list_all is_name_byte a ≡ true → list_all is_name_byte b ≡ true → b ++ 47 ∷ [] ≡ a ++ 47 ∷ w → a ≡ b
same_front [] [] w p q e = refl
same_front [] (y ∷ b) w p q e =
    absurd (false≢true (ap is_name_byte (let first : 47 ≡ y = cc in first) ∙ (and_parts (is_name_byte y) (list_all is_name_byte b) q).0))
same_front (x ∷ a) [] w p q e =
    absurd (false≢true (ap is_name_byte (let first : 47 ≡ x = cc in first) ∙ (and_parts (is_name_byte x) (list_all is_name_byte a) p).0))
same_front (x ∷ a) (y ∷ b) w p q e =
    let first : x ≡ y = cc in
    let rest : b ++ 47 ∷ [] ≡ a ++ 47 ∷ w = cc in
    ap (λ n. n ∷ a) first ∙ ap (λ n. y ∷ n) (same_front a b w (and_parts _ _ p).1 (and_parts _ _ q).1 rest)

pub name_in-plain : (a : List ℕ) → list_all is_name_byte a ≡ true → name_in a ≡ a
name_in-plain [] h = refl
name_in-plain (x ∷ []) h = cond-false _ _ _ (not-true (x == 47) (and_parts _ (not (x == 47)) (and_parts (is_name_byte x) true h).0).1)
name_in-plain (x ∷ y ∷ rest) h = ap (λ n. x ∷ n) (name_in-plain (y ∷ rest) (and_parts (is_name_byte x) (list_all is_name_byte (y ∷ rest)) h).1)

pub name_in-slash : (a : List ℕ) → name_in (a ++ 47 ∷ []) ≡ a
name_in-slash [] = refl
name_in-slash (x ∷ []) = refl
name_in-slash (x ∷ y ∷ rest) = ap (λ n. x ∷ n) (name_in-slash (y ∷ rest))

pub name_in-other : (a : List ℕ) (byte : ℕ) → (byte == 47) ≡ false → name_in (a ++ byte ∷ []) ≡ a ++ byte ∷ []
name_in-other [] byte h = cond-false _ _ _ h
name_in-other (x ∷ []) byte h = ap (λ n. x ∷ n) (name_in-other [] byte h)
name_in-other (x ∷ y ∷ rest) byte h = ap (λ n. x ∷ n) (name_in-other (y ∷ rest) byte h)

-- the first component of a path
pub name_bytes : (a : List ℕ) → is_component a ≡ true → list_all is_name_byte a ≡ true
name_bytes a h = (and_parts (list_all is_name_byte a) _ h).0

pub first_component : (a : List ℕ) (ar : List (List ℕ)) → is_path (a ∷ ar) ≡ true → is_component a ≡ true
first_component a ar h = (and_parts (is_component a) _ (and_parts _ (is_component a && list_all is_component ar) h).1).0

pub name_in-key : (a : List ℕ) (ar : List (List ℕ)) → is_component a ≡ true → name_in (key_for (a ∷ ar)) ≡ a
name_in-key a [] h = name_in-plain a (name_bytes a h)
name_in-key a (b ∷ br) h = name_in-slash a

-- what stands of a path's text behind its key
behind_key : List (List ℕ) → List ℕ
behind_key [] = []
behind_key (a ∷ []) = []
behind_key (a ∷ b ∷ br) = path_text (b ∷ br)

text_by_key : (p : List (List ℕ)) → path_text p ≡ key_for p ++ behind_key p
unfolding behind_key
text_by_key [] = refl
text_by_key (a ∷ []) = sym (append-nil a)
text_by_key (a ∷ b ∷ br) = sym (append_assoc a (47 ∷ []) (path_text (b ∷ br)))

pub not_same : (a b : List ℕ) → is_same a b ≡ false → is_same b a ≡ false
not_same a b h =
    elim (cases_Bool (is_same b a)) [
      | inl same ↦ absurd (false≢true (sym h ∙ ap (λ n. is_same n b) (sym (same_name b a same)) ∙ is_same-refl b))
      | inr other ↦ other
    ]

pub apart_by_first : (a b : List ℕ) (ar br : List (List ℕ)) → is_same a b ≡ false → are_apart (a ∷ ar) (b ∷ br) ≡ true
apart_by_first a b ar br h =
    ap (λ v. not (v && leads_to ar br) && not (leads_to (b ∷ br) (a ∷ ar))) h ∙ ap (λ v. not (v && leads_to br ar)) (not_same a b h)

-- the part of a key behind another
rest_order : (p : List (List ℕ)) (a b : List ℕ) (ar br : List (List ℕ)) → is_component a ≡ true → is_component b ≡ true → is_same a b ≡ false → (w : List ℕ)
    → key_for (b ∷ br) ≡ key_for (a ∷ ar) ++ w → slice_cmp nat_cmp (behind_key (a ∷ ar)) (w ++ behind_key (b ∷ br)) ≡ Less
unfolding behind_key
rest_order p a b [] br ca cb h [] e =
    absurd (false≢true (sym h ∙ ap (λ n. is_same n b) (sym (name_in-plain a (name_bytes a ca)) ∙ ap name_in (sym (e ∙ append-nil a)) ∙ name_in-key b br cb) ∙
    is_same-refl b))
rest_order p a b [] br ca cb h (c ∷ cs) e = refl
rest_order p a b (m ∷ r) [] ca cb h w e =
    absurd (no_slash a w (ap (list_all is_name_byte) (sym (append_assoc a (47 ∷ []) w) ∙ sym e) ∙ name_bytes b cb))
rest_order p a b (m ∷ r) (n ∷ s) ca cb h w e =
    absurd (false≢true (sym h ∙ ap (λ v. is_same v b) (same_front a b w (name_bytes a ca) (name_bytes b cb) (e ∙ append_assoc a (47 ∷ []) w)) ∙ is_same-refl b))

pub in_order : (p q : List (List ℕ)) → is_path p ≡ true → is_path q ≡ true → stands_before (key_for p) (key_for q) ≡ true
    → (is_before p q && are_apart p q) ≡ true
in_order [] q hp hq h = absurd (false≢true hp)
in_order (a ∷ ar) [] hp hq h = absurd (false≢true hq)
in_order (a ∷ ar) (b ∷ br) hp hq h =
    let ca = first_component a ar hp in
    let cb = first_component b br hq in
    let order = and_parts (is_lt (slice_cmp nat_cmp (key_for (a ∷ ar)) (key_for (b ∷ br)))) _ h in
    let names : is_same a b ≡ false =
    ap (λ v. is_same v b) (sym (name_in-key a ar ca)) ∙ ap (is_same (name_in (key_for (a ∷ ar)))) (sym (name_in-key b br cb)) ∙ not-true _ order.1 in
    let texts : slice_cmp nat_cmp (key_for (a ∷ ar) ++ behind_key (a ∷ ar)) (key_for (b ∷ br) ++ behind_key (b ∷ br)) ≡ Less =
    text_order (key_for (a ∷ ar)) (key_for (b ∷ br)) (behind_key (a ∷ ar)) (behind_key (b ∷ br)) (less _ order.0) (rest_order [] a b ar br ca cb names) in
    and_from _ _
    (ap (λ t. is_lt (slice_cmp nat_cmp t (path_text (b ∷ br)))) (text_by_key (a ∷ ar)) ∙ ap
    (λ t. is_lt (slice_cmp nat_cmp (key_for (a ∷ ar) ++ behind_key (a ∷ ar)) t)) (text_by_key (b ∷ br))
    ∙ ap is_lt texts)
    (apart_by_first a b ar br names)
