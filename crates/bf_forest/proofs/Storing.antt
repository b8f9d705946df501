-- Entries that are kept with the numbers of their keys: what is there stays, where keys and entries join.
use Rattle.std.proofs.Common.{◌≡◌, ℕ, zero, suc, ◌<◌, ◌≤◌, true, nat_lt, List, [], ◌∷◌, ◌++◌, length, take, slice_get, get_or, Some, refl, sym}
use Rattle.std.proofs.Common.{ap, ◌∙◌, subst, inl, inr, arith}
use Rattle.std.proofs.lemmas.Bool.{and_parts, and_from, ltb-true, lt-ltb}
use Rattle.std.proofs.lemmas.List.{take-map, get_or-take}
use Rattle.std.proofs.lemmas.Option.{get_or_from_slice_get}
use Rattle.std.proofs.Math.ListN.{length-map}
use Rattle.std.proofs.Math.Seq.{take-length, take-append_seam}
use Rattle.bf_forest.specs.declared.nodes.Entry.{Entry}
use Rattle.bf_forest.specs.declared.nodes.EntryKind.{EntryKind}
use Rattle.bf_forest.specs.declared.table.Stored.{Stored}
use Rattle.bf_forest.specs.Nodes.{entry_at}
use Rattle.bf_forest.specs.Stored.{kind_of, entry_of, entries_in, have_keys, IsJoined}
use Rattle.bf_forest.proofs.Settling.{kept_length}

within_list : {X : Type 0} (xs : List X) (i : ℕ) (x : X) → slice_get xs i ≡ Some x → i < length xs
within_list [] i x e = cc
within_list (y ∷ xs) zero x e = omega arith
within_list (y ∷ xs) (suc i) x e = let l = within_list xs i x e in omega (arith, l)

entry_stays : (old new : List (List ℕ)) (s : Stored) → take (length old) new ≡ old → s.key < length old → entry_of new s ≡ entry_of old s
entry_stays old new s e l =
    ap (λ (v : List ℕ). record { key = v; kind = kind_of s.content }) (sym (get_or-take (length old) new s.key [] l) ∙ ap (λ v. get_or v s.key []) e)

pub entries_stay : (old new : List (List ℕ)) (stored : List Stored) → take (length old) new ≡ old → have_keys (length old) stored ≡ true
    → entries_in new stored ≡ entries_in old stored
entries_stay old new [] e h = refl
entries_stay old new (s ∷ stored) e h =
    let parts = and_parts (nat_lt s.key (length old)) (have_keys (length old) stored) h in
    ap (λ (v : Entry). v ∷ entries_in new stored) (entry_stays old new s e (ltb-true s.key (length old) parts.0)) ∙ ap (λ v. entry_of old s ∷ v)
    (entries_stay old new stored e parts.1)

keys_more : (a b : ℕ) (stored : List Stored) → a ≤ b → have_keys a stored ≡ true → have_keys b stored ≡ true
keys_more a b [] l h = refl
keys_more a b (s ∷ stored) l h =
    let parts = and_parts (nat_lt s.key a) (have_keys a stored) h in
    let less = ltb-true s.key a parts.0 in
    and_from _ _ (lt-ltb s.key b (omega (arith, less, l))) (keys_more a b stored l parts.1)

keys_push : (count : ℕ) (stored : List Stored) (s : Stored) → have_keys count stored ≡ true → s.key < count → have_keys count (stored ++ s ∷ []) ≡ true
keys_push count [] s h l = and_from _ _ (lt-ltb s.key count l) refl
keys_push count (first ∷ stored) s h l =
    let parts = and_parts (nat_lt first.key count) (have_keys count stored) h in
    and_from _ _ parts.0 (keys_push count stored s parts.1 l)

-- each entry has a key after more keys, and after one more entry whose key is there
pub keys_stay : (old new : List (List ℕ)) (stored : List Stored) → take (length old) new ≡ old → have_keys (length old) stored ≡ true
    → have_keys (length new) stored ≡ true
keys_stay old new stored e h = keys_more (length old) (length new) stored (kept_length old new e) h

pub keys_joined : (old new : List (List ℕ)) (before after : List Stored) (s : Stored) (key : List ℕ) → take (length old) new ≡ old
    → have_keys (length old) before ≡ true
    → IsJoined before after s → slice_get new s.key ≡ Some key → have_keys (length new) after ≡ true
keys_joined old new before after s key e h (inl same) at = ap (have_keys (length new)) same ∙ keys_stay old new before e h
keys_joined old new before after s key e h (inr more) at =
    ap (have_keys (length new)) more ∙ keys_push (length new) before s (keys_stay old new before e h) (within_list new s.key key at)

joined_front : (before after : List Stored) (s : Stored) → IsJoined before after s → take (length before) after ≡ before
joined_front before after s (inl same) = ap (take (length before)) same ∙ take-length before
joined_front before after s (inr more) = ap (take (length before)) more ∙ take-append_seam before (s ∷ [])

front_stays : (old new : List (List ℕ)) (before after : List Stored) → take (length old) new ≡ old → have_keys (length old) before ≡ true
    → take (length before) after ≡ before
    → take (length (entries_in old before)) (entries_in new after) ≡ entries_in old before
front_stays old new before after e h front =
    ap (λ n. take n (entries_in new after)) (length-map {A = Stored} {B = Entry} before (entry_of old))
    ∙ take-map (entry_of new) (length before) after
    ∙ ap (entries_in new) front ∙ entries_stay old new before e h

-- the entries that were there keep their numbers
pub table_stays : (old new : List (List ℕ)) (stored : List Stored) (view : List Entry) → take (length old) new ≡ old → have_keys (length old) stored ≡ true
    → entries_in old stored ≡ view → take (length view) (entries_in new stored) ≡ view
table_stays old new stored view e h is =
    let P : List Entry → Type 0 = λ v. take (length v) (entries_in new stored) ≡ v in
    subst P is (front_stays old new stored stored e h (take-length stored))

pub table_joined : (old new : List (List ℕ)) (before after : List Stored) (s : Stored) (view : List Entry) → take (length old) new ≡ old
    → have_keys (length old) before ≡ true
    → IsJoined before after s → entries_in old before ≡ view → take (length view) (entries_in new after) ≡ view
table_joined old new before after s view e h joined is =
    let P : List Entry → Type 0 = λ v. take (length v) (entries_in new after) ≡ v in
    subst P is (front_stays old new before after e h (joined_front before after s joined))

-- an entry that is there has its number
pub stored_within : (keys : List (List ℕ)) (stored : List Stored) (number : ℕ) (s : Stored) → slice_get stored number ≡ Some s
    → number < length (entries_in keys stored)
stored_within keys stored number s at =
    let l = within_list stored number s at in
    omega (arith, l, length-map {A = Stored} {B = Entry} stored (entry_of keys))

pub stored_at : (keys : List (List ℕ)) (stored : List Stored) (number : ℕ) (s : Stored) (entry : Entry) → slice_get stored number ≡ Some s
    → slice_get keys s.key ≡ Some entry.key → kind_of s.content ≡ entry.kind → entry_at (entries_in keys stored) number ≡ entry
stored_at keys [] number s entry at key kind = cc
stored_at keys (first ∷ stored) zero s entry at key kind =
    let same : first ≡ s = cc in
    let name = get_or_from_slice_get keys s.key entry.key [] key in
    ap (entry_of keys) same ∙ ap (λ (v : List ℕ). record { key = v; kind = kind_of s.content }) name ∙ ap
    (λ (v : EntryKind). record { key = entry.key; kind = v }) kind
stored_at keys (first ∷ stored) (suc number) s entry at key kind = stored_at keys stored number s entry at key kind
