-- Loops over entries.
use Rattle.std.proofs.Common.{◌≡◌, ℕ, true, List, [], ◌∷◌, refl, ap, ◌∙◌, arith}
use Rattle.std.specs.Ordering.{nat_cmp, is_lt, ordering_reverse}
use Rattle.std.specs.declared.cmp.Ordering.TheVariants.{Greater}
use Rattle.std.specs.Cmp.Lexicographic.{slice_cmp, nat_list_cmp_total}
use Rattle.std.specs.List.{list_all}
use Rattle.std.proofs.lemmas.Bool.{and_parts, and_from, lt-ltb}
use Rattle.bf_paths.specs.Components.{is_component}
use Rattle.bf_forest.specs.declared.nodes.Entry.{Entry}
use Rattle.bf_forest.specs.declared.nodes.EntryKind.{EntryKind}
use Rattle.bf_forest.specs.declared.nodes.EntryKind.TheVariants as kind
use Rattle.bf_forest.specs.Files.{Files, edited}
use Rattle.bf_forest.specs.Listing.{name_in, Listing, is_listing, stands_before}
use Rattle.bf_forest.specs.Nodes.{kind_files, listed, is_earlier, is_good}
use Rattle.bf_forest.specs.Slots.{slot_of, slots_of, are_in_order, contents, slot_files, is_slot}
use Rattle.bf_forest.proofs.Listed.{listing-first, listing-rest}
use Rattle.bf_forest.proofs.Ordered.{less}

-- what holds of each holds of the one at a place
-- ---- entries that are copied in order

lt_of : (a b : List ℕ) → is_lt (slice_cmp nat_cmp a b) ≡ true → slice_cmp nat_cmp b a ≡ Greater
lt_of a b h = nat_list_cmp_total.antisymm b a ∙ ap ordering_reverse (less _ h)

keys_ascend : (trees : List Files) (key : List ℕ) (entries : List Entry) → list_all (λ o. stands_before key o.0) (listed trees entries) ≡ true
    → list_all (λ other. is_lt (slice_cmp nat_cmp key other.key)) entries ≡ true
keys_ascend trees key [] h = refl
keys_ascend trees key (entry ∷ entries) h =
    and_from _ _ (and_parts (is_lt (slice_cmp nat_cmp key entry.key)) _ (and_parts _ _ h).0).0
    (keys_ascend trees key entries (and_parts (stands_before key entry.key) _ h).1)

pub in_order : (trees : List Files) (entries : List Entry) → is_listing (listed trees entries) ≡ true → are_in_order entries ≡ true
in_order trees [] h = refl
in_order trees (entry ∷ entries) h =
    let first : List ℕ × Files = (entry.key, kind_files trees entry.key entry.kind) in
    and_from _ _ (keys_ascend trees entry.key entries (listing-first first (listed trees entries) h))
    (in_order trees entries (listing-rest first (listed trees entries) h))

slot_kind : (trees : List Files) (key : List ℕ) (kind : EntryKind) → slot_files trees key (slot_of kind) ≡ kind_files trees key kind
unfolding edited
slot_kind trees key (kind.File mode oid) = refl
slot_kind trees key (kind.Directory number) = refl

pub contents-of : (trees : List Files) (entries : List Entry) → contents trees (slots_of entries) ≡ listed trees entries
contents-of trees [] = refl
contents-of trees (entry ∷ entries) =
    ap {A = Files} {B = Listing} (λ v. (entry.key, v) ∷ contents trees (slots_of entries)) (slot_kind trees entry.key entry.kind)
    ∙ ap (λ v. (entry.key, kind_files trees entry.key entry.kind) ∷ v) (contents-of trees entries)

slot_earlier : (count : ℕ) (key : List ℕ) (kind : EntryKind) → is_earlier count (record { key = key; kind = kind }) ≡ true
    → is_slot count 1 (slot_of kind) ≡ true
slot_earlier count key (kind.File mode oid) h = refl
slot_earlier count key (kind.Directory number) h = and_from _ _ h (lt-ltb 0 1 (omega arith))

pub slots_earlier : (count : ℕ) (entries : List Entry) → list_all (is_good count) entries ≡ true
    → list_all (λ slot. is_slot count 1 slot.1) (slots_of entries) ≡ true
slots_earlier count [] h = refl
slots_earlier count (entry ∷ entries) h =
    and_from _ _ (slot_earlier count entry.key entry.kind (and_parts (is_component (name_in entry.key)) _ (and_parts _ _ h).0).1)
    (slots_earlier count entries (and_parts (is_good count entry) _ h).1)
