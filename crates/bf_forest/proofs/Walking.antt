-- Directories that are being made, one in another.
use Rattle.std.proofs.Common.{◌≡◌, ℕ, zero, suc, ◌+◌, ◌<◌, ◌≤◌, nat_lt, true, List, [], ◌∷◌, ◌++◌, length, take, drop, Option, Some, None, refl, sym, ap, ◌∙◌}
use Rattle.std.proofs.Common.{subst, arith}
use Rattle.std.specs.Ordering.{nat_cmp, is_lt}
use Rattle.std.specs.declared.cmp.Ordering.TheVariants.{Less}
use Rattle.std.specs.Cmp.Lexicographic.{slice_cmp}
use Rattle.std.specs.List.{list_all, filter, fold, All}
use Rattle.std.specs.Map.{keys_of}
use Rattle.std.proofs.lemmas.Bool.{and_parts, and_from, ltb-true, lt-ltb}
use Rattle.std.proofs.lemmas.List.{append-nil, append_assoc}
use Rattle.std.proofs.lemmas.List.Folds.{list_all-append}
use Rattle.bf_oid.specs.declared.object.Mode.{Mode}
use Rattle.bf_oid.specs.declared.object.Oid.{Oid}
use Rattle.bf_forest.specs.declared.edits.Edit.{Edit}
use Rattle.bf_forest.specs.declared.nodes.Entry.{Entry}
use Rattle.bf_forest.specs.declared.nodes.EntryKind.{EntryKind}
use Rattle.bf_forest.specs.declared.nodes.EntryKind.TheVariants as kind
use Rattle.bf_forest.specs.declared.opened.OpenDirectory.{OpenDirectory}
use Rattle.bf_forest.specs.declared.slots.Rest.{Rest}
use Rattle.bf_forest.specs.declared.slots.EntrySlot.{EntrySlot}
use Rattle.bf_forest.specs.declared.slots.EntrySlot.TheVariants.{File, Directory}
use Rattle.bf_forest.specs.Files.{Files, edited}
use Rattle.bf_forest.specs.Listing.{name_in, Listing, beneath}
use Rattle.bf_forest.specs.Nodes.{World, StaysIn, stood, are_within, kind_files, files_in, listed, has_some, is_filled, is_node, is_earlier, IsSettled}
use Rattle.bf_forest.specs.Opened.{IsOpened, IsBase, IsFrame, IsSettling, IsMade, Advances, IsClosed, with_directory, heft}
use Rattle.bf_forest.specs.Overlays.{overlaid, change_entry, is_below}
use Rattle.bf_forest.specs.Rests.{IsShorter, IsPassed, slots_in}
use Rattle.bf_forest.specs.Slots.{base_files, slot_of, slots_of, are_in_order, is_base, is_based}
use Rattle.bf_forest.specs.Trees.{where_some, or_none, directories, with_tree, files_at}
use Rattle.bf_forest.proofs.Joining.{kept_refl, kept_trans}
use Rattle.bf_forest.proofs.Leveled.{some_beneath}
use Rattle.bf_forest.proofs.Pooled.{IsClosed as IsClosedPool, all_earlier, listed_kept, some_files, joined_base}
use Rattle.bf_forest.proofs.Placed.{old_shorter, taken_slots}
use Rattle.bf_forest.proofs.Tabled.{all_take, stood_kept, stood_append, stood_drop, stood_take, within_kept}
use Rattle.bf_forest.proofs.Settling.{made, made_none, joined_some, edited-nil, slots_based, kept_length, earlier_more, listed_more, directory_added}
use Rattle.bf_forest.proofs.Settling.{settling_next}

abbrev pub Slots : Type 0
Slots = List (List ℕ × EntrySlot)

-- ---- one slot is taken

pub settling_start : (trees : List Files) (files : Files) (slots : Slots) → IsOpened trees files slots → IsSettling trees slots trees [] slots
settling_start trees files slots h = (kept_refl trees, refl, refl, refl, slots_based (length trees) h.3.0 slots h.3.1)

pub settling_file : (trees : List Files) (slots : Slots) (now : List Files) (old : List Entry) (key : List ℕ) (mode : Mode) (oid : Oid) (rest : Slots)
    → IsSettling trees slots now old ((key, File mode oid) ∷ rest)
    → IsSettling trees slots now (old ++ record { key = key; kind = kind.File mode oid } ∷ []) rest
settling_file trees slots now old key mode oid rest h =
    let entry : Entry = record { key = key; kind = kind.File mode oid } in
    settling_next trees slots now now old (old ++ entry ∷ []) key (File mode oid) rest h h.0 refl (listed_more now old entry)
    (list_all-append (is_earlier (length now)) old (entry ∷ []) ∙ and_from _ _ h.3 refl)

pub settling_directory : (trees : List Files) (slots : Slots) (now next : List Files) (old : List Entry) (key : List ℕ) (base : Option ℕ) (pending : List Edit)
    (rest : Slots) (number : Option ℕ)
    → IsSettling trees slots now old ((key, Directory base pending) ∷ rest) → take (length now) next ≡ now
    → next ≡ fold with_tree now (or_none (where_some directories (edited (base_files now base) pending)))
    → IsSettled next (edited (base_files now base) pending) number
    → IsSettling trees slots next (with_directory old key number) rest
settling_directory trees slots now next old key base pending rest None h kept joined settled =
    let name = name_in key in
    let empty : filter is_filled ((key, beneath name (edited (base_files now base) pending)) ∷ []) ≡ [] =
    ap {A = Files} {B = Listing} (λ v. filter is_filled ((key, beneath name v) ∷ [])) settled in
    settling_next trees slots now next old old key (Directory base pending) rest h (kept_trans trees now next h.0 kept) joined
    (listed_kept now next old kept h.3 ∙ sym (append-nil (listed now old)) ∙ ap (λ v. listed now old ++ v) (sym empty))
    (earlier_more (length now) (length next) old (kept_length now next kept) h.3)
settling_directory trees slots now next old key base pending rest (Some number) h kept joined settled =
    let entry : Entry = record { key = key; kind = kind.Directory number } in
    let added = directory_added now next old (old ++ entry ∷ []) key base pending number h.3 kept settled refl in
    settling_next trees slots now next old (old ++ entry ∷ []) key (Directory base pending) rest h (kept_trans trees now next h.0 kept) joined added.0 added.1

-- a directory with no edits is the one that is there
pub settling_there : (trees : List Files) (slots : Slots) (now : List Files) (old : List Entry) (key : List ℕ) (base : Option ℕ) (pending : List Edit)
    (rest : Slots) (number : Option ℕ)
    → pending ≡ [] → IsSettling trees slots now old ((key, Directory base pending) ∷ rest)
    → fold with_tree now (or_none (where_some directories (base_files now base))) ≡ now → IsSettled now (base_files now base) number
    → IsSettling trees slots now (with_directory old key number) rest
settling_there trees slots now old key base pending rest number none h joined settled =
    let same : edited (base_files now base) pending ≡ base_files now base = edited-nil (base_files now base) pending none in
    let P : Files → Type 0 = λ v. IsSettled now v number in
    settling_directory trees slots now now old key base pending rest number h (kept_refl now)
    (sym joined ∙ ap (λ v. fold with_tree now (or_none (where_some directories v))) (sym same)) (subst P (sym same) settled)

slot_based_more : (a b : ℕ) (slot : EntrySlot) → a ≤ b → is_based a slot ≡ true → is_based b slot ≡ true
slot_based_more a b (File mode oid) l h = refl
slot_based_more a b (Directory None pending) l h = refl
slot_based_more a b (Directory (Some number) pending) l h = let less = ltb-true number a h in lt-ltb number b (omega (arith, less, l))

pub based_more : (a b : ℕ) (slots : Slots) → a ≤ b → list_all (λ slot. is_based a slot.1) slots ≡ true → list_all (λ slot. is_based b slot.1) slots ≡ true
based_more a b [] l h = refl
based_more a b (slot ∷ slots) l h = and_from _ _ (slot_based_more a b slot.1 l (and_parts _ _ h).0)
    (based_more a b slots l (and_parts (is_based a slot.1) _ h).1)

pub settling_based : (trees : List Files) (slots : Slots) (now : List Files) (entries : List Entry) (rest : Slots) → IsSettling trees slots now entries rest
    → list_all (λ slot. is_based (length now) slot.1) rest ≡ true
settling_based trees slots now entries rest h = based_more (length trees) (length now) rest (kept_length trees now h.0) h.4

-- ---- all slots are taken

pub settling_made : (trees : List Files) (files : Files) (slots : Slots) (now : List Files) (entries : List Entry) → IsOpened trees files slots
    → IsSettling trees slots now entries []
    → IsMade trees now files entries
settling_made trees files slots now entries o h =
    made trees now slots o.3.0 files entries o.0 o.1 o.3.1 o.2 h.1 (sym (append-nil (listed now entries)) ∙ h.2)

pub settling_closed : (trees : List Files) (files : Files) (slots : Slots) (now next : List Files) (entries : List Entry) (number : Option ℕ)
    → IsOpened trees files slots → IsSettling trees slots now entries [] → IsClosed now next entries number
    → (next ≡ fold with_tree trees (or_none (where_some directories files))) × IsSettled next files number
settling_closed trees files slots now next entries None o h closed =
    let known = settling_made trees files slots now entries o h in
    let empty : files ≡ [] = sym known.0 ∙ ap (files_in now) closed.0 in
    (closed.1 ∙ made_none trees now slots o.3.0 files o.0 o.1 o.3.1 o.2 h.1 empty, empty)
settling_closed trees files slots now next entries (Some number) o h closed =
    let known = settling_made trees files slots now entries o h in
    let some : has_some files ≡ true = ap has_some (sym known.0) ∙ some_files now entries known.1 closed.0 in
    (closed.1 ∙ known.2 ∙ joined_some trees files some, (closed.2, closed.3 ∙ known.0, some))

-- ---- old entries are taken

-- an entry that stays is taken
settling_entry : (trees : List Files) (slots : Slots) (now : List Files) (old : List Entry) (entry : Entry) (rest : Slots) → IsClosedPool now
    → is_filled (entry.key, kind_files now entry.key entry.kind) ≡ true → is_earlier (length now) entry ≡ true
    → IsSettling trees slots now old ((entry.key, slot_of entry.kind) ∷ rest) → IsSettling trees slots now (old ++ entry ∷ []) rest
settling_entry trees slots now old entry rest closed filled earlier h = go entry.kind filled earlier h
  where
    go : (k : EntryKind) → is_filled (entry.key, kind_files now entry.key k) ≡ true → is_earlier (length now) (record entry { kind = k }) ≡ true
        → IsSettling trees slots now old ((entry.key, slot_of k) ∷ rest) → IsSettling trees slots now (old ++ record entry { kind = k } ∷ []) rest
    go (kind.File mode oid) f e s = settling_file trees slots now old entry.key mode oid rest s
    go (kind.Directory number) f e s =
        let less : number < length now = ltb-true number (length now) e in
        settling_there trees slots now old entry.key (Some number) [] rest (Some number) refl s (joined_base now (files_at now number) number closed less refl)
        (less, refl, some_beneath (name_in entry.key) (files_at now number) f)

pub settling_run : (trees : List Files) (slots : Slots) (now : List Files) (old run : List Entry) (rest : Slots) → IsClosedPool now
    → list_all is_filled (listed now run) ≡ true → IsSettling trees slots now old (slots_of run ++ rest) → IsSettling trees slots now (old ++ run) rest
settling_run trees slots now old [] rest closed filled h =
    let P : List Entry → Type 0 = λ v. IsSettling trees slots now v rest in
    subst P (sym (append-nil old)) h
settling_run trees slots now old (entry ∷ run) rest closed filled h =
    let parts = and_parts (is_filled (entry.key, kind_files now entry.key entry.kind)) (list_all is_filled (listed now run)) filled in
    let earlier = (and_parts (is_earlier (length now) entry) _ (all_earlier now (entry ∷ run) filled)).0 in
    let P : List Entry → Type 0 = λ v. IsSettling trees slots now v rest in
    subst P (append_assoc old (entry ∷ []) run)
    (settling_run trees slots now (old ++ entry ∷ []) run rest closed parts.1
    (settling_entry trees slots now old entry (slots_of run ++ rest) closed parts.0 earlier h))

-- ---- what is known of a directory stays

pub base_shorter : (trees : List Files) (table : List Entry) (base rest : List ℕ) → IsBase trees table base → IsShorter rest base → IsBase trees table rest
base_shorter trees table base rest h s = (
  old_shorter table base rest h.0 s,
  ap (λ v. list_all is_filled (listed trees (stood table v))) s.1 ∙ ap (λ v. list_all is_filled (listed trees v)) (stood_drop table base s.0)
      ∙ filled_drop trees (stood table base) s.0 h.1,
)
  where
    filled_drop : (trees : List Files) (entries : List Entry) (n : ℕ) → list_all is_filled (listed trees entries) ≡ true
        → list_all is_filled (listed trees (drop n entries)) ≡ true
    filled_drop trees [] zero k = k
    filled_drop trees [] (suc n) k = k
    filled_drop trees (entry ∷ entries) zero k = k
    filled_drop trees (entry ∷ entries) (suc n) k = filled_drop trees entries n (and_parts (is_filled (entry.key, kind_files trees entry.key entry.kind)) _ k).1

pub base_kept : (before after : World) (base : List ℕ) → StaysIn before after → IsBase before.trees before.table base → IsBase after.trees after.table base
base_kept before after base stays h =
    let same = stood_kept before.table after.table base stays.0 h.0.0 in
    let entries = stood before.table base in (
      (within_kept before.table after.table base stays.0 h.0.0, ap are_in_order same ∙ h.0.1),
      ap (λ v. list_all is_filled (listed after.trees v)) same
          ∙ ap (list_all is_filled) (listed_kept before.trees after.trees entries stays.1 (all_earlier before.trees entries h.1)) ∙ h.1,
    )

pub slots_kept : (before after : World) (rest : Rest) → StaysIn before after → are_within (length before.table) rest.base ≡ true
    → slots_in after.table rest ≡ slots_in before.table rest
slots_kept before after rest stays h = ap (λ v. overlaid (slots_of v) rest.changes.entries) (stood_kept before.table after.table rest.base stays.0 h)

pub frame_kept : (before after : World) (top : OpenDirectory) → StaysIn before after → IsFrame before top → IsFrame after top
frame_kept before after top stays h = (
  base_kept before after top.rest.base stays h.0,
  within_kept before.table after.table top.numbers stays.0 h.1,
  ap (list_all (λ slot. is_based (length after.trees) slot.1)) (slots_kept before after top.rest stays h.0.0.0)
      ∙ based_more (length before.trees) (length after.trees) (slots_in before.table top.rest) (kept_length before.trees after.trees stays.1) h.2,
)

pub stays_refl : (world : World) → StaysIn world world
stays_refl world = (kept_refl world.table, kept_refl world.trees)

pub stays_trans : (a b c : World) → StaysIn a b → StaysIn b c → StaysIn a c
stays_trans a b c s t = (kept_trans a.table b.table c.table s.0 t.0, kept_trans a.trees b.trees c.trees s.1 t.1)

-- ---- one change is taken

heft_append : (a b : Slots) → heft (a ++ b) ≡ heft a + heft b
heft_append [] b = omega arith
heft_append (slot ∷ a) b = let more = heft_append a b in omega (arith, more)

-- where the old entries below a key are taken
abbrev pub IsTaken : World → List ℕ → List ℕ → Slots → Slots → Type 0
IsTaken world old new all rest =
    (are_within (length world.table) new ≡ true)
    × ((trees : List Files) (slots : Slots) → IsSettling trees slots world.trees (stood world.table old) all
    → IsSettling trees slots world.trees (stood world.table new) rest)
    × (list_all (λ slot. is_based (length world.trees) slot.1) all ≡ true → list_all (λ slot. is_based (length world.trees) slot.1) rest ≡ true)
    × (heft rest ≤ heft all)

pub run_taken : (world : World) (old new run : List ℕ) (all rest : Slots) → IsClosedPool world.trees → are_within (length world.table) old ≡ true
    → IsBase world.trees world.table run
    → new ≡ old ++ run → all ≡ slots_of (stood world.table run) ++ rest → IsTaken world old new all rest
run_taken world old new run all rest closed within base taken whole = (
  ap (are_within (length world.table)) taken ∙ list_all-append (λ n. nat_lt n (length world.table)) old run ∙ and_from _ _ within base.0.0,
  λ trees slots h.
      let P : Slots → Type 0 = λ v. IsSettling trees slots world.trees (stood world.table old) v in
      let Q : List Entry → Type 0 = λ v. IsSettling trees slots world.trees v rest in
      subst Q (sym (ap (stood world.table) taken ∙ stood_append world.table old run))
      (settling_run trees slots world.trees (stood world.table old) (stood world.table run) rest closed base.1 (subst P whole h)),
  λ h. (and_parts (list_all (λ slot. is_based (length world.trees) slot.1) (slots_of (stood world.table run))) _
      (sym (list_all-append (λ slot. is_based (length world.trees) slot.1) (slots_of (stood world.table run)) rest)
      ∙ ap (list_all (λ slot. is_based (length world.trees) slot.1)) (sym whole) ∙ h)).1,
  (let size = ap heft whole in omega (arith, size, heft_append (slots_of (stood world.table run)) rest)),
)

base_take : (trees : List Files) (table : List Entry) (base : List ℕ) (n : ℕ) → IsBase trees table base → IsBase trees table (take n base)
base_take trees table base n h = (
  (all_take (λ number. nat_lt number (length table)) base n h.0.0, ap are_in_order (stood_take table base n) ∙ order_take (stood table base) n h.0.1),
  ap (λ v. list_all is_filled (listed trees v)) (stood_take table base n) ∙ filled_take (stood table base) n h.1,
)
  where
    order_take : (entries : List Entry) (m : ℕ) → are_in_order entries ≡ true → are_in_order (take m entries) ≡ true
    order_take [] zero k = k
    order_take [] (suc m) k = k
    order_take (entry ∷ entries) zero k = refl
    order_take (entry ∷ entries) (suc m) k =
        let parts = and_parts (list_all (λ other. is_lt (slice_cmp nat_cmp entry.key other.key)) entries) (are_in_order entries) k in
        and_from _ _ (all_take (λ other. is_lt (slice_cmp nat_cmp entry.key other.key)) entries m parts.0) (order_take entries m parts.1)

    filled_take : (entries : List Entry) (m : ℕ) → list_all is_filled (listed trees entries) ≡ true → list_all is_filled (listed trees (take m entries)) ≡ true
    filled_take [] zero k = k
    filled_take [] (suc m) k = k
    filled_take (entry ∷ entries) zero k = refl
    filled_take (entry ∷ entries) (suc m) k =
        let parts = and_parts (is_filled (entry.key, kind_files trees entry.key entry.kind)) (list_all is_filled (listed trees entries)) k in
        and_from _ _ parts.0 (filled_take entries m parts.1)

-- the old entries below a key are taken, and what is to stand there lies in front
pub turn_taken : (world : World) (old new base rest key : List ℕ) (change : Option EntrySlot) (changes : List (List ℕ × Option EntrySlot)) → IsClosedPool world.trees
    → are_within (length world.table) old ≡ true → IsBase world.trees world.table base → is_below key changes ≡ true
    → IsPassed world.table old new base rest key
    → IsTaken world old new (overlaid (slots_of (stood world.table base)) ((key, change) ∷ changes))
    (change_entry key change ++ overlaid (slots_of (stood world.table rest)) changes)
    × IsBase world.trees world.table rest
turn_taken world old new base rest key change changes closed within known below p = (
  run_taken world old new (take p.0 base) (overlaid (slots_of (stood world.table base)) ((key, change) ∷ changes))
      (change_entry key change ++ overlaid (slots_of (stood world.table rest)) changes)
      closed within (base_take world.trees world.table base p.0 known) p.1 (taken_slots world.table old new base rest key changes change known.0 below p),
  base_shorter world.trees world.table base rest known p.5,
)

-- what is known where a table has grown
abbrev IsEntered : World → World → Rest → List ℕ → Type 0
IsEntered now next rest numbers =
    (IsBase next.trees next.table rest.base × (are_within (length next.table) numbers ≡ true)
    × (list_all (λ slot. is_based (length next.trees) slot.1) (slots_in next.table rest) ≡ true))
    × (heft (slots_in next.table rest) ≡ heft (slots_in now.table rest))
    × ((trees : List Files) (slots : Slots) (entries : List Entry) → stood next.table numbers ≡ entries
    → IsSettling trees slots now.trees entries (slots_in now.table rest)
    → IsSettling trees slots next.trees (stood next.table numbers) (slots_in next.table rest))

pub entered : (now next : World) (rest : Rest) (numbers : List ℕ) → StaysIn now next → next.trees ≡ now.trees → IsBase now.trees now.table rest.base
    → are_within (length next.table) numbers ≡ true
    → list_all (λ slot. is_based (length now.trees) slot.1) (slots_in now.table rest) ≡ true → IsEntered now next rest numbers
entered now next rest numbers stays trees base within based =
    let same : slots_in next.table rest ≡ slots_in now.table rest = slots_kept now next rest stays base.0.0 in (
      (
        base_kept now next rest.base stays base,
        within,
        ap (λ (v : List Files). list_all (λ slot. is_based (length v) slot.1) (slots_in next.table rest)) trees ∙ ap
            (list_all (λ slot. is_based (length now.trees) slot.1)) same ∙ based,
      ),
      ap heft same,
      λ start slots entries e h.
          let P : List Entry → Type 0 = λ v. IsSettling start slots now.trees v (slots_in now.table rest) in
          let Q : Slots → Type 0 = λ v. IsSettling start slots now.trees (stood next.table numbers) v in
          let R : List Files → Type 0 = λ v. IsSettling start slots v (stood next.table numbers) (slots_in next.table rest) in
          subst R (sym trees) (subst Q (sym same) (subst P (sym e) h)),
    )

-- all keys of a map come behind the one that was the first
pub below_all : {X : Type 0} (key : List ℕ) (entries : List (List ℕ × X)) → All (λ other. slice_cmp nat_cmp key other ≡ Less) (keys_of entries)
    → is_below key entries ≡ true
below_all key [] h = refl
below_all key (entry ∷ entries) h =
    and_from (is_lt (slice_cmp nat_cmp key entry.0)) _ (ap is_lt (h 0 entry.0 (omega arith))) (below_all key entries (λ k d l. h (suc k) d (omega arith)))

-- ---- directories that wait for one in them

abbrev pub Chain : World → Files → List OpenDirectory → World → Files → Type 0
Chain start files [] now inner = (start ≡ now) × (files ≡ inner)
Chain start files (outer ∷ opened) now inner =
    (slots : Slots) × (mid : World) × (base : Option ℕ) × (pending : List Edit) × IsOpened start.trees files slots
    × IsSettling start.trees slots mid.trees (stood mid.table outer.numbers) ((outer.inside, Directory base pending) ∷ slots_in mid.table outer.rest)
    × IsFrame mid outer × StaysIn start mid × Chain mid (edited (base_files mid.trees base) pending) opened now inner

chain_kept : (start : World) (files : Files) (opened : List OpenDirectory) (now : World) (inner : Files) → Chain start files opened now inner → StaysIn start now
chain_kept start files [] now inner h =
    let P : World → Type 0 = λ v. StaysIn start v in
    subst P h.0 (stays_refl start)
chain_kept start files (outer ∷ opened) now inner h = stays_trans start h.1 now h.7
    (chain_kept h.1 (edited (base_files h.1.trees h.2) h.3) opened now inner h.8)

chain_push : (start : World) (files : Files) (opened : List OpenDirectory) (now : World) (inner : Files) (outer : OpenDirectory) (slots : Slots) (mid : World)
    (base : Option ℕ) (pending : List Edit)
    → Chain start files opened now inner → IsOpened now.trees inner slots
    → IsSettling now.trees slots mid.trees (stood mid.table outer.numbers) ((outer.inside, Directory base pending) ∷ slots_in mid.table outer.rest)
    → IsFrame mid outer → StaysIn now mid → Chain start files (opened ++ outer ∷ []) mid (edited (base_files mid.trees base) pending)
chain_push start files [] now inner outer slots mid base pending h o s f k =
    let P : World → Type 0 = λ v. IsOpened v.trees inner slots in
    let Q : Files → Type 0 = λ v. IsOpened start.trees v slots in
    let R : World → Type 0 = λ v. IsSettling v.trees slots mid.trees (stood mid.table outer.numbers)
    ((outer.inside, Directory base pending) ∷ slots_in mid.table outer.rest) in
    let S : World → Type 0 = λ v. StaysIn v mid in
    (slots, mid, base, pending, subst Q (sym h.1) (subst P (sym h.0) o), subst R (sym h.0) s, f, subst S (sym h.0) k, (refl, refl))
chain_push start files (first ∷ opened) now inner outer slots mid base pending h o s f k =
    (h.0, h.1, h.2, h.3, h.4, h.5, h.6, h.7, chain_push h.1 (edited (base_files h.1.trees h.2) h.3) opened now inner outer slots mid base pending h.8 o s f k)

-- the last of them, and those below it
abbrev IsLast : World → Files → List OpenDirectory → OpenDirectory → World → Files → Type 0
IsLast start files opened outer now inner =
    (mid : World) × (made : Files) × (slots : Slots) × (base : Option ℕ) × (pending : List Edit) × Chain start files opened mid made × IsOpened mid.trees made
    slots
    × IsSettling mid.trees slots now.trees (stood now.table outer.numbers) ((outer.inside, Directory base pending) ∷ slots_in now.table outer.rest)
    × IsFrame now outer × StaysIn mid now × (edited (base_files now.trees base) pending ≡ inner)

chain_pop : (start : World) (files : Files) (opened : List OpenDirectory) (outer : OpenDirectory) (now : World) (inner : Files)
    → Chain start files (opened ++ outer ∷ []) now inner
    → IsLast start files opened outer now inner
chain_pop start files [] outer now inner h =
    let P : World → Type 0 = λ v. IsSettling start.trees h.0 v.trees (stood v.table outer.numbers)
    ((outer.inside, Directory h.2 h.3) ∷ slots_in v.table outer.rest) in
    let Q : World → Type 0 = λ v. IsFrame v outer in
    let R : World → Type 0 = λ v. StaysIn start v in
    let same : h.1 ≡ now = h.8.0 in (
      start,
      files,
      h.0,
      h.2,
      h.3,
      (refl, refl),
      h.4,
      subst P same h.5,
      subst Q same h.6,
      subst R same h.7,
      ap (λ (v : World). edited (base_files v.trees h.2) h.3) (sym same) ∙ h.8.1,
    )
chain_pop start files (first ∷ opened) outer now inner h =
    let last = chain_pop h.1 (edited (base_files h.1.trees h.2) h.3) opened outer now inner h.8 in
    (last.0, last.1, last.2, last.3, last.4, (h.0, h.1, h.2, h.3, h.4, h.5, h.6, h.7, last.5), last.6, last.7, last.8, last.9, last.10)

-- ---- the directories below and the one on top

abbrev pub IsStacked : World → Files → List OpenDirectory → World → OpenDirectory → Type 0
IsStacked start files below now top =
    (mid : World) × (inner : Files) × (slots : Slots) × Chain start files below mid inner × IsOpened mid.trees inner slots
    × IsSettling mid.trees slots now.trees (stood now.table top.numbers) (slots_in now.table top.rest) × IsFrame now top × StaysIn mid now

-- what is known of a directory that was opened
abbrev pub IsNew : World → Files → OpenDirectory → Type 0
IsNew now files top = IsOpened now.trees files (slots_in now.table top.rest) × IsBase now.trees now.table top.rest.base × (top.numbers ≡ [])

new_frame : (now : World) (files : Files) (top : OpenDirectory) → IsNew now files top → IsFrame now top
new_frame now files top h =
    (h.1, ap (are_within (length now.table)) h.2, slots_based (length now.trees) h.0.3.0 (slots_in now.table top.rest) h.0.3.1)

new_settling : (now : World) (files : Files) (top : OpenDirectory) → IsNew now files top
    → IsSettling now.trees (slots_in now.table top.rest) now.trees (stood now.table top.numbers) (slots_in now.table top.rest)
new_settling now files top h =
    let P : List ℕ → Type 0 = λ v. IsSettling now.trees (slots_in now.table top.rest) now.trees (stood now.table v) (slots_in now.table top.rest) in
    subst P (sym h.2) (settling_start now.trees files (slots_in now.table top.rest) h.0)

pub stacked_start : (start : World) (files : Files) (top : OpenDirectory) → IsNew start files top → IsStacked start files [] start top
stacked_start start files top h =
    (start, files, slots_in start.table top.rest, (refl, refl), h.0, new_settling start files top h, new_frame start files top h, stays_refl start)

pub stacked_stays : (start : World) (files : Files) (below : List OpenDirectory) (now : World) (top : OpenDirectory) → IsStacked start files below now top → StaysIn start now
stacked_stays start files below now top h = stays_trans start h.0 now (chain_kept start files below h.0 h.1 h.3) h.7

-- what a call that takes entries says
abbrev pub IsAdvance : World → World → OpenDirectory → OpenDirectory → Option (Option ℕ × List Edit) → Type 0
IsAdvance now next old top inner = Advances now next old top inner × IsFrame next top × StaysIn now next × (next.trees ≡ now.trees)

pub stacked_base : (start : World) (files : Files) (below : List OpenDirectory) (now next : World) (old top : OpenDirectory) (base : Option ℕ) (pending : List Edit)
    → IsStacked start files below now old
    → IsAdvance now next old top (Some (base, pending)) → is_base (length next.trees) base ≡ true
stacked_base start files below now next old top base pending h go =
    (and_parts _ _ (settling_based h.0.trees h.2 next.trees (stood next.table top.numbers) ((top.inside, Directory base pending) ∷ slots_in next.table top.rest)
    (go.0 h.0.trees h.2 h.5))).0

pub stacked_push : (start : World) (files : Files) (below : List OpenDirectory) (now next : World) (old top inner : OpenDirectory) (base : Option ℕ) (pending : List Edit)
    → IsStacked start files below now old
    → IsAdvance now next old top (Some (base, pending)) → IsNew next (edited (base_files next.trees base) pending) inner
    → IsStacked start files (below ++ top ∷ []) next inner
stacked_push start files below now next old top inner base pending h go new =
    let made = edited (base_files next.trees base) pending in (
      next,
      made,
      slots_in next.table inner.rest,
      chain_push start files below h.0 h.1 top h.2 next base pending h.3 h.4 (go.0 h.0.trees h.2 h.5) go.1 (stays_trans h.0 now next h.7 go.2),
      new.0,
      new_settling next made inner new,
      new_frame next made inner new,
      stays_refl next,
    )

pub stacked_made : (start : World) (files : Files) (below : List OpenDirectory) (now next : World) (old top : OpenDirectory) → IsStacked start files below now old
    → IsAdvance now next old top None
    → slots_in next.table top.rest ≡ [] → is_node next.trees (stood next.table top.numbers) ≡ true
stacked_made start files below now next old top h go spent =
    let P : Slots → Type 0 = λ v. IsSettling h.0.trees h.2 next.trees (stood next.table top.numbers) v in
    (settling_made h.0.trees h.1 h.2 next.trees (stood next.table top.numbers) h.4 (subst P spent (go.0 h.0.trees h.2 h.5))).1

pub stacked_end : (start : World) (files : Files) (below : List OpenDirectory) (now next : World) (old top : OpenDirectory) → IsStacked start files below now old
    → IsAdvance now next old top None
    → slots_in next.table top.rest ≡ [] → below ≡ [] → IsMade start.trees next.trees files (stood next.table top.numbers)
stacked_end start files below now next old top h go spent none =
    let C : List OpenDirectory → Type 0 = λ v. Chain start files v h.0 h.1 in
    let here = subst C none h.3 in
    let P : Slots → Type 0 = λ v. IsSettling h.0.trees h.2 next.trees (stood next.table top.numbers) v in
    let Q : World → Type 0 = λ v. IsMade v.trees next.trees h.1 (stood next.table top.numbers) in
    let R : Files → Type 0 = λ v. IsMade start.trees next.trees v (stood next.table top.numbers) in
    subst R (sym here.1) (subst Q (sym here.0) (settling_made h.0.trees h.1 h.2 next.trees (stood next.table top.numbers) h.4
    (subst P spent (go.0 h.0.trees h.2 h.5))))

-- a tree more leaves the entries
pub tree_stays : (next closed : World) → take (length next.trees) closed.trees ≡ next.trees → closed.table ≡ next.table → StaysIn next closed
tree_stays next closed kept table =
    let T : List Entry → Type 0 = λ v. take (length next.table) v ≡ next.table in
    (subst T (sym table) (kept_refl next.table), kept)

pub stacked_under : (start : World) (files : Files) (below less : List OpenDirectory) (now later : World) (top outer : OpenDirectory) → IsStacked start files below now top
    → below ≡ less ++ outer ∷ []
    → StaysIn now later → are_within (length later.table) outer.numbers ≡ true
stacked_under start files below less now later top outer h parts stays =
    let C : List OpenDirectory → Type 0 = λ v. Chain start files v h.0 h.1 in
    let low = chain_pop start files less outer h.0 h.1 (subst C parts h.3) in
    within_kept h.0.table later.table outer.numbers (stays_trans h.0 now later h.7 stays).0 low.8.1

-- the directory on top is over: its tree is there, and the one below it has an entry more
pub stacked_pop : (start : World) (files : Files) (below less : List OpenDirectory) (now next closed last : World) (old top outer after : OpenDirectory) (number : Option ℕ)
    → IsStacked start files below now old → IsAdvance now next old top None → slots_in next.table top.rest ≡ [] → below ≡ less ++ outer ∷ []
    → IsClosed next.trees closed.trees (stood next.table top.numbers) number → take (length next.trees) closed.trees ≡ next.trees → closed.table ≡ next.table
    → stood last.table after.numbers ≡ with_directory (stood closed.table outer.numbers) outer.inside number
    → are_within (length last.table) after.numbers ≡ true
    → StaysIn closed last → last.trees ≡ closed.trees → after.rest ≡ outer.rest → IsStacked start files less last after
stacked_pop start files below less now next closed last old top outer after number h go spent parts done kept table entries within stays trees rest =
    let C : List OpenDirectory → Type 0 = λ v. Chain start files v h.0 h.1 in
    let low = chain_pop start files less outer h.0 h.1 (subst C parts h.3) in
    let P : Slots → Type 0 = λ v. IsSettling h.0.trees h.2 next.trees (stood next.table top.numbers) v in
    let settled = settling_closed h.0.trees h.1 h.2 next.trees closed.trees (stood next.table top.numbers) number h.4 (subst P spent (go.0 h.0.trees h.2 h.5))
    done in
    let to_closed : StaysIn next closed = tree_stays next closed kept table in
    let from : StaysIn h.0 closed = stays_trans h.0 next closed (stays_trans h.0 now next h.7 go.2) to_closed in
    let whole : StaysIn h.0 last = stays_trans h.0 closed last from stays in
    let inner : h.1 ≡ edited (base_files h.0.trees low.3) low.4 = sym low.10 in
    let Q : Files → Type 0 = λ v. IsSettled closed.trees v number in
    let all = settling_directory low.0.trees low.2 h.0.trees closed.trees (stood h.0.table outer.numbers) outer.inside low.3 low.4
    (slots_in h.0.table outer.rest) number low.7 from.1
    (settled.0 ∙ ap (λ v. fold with_tree h.0.trees (or_none (where_some directories v))) inner) (subst Q inner settled.1) in
    let numbers : stood last.table after.numbers ≡ with_directory (stood h.0.table outer.numbers) outer.inside number =
    entries ∙ ap (λ v. with_directory v outer.inside number) (stood_kept h.0.table closed.table outer.numbers from.0 low.8.1) in
    let slots : slots_in last.table after.rest ≡ slots_in h.0.table outer.rest = ap (slots_in last.table) rest ∙ slots_kept h.0 last outer.rest whole
    low.8.0.0.0 in
    let R : List Entry → Type 0 = λ v. IsSettling low.0.trees low.2 closed.trees v (slots_in h.0.table outer.rest) in
    let S : Slots → Type 0 = λ v. IsSettling low.0.trees low.2 closed.trees (stood last.table after.numbers) v in
    let U : List Files → Type 0 = λ v. IsSettling low.0.trees low.2 v (stood last.table after.numbers) (slots_in last.table after.rest) in
    let frame = frame_kept h.0 last outer whole low.8 in
    let B : Rest → Type 0 = λ v. IsBase last.trees last.table v.base
    × (list_all (λ slot. is_based (length last.trees) slot.1) (slots_in last.table v) ≡ true) in
    let known = subst B (sym rest) (frame.0, frame.2) in (
      low.0,
      low.1,
      low.2,
      low.5,
      low.6,
      subst U (sym trees) (subst S (sym slots) (subst R (sym numbers) all)),
      (known.0, within, known.1),
      stays_trans low.0 h.0
          last low.9 whole,
    )

-- ---- what is still to be done falls

abbrev pub height : List Entry → List OpenDirectory → ℕ
height table [] = 0
height table (outer ∷ opened) = suc (heft (slots_in table outer.rest)) + height table opened

pub height_more : (table : List Entry) (opened : List OpenDirectory) (outer : OpenDirectory)
    → height table (opened ++ outer ∷ []) ≡ height table opened + suc (heft (slots_in table outer.rest))
height_more table [] outer = omega arith
height_more table (first ∷ opened) outer = let more = height_more table opened outer in omega (arith, more)

-- a table that grows leaves it as it was
height_kept : (start now : World) (files inner : Files) (below : List OpenDirectory) (later : World) → Chain start files below now inner → StaysIn now later
    → height later.table below ≡ height now.table below
height_kept start now files inner [] later h stays = refl
height_kept start now files inner (outer ∷ below) later h stays =
    let to_now = chain_kept h.1 (edited (base_files h.1.trees h.2) h.3) below now inner h.8 in
    let a = slots_kept h.1 now outer.rest to_now h.6.0.0.0 in
    let b = slots_kept h.1 later outer.rest (stays_trans h.1 now later to_now stays) h.6.0.0.0 in
    let same = ap heft (b ∙ sym a) in
    omega (arith, same, height_kept h.1 now (edited (base_files h.1.trees h.2) h.3) inner below later h.8 stays)

pub stacked_height : (start : World) (files : Files) (below : List OpenDirectory) (now later : World) (top : OpenDirectory) → IsStacked start files below now top
    → StaysIn now later
    → height later.table below ≡ height now.table below
stacked_height start files below now later top h stays =
    height_kept start h.0 files h.1 below later h.3 (stays_trans h.0 now later h.7 stays) ∙ sym (height_kept start h.0 files h.1 below now h.3 h.7)
