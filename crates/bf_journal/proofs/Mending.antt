-- What is left while the gates of spoiled slots are closed.
use Rattle.std.proofs.Common.{◌≡◌, ◌⊎◌, inl, inr, ⊎_elim, ℕ, ◌+◌, ◌*◌, ◌<◌, ◌≤◌, Bool, true, false, List, [], ◌∷◌, length, map, get_or, slice_index, Option, Some, None, Ok, IfSome, is_some, refl, sym, ◌∙◌, ap, subst, arith}
use Rattle.std.specs.List.{list_any}
use Rattle.std.specs.Option.{option_map}
use Rattle.std.proofs.lemmas.Bool.{cases_lt}
use Rattle.std.proofs.lemmas.Bool.Decides.{nat_tests}
use Rattle.std.proofs.lemmas.List.{ext_get_or, get_or-map, length-map}
use Rattle.std.proofs.lemmas.List.Folds.{list_any_none}
use Rattle.std.proofs.lemmas.List.FromFn.{get_or-map-range_with_len}
use Rattle.bf_oid.specs.declared.object.Oid.{Oid}
use Rattle.bf_search.specs.declared.outcomes.Outcome.{Outcome}
use Rattle.bf_journal.specs.Disk.{overwritten, Torn, Follows, NoMore, Elapses, LeavesOnly}
use Rattle.bf_journal.specs.Image.{slot_start, slot_in, slots_in, packed_slots, is_spoiled, kept_in, table_in}
use Rattle.bf_journal.specs.Journal.{keeping, AreSound, FitsBytes, HasSlots, IsMended, IsMending, IsOfRun, IsSpoiledGate, ReadsMended, StandsAs}
use Rattle.bf_journal.specs.Overwritten.{overwritten_inside, Torn-overwritten}
use Rattle.bf_journal.specs.declared.disk.Disk.{Ghosts}
use Rattle.bf_journal.specs.declared.layout.Slot.{Slot}
use Rattle.bf_journal.proofs.Fitting.{closed_slot-sound, fits_by_parts}
use Rattle.bf_journal.proofs.Images.{table_in-open, same_slot, same_identity, length-slots_in, get_or-slots_in}
use Rattle.bf_journal.proofs.Looking.{packed-slots_in}
use Rattle.bf_journal.proofs.Moments.{LeavesOnly-call, LeavesOnly-then, LeavesOnly-within}

-- ---- a slot

-- a slot that is spoiled keeps nothing, whatever becomes of its gate
spoiled_slot-kept : (slot then_slot : Slot) → then_slot.kind ≡ slot.kind → then_slot.status ≡ slot.status → is_spoiled slot ≡ true → kept_in then_slot ≡ kept_in slot
spoiled_slot-kept slot then_slot kind status spoiled = grind (arith, nat_tests)

-- ---- bytes that are mended

pub mended-refl : (len : ℕ) (bytes : List ℕ) → IsMended len bytes bytes
mended-refl len bytes = record { size = refl; each = λ i within. inl refl }

-- one write more
pub mended-torn : (len place : ℕ) (bytes earlier image : List ℕ) → slot_start len ≤ length bytes → place < len → is_spoiled (slot_in bytes (slot_start place)) ≡ true
    → IsMended len bytes earlier → Torn (slot_start place) 1 earlier image → IsMended len bytes image
mended-torn len place bytes earlier image long inside spoiled mended torn = record {
  size = omega (arith, mended.size, torn.no_shorter, torn.no_longer);
  each = λ i within. elim (cases_lt i (slot_start place)) [
    | inl lower ↦ as_it_was i (torn.before i (omega (arith, mended.size)) lower) (mended.each i within)
    | inr higher ↦ elim (cases_lt i (slot_start place + 1)) [
      | inl at ↦ inr (place, inside, omega arith, spoiled)
      | inr behind ↦ as_it_was i (torn.behind i (omega (arith, mended.size)) behind) (mended.each i within)
    ]
  ];
}
  where
    as_it_was : (i : ℕ) → slice_index image i ≡ slice_index earlier i → (slice_index earlier i ≡ slice_index bytes i) ⊎ IsSpoiledGate len bytes i
        → (slice_index image i ≡ slice_index bytes i) ⊎ IsSpoiledGate len bytes i
    as_it_was i same (inl was) = inl (same ∙ was)
    as_it_was i same (inr gate) = inr gate

module _ (len : ℕ) (bytes image : List ℕ) (long : slot_start len ≤ length bytes) (mended : IsMended len bytes image) where
  -- a byte that is no gate
  other_byte : (i : ℕ) → i < length bytes → ((place : ℕ) → i ≡ slot_start place → ⊥) → slice_index image i ≡ slice_index bytes i
  other_byte i within other = of (mended.each i within)
    where
      of : (slice_index image i ≡ slice_index bytes i) ⊎ IsSpoiledGate len bytes i → slice_index image i ≡ slice_index bytes i
      of (inl same) = same
      of (inr (place, inside, at, spoiled)) = absurd (other place at)

  module _ (place : ℕ) (within : place < len) where
    kind_is : slice_index image (slot_start place + 1) ≡ slice_index bytes (slot_start place + 1)
    kind_is = other_byte (slot_start place + 1) (omega arith) (λ q at. omega arith)

    status_is : slice_index image (slot_start place + 2) ≡ slice_index bytes (slot_start place + 2)
    status_is = other_byte (slot_start place + 2) (omega arith) (λ q at. omega arith)

    gate_is : (slice_index image (slot_start place) ≡ slice_index bytes (slot_start place)) ⊎ (is_spoiled (slot_in bytes (slot_start place)) ≡ true)
    gate_is = of (mended.each (slot_start place) (omega arith))
      where
        of : (slice_index image (slot_start place) ≡ slice_index bytes (slot_start place)) ⊎ IsSpoiledGate len bytes (slot_start place)
            → (slice_index image (slot_start place) ≡ slice_index bytes (slot_start place)) ⊎ (is_spoiled (slot_in bytes (slot_start place)) ≡ true)
        of (inl same) = inl same
        of (inr (q, inside, at, spoiled)) =
            let same : q ≡ place = omega arith in
            inr (subst (λ (p : ℕ). is_spoiled (slot_in bytes (slot_start p)) ≡ true) same spoiled)

    slot_kept : kept_in (slot_in image (slot_start place)) ≡ kept_in (slot_in bytes (slot_start place))
    slot_kept =
        ⊎_elim (λ gate. ap kept_in (same_slot image bytes (slot_start place) gate kind_is status_is))
        (λ spoiled. spoiled_slot-kept (slot_in bytes (slot_start place)) (slot_in image (slot_start place)) kind_is status_is spoiled) gate_is

    -- a slot that was sound is so
    pub still_sound : is_spoiled (slot_in bytes (slot_start place)) ≡ false → is_spoiled (slot_in image (slot_start place)) ≡ false
    still_sound sound =
        ⊎_elim (λ gate. ap is_spoiled (same_slot image bytes (slot_start place) gate kind_is status_is) ∙ sound)
        (λ spoiled. absurd (cc (sound, spoiled))) gate_is

  all_kept : map kept_in (slots_in len image) ≡ map kept_in (slots_in len bytes)
  all_kept =
      let slot = slot_in bytes 0 in
      ext_get_or None (map kept_in (slots_in len image)) (map kept_in (slots_in len bytes))
      (length-map (slots_in len image) kept_in ∙ length-slots_in len image ∙ sym (length-map (slots_in len bytes) kept_in ∙ length-slots_in len bytes))
      (λ place within. let inside : place < len = omega (arith, length-map (slots_in len image) kept_in, length-slots_in len image) in
      get_or-map kept_in (slots_in len image) place slot None (omega (arith, length-slots_in len image)) ∙ ap kept_in (get_or-slots_in len image place slot inside) ∙ slot_kept place inside
      ∙ sym (get_or-map kept_in (slots_in len bytes) place slot None (omega (arith, length-slots_in len bytes)) ∙ ap kept_in (get_or-slots_in len bytes place slot inside)))

  module _ (identity : Oid) (own : IsOfRun identity bytes) where
    own_still : IsOfRun identity image
    own_still = record {
      long_enough = omega (arith, mended.size, own.long_enough);
      is_open = other_byte 0 (omega (arith, own.long_enough)) (λ q at. omega arith) ∙ own.is_open;
      named = same_identity image bytes (omega (arith, mended.size, own.long_enough)) (omega (arith, own.long_enough))
          (λ i low high. other_byte i (omega (arith, own.long_enough)) (λ q at. omega arith)) ∙ own.named;
    }

    own_table : table_in identity len bytes ≡ Ok (map kept_in (slots_in len bytes))
    own_table = table_in-open identity len bytes own.long_enough own.is_open long own.named

    -- the image stands as the bytes do
    pub stands_as : StandsAs identity len bytes image
    stands_as =
        let is = own_still in
        record {
          same = table_in-open identity len image is.long_enough is.is_open (omega (arith, mended.size)) is.named ∙ ap Ok all_kept ∙ sym own_table;
          other = λ kept e. absurd (cc (e, own_table));
        }

    -- and once no slot is spoiled it fits the journal
    pub fits_mended : AreSound len image → (kept : List (Option Outcome)) → kept ≡ map kept_in (slots_in len bytes) → FitsBytes (keeping identity kept true) image
    fits_mended sound kept is_kept =
        let is = own_still in
        let size : len ≡ length kept = sym (ap length is_kept ∙ length-map (slots_in len bytes) kept_in ∙ length-slots_in len bytes) in
        let whole : list_any is_spoiled (slots_in len image) ≡ false =
        list_any_none is_spoiled (slots_in len image) (λ place d within. let inside : place < len = omega (arith, length-slots_in len image) in
        ap is_spoiled (get_or-slots_in len image place d inside) ∙ sound place inside) in
        fits_by_parts identity kept true len image size (omega (arith, mended.size)) is.is_open is.named whole (all_kept ∙ sym is_kept)

-- ---- slot by slot

pub never_both : (any : Bool) → any ≡ false → any ≡ true → ⊥
never_both true none some = cc none
never_both false none some = cc some

-- the slot of a place, in the slots that were read
read_slot : (len place : ℕ) (slots bytes : List ℕ) → HasSlots len slots bytes → place < len → slot_in slots (4 * place) ≡ slot_in bytes (slot_start place)
read_slot len place slots bytes (long, is) within =
    let slot = slot_in bytes 0 in
    sym (get_or-packed slot) ∙ ap (λ (l : List Slot). get_or l place slot) (ap (packed_slots len) is ∙ packed-slots_in len bytes) ∙ get_or-slots_in len bytes place slot within
  where
    get_or-packed : (d : Slot) → get_or (packed_slots len slots) place d ≡ slot_in slots (4 * place)
    get_or-packed d = get_or-map-range_with_len (λ p. slot_in slots (4 * p)) 0 len place place d within (omega arith)

module _ (len place : ℕ) (slots : List ℕ) (within : place < len) where
  -- one that is sound
  pub reads-sound : (told now : Option (List ℕ)) → IfSome told (HasSlots len slots) → is_spoiled (slot_in slots (4 * place)) ≡ false
      → IfSome told (ReadsMended len place now) → IfSome told (ReadsMended len (place + 1) now)
  reads-sound None now has sound reads = tt
  reads-sound (Some bytes) None has sound reads = tt
  reads-sound (Some bytes) (Some found) has sound (mended, are) = (
    mended,
    λ q inside. elim (cases_lt q place) [
      | inl lower ↦ are q lower
      | inr higher ↦
          let same : place ≡ q = omega arith in
          subst (λ (p : ℕ). is_spoiled (slot_in found (slot_start p)) ≡ false) same
          (still_sound len bytes found has.0 mended place within (ap is_spoiled (sym (read_slot len place slots bytes has within)) ∙ sound))
    ],
  )

  -- one that is spoiled, whose gate is closed
  pub reads-closed : (told now then_now : Option (List ℕ)) (at : ℕ) → at ≡ slot_start place → IfSome told (HasSlots len slots) → is_spoiled (slot_in slots (4 * place)) ≡ true
      → IfSome told (ReadsMended len place now) → then_now ≡ option_map (overwritten at (0 ∷ [])) now → IfSome told (ReadsMended len (place + 1) then_now)
  reads-closed None now then_now at is has spoiled reads written = tt
  reads-closed (Some bytes) None then_now at is has spoiled reads written =
      subst (λ (t : Option (List ℕ)). ReadsMended len (place + 1) t bytes) (sym written) tt
  reads-closed (Some bytes) (Some found) then_now at is has spoiled (mended, are) written =
      let new = overwritten (slot_start place) (0 ∷ []) found in
      let torn : Torn (slot_start place) 1 found new = Torn-overwritten (slot_start place) (0 ∷ []) found in
      let bad : is_spoiled (slot_in bytes (slot_start place)) ≡ true = ap is_spoiled (sym (read_slot len place slots bytes has within)) ∙ spoiled in
      let long : slot_start len ≤ length found = omega (arith, mended.size, has.0) in
      let some : then_now ≡ Some new = written ∙ ap (λ (k : ℕ). Some (overwritten k (0 ∷ []) found)) is in
      subst (λ (t : Option (List ℕ)). ReadsMended len (place + 1) t bytes) (sym some) (
        mended-torn len place bytes found new has.0 within bad mended torn,
        λ q inside. elim (cases_lt q place) [
          | inl lower ↦
              ap is_spoiled (same_slot new found (slot_start q) (torn.before (slot_start q) (omega (arith, long)) (omega arith)) (torn.before (slot_start q + 1) (omega (arith, long)) (omega arith))
              (torn.before (slot_start q + 2) (omega (arith, long)) (omega arith))) ∙ are q lower
          | inr higher ↦
              let same : place ≡ q = omega arith in
              subst (λ (p : ℕ). is_spoiled (slot_in new (slot_start p)) ≡ false) same
              (closed_slot-sound (slot_in new (slot_start place)) (λ gate.
              let zero : slice_index new (slot_start place) ≡ 0 = overwritten_inside (slot_start place) (0 ∷ []) found (slot_start place) 0 (omega (arith, long)) (omega arith) (omega arith) in
              cc (zero, gate)))
        ],
      )

-- ---- on a disk

module _ {D : Type 0} (by : Ghosts D) (only_now : (disk : D) (image : List ℕ) → by.left_since disk (by.moment disk) image → by.may_leave disk image) (len : ℕ) where
  -- a call after which a crash leaves nothing else
  goes_on : (bytes : List ℕ) (old mid new : D) → IsMending by len old mid bytes → ((image : List ℕ) → by.may_leave new image → IsMended len bytes image)
      → Elapses (by.moment mid) (by.moment new) (by.left_since mid) (by.left_since new) (by.may_leave new) → IsMending by len old new bytes
  goes_on bytes old mid new mending now time = record {
    now = now;
    any_moment = LeavesOnly-then by.moment by.left_since old mid new (IsMended len bytes) (IsMended len bytes) mending.any_moment
        (LeavesOnly-call by.moment by.left_since mid new (IsMended len bytes) (by.may_leave mid) (by.may_leave new) time (only_now mid) mending.now now) (λ image is. is);
  }

  -- the write at a gate
  pub mending-write : (told : Option (List ℕ)) (place : ℕ) (slots : List ℕ) (at : ℕ) (old mid new : D) → at ≡ slot_start place → place < len → IfSome told (HasSlots len slots)
      → is_spoiled (slot_in slots (4 * place)) ≡ true → IfSome told (IsMending by len old mid) → Follows (Torn at 1) (by.may_leave mid) (by.may_leave new)
      → Elapses (by.moment mid) (by.moment new) (by.left_since mid) (by.left_since new) (by.may_leave new) → IfSome told (IsMending by len old new)
  mending-write None place slots at old mid new is within has spoiled mending images time = tt
  mending-write (Some bytes) place slots at old mid new is within has spoiled mending images time =
      goes_on bytes old mid new mending (λ image may. torn image (images image may)) time
    where
      torn : (image : List ℕ) → (earlier : List ℕ) × by.may_leave mid earlier × Torn at 1 earlier image → IsMended len bytes image
      torn image (earlier, may, write) =
          mended-torn len place bytes earlier image has.0 within (ap is_spoiled (sym (read_slot len place slots bytes has within)) ∙ spoiled) (mending.now earlier may)
          (subst (λ (k : ℕ). Torn k 1 earlier image) is write)

  -- the sync
  pub mending-sync : (told : Option (List ℕ)) (old mid new : D) → IfSome told (IsMending by len old mid) → NoMore (by.may_leave mid) (by.may_leave new)
      → Elapses (by.moment mid) (by.moment new) (by.left_since mid) (by.left_since new) (by.may_leave new)
      → IfSome told (λ bytes. LeavesOnly by.moment by.left_since old new (IsMended len bytes))
  mending-sync None old mid new mending more time = tt
  mending-sync (Some bytes) old mid new mending more time = (goes_on bytes old mid new mending (λ image may. mending.now image (more image may)) time).any_moment

  pub mending-moments : (told : Option (List ℕ)) (old new : D) → IfSome told (IsMending by len old new) → IfSome told (λ bytes. LeavesOnly by.moment by.left_since old new (IsMended len bytes))
  mending-moments None old new mending = tt
  mending-moments (Some bytes) old new mending = mending.any_moment

-- ---- a journal that is taken up

module _ (identity : Oid) (len : ℕ) (slots : List ℕ) where
  pub taken_up : {D : Type 0} (moment : D → ℕ) (left_since : D → ℕ → List ℕ → Type 0) (told : Option (List ℕ)) (old new : D) → IfSome told (IsOfRun identity) → IfSome told (HasSlots len slots)
      → IfSome told (λ bytes. LeavesOnly moment left_since old new (IsMended len bytes)) → IfSome told (λ bytes. LeavesOnly moment left_since old new (StandsAs identity len bytes))
  taken_up moment left_since None old new own has left = tt
  taken_up moment left_since (Some bytes) old new own has left =
      LeavesOnly-within moment left_since old new (IsMended len bytes) (StandsAs identity len bytes) left (λ image mended. stands_as len bytes image has.0 mended identity own)

  module _ (kept : List (Option Outcome)) (is : kept ≡ map kept_in (packed_slots len slots)) where
    found_slots : (bytes : List ℕ) → HasSlots len slots bytes → kept ≡ map kept_in (slots_in len bytes)
    found_slots bytes has = is ∙ ap (map kept_in) (ap (packed_slots len) has.1 ∙ packed-slots_in len bytes)

    pub taken_kept : (told : Option (List ℕ)) → IfSome told (IsOfRun identity) → IfSome told (HasSlots len slots) → IfSome told (λ bytes. table_in identity len bytes ≡ Ok kept)
    taken_kept None own has = tt
    taken_kept (Some bytes) own has = own_table len bytes bytes has.0 (mended-refl len bytes) identity own ∙ ap Ok (sym (found_slots bytes has))

    pub taken_fits : (told now : Option (List ℕ)) → is_some now ≡ is_some told → IfSome told (IsOfRun identity) → IfSome told (HasSlots len slots) → IfSome told (ReadsMended len len now)
        → IfSome now (FitsBytes (keeping identity kept true))
    taken_fits told None same own has reads = tt
    taken_fits None (Some found) same own has reads = absurd (cc same)
    taken_fits (Some bytes) (Some found) same own has (mended, sound) = fits_mended len bytes found has.0 mended identity own sound kept (found_slots bytes has)
