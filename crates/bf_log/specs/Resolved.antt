-- What a printed log needs to be replayed.
use Rattle.std.specs.Prelude.{◌≡◌, ℕ, ◌<◌, Bool, true, false, List, [], ◌∷◌, codes, Ok}
use Rattle.bf_search.specs.declared.entries.Entry.{Entry}
use Rattle.bf_search.specs.declared.entries.Entry.TheVariants.{Start, Marked}
use Rattle.bf_terms.specs.Texts.{Commits, Sides, standard_sides, hex_of}
use Rattle.bf_reading.specs.Reading.{is_word}
use Rattle.bf_log.specs.Replay.{Setting}

-- the words of the three marks differ
pub record AreTerms (sides : Sides) : Type 0 where
  pub apart : is_word sides.new sides.old ≡ false
  pub new_no_skip : is_word sides.new (codes "skip") ≡ false
  pub old_no_skip : is_word sides.old (codes "skip") ≡ false

-- terms that a start doesn't name are the standard ones
abbrev pub FitsStart : Sides → Bool → Type 0
FitsStart sides true = Unit {0}
FitsStart sides false = standard_sides ≡ sides

-- the names of these places lead back to them
abbrev pub ArePlaced : {F : Type 0} → Setting F → Commits → List ℕ → Type 0
ArePlaced setting commits [] = Unit {0}
ArePlaced setting commits (p ∷ ps) = (setting.place_of (hex_of commits p) ≡ Ok p) × ArePlaced setting commits ps

-- the entries of a run: no start among them, and the names of the marked places lead back to them
abbrev pub AreResolved : {F : Type 0} → Setting F → Commits → List Entry → Type 0
AreResolved setting commits [] = Unit {0}
AreResolved setting commits (Start first_parent terms_given bad goods ∷ entries) = ⊥
AreResolved setting commits (Marked m p ∷ entries) = (setting.place_of (hex_of commits p) ≡ Ok p) × AreResolved
    setting commits entries
AreResolved setting commits (other ∷ entries) = AreResolved setting commits entries

-- entries without a start, whose marked places are below a length
abbrev pub AreRunEntries : ℕ → List Entry → Type 0
AreRunEntries n [] = Unit {0}
AreRunEntries n (Start first_parent terms_given bad goods ∷ entries) = ⊥
AreRunEntries n (Marked m p ∷ entries) = (p < n) × AreRunEntries n entries
AreRunEntries n (other ∷ entries) = AreRunEntries n entries
