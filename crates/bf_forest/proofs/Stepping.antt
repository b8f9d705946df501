-- A step of a walk through the files of a tree: the next entry of a directory, and those behind it.
use Rattle.std.proofs.Common.{◌≡◌, ℕ, ◌<◌, nat_lt, true, List, ◌∷◌, length, sym, ap, ◌∙◌, subst}
use Rattle.std.proofs.lemmas.Bool.{and_parts, ltb-true}
use Rattle.bf_paths.specs.Components.{is_component}
use Rattle.bf_forest.specs.declared.nodes.Entry.{Entry}
use Rattle.bf_forest.specs.Files.{Files}
use Rattle.bf_forest.specs.Listing.{name_in}
use Rattle.bf_forest.specs.Nodes.{is_good, entry_at, stood, are_within}
use Rattle.bf_forest.proofs.Leveled.{IsLevel}

pub record IsStep (trees : List Files) (table : List Entry) (rest others : List ℕ) (number : ℕ) : Type 0 where
  pub first : stood table rest ≡ entry_at table number ∷ stood table others
  pub level : IsLevel trees (entry_at table number ∷ stood table others)
  pub here : number < length table
  pub within : are_within (length table) others ≡ true
  pub good : is_good (length trees) (entry_at table number) ≡ true
  pub component : is_component (name_in (entry_at table number).key) ≡ true

pub stepped : (trees : List Files) (table : List Entry) (rest others : List ℕ) (number : ℕ) → rest ≡ number ∷ others → IsLevel trees (stood table rest)
    → are_within (length table) rest ≡ true → IsStep trees table rest others number
stepped trees table rest others number e h within =
    let entry = entry_at table number in
    let first : stood table rest ≡ entry ∷ stood table others = ap (stood table) e in
    let parts = and_parts (nat_lt number (length table)) (are_within (length table) others) (ap (are_within (length table)) (sym e) ∙ within) in
    let P : List Entry → Type 0 = IsLevel trees in
    let level : IsLevel trees (entry ∷ stood table others) = subst P first h in
    let good = (and_parts (is_good (length trees) entry) _ level.0).0 in
    record {
      first = first;
      level = level;
      here = ltb-true number (length table) parts.0;
      within = parts.1;
      good = good;
      component = (and_parts (is_component (name_in entry.key)) _ good).0;
    }
