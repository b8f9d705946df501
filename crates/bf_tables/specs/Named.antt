-- Names in order, each once.
use Rattle.std.specs.Prelude.{◌≡◌, ℕ, List, [], ◌∷◌, ◌++◌, if◌then◌else◌, is_some, slice_get, Some}
use Rattle.bf_oid.specs.declared.object.Oid.{Oid}
use Rattle.bf_history.specs.Meanings.{place_named}

-- each name leads to its own place, so no two are the same
abbrev pub LeadEachToItself : List Oid → Type 0
LeadEachToItself names =
    (place : ℕ) (name : Oid) → slice_get names place ≡ Some name → place_named names name ≡ Some place

-- the names with one more, at the next place; one that is there already changes nothing
abbrev pub with_name : List Oid → Oid → List Oid
with_name names name = if is_some (place_named names name) then names else names ++ name ∷ []
