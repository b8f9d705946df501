-- Entries as they are kept: with the numbers of their keys.
use Rattle.std.specs.Prelude.{◌≡◌, ◌⊎◌, ℕ, Bool, nat_lt, List, [], ◌∷◌, ◌++◌, map}
use Rattle.std.specs.List.{list_all, slice_index_or}
use Rattle.bf_oid.specs.declared.object.Mode.TheVariants as mode
use Rattle.bf_forest.specs.declared.nodes.Entry.{Entry}
use Rattle.bf_forest.specs.declared.nodes.EntryKind.{EntryKind}
use Rattle.bf_forest.specs.declared.nodes.EntryKind.TheVariants as kind
use Rattle.bf_forest.specs.declared.table.Content.{Content}
use Rattle.bf_forest.specs.declared.table.Content.TheVariants.{Plain, Exec, Link, Module, Directory}
use Rattle.bf_forest.specs.declared.table.Stored.{Stored}

-- what an entry stands for
abbrev pub kind_of : Content → EntryKind
kind_of (Plain oid) = kind.File mode.Plain oid
kind_of (Exec oid) = kind.File mode.Exec oid
kind_of (Link oid) = kind.File mode.Link oid
kind_of (Module oid) = kind.File mode.Module oid
kind_of (Directory number) = kind.Directory number

-- an entry, by the keys that there are
abbrev pub entry_of : List (List ℕ) → Stored → Entry
entry_of keys stored = record { key = slice_index_or keys stored.key []; kind = kind_of stored.content }

abbrev pub entries_in : List (List ℕ) → List Stored → List Entry
entries_in keys stored = map (entry_of keys) stored

-- each has a key
abbrev pub have_keys : ℕ → List Stored → Bool
have_keys count stored = list_all (λ entry. nat_lt entry.key count) stored

-- the same entries, or with one more at the end
abbrev pub IsJoined : List Stored → List Stored → Stored → Type 0
IsJoined before after stored = (after ≡ before) ⊎ (after ≡ before ++ stored ∷ [])
