-- Worked examples.
use Rattle.std.proofs.Common.{◌≡◌, ℕ, false, List, [], ◌∷◌, refl}
use Rattle.bf_oid.specs.declared.object.Mode.{Mode}
use Rattle.bf_oid.specs.declared.object.Mode.TheVariants.{Plain, Link, Module}
use Rattle.bf_oid.specs.declared.object.Oid.{Oid}
use Rattle.bf_forest.specs.declared.entries.FileEntry.{FileEntry}
use Rattle.bf_tester.specs.Grounds.{File}
use Rattle.bf_history.specs.Contents.{Content}
use Rattle.bf_checkout.specs.Checkouts.{checkout}

abbrev named : ℕ → Oid
named n = record { 0 = n ∷ [] }

abbrev entry : ℕ → Mode → ℕ → FileEntry
entry letter mode n = record { path = (letter ∷ []) ∷ []; mode = mode; oid = named n }

-- one commit with a file, a link and a submodule
abbrev content : Content
content = record {
  history = record {
    refs = [];
    parents = [];
    files = (entry 97 Plain 1 ∷ entry 98 Link 2 ∷ entry 99 Module 3 ∷ []) ∷ [];
    subjects = [];
    names = [];
    directories = [] ∷ [];
    original_names = false;
  };
  blobs = (named 2, 20 ∷ []) ∷ (named 1, 10 ∷ 11 ∷ []) ∷ [];
}

abbrev file : ℕ → List ℕ → File
file letter bytes = record { path = (letter ∷ []) ∷ []; bytes = bytes }

a_link_is_a_file_and_a_submodule_is_none : checkout content 0 ≡ file 97 (10 ∷ 11 ∷ []) ∷ file 98 (20 ∷ []) ∷ []
a_link_is_a_file_and_a_submodule_is_none = refl

nothing_past_the_end : checkout content 1 ≡ []
nothing_past_the_end = refl
