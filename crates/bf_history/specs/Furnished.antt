-- What holds of a loading over its blobs: its files and its marks have their contents.
use Rattle.std.specs.Prelude.{◌≡◌, ℕ, true, List, All}
use Rattle.bf_forest.specs.declared.edits.Edit.{Edit}
use Rattle.bf_forest.specs.declared.edits.Edit.TheVariants.{Set, Remove, Clear}
use Rattle.bf_history.specs.declared.marked.Marked.{Marked}
use Rattle.bf_history.specs.declared.marked.Marked.TheVariants as marked
use Rattle.bf_history.specs.Contents.{Blobs, has_blob, is_furnished}
use Rattle.bf_history.specs.Meanings.{Loading}

-- a mark of a blob is of one that is there
abbrev pub MarkHas : Blobs → Marked → Type 0
MarkHas blobs (marked.Blob name) = has_blob blobs name ≡ true
MarkHas blobs (marked.Commit place) = Unit {0}
MarkHas blobs marked.Tag = Unit {0}

abbrev pub MarksHave : Blobs → List (ℕ × Marked) → Type 0
MarksHave blobs marks = All (λ mark. MarkHas blobs mark.1) marks

-- a file that an edit sets has what it needs
abbrev pub EditHas : Blobs → Edit → Type 0
EditHas blobs (Set path mode name) = is_furnished blobs (record { path = path; mode = mode; oid = name }) ≡ true
EditHas blobs (Remove path) = Unit {0}
EditHas blobs Clear = Unit {0}

pub record IsFurnishedOver (blobs : Blobs) (loading : Loading) : Type 0 where
  pub marks : MarksHave blobs loading.marks
  pub files : All (All (λ file. is_furnished blobs file ≡ true)) loading.history.files
