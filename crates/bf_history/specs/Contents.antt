-- Histories with the contents of their files: the blobs of a stream (git-fast-import(1), `blob` and `inline`), the
-- files that have no content, and what stands at a place.
use Rattle.std.specs.Prelude.{◌≡◌, ℕ, Bool, true, ◌&&◌, ◌||◌, List, [], ◌∷◌, ◌++◌, fold, Option, Some, None, is_some, unwrap_or}
use Rattle.std.specs.Prelude.{All, Result, Ok, Err, if◌then◌else◌}
use Rattle.std.specs.List.{list_all, slice_index_or}
use Rattle.std.specs.Str.{is_utf8}
use Rattle.bf_grammar.specs.declared.command.Change.{Change}
use Rattle.bf_grammar.specs.declared.command.Change.TheVariants.{Modify, Delete, DeleteAll}
use Rattle.bf_grammar.specs.declared.command.Command.{Command}
use Rattle.bf_grammar.specs.declared.command.Command.TheVariants as command
use Rattle.bf_grammar.specs.declared.command.DataRef.{DataRef}
use Rattle.bf_grammar.specs.declared.command.DataRef.TheVariants as dataref
use Rattle.bf_grammar.specs.declared.fault.Limits.{Limits}
use Rattle.bf_grammar.specs.declared.fault.StreamFault.{StreamFault}
use Rattle.bf_grammar.specs.declared.fault.StreamFault.TheVariants as stream
use Rattle.bf_grammar.specs.Stream.{IsStream}
use Rattle.bf_grammar.specs.Forms.{◌>>=◌}
use Rattle.bf_oid.specs.declared.object.Kind.TheVariants as kind
use Rattle.bf_oid.specs.declared.object.Mode.{Mode}
use Rattle.bf_oid.specs.declared.object.Oid.{Oid}
use Rattle.bf_oid.specs.Object.{name_of}
use Rattle.bf_forest.specs.declared.edits.Edit.{Edit}
use Rattle.bf_forest.specs.declared.edits.Edit.TheVariants.{Set}
use Rattle.bf_forest.specs.declared.entries.FileEntry.{FileEntry}
use Rattle.bf_forest.specs.Files.{Files, is_same}
use Rattle.bf_forest.specs.Trees.{tree_name}
use Rattle.bf_history.specs.declared.fault.ImportFault.{ImportFault}
use Rattle.bf_history.specs.declared.fault.ImportFault.TheVariants as faults
use Rattle.bf_history.specs.declared.fault.ImportFault.TheVariants.{NoContent}
use Rattle.bf_history.specs.declared.marked.Marked.{Marked}
use Rattle.bf_history.specs.Meanings.{History, Loading, nothing_loaded, after_command, after_edits, content_named, edit_of, is_module, path_at}
use Rattle.bf_history.specs.Named.{value_of}

-- ---- blobs

-- the blobs so far with their names, in the order of the stream; of those of one name the first alone
abbrev pub Blobs : Type 0
Blobs = List (Oid × List ℕ)

abbrev pub is_name : Oid → Oid → Bool
is_name name other = is_same name.0 other.0

-- the bytes of the blob with a name
abbrev pub blob_named : Blobs → Oid → Option (List ℕ)
blob_named blobs name = value_of is_name name blobs

abbrev pub has_blob : Blobs → Oid → Bool
has_blob blobs name = is_some (blob_named blobs name)

abbrev pub with_blob : Blobs → Oid → List ℕ → Blobs
with_blob blobs name bytes = if has_blob blobs name then blobs else blobs ++ (name, bytes) ∷ []

-- the blobs with one more content
abbrev pub with_content : Blobs → List ℕ → Blobs
with_content blobs bytes = with_blob blobs (record { 0 = name_of kind.Blob bytes }) bytes

-- the content that stands inline behind a change is a blob from there on
abbrev pub with_inline : Blobs → DataRef → Blobs
with_inline blobs (dataref.Inline bytes) = with_content blobs bytes
with_inline blobs (dataref.Mark number) = blobs
with_inline blobs (dataref.Name name) = blobs

abbrev pub behind_change : Blobs → Change → Blobs
behind_change blobs (Modify line mode content path) = with_inline blobs content
behind_change blobs (Delete line path) = blobs
behind_change blobs (DeleteAll line) = blobs

-- the blobs behind a command
unfoldable pub blobs_behind : Blobs → Command → Blobs
blobs_behind blobs (command.Blob line mark content) = with_content blobs content
blobs_behind blobs (command.Commit given) = fold behind_change blobs given.changes
blobs_behind blobs other = blobs

-- ---- files with a content

-- each component of a path is UTF-8 (RFC 3629)
abbrev pub is_text : List (List ℕ) → Bool
is_text path = list_all is_utf8 path

-- a content that is named by its digits has to be a blob so far; a mark and an inline part give one
abbrev pub is_there : Blobs → DataRef → Bool
is_there blobs (dataref.Name name) = has_blob blobs name
is_there blobs (dataref.Mark number) = true
is_there blobs (dataref.Inline bytes) = true

-- a file that is no submodule needs a path in UTF-8, and a content
abbrev pub has_content : Blobs → Mode → DataRef → List (List ℕ) → Bool
has_content blobs mode content path = is_module mode || (is_text path && is_there blobs content)

-- the edit of a change over the blobs so far
unfoldable pub edit_over : Blobs → List (ℕ × Marked) → Change → Result Edit ImportFault
edit_over blobs marks (Modify line mode content text) = do
  name ← content_named marks line mode content
  path ← path_at line text
  if has_content blobs mode content path then Ok (Set path mode name) else Err (NoContent line)
edit_over blobs marks (Delete line text) = edit_of marks (Delete line text)
edit_over blobs marks (DeleteAll line) = edit_of marks (DeleteAll line)

-- the edits of all changes in order, or the first refusal
unfoldable pub edits_over : Blobs → List (ℕ × Marked) → List Change → Result (List Edit) ImportFault
edits_over blobs marks [] = Ok []
edits_over blobs marks (change ∷ changes) = do
  edit ← edit_over blobs marks change
  edits ← edits_over (behind_change blobs change) marks changes
  Ok (edit ∷ edits)

-- ---- a whole stream

-- what a command does over the blobs so far
unfoldable pub after_command_over : Limits → Blobs → Loading → Command → Result Loading ImportFault
after_command_over limits blobs loading (command.Commit given) = after_edits limits loading given (edits_over blobs loading.marks given.changes)
after_command_over limits blobs loading other = after_command limits loading other

-- a history with its blobs
pub record Content : Type 0 where
  pub history : History
  pub blobs : Blobs

-- no commit, no ref and no blob
abbrev pub nothing_furnished : Limits → Content
nothing_furnished limits = record { history = (nothing_loaded limits).history; blobs = [] }

-- after these commands and this end of the stream
unfoldable pub furnished : Limits → Blobs → Loading → List Command → Option StreamFault → Result Content ImportFault
furnished limits blobs loading [] None = Ok (record { history = loading.history; blobs = blobs })
furnished limits blobs loading [] (Some fault) = Err (faults.Stream fault)
furnished limits blobs loading (command ∷ commands) end =
    after_command_over limits blobs loading command >>= λ next. furnished limits (blobs_behind blobs command) next commands end

-- the bytes load this history with its blobs, or are refused so
abbrev pub Furnishes : List ℕ → Limits → Result Content ImportFault → Type 0
Furnishes bytes limits result =
    (commands : List Command) × (end : Option StreamFault) × IsStream bytes limits commands end × (result ≡ furnished limits [] (nothing_loaded limits) commands end)

-- What an import with blobs may answer, where the source tells its bytes. A source that fails and want of memory may
-- come anywhere.
abbrev pub MayFurnish : Option (List ℕ) → Limits → Result Content ImportFault → Type 0
MayFurnish None limits result = Unit {0}
MayFurnish (Some bytes) limits (Err faults.NoMemory) = Unit {0}
MayFurnish (Some bytes) limits (Err (faults.Stream stream.Read)) = Unit {0}
MayFurnish (Some bytes) limits result = Furnishes bytes limits result

-- ---- the files of a commit

-- a file of a commit is a submodule, or has a path in UTF-8 and a blob
abbrev pub is_furnished : Blobs → FileEntry → Bool
is_furnished blobs file = is_module file.mode || (is_text file.path && has_blob blobs file.oid)

-- all files of all commits are so
abbrev pub IsFurnished : Content → Type 0
IsFurnished content = All (All (λ file. is_furnished content.blobs file ≡ true)) content.history.files

-- the files of the commit at a place; none past the end
abbrev pub files_of : Content → ℕ → Files
files_of content place = slice_index_or content.history.files place []

-- the name of the tree of the commit at a place; that of the tree without files past the end
abbrev pub tree_of : Content → ℕ → Oid
tree_of content place = record { 0 = tree_name (files_of content place) }

-- the bytes of the blob with a name; none where no blob has it
abbrev pub bytes_named : Blobs → Oid → List ℕ
bytes_named blobs name = unwrap_or (blob_named blobs name) []
