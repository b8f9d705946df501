-- What each command of a stream does to the history so far (git-fast-import(1)), or how it is refused.
use Rattle.std.specs.Prelude.{ℕ, ◌-◌, Bool, true, false, ◌==◌, ◌&&◌, nat_lt, List, [], ◌∷◌, ◌++◌, length, take, map, codes, Option, Some, None}
use Rattle.std.specs.Prelude.{unwrap_or, is_none, not, option_and_then, Result, Ok, Err, if◌then◌else◌}
use Rattle.std.specs.List.{list_all, ends_with, position, slice_index_or}
use Rattle.std.specs.Option.{option_to_list, ok_or}
use Rattle.bf_grammar.specs.declared.command.Change.{Change}
use Rattle.bf_grammar.specs.declared.command.Change.TheVariants.{Modify, Delete, DeleteAll}
use Rattle.bf_grammar.specs.declared.command.Command.{Command}
use Rattle.bf_grammar.specs.declared.command.Command.TheVariants as command
use Rattle.bf_grammar.specs.declared.command.Commit as given
use Rattle.bf_grammar.specs.declared.command.DataRef.{DataRef}
use Rattle.bf_grammar.specs.declared.command.DataRef.TheVariants as dataref
use Rattle.bf_grammar.specs.declared.command.Header.{Header}
use Rattle.bf_grammar.specs.declared.command.Target.{Target}
use Rattle.bf_grammar.specs.declared.fault.Limit.TheVariants.{Commits, Entries}
use Rattle.bf_grammar.specs.declared.fault.Limits.{Limits}
use Rattle.bf_grammar.specs.declared.fault.StreamFault.TheVariants.{Syntax}
use Rattle.bf_oid.specs.declared.object.Kind.TheVariants as kind
use Rattle.bf_oid.specs.declared.object.Mode.{Mode}
use Rattle.bf_oid.specs.declared.object.Mode.TheVariants.{Plain, Exec, Link, Module}
use Rattle.bf_oid.specs.declared.object.Oid.{Oid}
use Rattle.bf_grammar.specs.Forms.{colon_number, ◌>>=◌}
use Rattle.bf_oid.specs.Object.{name_of, oid_of_hex}
use Rattle.bf_paths.specs.Quoting.{path_value}
use Rattle.bf_forest.specs.declared.edits.Edit.{Edit}
use Rattle.bf_forest.specs.declared.edits.Edit.TheVariants.{Set, Remove, Clear}
use Rattle.bf_forest.specs.Files.{Files, edited, is_same}
use Rattle.bf_forest.specs.Trees.{tree_name, with_directories, entries_of}
use Rattle.bf_history.specs.declared.fault.ImportFault.{ImportFault}
use Rattle.bf_history.specs.declared.fault.ImportFault.TheVariants.{Stream, BadFrom, BadMark, BadPath, Unsupported, TooLarge}
use Rattle.bf_history.specs.declared.marked.Marked.{Marked}
use Rattle.bf_history.specs.declared.marked.Marked.TheVariants as marked
use Rattle.bf_history.specs.Bodies.{commit_body, subject_of}
use Rattle.bf_history.specs.Named.{value_of, with_value, without_value}

-- The refs, in the order in which they were first set; of each commit, by place, its parents in the order given, its
-- files, its subject and its name; the lists of files of all directories that a commit of the stream had, each once; and
-- whether the names are those that the commits had before they were exported.
pub record History : Type 0 where
  pub refs : List (List ℕ × ℕ)
  pub parents : List (List ℕ)
  pub files : List Files
  pub subjects : List (List ℕ)
  pub names : List Oid
  pub directories : List Files
  pub original_names : Bool

-- the history so far, and what the marks stand for
pub record Loading : Type 0 where
  pub history : History
  pub marks : List (ℕ × Marked)

-- before the first command; the directory without files counts no entry
abbrev pub nothing_loaded : Limits → Loading
nothing_loaded limits = record {
  history = record {
    refs = [];
    parents = [];
    files = [];
    subjects = [];
    names = [];
    directories = [] ∷ [];
    original_names = limits.original_names;
  };
  marks = [];
}

-- the values of all items, or the first refusal
unfoldable pub each_of : {X Y : Type 0} → (X → Result Y ImportFault) → List X → Result (List Y) ImportFault
each_of value [] = Ok []
each_of value (x ∷ xs) = value x >>= λ y. each_of value xs >>= λ ys. Ok (y ∷ ys)

-- ---- names of commits

abbrev pub mark_in : List (ℕ × Marked) → ℕ → Option Marked
mark_in marks number = value_of ◌==◌ number marks

abbrev pub ref_in : List (List ℕ × ℕ) → List ℕ → Option ℕ
ref_in refs name = value_of is_same name refs

-- the place of the commit with a name
abbrev pub place_named : List Oid → Oid → Option ℕ
place_named names name = position (λ (other : Oid). is_same name.0 other.0) names

-- the ref that a target names: itself, or what stands before `^0`
unfoldable pub ref_of_target : List ℕ → List ℕ
ref_of_target text = if ends_with ◌==◌ text (codes "^0") then take (length text - 2) text else text

-- a mark must be of a commit; of one that is not, this is said
abbrev pub commit_marked : (ℕ → ImportFault) → ℕ → Option Marked → Result ℕ ImportFault
commit_marked other line (Some (marked.Commit place)) = Ok place
commit_marked other line (Some (marked.Blob name)) = Err (other line)
commit_marked other line (Some marked.Tag) = Err (other line)
commit_marked other line None = Err (BadFrom line)

-- The place of the commit that a target names: by its mark, by its name, or by a ref.
abbrev pub place_by : (ℕ → ImportFault) → Loading → Target → Option ℕ → Option Oid → Result ℕ ImportFault
place_by other loading target (Some number) name = commit_marked other target.line (mark_in loading.marks number)
place_by other loading target None (Some name) = ok_or (place_named loading.history.names name) (Unsupported target.line)
place_by other loading target None None = ok_or (ref_in loading.history.refs (ref_of_target target.text)) (BadFrom target.line)

unfoldable pub place_of_target : (ℕ → ImportFault) → Loading → Target → Result ℕ ImportFault
place_of_target other loading target = place_by other loading target (colon_number target.text) (oid_of_hex target.text)

-- ---- changes of files

-- the name of the content of a file; a submodule's is written out
abbrev pub blob_marked : ℕ → Option Marked → Result Oid ImportFault
blob_marked line (Some (marked.Blob name)) = Ok name
blob_marked line other = Err (BadMark line)

abbrev pub is_module : Mode → Bool
is_module Module = true
is_module Plain = false
is_module Exec = false
is_module Link = false

unfoldable pub content_named : List (ℕ × Marked) → ℕ → Mode → DataRef → Result Oid ImportFault
content_named marks line mode (dataref.Name name) = Ok name
content_named marks line mode (dataref.Mark number) = if is_module mode then Err (BadMark line) else blob_marked line (mark_in marks number)
content_named marks line mode (dataref.Inline bytes) = if is_module mode then Err (BadMark line) else Ok (record { 0 = name_of kind.Blob bytes })

unfoldable pub path_at : ℕ → List ℕ → Result (List (List ℕ)) ImportFault
path_at line text = ok_or (path_value text) (BadPath line)

unfoldable pub edit_of : List (ℕ × Marked) → Change → Result Edit ImportFault
edit_of marks (Modify line mode dataref path) = content_named marks line mode dataref >>= λ name. path_at line path >>= λ p. Ok (Set p mode name)
edit_of marks (Delete line path) = path_at line path >>= λ p. Ok (Remove p)
edit_of marks (DeleteAll line) = Ok Clear

-- ---- commits

-- a commit that joins a history
pub record Commit : Type 0 where
  pub parents : List ℕ
  pub files : Files
  pub subject : List ℕ
  pub name : Oid

-- the commit whose files a new one begins with: that of `from`, or the branch's present one
abbrev pub begins_with : Loading → List ℕ → Option Target → Result (Option ℕ) ImportFault
begins_with loading branch None = Ok (ref_in loading.history.refs branch)
begins_with loading branch (Some target) = place_of_target BadFrom loading target >>= λ place. Ok (Some place)

abbrev pub files_from : History → Option ℕ → Files
files_from history None = []
files_from history (Some place) = slice_index_or history.files place []

abbrev pub name_at : History → ℕ → Oid
name_at history place = slice_index_or history.names place (record { 0 = [] })

-- the name that a commit had before it was exported, where it is kept: 40 hexadecimal digits
unfoldable pub original_of : Header → Option Oid
original_of header = option_and_then oid_of_hex header.original

-- there is a name, and none of these commits has it
abbrev pub is_free : List Oid → Option Oid → Bool
is_free names None = false
is_free names (Some name) = is_none (place_named names name)

-- original names are asked for, and a commit has none, or that of another
unfoldable pub lacks_name : Limits → History → Header → Bool
lacks_name limits history header = limits.original_names && not (is_free history.names (original_of header))

unfoldable pub commit_on : History → List ℕ → Files → Header → Commit
commit_on history parents files header = record {
  parents = parents;
  files = files;
  subject = subject_of header.message;
  name = unwrap_or (original_of header) (record { 0 = name_of kind.Commit (commit_body (tree_name files) (map (name_at history) parents) header) });
}

-- The history with one more commit; one of a name that stands there already adds its directories alone.
abbrev pub stood : History → List Files → Option ℕ → Commit → History
stood history directories (Some place) commit = record history { directories = directories }
stood history directories None commit = record {
  refs = history.refs;
  parents = history.parents ++ commit.parents ∷ [];
  files = history.files ++ commit.files ∷ [];
  subjects = history.subjects ++ commit.subject ∷ [];
  names = history.names ++ commit.name ∷ [];
  directories = directories;
  original_names = history.original_names;
}

unfoldable pub with_commit : History → Commit → History
with_commit history commit = stood history (with_directories history.directories commit.files) (place_named history.names commit.name) commit

-- the place of a commit's name: where it stood before, or last
unfoldable pub place_of_commit : History → Commit → ℕ
place_of_commit history commit = unwrap_or (place_named history.names commit.name) (length history.names)

-- the limits on entries and on commits, in this order
unfoldable pub within_limits : Limits → History → Result History ImportFault
within_limits limits history =
    if nat_lt limits.entries (entries_of history.directories) then Err (TooLarge Entries)
    else if nat_lt limits.commits (length history.names) then Err (TooLarge Commits)
    else Ok history

-- ---- refs and marks

abbrev pub with_ref : List ℕ → ℕ → History → History
with_ref name place history = record history { refs = with_value is_same name place history.refs }

abbrev pub without_ref : List ℕ → History → History
without_ref name history = record history { refs = without_value is_same name history.refs }

abbrev pub with_mark : Option ℕ → Marked → List (ℕ × Marked) → List (ℕ × Marked)
with_mark None what marks = marks
with_mark (Some number) what marks = with_value ◌==◌ number what marks

-- 40 zeros
abbrev pub is_no_name : List ℕ → Bool
is_no_name text = length text == 40 && list_all (λ byte. byte == 48) text

-- ---- commands

-- what a commit does that has its name, and whose edits mean this
abbrev pub after_named : Limits → Loading → given.Commit → Result (List Edit) ImportFault → Result Loading ImportFault
after_named limits loading given meant = do
  first ← begins_with loading given.branch given.from
  others ← each_of (place_of_target BadFrom loading) given.merges
  edits ← meant
  let files : Files = edited (files_from loading.history first) edits
  let commit : Commit = commit_on loading.history (option_to_list first ++ others) files given.header
  history ← within_limits limits (with_commit loading.history commit)
  let place : ℕ = place_of_commit loading.history commit
  Ok (record {
    history = with_ref given.branch place history;
    marks = with_mark given.mark (marked.Commit place) loading.marks;
  })

-- what a commit does whose edits mean this; one that lacks its name is refused at its line
abbrev pub after_edits : Limits → Loading → given.Commit → Result (List Edit) ImportFault → Result Loading ImportFault
after_edits limits loading given meant =
    if lacks_name limits loading.history given.header then Err (Stream (Syntax given.line)) else after_named limits loading given meant

unfoldable pub after_commit : Limits → Loading → given.Commit → Result Loading ImportFault
after_commit limits loading given = after_edits limits loading given (each_of (edit_of loading.marks) given.changes)

unfoldable pub after_reset : Loading → List ℕ → Option Target → Result Loading ImportFault
after_reset loading branch None = Ok (record loading { history = without_ref branch loading.history })
after_reset loading branch (Some target) =
    if is_no_name target.text then Ok (record loading { history = without_ref branch loading.history })
    else place_of_target BadFrom loading target >>= λ place. Ok (record loading { history = with_ref branch place loading.history })

unfoldable pub after_tag : Loading → List ℕ → Option ℕ → Target → Result Loading ImportFault
after_tag loading name mark target =
    place_of_target Unsupported loading target >>= λ place.
    Ok (record { history = with_ref (codes "refs/tags/" ++ name) place loading.history; marks = with_mark mark marked.Tag loading.marks })

unfoldable pub after_command : Limits → Loading → Command → Result Loading ImportFault
after_command limits loading (command.Blob line mark content) =
    Ok (record loading { marks = with_mark mark (marked.Blob (record { 0 = name_of kind.Blob content })) loading.marks })
after_command limits loading (command.Commit given) = after_commit limits loading given
after_command limits loading (command.Tag line name mark from) = after_tag loading name mark from
after_command limits loading (command.Reset line branch from) = after_reset loading branch from
after_command limits loading (command.Progress line) = Ok loading
after_command limits loading (command.Feature line) = Ok loading
