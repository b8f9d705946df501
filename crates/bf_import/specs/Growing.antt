-- A history that grows by the commands of a stream, and what they make of it.
use Rattle.std.specs.Prelude.{ℕ, ◌<◌, nat_lt, List, length, All, Option, Some, None, Result, Ok, Err, if◌then◌else◌, ◌++◌}
use Rattle.std.specs.List.{slice_index_or}
use Rattle.std.specs.Option.{option_to_list}
use Rattle.bf_grammar.specs.declared.command.Command.{Command}
use Rattle.bf_grammar.specs.declared.command.Commit as given
use Rattle.bf_grammar.specs.declared.command.Header.{Header}
use Rattle.bf_grammar.specs.declared.command.Target.{Target}
use Rattle.bf_grammar.specs.declared.fault.Limit.TheVariants.{Commits, Entries}
use Rattle.bf_grammar.specs.declared.fault.Limits.{Limits}
use Rattle.bf_grammar.specs.Forms.{◌>>=◌}
use Rattle.bf_oid.specs.declared.object.Kind.TheVariants as kind
use Rattle.bf_oid.specs.declared.object.Oid.{Oid}
use Rattle.bf_oid.specs.Object.{name_of}
use Rattle.bf_forest.specs.declared.edits.Edit.{Edit}
use Rattle.bf_forest.specs.declared.trees.ForestFault.{ForestFault}
use Rattle.bf_forest.specs.declared.trees.ForestFault.TheVariants as faults
use Rattle.bf_forest.specs.Files.{Files, edited}
use Rattle.bf_forest.specs.Trees.{entries_of, with_directories}
use Rattle.bf_history.specs.declared.fault.ImportFault.{ImportFault}
use Rattle.bf_history.specs.declared.fault.ImportFault.TheVariants.{BadFrom, TooLarge, NoMemory}
use Rattle.bf_history.specs.declared.marked.Marked.{Marked}
use Rattle.bf_history.specs.declared.marked.Marked.TheVariants as marked
use Rattle.bf_history.specs.Imports.{Means}
use Rattle.bf_history.specs.Keeping.{Kept, command_meant, edits_meant}
use Rattle.bf_history.specs.Meanings.{History, Loading, Commit, after_edits, after_named, commit_on, each_of, files_from, nothing_loaded}
use Rattle.bf_history.specs.Meanings.{place_named, place_of_commit, place_of_target, stood, with_commit, with_mark, with_ref, within_limits, without_ref}

-- a history that grows, and its limits
pub record Growing : Type 0 where
  pub history : History
  pub limits : Limits

-- an import so far, and its limits
pub record Importing : Type 0 where
  pub loading : Loading
  pub limits : Limits

-- the import of a history so far and of the marks
abbrev pub import_of : Growing → List (ℕ × Marked) → Importing
import_of growth marks = record { loading = record { history = growth.history; marks = marks }; limits = growth.limits }

-- before the first command
abbrev pub nothing_grown : Limits → Growing
nothing_grown limits = record { history = (nothing_loaded limits).history; limits = limits }

abbrev pub nothing_imported : Limits → Importing
nothing_imported limits = record { loading = nothing_loaded limits; limits = limits }

-- the place is that of a commit of a history
abbrev pub HasPlace : History → ℕ → Type 0
HasPlace history = λ place. place < length history.parents

-- a call left an import with what is meant, or memory ran out
abbrev pub Leaves : {X : Type 0} → Importing → Result X ImportFault → Result Loading ImportFault → Type 0
Leaves after result meant = Means (λ _. after.loading) result meant

-- what is meant by a command, and by that of a commit, by what is kept of contents
abbrev pub meant_by : Kept → Importing → Command → Result Loading ImportFault
meant_by kept before command = command_meant before.limits kept before.loading command

abbrev pub committed : Kept → Importing → given.Commit → Result Loading ImportFault
committed kept before given = after_edits before.limits before.loading given (edits_meant kept before.loading.marks given.changes)

-- what is meant by a commit that has its name
abbrev pub named_committed : Kept → Importing → given.Commit → Result Loading ImportFault
named_committed kept before given = after_named before.limits before.loading given (edits_meant kept before.loading.marks given.changes)

-- ---- commits

-- the tree that the edits of a commit begin with
abbrev pub begun_with : List ℕ → Option ℕ → ℕ
begun_with trees None = 0
begun_with trees (Some place) = slice_index_or trees place 0

-- the files of a commit: those of a place after edits
abbrev pub edited_files : History → Option ℕ → List Edit → Files
edited_files history first edits = edited (files_from history first) edits

-- the commit that follows some others, with the files of a place after edits
abbrev pub commit_from : History → Option ℕ → List ℕ → List Edit → Header → Commit
commit_from history first parents edits header = commit_on history parents (edited_files history first edits) header

-- the history with the directories of these files, or with those of a place after edits
abbrev pub with_trees_of : History → Files → History
with_trees_of history files = record history { directories = with_directories history.directories files }

abbrev pub with_edits : History → Option ℕ → List Edit → History
with_edits history first edits = with_trees_of history (edited_files history first edits)

-- the history with a commit whose directories are there; one of a name that stands there already changes nothing
abbrev pub with_named : History → Commit → History
with_named history commit = stood history history.directories (place_named history.names commit.name) commit

-- the limits on entries and on commits, each for itself
abbrev pub within_entries : ℕ → History → Result History ImportFault
within_entries most history = if nat_lt most (entries_of history.directories) then Err (TooLarge Entries) else Ok history

abbrev pub within_commits : ℕ → History → Result History ImportFault
within_commits most history = if nat_lt most (length history.names) then Err (TooLarge Commits) else Ok history

-- the history with a commit, where it is within the limits
abbrev pub joined : Limits → History → Commit → Result History ImportFault
joined limits history commit = within_limits limits (with_commit history commit)

-- how an import is refused where a tree did not join the pool
abbrev pub refusal_of : ForestFault → ImportFault
refusal_of faults.TooMany = TooLarge Entries
refusal_of faults.NoMemory = NoMemory

-- the parents of a commit: the first, where there is one, and those that are merged
abbrev pub parents_given : Loading → Option ℕ → List Target → Result (List ℕ) ImportFault
parents_given loading first merges = each_of (place_of_target BadFrom loading) merges >>= λ others. Ok (option_to_list first ++ others)

-- a history whose branch and mark are set to the place of a commit
abbrev pub with_place : Loading → given.Commit → ℕ → History → Loading
with_place loading given place history = record {
  history = with_ref given.branch place history;
  marks = with_mark given.mark (marked.Commit place) loading.marks;
}

-- a commit whose parents and edits are known
abbrev pub after_parts : Limits → Loading → given.Commit → Option ℕ → List ℕ → List Edit → Result Loading ImportFault
after_parts limits loading given first parents edits = do
  let commit : Commit = commit_from loading.history first parents edits given.header
  history ← joined limits loading.history commit
  Ok (with_place loading given (place_of_commit loading.history commit) history)

-- ---- refs and marks

-- the name of a blob
abbrev pub blob_name : List ℕ → Oid
blob_name content = record { 0 = name_of kind.Blob content }

-- an import with a ref set or removed, or with a mark set
abbrev pub ref_set : List ℕ → ℕ → Importing → Importing
ref_set name place before = record before { loading = record before.loading { history = with_ref name place before.loading.history } }

abbrev pub ref_removed : List ℕ → Importing → Importing
ref_removed name before = record before { loading = record before.loading { history = without_ref name before.loading.history } }

abbrev pub mark_set : Option ℕ → Marked → Importing → Importing
mark_set mark what before = record before { loading = record before.loading { marks = with_mark mark what before.loading.marks } }

-- the place of a commit that a mark stands for is one of so many
abbrev pub StandsBelow : ℕ → Marked → Type 0
StandsBelow count (marked.Commit place) = place < count
StandsBelow count (marked.Blob name) = Unit {0}
StandsBelow count marked.Tag = Unit {0}

-- so it is for each of these marks
abbrev pub MarksStand : ℕ → List (ℕ × Marked) → Type 0
MarksStand count marks = All (λ mark. StandsBelow count mark.1) marks
