-- The refusals of meanings are those of the definition of an import.
use Rattle.std.proofs.Common.{◌≡◌, ℕ, Bool, true, false, nat_lt, length, List, [], ◌∷◌, Option, Some, None, Result, Ok, Err, if◌then◌else◌, subst, ok_or}
use Rattle.std.specs.Result.{IfErr}
use Rattle.bf_grammar.specs.declared.command.Change.{Change}
use Rattle.bf_grammar.specs.declared.command.Change.TheVariants.{Modify, Delete, DeleteAll}
use Rattle.bf_grammar.specs.declared.command.Command.{Command}
use Rattle.bf_grammar.specs.declared.command.Command.TheVariants as command
use Rattle.bf_grammar.specs.declared.command.Commit as given
use Rattle.bf_grammar.specs.declared.command.DataRef.{DataRef}
use Rattle.bf_grammar.specs.declared.command.DataRef.TheVariants as dataref
use Rattle.bf_grammar.specs.declared.command.Target.{Target}
use Rattle.bf_grammar.specs.declared.fault.Limit.TheVariants.{Commits, Entries}
use Rattle.bf_grammar.specs.declared.fault.Limits.{Limits}
use Rattle.bf_grammar.specs.declared.fault.StreamFault.TheVariants.{Syntax}
use Rattle.bf_oid.specs.declared.object.Mode.{Mode}
use Rattle.bf_oid.specs.declared.object.Oid.{Oid}
use Rattle.bf_grammar.specs.Forms.{colon_number, ◌>>=◌}
use Rattle.bf_oid.specs.Object.{oid_of_hex}
use Rattle.bf_paths.specs.Quoting.{path_value}
use Rattle.bf_forest.specs.declared.edits.Edit.{Edit}
use Rattle.bf_forest.specs.declared.edits.Edit.TheVariants.{Set}
use Rattle.bf_forest.specs.Trees.{entries_of}
use Rattle.bf_history.specs.declared.fault.ImportFault.{ImportFault}
use Rattle.bf_history.specs.declared.fault.ImportFault.TheVariants as faults
use Rattle.bf_history.specs.declared.marked.Marked.{Marked}
use Rattle.bf_history.specs.declared.marked.Marked.TheVariants as marked
use Rattle.bf_history.specs.Contents.{Blobs, after_command_over, behind_change, edit_over, edits_over, has_content}
use Rattle.bf_history.specs.Imports.{Means}
use Rattle.bf_history.specs.Keeping.{Kept, command_meant}
use Rattle.bf_history.specs.Meanings.{Loading, History, each_of, mark_in, commit_marked, place_by, place_of_target, blob_marked, is_module}
use Rattle.bf_history.specs.Meanings.{content_named, path_at, edit_of, begins_with, within_limits, is_no_name, after_commit, after_edits, after_reset, after_tag}
use Rattle.bf_history.specs.Meanings.{after_command, after_named, lacks_name}
use Rattle.bf_import.specs.Faults.{IsOfFurnishing, IsOfMeaning, IsRefusal}

-- a refusal is one of meaning
abbrev Refuses : {X : Type 0} → Result X ImportFault → Type 0
Refuses result = IfErr result IsOfMeaning

then_refuses : {X Y : Type 0} (first : Result X ImportFault) (next : X → Result Y ImportFault) → Refuses first → ((x : X) → Refuses (next x))
    → Refuses (first >>= next)
then_refuses (Ok x) next own rest = rest x
then_refuses (Err fault) next own rest = own

or_refuses : {X : Type 0} (found : Option X) (fault : ImportFault) → IsOfMeaning fault → Refuses (ok_or found fault)
or_refuses (Some x) fault own = tt
or_refuses None fault own = own

choice_refuses : {X : Type 0} (test : Bool) (one other : Result X ImportFault) → Refuses one → Refuses other → Refuses (if test then one else other)
choice_refuses true one other first second = first
choice_refuses false one other first second = second

each_refuses : {X Y : Type 0} (value : X → Result Y ImportFault) (items : List X) → ((x : X) → Refuses (value x)) → Refuses (each_of value items)
unfolding each_of
each_refuses value [] own = tt
each_refuses value (x ∷ xs) own =
    then_refuses (value x) (λ y. each_of value xs >>= λ ys. Ok (y ∷ ys)) (own x)
    (λ y. then_refuses (each_of value xs) (λ ys. Ok (y ∷ ys)) (each_refuses value xs own) (λ ys. tt))

-- ---- targets

marked_refuses : (other : ℕ → ImportFault) (line : ℕ) (what : Option Marked) → IsOfMeaning (other line) → Refuses (commit_marked other line what)
marked_refuses other line (Some (marked.Commit place)) own = tt
marked_refuses other line (Some (marked.Blob name)) own = own
marked_refuses other line (Some marked.Tag) own = own
marked_refuses other line None own = tt

by_refuses : (other : ℕ → ImportFault) (loading : Loading) (target : Target) (number : Option ℕ) (name : Option Oid) → IsOfMeaning (other target.line)
    → Refuses (place_by other loading target number name)
by_refuses other loading target (Some number) name own = marked_refuses other target.line (mark_in loading.marks number) own
by_refuses other loading target None (Some name) own = or_refuses _ (faults.Unsupported target.line) tt
by_refuses other loading target None None own = or_refuses _ (faults.BadFrom target.line) tt

target_refuses : (other : ℕ → ImportFault) (loading : Loading) (target : Target) → IsOfMeaning (other target.line)
    → Refuses (place_of_target other loading target)
unfolding place_of_target
target_refuses other loading target own = by_refuses other loading target (colon_number target.text) (oid_of_hex target.text) own

-- ---- changes

blob_refuses : (line : ℕ) (what : Option Marked) → Refuses (blob_marked line what)
blob_refuses line (Some (marked.Blob name)) = tt
blob_refuses line (Some (marked.Commit place)) = tt
blob_refuses line (Some marked.Tag) = tt
blob_refuses line None = tt

content_refuses : (marks : List (ℕ × Marked)) (line : ℕ) (mode : Mode) (content : DataRef) → Refuses (content_named marks line mode content)
unfolding content_named
content_refuses marks line mode (dataref.Name name) = tt
content_refuses marks line mode (dataref.Mark number) = choice_refuses (is_module mode) _ _ tt (blob_refuses line (mark_in marks number))
content_refuses marks line mode (dataref.Inline bytes) = choice_refuses (is_module mode) _ _ tt tt

path_refuses : (line : ℕ) (text : List ℕ) → Refuses (path_at line text)
unfolding path_at
path_refuses line text = or_refuses (path_value text) (faults.BadPath line) tt

edit_refuses : (marks : List (ℕ × Marked)) (change : Change) → Refuses (edit_of marks change)
unfolding edit_of
edit_refuses marks (Modify line mode content path) =
    then_refuses (content_named marks line mode content) _ (content_refuses marks line mode content)
    (λ name. then_refuses (path_at line path) _ (path_refuses line path) (λ p. tt))
edit_refuses marks (Delete line path) = then_refuses (path_at line path) _ (path_refuses line path) (λ p. tt)
edit_refuses marks (DeleteAll line) = tt

-- ---- commands

limits_refuse : (limits : Limits) (history : History) → Refuses (within_limits limits history)
unfolding within_limits
limits_refuse limits history =
    choice_refuses {X = History} (nat_lt limits.entries (entries_of history.directories)) (Err (faults.TooLarge Entries))
    (if nat_lt limits.commits (length history.names) then Err (faults.TooLarge Commits) else Ok history) tt
    (choice_refuses {X = History} (nat_lt limits.commits (length history.names)) (Err (faults.TooLarge Commits)) (Ok history) tt tt)

first_refuses : (loading : Loading) (branch : List ℕ) (from : Option Target) → Refuses (begins_with loading branch from)
first_refuses loading branch None = tt
first_refuses loading branch (Some target) = then_refuses (place_of_target faults.BadFrom loading target) _ (target_refuses faults.BadFrom loading target tt)
    (λ place. tt)

-- a commit is refused as its edits are, or for its targets or a limit
module _ (Own : ImportFault → Type 0) (wider : (fault : ImportFault) → IsOfMeaning fault → Own fault) where
  widened : {X : Type 0} (result : Result X ImportFault) → Refuses result → IfErr result Own
  widened (Ok x) own = tt
  widened (Err fault) own = wider fault own

  then_own : {X Y : Type 0} (first : Result X ImportFault) (next : X → Result Y ImportFault) → IfErr first Own → ((x : X) → IfErr (next x) Own)
      → IfErr (first >>= next) Own
  then_own (Ok x) next own rest = rest x
  then_own (Err fault) next own rest = own

  named_own : (limits : Limits) (loading : Loading) (given : given.Commit) (edits : Result (List Edit) ImportFault) → IfErr edits Own
      → IfErr (after_named limits loading given edits) Own
  named_own limits loading given edits own =
      then_own (begins_with loading given.branch given.from) _ (widened (begins_with loading given.branch given.from) (first_refuses loading given.branch given.from))
      (λ first. then_own (each_of (place_of_target faults.BadFrom loading) given.merges) _
      (widened (each_of (place_of_target faults.BadFrom loading) given.merges)
      (each_refuses (place_of_target faults.BadFrom loading) given.merges (λ target. target_refuses faults.BadFrom loading target tt)))
      (λ others. then_own edits _ own
      (λ edits. then_own (within_limits limits _) _ (widened (within_limits limits _) (limits_refuse limits _)) (λ history. tt))))

  commit_own : (limits : Limits) (loading : Loading) (given : given.Commit) (edits : Result (List Edit) ImportFault) → IfErr edits Own
      → IfErr (after_edits limits loading given edits) Own
  commit_own limits loading given edits own = go (lacks_name limits loading.history given.header)
    where
      go : (test : Bool) → IfErr (if test then Err (faults.Stream (Syntax given.line)) else after_named limits loading given edits) Own
      go true = wider (faults.Stream (Syntax given.line)) tt
      go false = named_own limits loading given edits own

commit_refuses : (limits : Limits) (loading : Loading) (given : given.Commit) → Refuses (after_commit limits loading given)
unfolding after_commit
commit_refuses limits loading given =
    commit_own IsOfMeaning (λ fault own. own) limits loading given (each_of (edit_of loading.marks) given.changes)
    (each_refuses (edit_of loading.marks) given.changes (edit_refuses loading.marks))

reset_refuses : (loading : Loading) (branch : List ℕ) (from : Option Target) → Refuses (after_reset loading branch from)
unfolding after_reset
reset_refuses loading branch None = tt
reset_refuses loading branch (Some target) =
    choice_refuses (is_no_name target.text) _ _ tt
    (then_refuses (place_of_target faults.BadFrom loading target) _ (target_refuses faults.BadFrom loading target tt) (λ place. tt))

tag_refuses : (loading : Loading) (name : List ℕ) (mark : Option ℕ) (target : Target) → Refuses (after_tag loading name mark target)
unfolding after_tag
tag_refuses loading name mark target = then_refuses (place_of_target faults.Unsupported loading target) _ (target_refuses faults.Unsupported loading target tt)
    (λ place. tt)

pub command_refuses : (limits : Limits) (loading : Loading) (c : Command) → Refuses (after_command limits loading c)
unfolding after_command
command_refuses limits loading (command.Blob line mark content) = tt
command_refuses limits loading (command.Commit given) = commit_refuses limits loading given
command_refuses limits loading (command.Tag line name mark from) = tag_refuses loading name mark from
command_refuses limits loading (command.Reset line branch from) = reset_refuses loading branch from
command_refuses limits loading (command.Progress line) = tt
command_refuses limits loading (command.Feature line) = tt

-- ---- over blobs

abbrev Lacks : {X : Type 0} → Result X ImportFault → Type 0
Lacks result = IfErr result IsOfFurnishing

of_furnishing : (fault : ImportFault) → IsOfMeaning fault → IsOfFurnishing fault
of_furnishing (faults.Stream fault) own = own
of_furnishing (faults.BadFrom line) own = own
of_furnishing (faults.BadMark line) own = own
of_furnishing (faults.BadPath line) own = own
of_furnishing (faults.Unsupported line) own = own
of_furnishing (faults.NoContent line) own = tt
of_furnishing (faults.TooLarge what) own = own
of_furnishing faults.NoMemory own = own

wide : {X : Type 0} (result : Result X ImportFault) → Refuses result → Lacks result
wide result = widened IsOfFurnishing of_furnishing result

then_lacks : {X Y : Type 0} (first : Result X ImportFault) (next : X → Result Y ImportFault) → Lacks first → ((x : X) → Lacks (next x)) → Lacks (first >>= next)
then_lacks first next = then_own IsOfFurnishing of_furnishing first next

module _ (marks : List (ℕ × Marked)) where
  edit_lacks : (blobs : Blobs) (change : Change) → Lacks (edit_over blobs marks change)
  unfolding edit_over
  edit_lacks blobs (Modify line mode content text) =
      then_lacks (content_named marks line mode content) _ (wide (content_named marks line mode content) (content_refuses marks line mode content))
      (λ name. then_lacks (path_at line text) _ (wide (path_at line text) (path_refuses line text))
      (λ path. checked (has_content blobs mode content path) (Set path mode name)))
    where
      checked : (test : Bool) (edit : Edit) → Lacks (if test then Ok edit else Err (faults.NoContent line))
      checked true edit = tt
      checked false edit = tt
  edit_lacks blobs (Delete line text) = wide (edit_of marks (Delete line text)) (edit_refuses marks (Delete line text))
  edit_lacks blobs (DeleteAll line) = wide (edit_of marks (DeleteAll line)) (edit_refuses marks (DeleteAll line))

  edits_lack : (blobs : Blobs) (changes : List Change) → Lacks (edits_over blobs marks changes)
  unfolding edits_over
  edits_lack blobs [] = tt
  edits_lack blobs (change ∷ changes) =
      then_lacks (edit_over blobs marks change) _ (edit_lacks blobs change)
      (λ edit. then_lacks (edits_over (behind_change blobs change) marks changes) _ (edits_lack (behind_change blobs change) changes) (λ edits. tt))

over_lacks : (limits : Limits) (blobs : Blobs) (loading : Loading) (c : Command) → Lacks (after_command_over limits blobs loading c)
unfolding after_command_over
over_lacks limits blobs loading (command.Commit given) =
    commit_own IsOfFurnishing of_furnishing limits loading given (edits_over blobs loading.marks given.changes) (edits_lack loading.marks blobs given.changes)
over_lacks limits blobs loading (command.Blob line mark content) = wide _ (command_refuses limits loading (command.Blob line mark content))
over_lacks limits blobs loading (command.Tag line name mark from) = wide _ (command_refuses limits loading (command.Tag line name mark from))
over_lacks limits blobs loading (command.Reset line branch from) = wide _ (command_refuses limits loading (command.Reset line branch from))
over_lacks limits blobs loading (command.Progress line) = wide _ (command_refuses limits loading (command.Progress line))
over_lacks limits blobs loading (command.Feature line) = wide _ (command_refuses limits loading (command.Feature line))

meant_refuses : (limits : Limits) (kept : Kept) (loading : Loading) (c : Command) → IfErr (command_meant limits kept loading c) (IsRefusal kept)
meant_refuses limits None loading c = command_refuses limits loading c
meant_refuses limits (Some blobs) loading c = over_lacks limits blobs loading c

-- so is what a call that carries a command out answers, but for want of memory
pub meaning_refuses : {X : Type 0} (view : X → Loading) (limits : Limits) (kept : Kept) (loading : Loading) (c : Command) (fault : ImportFault)
    → Means view (Err fault) (command_meant limits kept loading c) → IsRefusal kept fault
meaning_refuses view limits kept loading c fault means = go fault means
  where
    owned : (fault : ImportFault) → command_meant limits kept loading c ≡ Err fault → IsRefusal kept fault
    owned fault is = subst (λ (r : Result Loading ImportFault). IfErr r (IsRefusal kept)) is (meant_refuses limits kept loading c)

    memory : (kept : Kept) → IsRefusal kept faults.NoMemory
    memory None = tt
    memory (Some blobs) = tt

    go : (fault : ImportFault) → Means view (Err fault) (command_meant limits kept loading c) → IsRefusal kept fault
    go (faults.Stream fault) is = owned (faults.Stream fault) is
    go (faults.BadFrom line) is = owned (faults.BadFrom line) is
    go (faults.BadMark line) is = owned (faults.BadMark line) is
    go (faults.BadPath line) is = owned (faults.BadPath line) is
    go (faults.Unsupported line) is = owned (faults.Unsupported line) is
    go (faults.NoContent line) is = owned (faults.NoContent line) is
    go (faults.TooLarge what) is = owned (faults.TooLarge what) is
    go faults.NoMemory is = memory kept
