-- What is loaded over blobs is what is loaded without them, but where a file lacks its content.
use Rattle.std.proofs.Common.{◌≡◌, ℕ, Bool, true, false, List, [], ◌∷◌, Option, Some, None, Result, Ok, Err, if◌then◌else◌, refl, sym, ap, subst}
use Rattle.bf_grammar.specs.declared.command.Change.{Change}
use Rattle.bf_grammar.specs.declared.command.Change.TheVariants.{Modify, Delete, DeleteAll}
use Rattle.bf_grammar.specs.declared.command.Command.{Command}
use Rattle.bf_grammar.specs.declared.command.Command.TheVariants as command
use Rattle.bf_grammar.specs.declared.command.Commit as given
use Rattle.bf_grammar.specs.declared.fault.Limits.{Limits}
use Rattle.bf_grammar.specs.declared.fault.StreamFault.{StreamFault}
use Rattle.bf_grammar.specs.Forms.{◌>>=◌}
use Rattle.bf_forest.specs.declared.edits.Edit.{Edit}
use Rattle.bf_forest.specs.declared.edits.Edit.TheVariants.{Set}
use Rattle.bf_history.specs.declared.fault.ImportFault.{ImportFault}
use Rattle.bf_history.specs.declared.fault.ImportFault.TheVariants as faults
use Rattle.bf_history.specs.declared.marked.Marked.{Marked}
use Rattle.bf_history.specs.Contents.{Blobs, Content, after_command_over, behind_change, blobs_behind, edit_over, edits_over, furnished, has_content, Furnishes}
use Rattle.bf_history.specs.Imports.{loaded}
use Rattle.bf_history.specs.Laws.{LoadsAlike}
use Rattle.bf_history.specs.Meanings.{Loading, nothing_loaded, after_command, after_commit, after_edits, begins_with, content_named, each_of, edit_of, path_at, place_of_target}
use Rattle.bf_history.specs.Meanings.{after_named, lacks_name, within_limits}

-- what is meant over blobs is meant without, but where a content is lacking
abbrev pub Agrees : {X Y : Type 0} → (X → Y) → Result X ImportFault → Result Y ImportFault → Type 0
Agrees view (Ok x) plain = plain ≡ Ok (view x)
Agrees view (Err (faults.NoContent line)) plain = Unit {0}
Agrees view (Err fault) plain = plain ≡ Err fault

pub agrees_refused : {X Y : Type 0} (view : X → Y) (fault : ImportFault) (plain : Result Y ImportFault) → plain ≡ Err fault → Agrees view (Err fault) plain
agrees_refused view (faults.Stream fault) plain is = is
agrees_refused view (faults.BadFrom line) plain is = is
agrees_refused view (faults.BadMark line) plain is = is
agrees_refused view (faults.BadPath line) plain is = is
agrees_refused view (faults.Unsupported line) plain is = is
agrees_refused view (faults.NoContent line) plain is = tt
agrees_refused view (faults.TooLarge what) plain is = is
agrees_refused view faults.NoMemory plain is = is

agrees_alike : {X Y Z W : Type 0} (view : X → Y) (other : Z → W) (fault : ImportFault) (plain : Result Y ImportFault) (again : Result W ImportFault)
    → (plain ≡ Err fault → again ≡ Err fault) → Agrees view (Err fault) plain → Agrees other (Err fault) again
agrees_alike view other (faults.Stream fault) plain again alike is = alike is
agrees_alike view other (faults.BadFrom line) plain again alike is = alike is
agrees_alike view other (faults.BadMark line) plain again alike is = alike is
agrees_alike view other (faults.BadPath line) plain again alike is = alike is
agrees_alike view other (faults.Unsupported line) plain again alike is = alike is
agrees_alike view other (faults.NoContent line) plain again alike is = tt
agrees_alike view other (faults.TooLarge what) plain again alike is = alike is
agrees_alike view other faults.NoMemory plain again alike is = alike is

agrees_itself : {X : Type 0} (result : Result X ImportFault) → Agrees (λ x. x) result result
agrees_itself (Ok x) = refl
agrees_itself (Err fault) = agrees_refused (λ x. x) fault (Err fault) refl

-- one step, and what goes on alike behind it
agrees_then : {X Y Z W : Type 0} (view : X → Y) (other : Z → W) (over : Result X ImportFault) (plain : Result Y ImportFault) (next : X → Result Z ImportFault)
    (after : Y → Result W ImportFault) → Agrees view over plain → ((x : X) → Agrees other (next x) (after (view x)))
    → Agrees other (over >>= next) (plain >>= after)
agrees_then view other (Ok x) plain next after first on =
    subst (λ (r : Result _ ImportFault). Agrees other (next x) (r >>= after)) (sym first) (on x)
agrees_then view other (Err fault) plain next after first on =
    agrees_alike view other fault plain (plain >>= after) (λ is. ap (λ (r : Result _ ImportFault). r >>= after) is) first

-- the same step on both sides
agrees_on : {X Z W : Type 0} (other : Z → W) (step : Result X ImportFault) (next : X → Result Z ImportFault) (after : X → Result W ImportFault)
    → ((x : X) → Agrees other (next x) (after x)) → Agrees other (step >>= next) (step >>= after)
agrees_on other step next after on = agrees_then (λ x. x) other step step next after (agrees_itself step) on

checked : (test : Bool) (line : ℕ) (edit : Edit) → Agrees (λ (e : Edit). e) (if test then Ok edit else Err (faults.NoContent line)) (Ok edit)
checked true line edit = refl
checked false line edit = tt

-- what is refused on both sides for the same, or agrees
either_agrees : (test : Bool) (fault : ImportFault) (one other : Result Loading ImportFault) → Agrees (λ (l : Loading). l) one other
    → Agrees (λ (l : Loading). l) (if test then Err fault else one) (if test then Err fault else other)
either_agrees true fault one other agrees = agrees_itself (Err fault)
either_agrees false fault one other agrees = agrees

module _ (marks : List (ℕ × Marked)) where
  edit_agrees : (blobs : Blobs) (change : Change) → Agrees (λ (e : Edit). e) (edit_over blobs marks change) (edit_of marks change)
  unfolding edit_over edit_of
  edit_agrees blobs (Modify line mode content text) =
      agrees_on (λ (e : Edit). e) (content_named marks line mode content) _ _
      (λ name. agrees_on (λ (e : Edit). e) (path_at line text) _ _ (λ path. checked (has_content blobs mode content path) line (Set path mode name)))
  edit_agrees blobs (Delete line text) = agrees_itself (edit_of marks (Delete line text))
  edit_agrees blobs (DeleteAll line) = refl

  edits_agree : (blobs : Blobs) (changes : List Change) → Agrees (λ (e : List Edit). e) (edits_over blobs marks changes) (each_of (edit_of marks) changes)
  unfolding edits_over each_of
  edits_agree blobs [] = refl
  edits_agree blobs (change ∷ changes) =
      agrees_then (λ (e : Edit). e) (λ (e : List Edit). e) (edit_over blobs marks change) (edit_of marks change) _ _ (edit_agrees blobs change)
      (λ edit. agrees_then (λ (e : List Edit). e) (λ (e : List Edit). e) (edits_over (behind_change blobs change) marks changes)
      (each_of (edit_of marks) changes) _ _ (edits_agree (behind_change blobs change) changes) (λ edits. refl))

module _ (limits : Limits) where
  named_agrees : (blobs : Blobs) (loading : Loading) (given : given.Commit)
      → Agrees (λ (l : Loading). l) (after_named limits loading given (edits_over blobs loading.marks given.changes))
      (after_named limits loading given (each_of (edit_of loading.marks) given.changes))
  named_agrees blobs loading given =
      agrees_on (λ (l : Loading). l) (begins_with loading given.branch given.from) _ _
      (λ first. agrees_on (λ (l : Loading). l) (each_of (place_of_target faults.BadFrom loading) given.merges) _ _
      (λ others. agrees_then (λ (e : List Edit). e) (λ (l : Loading). l) (edits_over blobs loading.marks given.changes)
      (each_of (edit_of loading.marks) given.changes) _ _ (edits_agree loading.marks blobs given.changes)
      (λ edits. agrees_itself (within_limits limits _ >>= λ history. Ok _))))

  commit_agrees : (blobs : Blobs) (loading : Loading) (given : given.Commit)
      → Agrees (λ (l : Loading). l) (after_edits limits loading given (edits_over blobs loading.marks given.changes)) (after_commit limits loading given)
  unfolding after_commit
  commit_agrees blobs loading given = either_agrees (lacks_name limits loading.history given.header) _ _ _ (named_agrees blobs loading given)

  command_agrees : (blobs : Blobs) (loading : Loading) (given : Command)
      → Agrees (λ (l : Loading). l) (after_command_over limits blobs loading given) (after_command limits loading given)
  unfolding after_command_over after_command
  command_agrees blobs loading (command.Commit given) = commit_agrees blobs loading given
  command_agrees blobs loading (command.Blob line mark content) = refl
  command_agrees blobs loading (command.Tag line name mark from) = agrees_itself (after_command limits loading (command.Tag line name mark from))
  command_agrees blobs loading (command.Reset line branch from) = agrees_itself (after_command limits loading (command.Reset line branch from))
  command_agrees blobs loading (command.Progress line) = refl
  command_agrees blobs loading (command.Feature line) = refl

  pub all_agree : (blobs : Blobs) (loading : Loading) (commands : List Command) (end : Option StreamFault)
      → Agrees (λ (c : Content). c.history) (furnished limits blobs loading commands end) (loaded limits loading commands end)
  unfolding furnished loaded
  all_agree blobs loading [] None = refl
  all_agree blobs loading [] (Some fault) = refl
  all_agree blobs loading (command ∷ commands) end =
      agrees_then (λ (l : Loading). l) (λ (c : Content). c.history) (after_command_over limits blobs loading command) (after_command limits loading command) _ _
      (command_agrees blobs loading command) (λ next. all_agree (blobs_behind blobs command) next commands end)

-- so bytes load alike
pub loads_alike : (bytes : List ℕ) (limits : Limits) (result : Result Content ImportFault) → Furnishes bytes limits result → LoadsAlike bytes limits result
loads_alike bytes limits result (commands, end, goes, is) =
    told result (subst (λ (r : Result Content ImportFault). Agrees (λ (c : Content). c.history) r (loaded limits (nothing_loaded limits) commands end)) (sym is)
    (all_agree limits [] (nothing_loaded limits) commands end))
  where
    told : (result : Result Content ImportFault) → Agrees (λ (c : Content). c.history) result (loaded limits (nothing_loaded limits) commands end)
        → LoadsAlike bytes limits result
    told (Ok content) same = (commands, end, goes, sym same)
    told (Err (faults.Stream fault)) same = (commands, end, goes, sym same)
    told (Err (faults.BadFrom line)) same = (commands, end, goes, sym same)
    told (Err (faults.BadMark line)) same = (commands, end, goes, sym same)
    told (Err (faults.BadPath line)) same = (commands, end, goes, sym same)
    told (Err (faults.Unsupported line)) same = (commands, end, goes, sym same)
    told (Err (faults.NoContent line)) same = tt
    told (Err (faults.TooLarge what)) same = (commands, end, goes, sym same)
    told (Err faults.NoMemory) same = (commands, end, goes, sym same)
