-- What is loaded over blobs has all its contents: each step keeps that files and marks have theirs.
use Rattle.std.proofs.Common.{◌≡◌, ℕ, zero, suc, Bool, true, false, ◌&&◌, ◌||◌, List, [], ◌∷◌, ◌++◌, All, fold, Option, Some, None, IfSome, is_some}
use Rattle.std.proofs.Common.{Result, Ok, Err, IfOk, if◌then◌else◌, ◌==◌, refl, subst}
use Rattle.std.specs.List.{slice_index_or}
use Rattle.std.proofs.lemmas.List.Elements.{All-nil, All-cons, All-head, All-tail, All-weaker, All-append, All-filter, All-push}
use Rattle.std.proofs.lemmas.Slice.Eq.{bytes_eq-Decides}
use Rattle.bf_grammar.specs.declared.command.Change.{Change}
use Rattle.bf_grammar.specs.declared.command.Change.TheVariants.{Modify, Delete, DeleteAll}
use Rattle.bf_grammar.specs.declared.command.Command.{Command}
use Rattle.bf_grammar.specs.declared.command.Command.TheVariants as command
use Rattle.bf_grammar.specs.declared.command.Commit as given
use Rattle.bf_grammar.specs.declared.command.DataRef.{DataRef}
use Rattle.bf_grammar.specs.declared.command.DataRef.TheVariants as dataref
use Rattle.bf_grammar.specs.declared.command.Target.{Target}
use Rattle.bf_grammar.specs.declared.fault.Limits.{Limits}
use Rattle.bf_grammar.specs.declared.fault.StreamFault.{StreamFault}
use Rattle.bf_grammar.specs.declared.fault.StreamFault.TheVariants.{Syntax}
use Rattle.bf_grammar.specs.Forms.{◌>>=◌}
use Rattle.bf_oid.specs.declared.object.Kind.TheVariants as kind
use Rattle.bf_oid.specs.declared.object.Mode.{Mode}
use Rattle.bf_oid.specs.declared.object.Oid.{Oid}
use Rattle.bf_oid.specs.Object.{name_of}
use Rattle.bf_forest.specs.declared.edits.Edit.{Edit}
use Rattle.bf_forest.specs.declared.edits.Edit.TheVariants.{Set, Remove, Clear}
use Rattle.bf_forest.specs.declared.entries.FileEntry.{FileEntry}
use Rattle.bf_forest.specs.Files.{Files, edited, remove_file, set_file}
use Rattle.bf_history.specs.declared.fault.ImportFault.{ImportFault}
use Rattle.bf_history.specs.declared.fault.ImportFault.TheVariants as faults
use Rattle.bf_history.specs.declared.marked.Marked.{Marked}
use Rattle.bf_history.specs.declared.marked.Marked.TheVariants as marked
use Rattle.bf_history.specs.Contents.{Blobs, after_command_over, behind_change, blobs_behind, edit_over, edits_over, furnished, has_blob, has_content}
use Rattle.bf_history.specs.Contents.{is_furnished, is_name, is_text, is_there, with_blob, with_content, with_inline}
use Rattle.bf_history.specs.Furnished.{EditHas, IsFurnishedOver, MarkHas, MarksHave}
use Rattle.bf_history.specs.Laws.{IsNamed, IsWhole}
use Rattle.bf_history.specs.Meanings.{Commit, History, Loading, after_command, after_edits, after_reset, after_tag, begins_with, blob_marked, commit_on, content_named}
use Rattle.bf_history.specs.Meanings.{each_of, edit_of, files_from, is_module, nothing_loaded, is_no_name, mark_in, path_at, place_of_target, stood}
use Rattle.bf_history.specs.Meanings.{after_named, lacks_name, with_commit, with_mark, with_ref, within_limits, without_ref}
use Rattle.bf_history.specs.Named.{value_of, with_value}
use Rattle.bf_history.proofs.Steps.{within_same}

-- ---- results

ok_then : {X Y : Type 0} (P : X → Type 0) (Q : Y → Type 0) (step : Result X ImportFault) (next : X → Result Y ImportFault) → IfOk step P
    → ((x : X) → P x → IfOk (next x) Q) → IfOk (step >>= next) Q
ok_then P Q (Ok x) next first on = on x first
ok_then P Q (Err fault) next first on = tt

ok_on : {X Y : Type 0} (Q : Y → Type 0) (step : Result X ImportFault) (next : X → Result Y ImportFault) → ((x : X) → IfOk (next x) Q) → IfOk (step >>= next) Q
ok_on Q (Ok x) next on = on x
ok_on Q (Err fault) next on = tt

ok_if : {X : Type 0} (Q : X → Type 0) (test : Bool) (fault : ImportFault) (x : X) → (test ≡ true → Q x) → IfOk (if test then Ok x else Err fault) Q
ok_if Q true fault x here = here refl
ok_if Q false fault x here = tt

-- ---- values under names

module _ {V : Type 0} (P : V → Type 0) {K : Type 0} (same : K → K → Bool) (name : K) where
  found_stands : (entries : List (K × V)) → All (λ (e : K × V). P e.1) entries → IfSome (value_of same name entries) P
  found_stands [] stand = tt
  found_stands (given ∷ rest) stand = go (found_stands rest (All-tail (λ (e : K × V). P e.1) given rest stand)) (same name given.0)
    where
      go : IfSome (value_of same name rest) P → (b : Bool) → IfSome (if b then Some given.1 else value_of same name rest) P
      go after true = All-head (λ (e : K × V). P e.1) given rest stand
      go after false = after

  set_stands : (value : V) → P value → (entries : List (K × V)) → All (λ (e : K × V). P e.1) entries
      → All (λ (e : K × V). P e.1) (with_value same name value entries)
  set_stands value here [] stand = All-cons (λ (e : K × V). P e.1) (name, value) [] here stand
  set_stands value here (given ∷ rest) stand = go (set_stands value here rest (All-tail (λ (e : K × V). P e.1) given rest stand)) (same name given.0)
    where
      go : All (λ (e : K × V). P e.1) (with_value same name value rest) → (b : Bool)
          → All (λ (e : K × V). P e.1) (if b then (given.0, value) ∷ rest else given ∷ with_value same name value rest)
      go after true = All-cons (λ (e : K × V). P e.1) (given.0, value) rest here (All-tail (λ (e : K × V). P e.1) given rest stand)
      go after false = All-cons (λ (e : K × V). P e.1) given (with_value same name value rest) (All-head (λ (e : K × V). P e.1) given rest stand) after

-- ---- blobs grow

-- what is a blob stays one
abbrev Grows : Blobs → Blobs → Type 0
Grows few more = (name : Oid) → has_blob few name ≡ true → has_blob more name ≡ true

itself : (name : Oid) → is_name name name ≡ true
itself name = (bytes_eq-Decides name.0 name.0).1 refl

in_front : (blobs more : Blobs) → Grows blobs (blobs ++ more)
in_front [] more name there = absurd (cc)
in_front (blob ∷ blobs) more name there = go (in_front blobs more name) (is_name name blob.0) there
  where
    go : (has_blob blobs name ≡ true → has_blob (blobs ++ more) name ≡ true) → (b : Bool)
        → is_some (if b then Some blob.1 else value_of is_name name blobs) ≡ true
        → is_some (if b then Some blob.1 else value_of is_name name (blobs ++ more)) ≡ true
    go rest true there = refl
    go rest false there = rest there

at_end : (blobs : Blobs) (name : Oid) (bytes : List ℕ) → has_blob (blobs ++ (name, bytes) ∷ []) name ≡ true
at_end [] name bytes = rw itself refl
at_end (blob ∷ blobs) name bytes = go (at_end blobs name bytes) (is_name name blob.0)
  where
    go : has_blob (blobs ++ (name, bytes) ∷ []) name ≡ true → (b : Bool)
        → is_some (if b then Some blob.1 else value_of is_name name (blobs ++ (name, bytes) ∷ [])) ≡ true
    go rest true = refl
    go rest false = rest

module _ (blobs : Blobs) (name : Oid) (bytes : List ℕ) where
  more_with : Grows blobs (with_blob blobs name bytes)
  more_with other there = go (has_blob blobs name)
    where
      go : (b : Bool) → has_blob (if b then blobs else blobs ++ (name, bytes) ∷ []) other ≡ true
      go true = there
      go false = in_front blobs ((name, bytes) ∷ []) other there

  there_with : has_blob (with_blob blobs name bytes) name ≡ true
  there_with = go (has_blob blobs name) refl
    where
      go : (b : Bool) → has_blob blobs name ≡ b → has_blob (if b then blobs else blobs ++ (name, bytes) ∷ []) name ≡ true
      go true is = is
      go false is = at_end blobs name bytes

  named_with : All IsNamed blobs → name.0 ≡ name_of kind.Blob bytes → All IsNamed (with_blob blobs name bytes)
  named_with all is = go (has_blob blobs name)
    where
      go : (b : Bool) → All IsNamed (if b then blobs else blobs ++ (name, bytes) ∷ [])
      go true = all
      go false = All-push IsNamed blobs (name, bytes) all is

more_inline : (blobs : Blobs) (content : DataRef) → Grows blobs (with_inline blobs content)
more_inline blobs (dataref.Inline bytes) = more_with blobs (record { 0 = name_of kind.Blob bytes }) bytes
more_inline blobs (dataref.Mark number) = λ name there. there
more_inline blobs (dataref.Name other) = λ name there. there

more_change : (blobs : Blobs) (change : Change) → Grows blobs (behind_change blobs change)
more_change blobs (Modify line mode content path) = more_inline blobs content
more_change blobs (Delete line path) = λ name there. there
more_change blobs (DeleteAll line) = λ name there. there

more_changes : (blobs : Blobs) (changes : List Change) → Grows blobs (fold behind_change blobs changes)
more_changes blobs [] = λ name there. there
more_changes blobs (change ∷ changes) = λ name there. more_changes (behind_change blobs change) changes name (more_change blobs change name there)

more_behind : (blobs : Blobs) (given : Command) → Grows blobs (blobs_behind blobs given)
unfolding blobs_behind
more_behind blobs (command.Blob line mark content) = more_with blobs (record { 0 = name_of kind.Blob content }) content
more_behind blobs (command.Commit given) = more_changes blobs given.changes
more_behind blobs (command.Tag line name mark from) = λ name there. there
more_behind blobs (command.Reset line branch from) = λ name there. there
more_behind blobs (command.Progress line) = λ name there. there
more_behind blobs (command.Feature line) = λ name there. there

-- ---- and what has its content keeps it

either_way : (module_ text few more : Bool) → (module_ ≡ false → few ≡ true → more ≡ true) → (module_ || (text && few)) ≡ true → (module_ || (text && more)) ≡ true
either_way true text few more on h = refl
either_way false true few more on h = on refl h
either_way false false few more on h = h

module _ (few more : Blobs) (grows : Grows few more) where
  file_keeps : (file : FileEntry) → is_furnished few file ≡ true → is_furnished more file ≡ true
  file_keeps file = either_way (is_module file.mode) (is_text file.path) (has_blob few file.oid) (has_blob more file.oid) (λ other. grows file.oid)

  mark_keeps : (what : Marked) → MarkHas few what → MarkHas more what
  mark_keeps (marked.Blob name) = grows name
  mark_keeps (marked.Commit place) = λ has. has
  mark_keeps marked.Tag = λ has. has

  edit_keeps : (edit : Edit) → EditHas few edit → EditHas more edit
  edit_keeps (Set path mode name) = file_keeps (record { path = path; mode = mode; oid = name })
  edit_keeps (Remove path) = λ has. has
  edit_keeps Clear = λ has. has

  marks_keep : (marks : List (ℕ × Marked)) → MarksHave few marks → MarksHave more marks
  marks_keep = All-weaker (λ (mark : ℕ × Marked). MarkHas few mark.1) (λ (mark : ℕ × Marked). MarkHas more mark.1) (λ mark. mark_keeps mark.1)

-- ---- edits

abbrev NamesThere : Blobs → Mode → DataRef → Oid → Type 0
NamesThere blobs mode content name = is_module mode ≡ false → is_there blobs content ≡ true → has_blob (with_inline blobs content) name ≡ true

marked_there : (blobs : Blobs) (line : ℕ) (found : Option Marked) → IfSome found (MarkHas blobs) → IfOk (blob_marked line found) (λ name. has_blob blobs name ≡ true)
marked_there blobs line (Some (marked.Blob name)) has = has
marked_there blobs line (Some (marked.Commit place)) has = tt
marked_there blobs line (Some marked.Tag) has = tt
marked_there blobs line None has = tt

module _ (blobs : Blobs) (marks : List (ℕ × Marked)) (has : MarksHave blobs marks) where
  content_there : (line : ℕ) (mode : Mode) (content : DataRef) → IfOk (content_named marks line mode content) (NamesThere blobs mode content)
  unfolding content_named
  content_there line mode (dataref.Name name) = λ other there. there
  content_there line mode (dataref.Mark number) =
      go (is_module mode) (marked_there blobs line (mark_in marks number) (found_stands (MarkHas blobs) ◌==◌ number marks has))
    where
      weaker : (found : Result Oid ImportFault) → IfOk found (λ name. has_blob blobs name ≡ true)
          → IfOk found (λ name. is_module mode ≡ false → true ≡ true → has_blob blobs name ≡ true)
      weaker (Ok name) here = λ other there. here
      weaker (Err fault) here = tt

      go : (b : Bool) → IfOk (blob_marked line (mark_in marks number)) (λ name. has_blob blobs name ≡ true)
          → IfOk (if b then Err (faults.BadMark line) else blob_marked line (mark_in marks number))
          (λ name. is_module mode ≡ false → true ≡ true → has_blob blobs name ≡ true)
      go true here = tt
      go false here = weaker (blob_marked line (mark_in marks number)) here
  content_there line mode (dataref.Inline bytes) = go (is_module mode)
    where
      go : (b : Bool) → IfOk (if b then Err (faults.BadMark line) else Ok (let o : Oid = record { 0 = name_of kind.Blob bytes } in o))
          (λ name. is_module mode ≡ false → true ≡ true → has_blob (with_content blobs bytes) name ≡ true)
      go true = tt
      go false = λ other there. there_with blobs (record { 0 = name_of kind.Blob bytes }) bytes

  edit_there : (change : Change) → IfOk (edit_over blobs marks change) (EditHas (behind_change blobs change))
  unfolding edit_over edit_of
  edit_there (Modify line mode content text) =
      let more = with_inline blobs content in
      ok_then (NamesThere blobs mode content) (EditHas more) (content_named marks line mode content) _ (content_there line mode content)
      (λ name there. ok_on (EditHas more) (path_at line text) _
      (λ path. ok_if (EditHas more) (has_content blobs mode content path) (faults.NoContent line) (Set path mode name)
      (either_way (is_module mode) (is_text path) (is_there blobs content) (has_blob more name) there)))
  edit_there (Delete line text) = ok_on (EditHas blobs) (path_at line text) _ (λ path. tt)
  edit_there (DeleteAll line) = tt

edits_there : (blobs : Blobs) (marks : List (ℕ × Marked)) (changes : List Change) → MarksHave blobs marks
    → IfOk (edits_over blobs marks changes) (All (EditHas (fold behind_change blobs changes)))
unfolding edits_over
edits_there blobs marks [] has = All-nil (EditHas blobs)
edits_there blobs marks (change ∷ changes) has =
    let mid = behind_change blobs change in
    let last = fold behind_change mid changes in
    ok_then (EditHas mid) (All (EditHas last)) (edit_over blobs marks change) _ (edit_there blobs marks has change)
    (λ edit here. ok_then (All (EditHas last)) (All (EditHas last)) (edits_over mid marks changes) _
    (edits_there mid marks changes (marks_keep blobs mid (more_change blobs change) marks has))
    (λ edits rest. All-cons (EditHas last) edit edits (edit_keeps mid last (more_changes mid changes) edit here) rest))

-- ---- files

module _ (blobs : Blobs) where
  abbrev Has : FileEntry → Type 0
  Has file = is_furnished blobs file ≡ true

  set_there : (path : List (List ℕ)) (mode : Mode) (name : Oid) (files : Files) → Has (record { path = path; mode = mode; oid = name }) → All Has files
      → All Has (set_file path mode name files)
  set_there path mode name files here all =
      All-append Has _ _ (All-filter _ Has files all)
      (All-cons Has (record { path = path; mode = mode; oid = name }) _ here (All-filter _ Has files all))

  removed_there : (path : List (List ℕ)) (files : Files) → All Has files → All Has (remove_file path files)
  removed_there path files all = All-filter _ Has files all

  files_there : (edits : List Edit) (files : Files) → All Has files → All (EditHas blobs) edits → All Has (edited files edits)
  unfolding edited
  files_there [] files all has = all
  files_there (Set path mode name ∷ edits) files all has =
      files_there edits (set_file path mode name files) (set_there path mode name files (All-head (EditHas blobs) (Set path mode name) edits has) all)
      (All-tail (EditHas blobs) (Set path mode name) edits has)
  files_there (Remove path ∷ edits) files all has =
      files_there edits (remove_file path files) (removed_there path files all) (All-tail (EditHas blobs) (Remove path) edits has)
  files_there (Clear ∷ edits) files all has = files_there edits [] (All-nil Has) (All-tail (EditHas blobs) Clear edits has)

  at_place : (all : List Files) (place : ℕ) → All (All Has) all → All Has (slice_index_or all place [])
  at_place [] place has = All-nil Has
  at_place (files ∷ rest) zero has = All-head (All Has) files rest has
  at_place (files ∷ rest) (suc place) has = at_place rest place (All-tail (All Has) files rest has)

  begun_there : (history : History) (first : Option ℕ) → All (All Has) history.files → All Has (files_from history first)
  begun_there history None has = All-nil Has
  begun_there history (Some place) has = at_place history.files place has

  stood_there : (history : History) (directories : List Files) (known : Option ℕ) (commit : Commit) → All (All Has) history.files → All Has commit.files
      → All (All Has) (stood history directories known commit).files
  stood_there history directories (Some place) commit has here = has
  stood_there history directories None commit has here = All-push (All Has) history.files commit.files has here

  limited_there : (limits : Limits) (history : History) → All (All Has) history.files → IfOk (within_limits limits history) (λ h. All (All Has) h.files)
  limited_there limits history has = go (within_limits limits history) refl
    where
      go : (result : Result History ImportFault) → within_limits limits history ≡ result → IfOk result (λ h. All (All Has) h.files)
      go (Ok after) is = subst (λ (h : History). All (All Has) h.files) (within_same limits history after is) has
      go (Err fault) is = tt

-- ---- commands

marked_with : (blobs : Blobs) (mark : Option ℕ) (what : Marked) (marks : List (ℕ × Marked)) → MarkHas blobs what → MarksHave blobs marks
    → MarksHave blobs (with_mark mark what marks)
marked_with blobs None what marks here has = has
marked_with blobs (Some number) what marks here has = set_stands (MarkHas blobs) ◌==◌ number what here marks has

module _ (limits : Limits) (blobs : Blobs) (loading : Loading) (has : IsFurnishedOver blobs loading) where
  named_there : (given : given.Commit)
      → IfOk (after_named limits loading given (edits_over blobs loading.marks given.changes)) (IsFurnishedOver (fold behind_change blobs given.changes))
  unfolding with_commit commit_on
  named_there given =
      let last = fold behind_change blobs given.changes in
      let grows = more_changes blobs given.changes in
      let kept = All-weaker (All (Has blobs)) (All (Has last)) (All-weaker (Has blobs) (Has last) (file_keeps blobs last grows)) loading.history.files has.files in
      ok_on (IsFurnishedOver last) (begins_with loading given.branch given.from) _
      (λ first. ok_on (IsFurnishedOver last) (each_of (place_of_target faults.BadFrom loading) given.merges) _
      (λ others. ok_then (All (EditHas last)) (IsFurnishedOver last) (edits_over blobs loading.marks given.changes) _
      (edits_there blobs loading.marks given.changes has.marks)
      (λ edits there. ok_then (λ (h : History). All (All (Has last)) h.files) (IsFurnishedOver last) (within_limits limits _) _
      (limited_there last limits _
      (stood_there last loading.history _ _ _ kept
      (files_there last edits (files_from loading.history first) (begun_there last loading.history first kept) there)))
      (λ history files. record {
        marks = marked_with last given.mark (marked.Commit _) loading.marks tt (marks_keep blobs last grows loading.marks has.marks);
        files = files;
      }))))

  commit_there : (given : given.Commit)
      → IfOk (after_edits limits loading given (edits_over blobs loading.marks given.changes)) (IsFurnishedOver (fold behind_change blobs given.changes))
  commit_there given = go (lacks_name limits loading.history given.header)
    where
      go : (test : Bool) → IfOk
          (if test then Err (faults.Stream (Syntax given.line)) else after_named limits loading given (edits_over blobs loading.marks given.changes))
          (IsFurnishedOver (fold behind_change blobs given.changes))
      go true = tt
      go false = named_there given

  reset_there : (branch : List ℕ) (from : Option Target) → IfOk (after_reset loading branch from) (IsFurnishedOver blobs)
  unfolding after_reset
  reset_there branch None = record { marks = has.marks; files = has.files }
  reset_there branch (Some target) = go (is_no_name target.text)
    where
      go : (b : Bool) → IfOk
          (if b then Ok (record loading { history = without_ref branch loading.history }) else (place_of_target faults.BadFrom loading target >>= λ place. Ok (record loading { history = with_ref branch place loading.history })))
          (IsFurnishedOver blobs)
      go true = record { marks = has.marks; files = has.files }
      go false = ok_on (IsFurnishedOver blobs) (place_of_target faults.BadFrom loading target) _ (λ place. record { marks = has.marks; files = has.files })

  tag_there : (name : List ℕ) (mark : Option ℕ) (target : Target) → IfOk (after_tag loading name mark target) (IsFurnishedOver blobs)
  unfolding after_tag
  tag_there name mark target =
      ok_on (IsFurnishedOver blobs) (place_of_target faults.Unsupported loading target) _
      (λ place. record { marks = marked_with blobs mark marked.Tag loading.marks tt has.marks; files = has.files })

  -- each command keeps that files and marks have their contents
  pub command_there : (given : Command) → IfOk (after_command_over limits blobs loading given) (IsFurnishedOver (blobs_behind blobs given))
  unfolding after_command_over after_command blobs_behind
  command_there (command.Commit given) = commit_there given
  command_there (command.Blob line mark content) =
      let more = with_content blobs content in
      let grows = more_with blobs (record { 0 = name_of kind.Blob content }) content in
      record {
        marks = marked_with more mark (marked.Blob (record { 0 = name_of kind.Blob content })) loading.marks
            (there_with blobs (record { 0 = name_of kind.Blob content }) content) (marks_keep blobs more grows loading.marks has.marks);
        files = All-weaker (All (Has blobs)) (All (Has more)) (All-weaker (Has blobs) (Has more) (file_keeps blobs more grows)) loading.history.files has.files;
      }
  command_there (command.Tag line name mark from) = tag_there name mark from
  command_there (command.Reset line branch from) = reset_there branch from
  command_there (command.Progress line) = has
  command_there (command.Feature line) = has

-- ---- names of blobs

named_changes : (blobs : Blobs) (changes : List Change) → All IsNamed blobs → All IsNamed (fold behind_change blobs changes)
named_changes blobs [] all = all
named_changes blobs (change ∷ changes) all = named_changes (behind_change blobs change) changes (go change)
  where
    go : (change : Change) → All IsNamed (behind_change blobs change)
    go (Modify line mode (dataref.Inline bytes) path) = named_with blobs (record { 0 = name_of kind.Blob bytes }) bytes all refl
    go (Modify line mode (dataref.Mark number) path) = all
    go (Modify line mode (dataref.Name name) path) = all
    go (Delete line path) = all
    go (DeleteAll line) = all

named_behind : (blobs : Blobs) (given : Command) → All IsNamed blobs → All IsNamed (blobs_behind blobs given)
unfolding blobs_behind
named_behind blobs (command.Blob line mark content) all = named_with blobs (record { 0 = name_of kind.Blob content }) content all refl
named_behind blobs (command.Commit given) all = named_changes blobs given.changes all
named_behind blobs (command.Tag line name mark from) all = all
named_behind blobs (command.Reset line branch from) all = all
named_behind blobs (command.Progress line) all = all
named_behind blobs (command.Feature line) all = all

-- ---- a whole stream

pub all_there : (limits : Limits) (blobs : Blobs) (loading : Loading) (commands : List Command) (end : Option StreamFault) → IsFurnishedOver blobs loading
    → All IsNamed blobs → IfOk (furnished limits blobs loading commands end) IsWhole
unfolding furnished
all_there limits blobs loading [] None has named = record { files = has.files; named = named }
all_there limits blobs loading [] (Some fault) has named = tt
all_there limits blobs loading (command ∷ commands) end has named =
    ok_then (IsFurnishedOver (blobs_behind blobs command)) IsWhole (after_command_over limits blobs loading command) _
    (command_there limits blobs loading has command)
    (λ next there. all_there limits (blobs_behind blobs command) next commands end there (named_behind blobs command named))

pub nothing_lacks : (limits : Limits) → IsFurnishedOver [] (nothing_loaded limits)
nothing_lacks limits = record { marks = All-nil (λ (mark : ℕ × Marked). MarkHas [] mark.1); files = All-nil (All (Has [])) }
