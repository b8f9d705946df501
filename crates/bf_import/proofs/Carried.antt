-- How commands are carried out, each lemma for one way in which a call may end.
use Rattle.std.proofs.Common.{◌≡◌, ℕ, ◌<◌, true, false, List, ◌++◌, codes, Option, Some, None, IfSome, Result, Ok, Err, IfOk, OnOk, refl, sym, ◌∙◌, ap, subst}
use Rattle.std.specs.Option.{option_to_list, ok_or}
use Rattle.std.specs.Result.{IsErrAnd}
use Rattle.std.proofs.lemmas.Result.{on_ok_weaker}
use Rattle.bf_grammar.specs.declared.command.Command.{Command}
use Rattle.bf_grammar.specs.declared.command.Command.TheVariants as command
use Rattle.bf_grammar.specs.declared.command.Commit as given
use Rattle.bf_grammar.specs.declared.command.Target.{Target}
use Rattle.bf_grammar.specs.declared.fault.Limits.{Limits}
use Rattle.bf_oid.specs.declared.object.Oid.{Oid}
use Rattle.bf_grammar.specs.Forms.{colon_number, ◌>>=◌}
use Rattle.bf_oid.specs.Object.{oid_of_hex}
use Rattle.bf_forest.specs.declared.edits.Edit.{Edit}
use Rattle.bf_grammar.specs.declared.fault.StreamFault.TheVariants.{Syntax}
use Rattle.bf_history.specs.declared.fault.ImportFault.{ImportFault}
use Rattle.bf_history.specs.declared.fault.ImportFault.TheVariants.{BadFrom, Stream, Unsupported}
use Rattle.bf_history.specs.declared.marked.Marked.{Marked}
use Rattle.bf_history.specs.declared.marked.Marked.TheVariants as marked
use Rattle.bf_history.specs.Contents.{after_command_over, blobs_behind}
use Rattle.bf_history.specs.Imports.{Means}
use Rattle.bf_history.specs.Keeping.{Kept, command_meant, edits_meant, kept_behind, kept_behind_all, kept_with}
use Rattle.bf_history.specs.Meanings.{History, Loading, each_of, mark_in, ref_in, place_named, ref_of_target, commit_marked, place_by, place_of_target}
use Rattle.bf_history.specs.Meanings.{begins_with, place_of_commit, with_ref, without_ref, with_mark, is_no_name, after_command, after_commit, after_edits}
use Rattle.bf_history.specs.Meanings.{after_named, after_reset, lacks_name}
use Rattle.bf_history.proofs.Meant.{means_refused, means_same, means_passed_on, means_then}
use Rattle.bf_import.specs.declared.targets.Role.{Role}
use Rattle.bf_import.specs.Growing.{Importing, StandsBelow, after_parts, blob_name, commit_from, joined, mark_set, parents_given, ref_set, with_place}
use Rattle.bf_import.specs.Roles.{said_of}

-- what is meant exactly is meant
pub means_is : {X : Type 0} (result meant : Result X ImportFault) → result ≡ meant → Means (λ x. x) result meant
means_is (Ok x) meant is = sym is
means_is (Err fault) meant is = means_refused (λ x. x) fault meant (sym is)

-- a command other than a commit means the same, whether contents are kept or not
abbrev pub IsNoCommit : Command → Type 0
IsNoCommit (command.Commit given) = ⊥
IsNoCommit other = Unit {0}

plainly : (limits : Limits) (kept : Kept) (loading : Loading) (asked : Command) → IsNoCommit asked
    → after_command limits loading asked ≡ command_meant limits kept loading asked
unfolding after_command_over
plainly limits None loading asked plain = refl
plainly limits (Some blobs) loading (command.Commit given) plain = absurd plain
plainly limits (Some blobs) loading (command.Blob line mark content) plain = refl
plainly limits (Some blobs) loading (command.Tag line name mark from) plain = refl
plainly limits (Some blobs) loading (command.Reset line branch from) plain = refl
plainly limits (Some blobs) loading (command.Progress line) plain = refl
plainly limits (Some blobs) loading (command.Feature line) plain = refl

-- what is meant by a command is meant by one that is the same
pub commanded : {X : Type 0} (view : X → Loading) (limits : Limits) (kept : Kept) (loading : Loading) (asked same : Command) (result : Result X ImportFault)
    → asked ≡ same → IsNoCommit same
    → Means view result (after_command limits loading same) → Means view result (command_meant limits kept loading asked)
commanded view limits kept loading asked same result is plain means =
    means_same view result (after_command limits loading same) (command_meant limits kept loading asked)
    (plainly limits kept loading same plain ∙ sym (ap (command_meant limits kept loading) is)) means

commit_over : (limits : Limits) (kept : Kept) (loading : Loading) (commit : given.Commit)
    → after_edits limits loading commit (edits_meant kept loading.marks commit.changes) ≡ command_meant limits kept loading (command.Commit commit)
unfolding after_command after_commit after_command_over
commit_over limits None loading commit = refl
commit_over limits (Some blobs) loading commit = refl

-- so is what is meant by a commit
pub commanded_commit : {X : Type 0} (view : X → Loading) (limits : Limits) (kept : Kept) (loading : Loading) (asked : Command) (commit : given.Commit)
    (result : Result X ImportFault) → asked ≡ command.Commit commit
    → Means view result (after_edits limits loading commit (edits_meant kept loading.marks commit.changes))
    → Means view result (command_meant limits kept loading asked)
commanded_commit view limits kept loading asked commit result is means =
    means_same view result (after_edits limits loading commit (edits_meant kept loading.marks commit.changes)) (command_meant limits kept loading asked)
    (commit_over limits kept loading commit ∙ sym (ap (command_meant limits kept loading) is)) means

-- what is kept behind a command
pub keeps_blob : {T : Type 0} (result : Result T ImportFault) (kept more : Kept) (asked : Command) (line : ℕ) (mark : Option ℕ) (content : List ℕ)
    → asked ≡ command.Blob line mark content → OnOk result (more ≡ kept_with kept (blob_name content) content) → OnOk result (more ≡ kept_behind kept asked)
unfolding blobs_behind
keeps_blob result kept more asked line mark content is keeps =
    on_ok_weaker result (λ (one : more ≡ kept_with kept (blob_name content) content). one ∙ sym (ap (kept_behind kept) is)) keeps

pub keeps_commit : {T : Type 0} (result : Result T ImportFault) (kept more : Kept) (asked : Command) (commit : given.Commit) → asked ≡ command.Commit commit
    → OnOk result (more ≡ kept_behind_all kept commit.changes) → OnOk result (more ≡ kept_behind kept asked)
unfolding blobs_behind
keeps_commit result kept more asked commit is keeps =
    on_ok_weaker result (λ (all : more ≡ kept_behind_all kept commit.changes). all ∙ sym (ap (kept_behind kept) is)) keeps

abbrev pub HasNoContent : Command → Type 0
HasNoContent (command.Blob line mark content) = ⊥
HasNoContent (command.Commit given) = ⊥
HasNoContent other = Unit {0}

keeps_on : (kept : Kept) (asked : Command) → HasNoContent asked → kept ≡ kept_behind kept asked
unfolding blobs_behind
keeps_on None asked none = refl
keeps_on (Some blobs) (command.Blob line mark content) none = absurd none
keeps_on (Some blobs) (command.Commit given) none = absurd none
keeps_on (Some blobs) (command.Tag line name mark from) none = refl
keeps_on (Some blobs) (command.Reset line branch from) none = refl
keeps_on (Some blobs) (command.Progress line) none = refl
keeps_on (Some blobs) (command.Feature line) none = refl

pub keeps_all : {T : Type 0} (result : Result T ImportFault) (kept : Kept) (asked same : Command) → asked ≡ same → HasNoContent same
    → OnOk result (kept ≡ kept_behind kept asked)
keeps_all result kept asked same is none = go result (keeps_on kept same none ∙ sym (ap (kept_behind kept) is))
  where
    go : {T A : Type 0} (result : Result T ImportFault) → A → OnOk result A
    go (Ok done) here = here
    go (Err fault) here = tt

-- ---- targets

module _ (loading : Loading) (target : Target) where
  pub by_mark : (role : Role) (number : ℕ) → colon_number target.text ≡ Some number → (result : Result ℕ ImportFault)
      → result ≡ commit_marked (said_of role) target.line (mark_in loading.marks number)
      → Means (λ place. place) result (place_of_target (said_of role) loading target)
  unfolding place_of_target
  by_mark role number is result gives =
      means_is result (place_by (said_of role) loading target (colon_number target.text) (oid_of_hex target.text))
      (gives ∙ sym (ap (λ (n : Option ℕ). place_by (said_of role) loading target n (oid_of_hex target.text)) is))

  by_text_alike : (role : Role) (name : Option Oid) → place_by BadFrom loading target None name ≡ place_by (said_of role) loading target None name
  by_text_alike role None = refl
  by_text_alike role (Some name) = refl

  pub by_text : (role : Role) → colon_number target.text ≡ None → (result : Result ℕ ImportFault)
      → Means (λ place. place) result (place_by BadFrom loading target None (oid_of_hex target.text))
      → Means (λ place. place) result (place_of_target (said_of role) loading target)
  unfolding place_of_target
  by_text role is result means =
      means_same (λ place. place) result (place_by BadFrom loading target None (oid_of_hex target.text))
      (place_by (said_of role) loading target (colon_number target.text) (oid_of_hex target.text))
      (by_text_alike role (oid_of_hex target.text) ∙ sym (ap (λ (n : Option ℕ). place_by (said_of role) loading target n (oid_of_hex target.text)) is)) means

  pub by_name : (name : Oid) → oid_of_hex target.text ≡ Some name → (result : Result ℕ ImportFault)
      → result ≡ ok_or (place_named loading.history.names name) (Unsupported target.line)
      → Means (λ place. place) result (place_by BadFrom loading target None (oid_of_hex target.text))
  by_name name is result gives =
      means_is result (place_by BadFrom loading target None (oid_of_hex target.text)) (gives ∙ sym (ap (place_by BadFrom loading target None) is))

  pub by_ref : oid_of_hex target.text ≡ None → (result : Result ℕ ImportFault)
      → result ≡ ok_or (ref_in loading.history.refs (ref_of_target target.text)) (BadFrom target.line)
      → Means (λ place. place) result (place_by BadFrom loading target None (oid_of_hex target.text))
  by_ref is result gives =
      means_is result (place_by BadFrom loading target None (oid_of_hex target.text)) (gives ∙ sym (ap (place_by BadFrom loading target None) is))

-- the commit of a mark is there
marked_below : (other : ℕ → ImportFault) (line count : ℕ) (found : Option Marked) → IfSome found (StandsBelow count)
    → IfOk (commit_marked other line found) (λ place. place < count)
marked_below other line count None there = tt
marked_below other line count (Some (marked.Commit place)) there = there
marked_below other line count (Some (marked.Blob name)) there = tt
marked_below other line count (Some marked.Tag) there = tt

pub marked_there : (other : ℕ → ImportFault) (line count : ℕ) (found : Option Marked) → IfSome found (StandsBelow count) → (result : Result ℕ ImportFault)
    → result ≡ commit_marked other line found → IfOk result (λ place. place < count)
marked_there other line count found there result is = subst (λ (r : Result ℕ ImportFault). IfOk r (λ place. place < count)) (sym is)
    (marked_below other line count found there)

-- ---- reset and tag

module _ (loading : Loading) (branch : List ℕ) (target : Target) where
  pub reset_cleared : is_no_name target.text ≡ true
      → after_reset loading branch (Some target) ≡ Ok (record loading { history = without_ref branch loading.history })
  unfolding after_reset
  reset_cleared zeros = rw zeros refl

  pub reset_on : is_no_name target.text ≡ false → (place_of_target BadFrom loading target >>= λ place. Ok
      (record loading { history = with_ref branch place loading.history })) ≡ after_reset loading branch (Some target)
  unfolding after_reset
  reset_on other = rw other refl

pub reset_alone : (loading : Loading) (branch : List ℕ) (from : Option Target) → from ≡ None
    → after_reset loading branch from ≡ Ok (record loading { history = without_ref branch loading.history })
unfolding after_reset
reset_alone loading branch from is = ap (after_reset loading branch) is

pub reset_given : {X : Type 0} (view : X → Loading) (loading : Loading) (branch : List ℕ) (from : Option Target) (target : Target) → from ≡ Some target
    → (result : Result X ImportFault) → Means view result (after_reset loading branch (Some target)) → Means view result (after_reset loading branch from)
reset_given view loading branch from target is result means = means_same view result (after_reset loading branch (Some target))
    (after_reset loading branch from) (sym (ap (after_reset loading branch) is)) means

pub tag_set : (before set after : Importing) (name full : List ℕ) (place : ℕ) (mark : Option ℕ) → full ≡ codes "refs/tags/" ++ name
    → set ≡ ref_set full place before → after ≡ mark_set mark marked.Tag set
    → after.loading ≡ record {
      history = with_ref (codes "refs/tags/" ++ name) place before.loading.history;
      marks = with_mark mark marked.Tag
          before.loading.marks;
    }
tag_set before set after name full place mark full_is set_is after_is =
    ap (λ (i : Importing). i.loading) after_is
    ∙ ap (λ (i : Importing). (mark_set mark marked.Tag i).loading) set_is
    ∙ ap (λ (text : List ℕ). (mark_set mark marked.Tag (ref_set text place before)).loading) full_is

-- ---- commits

parted : {X Y Z : Type 0} (first : Result X ImportFault) (make : X → Y) (next : Y → Result Z ImportFault)
    → (first >>= λ x. next (make x)) ≡ ((first >>= λ x. Ok (make x)) >>= next)
parted (Ok x) make next = refl
parted (Err fault) make next = refl

module _ (limits : Limits) (loading : Loading) (given : given.Commit) (meant : Result (List Edit) ImportFault) where
  -- the edits, and the rest of a commit
  with_parents : Option ℕ → List ℕ → Result Loading ImportFault
  with_parents first parents = meant >>= λ edits. after_parts limits loading given first parents edits

  with_first : Option ℕ → Result Loading ImportFault
  with_first first = parents_given loading first given.merges >>= with_parents first

  commit_meant : (begins_with loading given.branch given.from >>= with_first) ≡ after_named limits loading given meant
  unfolding with_first with_parents
  commit_meant = go (begins_with loading given.branch given.from)
    where
      go : (begun : Result (Option ℕ) ImportFault) → (begun >>= with_first)
          ≡ (begun >>= λ first. each_of (place_of_target BadFrom loading) given.merges >>= λ others. with_parents first (option_to_list first ++ others))
      go (Ok first) = sym (parted (each_of (place_of_target BadFrom loading) given.merges) (λ others. option_to_list first ++ others) (with_parents first))
      go (Err fault) = refl

  module _ {X : Type 0} (view : X → Loading) (result : Result X ImportFault) where
    commit_same : Means view result (begins_with loading given.branch given.from >>= with_first) → Means view result (after_named limits loading given meant)
    commit_same = means_same view result (begins_with loading given.branch given.from >>= with_first) (after_named limits loading given meant) commit_meant

    pub first_refused : (fault : ImportFault) → IsErrAnd result (λ other. other ≡ fault)
        → Means (λ (place : Option ℕ). place) (Err fault) (begins_with loading given.branch given.from)
        → Means view result (after_named limits loading given meant)
    first_refused fault exit means = commit_same (means_passed_on (λ (place : Option ℕ). place) view (begins_with loading given.branch given.from) with_first
        fault result exit means)

    module _ (first : Option ℕ) (first_is : begins_with loading given.branch given.from ≡ Ok first) where
      from_first : Means view result (with_first first) → Means view result (after_named limits loading given meant)
      from_first means = commit_same (means_then (λ (place : Option ℕ). place) view (begins_with loading given.branch given.from) with_first first result
          first_is means)

      pub parents_refused : {V : Type 0} (other : V → List ℕ) (fault : ImportFault) → IsErrAnd result (λ other. other ≡ fault)
          → Means other (Err fault) (parents_given loading first given.merges)
          → Means view result (after_named limits loading given meant)
      unfolding with_first
      parents_refused other fault exit means = from_first
          (means_passed_on other view (parents_given loading first given.merges) (with_parents first) fault result exit means)

      module _ (parents : List ℕ) (parents_are : parents_given loading first given.merges ≡ Ok parents) where
        from_parents : Means view result (with_parents first parents) → Means view result (after_named limits loading given meant)
        unfolding with_first
        from_parents means = from_first (means_then (λ (places : List ℕ). places) view (parents_given loading first given.merges) (with_parents first) parents
            result parents_are means)

        pub edits_refused : {V : Type 0} (other : V → List Edit) (fault : ImportFault) → IsErrAnd result (λ other. other ≡ fault)
            → Means other (Err fault) meant
            → Means view result (after_named limits loading given meant)
        unfolding with_parents
        edits_refused other fault exit means =
            from_parents (means_passed_on other view meant
            (λ edits. after_parts limits loading given first parents edits) fault result exit means)

        module _ (edits : List Edit) (edits_are : meant ≡ Ok edits) where
          pub from_edits : Means view result (after_parts limits loading given first parents edits) → Means view result (after_named limits loading given meant)
          unfolding with_parents
          from_edits means =
              from_parents (means_then (λ (all : List Edit). all) view meant
              (λ edits. after_parts limits loading given first parents edits) edits result edits_are means)

          -- the commit is past a limit
          pub limits_passed : {V : Type 0} (other : V → History) (fault : ImportFault) → IsErrAnd result (λ other. other ≡ fault)
              → Means other (Err fault) (joined limits loading.history (commit_from loading.history first parents edits given.header))
              → Means view result (after_named limits loading given meant)
          limits_passed other fault exit means =
              let commit = commit_from loading.history first parents edits given.header in
              from_edits (means_passed_on other view (joined limits loading.history commit)
              (λ (history : History). Ok (with_place loading given (place_of_commit loading.history commit) history)) fault result exit means)

-- a commit is refused that lacks its name
pub nameless_refused : {X : Type 0} (view : X → Loading) (limits : Limits) (loading : Loading) (given : given.Commit) (meant : Result (List Edit) ImportFault)
    → lacks_name limits loading.history given.header ≡ true
    → Means view (Err (Stream (Syntax given.line))) (after_edits limits loading given meant)
nameless_refused view limits loading given meant lacks = rw lacks refl

-- what is meant by a commit that has its name is meant
pub named_carried : {X : Type 0} (view : X → Loading) (limits : Limits) (loading : Loading) (given : given.Commit) (meant : Result (List Edit) ImportFault)
    (result : Result X ImportFault) → lacks_name limits loading.history given.header ≡ false
    → Means view result (after_named limits loading given meant) → Means view result (after_edits limits loading given meant)
named_carried view limits loading given meant result has means =
    means_same view result (after_named limits loading given meant) (after_edits limits loading given meant) (rw has refl) means

-- the commit stands, with its branch and its mark
pub commit_carried : (limits : Limits) (loading : Loading) (given : given.Commit) (first : Option ℕ) (parents : List ℕ) (edits : List Edit) (grown : History)
    (place : ℕ) (after : Loading)
    → joined limits loading.history (commit_from loading.history first parents edits given.header) ≡ Ok grown
    → place ≡ place_of_commit loading.history (commit_from loading.history first parents edits given.header)
    → after ≡ with_place loading given place grown
    → after_parts limits loading given first parents edits ≡ Ok after
commit_carried limits loading given first parents edits grown place after within there is =
    ap (λ (m : Result History ImportFault). m >>= λ history. Ok
    (with_place loading given (place_of_commit loading.history (commit_from loading.history first parents edits given.header)) history)) within
    ∙ ap (λ (n : ℕ). let r : Result Loading ImportFault = Ok (with_place loading given n grown) in r) (sym there)
    ∙ ap (λ (l : Loading). let r : Result Loading ImportFault = Ok l in r) (sym is)

-- an import whose ref and mark are set
pub place_set : (before mid set after : Importing) (given : given.Commit) (place : ℕ) → mid.loading.marks ≡ before.loading.marks
    → set ≡ ref_set given.branch place mid → after ≡ mark_set given.mark (marked.Commit place) set
    → after.loading ≡ with_place before.loading given place mid.loading.history
place_set before mid set after given place marks set_is after_is =
    ap (λ (i : Importing). i.loading) after_is
    ∙ ap (λ (i : Importing). (mark_set given.mark (marked.Commit place) i).loading) set_is
    ∙ ap (λ (m : List (ℕ × Marked)). let l : Loading = record
    { history = with_ref given.branch place mid.loading.history; marks = with_mark given.mark (marked.Commit place) m } in l) marks

-- parents behind the first
pub parents_joined : (loading : Loading) (first : Option ℕ) (merges : List Target) (merged parents : List ℕ)
    → each_of (place_of_target BadFrom loading) merges ≡ Ok merged → parents ≡ option_to_list first ++ merged → parents_given loading first merges ≡ Ok parents
parents_joined loading first merges merged parents are is =
    ap (λ (m : Result (List ℕ) ImportFault). m >>= λ others. Ok (option_to_list first ++ others)) are ∙ ap
    (λ (all : List ℕ). let r : Result (List ℕ) ImportFault = Ok all in r) (sym is)
