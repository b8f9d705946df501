-- The edits of changes, from the contents and the paths that they name.
use Rattle.std.proofs.Common.{◌≡◌, ℕ, Bool, true, false, not, List, [], ◌∷◌, ◌++◌, Some, None, Result, Ok, Err, if◌then◌else◌, refl, sym, ◌∙◌, ap, subst, append_assoc, length, arith}
use Rattle.std.specs.Result.{IsErrAnd}
use Rattle.std.proofs.lemmas.List.{append-nil}
use Rattle.bf_grammar.specs.declared.command.Change.{Change}
use Rattle.bf_grammar.specs.declared.command.Change.TheVariants.{Modify, Delete, DeleteAll}
use Rattle.bf_grammar.specs.declared.command.DataRef.{DataRef}
use Rattle.bf_grammar.specs.declared.command.DataRef.TheVariants as dataref
use Rattle.bf_grammar.specs.Forms.{◌>>=◌}
use Rattle.bf_oid.specs.declared.object.Kind.TheVariants as kind
use Rattle.bf_oid.specs.declared.object.Mode.{Mode}
use Rattle.bf_oid.specs.declared.object.Oid.{Oid}
use Rattle.bf_oid.specs.Object.{name_of}
use Rattle.bf_forest.specs.declared.edits.Edit.{Edit}
use Rattle.bf_forest.specs.declared.edits.Edit.TheVariants.{Set, Remove, Clear}
use Rattle.bf_history.specs.declared.fault.ImportFault.{ImportFault}
use Rattle.bf_history.specs.declared.fault.ImportFault.TheVariants.{BadMark, NoContent}
use Rattle.bf_history.specs.declared.marked.Marked.{Marked}
use Rattle.bf_history.specs.Contents.{edit_over, edits_over, has_content}
use Rattle.bf_history.specs.Imports.{Means}
use Rattle.bf_history.specs.Keeping.{Kept, edit_meant, edits_meant, kept_behind_all, kept_behind_change, kept_with, kept_with_inline, lacks}
use Rattle.bf_history.specs.Meanings.{each_of, edit_of, content_named, is_module, path_at}
use Rattle.bf_history.proofs.Meant.{means_at_exit, means_refused, means_same, means_passed_on, means_stopped, means_then}
use Rattle.bf_commits.specs.Inline.{IsNameOf}

bind_same : {X Y : Type 0} (step : Result X ImportFault) (next other : X → Result Y ImportFault) → ((x : X) → next x ≡ other x) → (step >>= next) ≡ (step >>= other)
bind_same (Ok x) next other same = same x
bind_same (Err fault) next other same = refl

module _ (kept : Kept) (marks : List (ℕ × Marked)) (line : ℕ) (mode : Mode) (content : DataRef) (text : List ℕ) (change : Change)
    (is : change ≡ Modify line mode content text) where
  -- what a file is set by, once its content has a name, and then its path
  with_test : Bool → Edit → Result Edit ImportFault
  with_test lacking edit = if lacking then Err (NoContent line) else Ok edit

  at_path : Oid → List (List ℕ) → Result Edit ImportFault
  at_path name path = with_test (lacks kept mode content path) (Set path mode name)

  with_path : Oid → Result Edit ImportFault
  with_path name = path_at line text >>= at_path name

  file_edit : edit_meant kept marks change ≡ (content_named marks line mode content >>= with_path)
  unfolding edit_of edit_over with_test at_path with_path
  file_edit = ap (edit_meant kept marks) is ∙ go kept
    where
      turned : (has : Bool) (edit : Edit) → (if has then Ok edit else Err (NoContent line)) ≡ with_test (not has) edit
      turned true edit = refl
      turned false edit = refl

      go : (kept : Kept) → edit_meant kept marks (Modify line mode content text)
          ≡ (content_named marks line mode content >>= λ name. path_at line text >>= λ path. with_test (lacks kept mode content path) (Set path mode name))
      go None = refl
      go (Some blobs) =
          bind_same (content_named marks line mode content) _ _
          (λ name. bind_same (path_at line text) _ _ (λ path. turned (has_content blobs mode content path) (Set path mode name)))

  -- the content is refused
  pub content_refused : (fault : ImportFault) (result : Result Edit ImportFault) → IsErrAnd result (λ other. other ≡ fault)
      → Err fault ≡ content_named marks line mode content
      → Means (λ (e : Edit). e) result (edit_meant kept marks change)
  content_refused fault result exit refused =
      means_same (λ (e : Edit). e) result (content_named marks line mode content >>= with_path) (edit_meant kept marks change) (sym file_edit)
      (means_passed_on (λ (n : Oid). n) (λ (e : Edit). e) (content_named marks line mode content) with_path fault result exit
      (means_refused (λ (n : Oid). n) fault (content_named marks line mode content) (sym refused)))

  module _ (name : Oid) (named : Ok name ≡ content_named marks line mode content) where
    -- the content has a name, and the path is refused
    pub path_refused : (fault : ImportFault) (result : Result Edit ImportFault) → IsErrAnd result (λ other. other ≡ fault)
        → Means (λ (p : List (List ℕ)). p) (Err fault) (path_at line text)
        → Means (λ (e : Edit). e) result (edit_meant kept marks change)
    unfolding with_path
    path_refused fault result exit means =
        means_same (λ (e : Edit). e) result (content_named marks line mode content >>= with_path) (edit_meant kept marks change) (sym file_edit)
        (means_then (λ (n : Oid). n) (λ (e : Edit). e) (content_named marks line mode content) with_path name result (sym named)
        (means_passed_on (λ (p : List (List ℕ)). p) (λ (e : Edit). e) (path_at line text) (at_path name) fault result exit means))

    -- the content has a name, and the path is one
    module _ (path : List (List ℕ)) (path_is : path_at line text ≡ Ok path) where
      tested : edit_meant kept marks change ≡ at_path name path
      unfolding with_path
      tested = file_edit ∙ ap (λ (r : Result Oid ImportFault). r >>= with_path) (sym named)
          ∙ ap (λ (r : Result (List (List ℕ)) ImportFault). r >>= at_path name) path_is

      pub file_lacks : lacks kept mode content path ≡ true → edit_meant kept marks change ≡ Err (NoContent line)
      unfolding at_path with_test
      file_lacks lacking = tested ∙ ap (λ (b : Bool). with_test b (Set path mode name)) lacking

      pub file_set : lacks kept mode content path ≡ false → edit_meant kept marks change ≡ Ok (Set path mode name)
      unfolding at_path with_test
      file_set had = tested ∙ ap (λ (b : Bool). with_test b (Set path mode name)) had

-- a removal means the same, whether contents are kept or not
removal_same : (kept : Kept) (marks : List (ℕ × Marked)) (line : ℕ) (text : List ℕ)
    → edit_meant kept marks (Delete line text) ≡ edit_of marks (Delete line text)
unfolding edit_over
removal_same None marks line text = refl
removal_same (Some blobs) marks line text = refl

module _ (kept : Kept) (marks : List (ℕ × Marked)) (line : ℕ) (text : List ℕ) (change : Change) (is : change ≡ Delete line text) where
  removal : edit_meant kept marks change ≡ (path_at line text >>= λ path. Ok (Remove path))
  unfolding edit_of
  removal = ap (edit_meant kept marks) is ∙ removal_same kept marks line text

  -- the path of a removal is refused
  pub removal_refused : (fault : ImportFault) (result : Result Edit ImportFault) → IsErrAnd result (λ other. other ≡ fault)
      → Means (λ (p : List (List ℕ)). p) (Err fault) (path_at line text) → Means (λ (e : Edit). e) result (edit_meant kept marks change)
  removal_refused fault result exit means =
      means_same (λ (e : Edit). e) result (path_at line text >>= λ path. Ok (Remove path)) (edit_meant kept marks change) (sym removal)
      (means_passed_on (λ (p : List (List ℕ)). p) (λ (e : Edit). e) (path_at line text) (λ (p : List (List ℕ)). Ok (Remove p)) fault result exit means)

  -- the path of a removal is one
  pub removed : (path : List (List ℕ)) → path_at line text ≡ Ok path → edit_meant kept marks change ≡ Ok (Remove path)
  removed path path_is = removal ∙ ap (λ (r : Result (List (List ℕ)) ImportFault). r >>= λ p. Ok (Remove p)) path_is

-- so does the removal of all
pub cleared : (kept : Kept) (marks : List (ℕ × Marked)) (line : ℕ) (change : Change) → change ≡ DeleteAll line → edit_meant kept marks change ≡ Ok Clear
unfolding edit_over edit_of
cleared kept marks line change is = ap (edit_meant kept marks) is ∙ go kept
  where
    go : (kept : Kept) → edit_meant kept marks (DeleteAll line) ≡ Ok Clear
    go None = refl
    go (Some blobs) = refl

-- ---- what is kept

-- the name of an inline content is that of its bytes
pub inline_named : (marks : List (ℕ × Marked)) (line : ℕ) (mode : Mode) (content : DataRef) (name : Oid) → Ok name ≡ content_named marks line mode content
    → IsNameOf name content
unfolding content_named
inline_named marks line mode (dataref.Name other) name is = tt
inline_named marks line mode (dataref.Mark number) name is = tt
inline_named marks line mode (dataref.Inline bytes) name is = go (is_module mode) is
  where
    go : (b : Bool) → Ok name ≡ (if b then Err (BadMark line) else Ok (let o : Oid = record { 0 = name_of kind.Blob bytes } in o))
        → name ≡ record { 0 = name_of kind.Blob bytes }
    go true is = absurd (cc)
    go false is = cc

pub inline_kept : (kept more : Kept) (content : DataRef) (bytes : List ℕ) (name : Oid) → content ≡ dataref.Inline bytes → IsNameOf name content
    → more ≡ kept_with kept name bytes → more ≡ kept_with_inline kept content
inline_kept kept more content bytes name is named keeps =
    keeps
    ∙ ap (λ (n : Oid). kept_with kept n bytes) (subst (IsNameOf name) is named)
    ∙ sym (ap (kept_with_inline kept) is)

-- nothing stands inline
abbrev pub IsElsewhere : DataRef → Type 0
IsElsewhere (dataref.Inline bytes) = ⊥
IsElsewhere (dataref.Mark number) = Unit {0}
IsElsewhere (dataref.Name name) = Unit {0}

pub elsewhere_kept : (kept : Kept) (content other : DataRef) → content ≡ other → IsElsewhere other → kept ≡ kept_with_inline kept content
elsewhere_kept kept content other is none = go kept other none ∙ sym (ap (kept_with_inline kept) is)
  where
    go : (kept : Kept) (other : DataRef) → IsElsewhere other → kept ≡ kept_with_inline kept other
    go None other none = refl
    go (Some blobs) (dataref.Inline bytes) none = absurd none
    go (Some blobs) (dataref.Mark number) none = refl
    go (Some blobs) (dataref.Name name) none = refl

-- ---- each change in turn

nothing : {X : Type 0} (xs : List X) → length xs ≡ 0 → xs ≡ []
nothing [] e = refl
nothing (x ∷ xs) e = absurd (omega arith)

-- what these changes mean, is the edits so far and those of the rest, over what is kept now
pub record SoFar (marks : List (ℕ × Marked)) (before : Kept) (all : List Change) (now : Kept) (rest : List Change) (done : List Edit) : Type 0 where
  pub edits : edits_meant before marks all ≡ (edits_meant now marks rest >>= λ more. Ok (done ++ more))
  pub kept : kept_behind_all before all ≡ kept_behind_all now rest

in_turn : (marks : List (ℕ × Marked)) (now : Kept) (change : Change) (rest : List Change)
    → edits_meant now marks (change ∷ rest)
    ≡ (edit_meant now marks change >>= λ edit. edits_meant (kept_behind_change now change) marks rest >>= λ more. Ok (edit ∷ more))
unfolding each_of edits_over
in_turn marks None change rest = refl
in_turn marks (Some blobs) change rest = refl

kept_in_turn : (now : Kept) (change : Change) (rest : List Change) → kept_behind_all now (change ∷ rest) ≡ kept_behind_all (kept_behind_change now change) rest
kept_in_turn None change rest = refl
kept_in_turn (Some blobs) change rest = refl

itself : (meant : Result (List Edit) ImportFault) → meant ≡ (meant >>= λ more. Ok ([] ++ more))
itself (Ok edits) = refl
itself (Err fault) = refl

pub none_so_far : (marks : List (ℕ × Marked)) (before : Kept) (all rest : List Change) (done : List Edit) → rest ≡ all → done ≡ []
    → SoFar marks before all before rest done
none_so_far marks before all rest done is none = record {
  edits = itself (edits_meant before marks all)
      ∙ ap (λ (r : List Change). edits_meant before marks r >>= λ more. Ok ([] ++ more)) (sym is)
      ∙ ap (λ (d : List Edit). edits_meant before marks rest >>= λ more. Ok (d ++ more)) (sym none);
  kept = ap (kept_behind_all before) (sym is);
}

module _ (marks : List (ℕ × Marked)) (before : Kept) (all : List Change) (now : Kept) (rest : List Change) (done : List Edit)
    (so_far : SoFar marks before all now rest done) where
  module _ (change : Change) (more : List Change) (here : rest ≡ change ∷ more) where
    next_edits : edits_meant before marks all
        ≡ ((edit_meant now marks change >>= λ edit. edits_meant (kept_behind_change now change) marks more >>= λ others. Ok (edit ∷ others))
        >>= λ others. Ok (done ++ others))
    next_edits =
        so_far.edits
        ∙ ap (λ (r : List Change). edits_meant now marks r >>= λ others. Ok (done ++ others)) here
        ∙ ap (λ (r : Result (List Edit) ImportFault). r >>= λ others. Ok (done ++ others)) (in_turn marks now change more)

    in_front : (edit : Edit) (others : Result (List Edit) ImportFault)
        → ((others >>= λ es. Ok (edit ∷ es)) >>= λ es. Ok (done ++ es)) ≡ (others >>= λ es. Ok ((done ++ edit ∷ []) ++ es))
    in_front edit (Ok es) = ap (λ (a : List Edit). let r : Result (List Edit) ImportFault = Ok a in r) (sym (append_assoc done (edit ∷ []) es))
    in_front edit (Err fault) = refl

    -- the next change has its edit
    pub one_more : (edit : Edit) (after : Kept) → edit_meant now marks change ≡ Ok edit → after ≡ kept_behind_change now change
        → SoFar marks before all after more (done ++ edit ∷ [])
    one_more edit after is keeps = record {
      edits = next_edits
          ∙ ap (λ (r : Result Edit ImportFault). (r >>= λ e. edits_meant (kept_behind_change now change) marks more >>= λ es. Ok (e ∷ es)) >>= λ es. Ok (done ++ es))
          is
          ∙ in_front edit (edits_meant (kept_behind_change now change) marks more)
          ∙ ap (λ (k : Kept). edits_meant k marks more >>= λ es. Ok ((done ++ edit ∷ []) ++ es)) (sym keeps);
      kept = so_far.kept ∙ ap (kept_behind_all now) here ∙ kept_in_turn now change more ∙ ap (λ (k : Kept). kept_behind_all k more) (sym keeps);
    }

    -- the next change is refused, so all are
    pub one_refused : {Z W : Type 0} (view : Z → Edit) (other : W → List Edit) (fault : ImportFault) (result : Result W ImportFault)
        → IsErrAnd result (λ refused. refused ≡ fault)
        → Means view (Err fault) (edit_meant now marks change) → Means other result (edits_meant before marks all)
    one_refused view other fault result exit means =
        means_at_exit other (edits_meant before marks all) fault result exit
        (means_same other (Err fault) _ (edits_meant before marks all) (sym next_edits)
        (means_stopped other other (edit_meant now marks change >>= λ e. edits_meant (kept_behind_change now change) marks more >>= λ es. Ok (e ∷ es))
        (λ (es : List Edit). Ok (done ++ es)) fault
        (means_stopped view other (edit_meant now marks change) (λ (e : Edit). edits_meant (kept_behind_change now change) marks more >>= λ es. Ok (e ∷ es)) fault
        means)))

  -- no change is left
  pub all_done : length rest ≡ 0 → edits_meant before marks all ≡ Ok done
  unfolding each_of edits_over
  all_done none =
      so_far.edits ∙ ap (λ (r : List Change). edits_meant now marks r >>= λ more. Ok (done ++ more)) (nothing rest none)
      ∙ go now ∙ ap (λ (a : List Edit). let r : Result (List Edit) ImportFault = Ok a in r) (append-nil done)
    where
      go : (now : Kept) → (edits_meant now marks [] >>= λ more. Ok (done ++ more)) ≡ Ok (done ++ [])
      go None = refl
      go (Some blobs) = refl

  pub all_kept : length rest ≡ 0 → now ≡ kept_behind_all before all
  all_kept none = sym (so_far.kept ∙ ap (kept_behind_all now) (nothing rest none) ∙ go now)
    where
      go : (now : Kept) → kept_behind_all now [] ≡ now
      go None = refl
      go (Some blobs) = refl
