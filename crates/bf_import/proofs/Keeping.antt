-- What values under names keep, what an edit of files keeps of the trees before, and what a history keeps that grows.
use Rattle.std.proofs.Common.{◌≡◌, ℕ, ◌<◌, ◌≤◌, Bool, true, false, List, [], ◌∷◌, length, length-take, map, take, Option, Some, None}
use Rattle.std.proofs.Common.{IfSome, All, get_or, if◌then◌else◌, ◌==◌, Result, Ok, Err, OnOk, OnErr, refl, sym, ◌∙◌, ap, ap₂, subst, arith}
use Rattle.std.proofs.lemmas.List.{get_or-map, get_or-take}
use Rattle.std.proofs.lemmas.List.Elements.{All-cons, All-head, All-tail, All-weaker}
use Rattle.bf_forest.specs.declared.edits.Edit.{Edit}
use Rattle.bf_forest.specs.Files.{Files, edited}
use Rattle.bf_forest.specs.Trees.{Pool, files_at, with_directories}
use Rattle.bf_history.specs.Named.{value_of, with_value, without_value}
use Rattle.bf_history.specs.declared.marked.Marked.{Marked}
use Rattle.bf_history.specs.declared.marked.Marked.TheVariants as marked
use Rattle.bf_history.specs.Meanings.{files_from}
use Rattle.bf_import.specs.declared.growth.Growth.TheInside.{Inside}
use Rattle.bf_import.specs.Growing.{MarksStand, StandsBelow, begun_with, edited_files, with_edits}
use Rattle.bf_import.specs.Kept.{IsKept, history_of}

module _ {K V : Type 0} (P : V → Type 0) (same : K → K → Bool) (name : K) where
  -- what is true of all values is true of the one that is found
  pub value_stands : (entries : List (K × V)) → All (λ (e : K × V). P e.1) entries → IfSome (value_of same name entries) P
  value_stands [] stand = tt
  value_stands (given ∷ rest) stand = go (value_stands rest (All-tail (λ (e : K × V). P e.1) given rest stand)) (same name given.0)
    where
      go : IfSome (value_of same name rest) P → (b : Bool) → IfSome (if b then Some given.1 else value_of same name rest) P
      go after true = All-head (λ (e : K × V). P e.1) given rest stand
      go after false = after

  pub with_value_stands : (value : V) → P value → (entries : List (K × V)) → All (λ (e : K × V). P e.1) entries
      → All (λ (e : K × V). P e.1) (with_value same name value entries)
  with_value_stands value here [] stand = All-cons (λ (e : K × V). P e.1) (name, value) [] here stand
  with_value_stands value here (given ∷ rest) stand = go (with_value_stands value here rest (All-tail (λ (e : K × V). P e.1) given rest stand))
      (same name given.0)
    where
      go : All (λ (e : K × V). P e.1) (with_value same name value rest) → (b : Bool)
          → All (λ (e : K × V). P e.1) (if b then (given.0, value) ∷ rest else given ∷ with_value same name value rest)
      go after true = All-cons (λ (e : K × V). P e.1) (given.0, value) rest here (All-tail (λ (e : K × V). P e.1) given rest stand)
      go after false = All-cons (λ (e : K × V). P e.1) given (with_value same name value rest) (All-head (λ (e : K × V). P e.1) given rest stand) after

  pub without_value_stands : (entries : List (K × V)) → All (λ (e : K × V). P e.1) entries → All (λ (e : K × V). P e.1) (without_value same name entries)
  without_value_stands [] stand = stand
  without_value_stands (given ∷ rest) stand = go (without_value_stands rest (All-tail (λ (e : K × V). P e.1) given rest stand)) (same name given.0)
    where
      go : All (λ (e : K × V). P e.1) (without_value same name rest) → (b : Bool)
          → All (λ (e : K × V). P e.1) (if b then rest else given ∷ without_value same name rest)
      go after true = All-tail (λ (e : K × V). P e.1) given rest stand
      go after false = All-cons (λ (e : K × V). P e.1) given (without_value same name rest) (All-head (λ (e : K × V). P e.1) given rest stand) after

module _ (g : Inside) (kept : IsKept g) where
  -- other refs whose places are there
  pub kept_with_refs : (others : List (List ℕ × ℕ)) → All (λ (ref : List ℕ × ℕ). ref.1 < length g.graph) others → IsKept (record g { refs = others })
  kept_with_refs others stand = record {
    one_name = kept.one_name;
    one_subject = kept.one_subject;
    one_tree = kept.one_tree;
    refs_stand = stand;
    trees_stand = kept.trees_stand;
    has_empty = kept.has_empty;
    empty = kept.empty;
    within = kept.within;
    entries = kept.entries;
    commits = kept.commits;
  }

  -- more trees in the pool
  pub kept_with_forest : (forest : Pool) → forest.limit ≡ g.forest.limit → take (length g.forest.trees) forest.trees ≡ g.forest.trees
      → IsKept (record g { forest = forest })
  kept_with_forest forest limit front =
      let more : length g.forest.trees ≤ length forest.trees = omega (arith, length-take (length g.forest.trees) forest.trees, ap length front) in
      record {
        one_name = kept.one_name;
        one_subject = kept.one_subject;
        one_tree = kept.one_tree;
        refs_stand = kept.refs_stand;
        trees_stand = All-weaker (λ tree. tree < length g.forest.trees) (λ tree. tree < length forest.trees) (λ tree h. omega arith) g.trees.items
            kept.trees_stand;
        has_empty = omega (arith, more, kept.has_empty);
        empty = sym (get_or-take (length g.forest.trees) forest.trees 0 [] kept.has_empty) ∙ ap (λ (l : List Files). get_or l 0 []) front ∙ kept.empty;
        within = kept.within;
        entries = limit ∙ kept.entries;
        commits = kept.commits;
      }

  -- the files that edits begin with
  begun_files : (place : Option ℕ) → IfSome place (λ p. p < length g.graph)
      → files_at g.forest.trees (begun_with g.trees.items place) ≡ files_from (history_of g) place
  begun_files None there = kept.empty
  begun_files (Some place) there = sym (get_or-map (files_at g.forest.trees) g.trees.items place 0 [] (rw kept.one_tree there))

  -- trees that join the pool leave the files of the commits as they were
  same_files : (more : List Files) → take (length g.forest.trees) more ≡ g.forest.trees → (numbers : List ℕ)
      → All (λ tree. tree < length g.forest.trees) numbers → map (files_at more) numbers ≡ map (files_at g.forest.trees) numbers
  same_files more front [] stand = refl
  same_files more front (number ∷ numbers) stand =
      ap₂ ◌∷◌
      (sym (get_or-take (length g.forest.trees) more number [] (All-head (λ tree. tree < length g.forest.trees) number numbers stand)) ∙ ap
      (λ (l : List Files). get_or l number []) front)
      (same_files more front numbers (All-tail (λ tree. tree < length g.forest.trees) number numbers stand))

  module _ (place : Option ℕ) (there : IfSome place (λ p. p < length g.graph)) (tree : ℕ) (begun : tree ≡ begun_with g.trees.items place) (edits : List Edit)
    where
      pub edited_alike : edited (files_at g.forest.trees tree) edits ≡ edited_files (history_of g) place edits
      edited_alike = ap (λ (files : Files). edited files edits) (ap (files_at g.forest.trees) begun ∙ begun_files place there)

      -- the history after an edit of files
      pub applied : (forest : Pool) → take (length g.forest.trees) forest.trees ≡ g.forest.trees
          → forest.trees ≡ with_directories g.forest.trees (edited (files_at g.forest.trees tree) edits)
          → history_of (record g { forest = forest }) ≡ with_edits (history_of g) place edits
      applied forest front joined =
          let same : map (files_at forest.trees) g.trees.items ≡ map (files_at g.forest.trees) g.trees.items = same_files forest.trees front g.trees.items
          kept.trees_stand in
          let pool : forest.trees ≡ with_directories g.forest.trees (edited_files (history_of g) place edits) = joined ∙ ap (with_directories g.forest.trees)
          edited_alike in
          cc

pub both_ok : {T E A B C : Type 0} (result : Result T E) → (A → B → C) → OnOk result A → OnOk result B → OnOk result C
both_ok (Ok x) make a b = make a b
both_ok (Err e) make a b = tt

pub either_way : {T E A B C : Type 0} (result : Result T E) → (A → C) → (B → C) → OnOk result A → OnErr result B → C
either_way (Ok x) make other a b = make a
either_way (Err e) make other a b = other b

-- what a mark stands for is there
pub marks_with : (count : ℕ) (marks : List (ℕ × Marked)) → MarksStand count marks → (number : ℕ) (what : Marked) → StandsBelow count what
    → (more : List (ℕ × Marked)) → more ≡ with_value ◌==◌ number what marks → MarksStand count more
marks_with count marks stand number what there more is = subst (MarksStand count) (sym is)
    (with_value_stands (StandsBelow count) ◌==◌ number what there marks stand)

-- marks that stand still do where there are more commits
pub marks_longer : (few more : ℕ) (marks : List (ℕ × Marked)) → few ≤ more → MarksStand few marks → MarksStand more marks
marks_longer few more marks longer stand =
    All-weaker (λ (mark : ℕ × Marked). StandsBelow few mark.1) (λ (mark : ℕ × Marked). StandsBelow more mark.1) (λ mark. stands_longer mark.1) marks stand
  where
    stands_longer : (what : Marked) → StandsBelow few what → StandsBelow more what
    stands_longer (marked.Commit place) there = omega arith
    stands_longer (marked.Blob name) there = tt
    stands_longer marked.Tag there = tt
