-- How a commit stands in a history: its name, its place, and the limits.
use Rattle.std.proofs.Common.{◌≡◌, ℕ, ◌<◌, ◌≤◌, nat_lt, Bool, true, false, List, length, Option, Some, None, unwrap_or, if◌then◌else◌}
use Rattle.std.proofs.Common.{Result, Ok, Err, refl, sym, ◌∙◌, ap, subst}
use Rattle.std.proofs.lemmas.Bool.{lt-ltb, le-ltb}
use Rattle.bf_grammar.specs.declared.command.Header.{Header}
use Rattle.bf_grammar.specs.declared.fault.Limit.TheVariants.{Entries}
use Rattle.bf_grammar.specs.declared.fault.Limits.{Limits}
use Rattle.bf_oid.specs.declared.object.Oid.{Oid}
use Rattle.bf_forest.specs.declared.trees.ForestFault.{ForestFault}
use Rattle.bf_forest.specs.declared.trees.ForestFault.TheVariants as faults
use Rattle.bf_forest.specs.Files.{Files}
use Rattle.bf_forest.specs.Trees.{tree_name, with_directories, entries_of, files_at}
use Rattle.bf_history.specs.declared.fault.ImportFault.{ImportFault}
use Rattle.bf_history.specs.declared.fault.ImportFault.TheVariants.{TooLarge}
use Rattle.bf_commits.specs.Naming.{commit_name}
use Rattle.bf_history.specs.Bodies.{subject_of}
use Rattle.bf_history.specs.Imports.{Means}
use Rattle.bf_history.specs.Meanings.{History, Commit, commit_on, stood, with_commit, within_limits, place_named, place_of_commit}
use Rattle.bf_history.proofs.Meant.{means_alike}
use Rattle.bf_import.specs.Growing.{joined, refusal_of, with_named, with_trees_of, within_commits, within_entries}

ok_same : {X E : Type 0} (x y : X) → (let r : Result X E = Ok x in r) ≡ Ok y → x ≡ y
ok_same x y e = cc

-- ---- the pool of trees

pub pool_within : (most : ℕ) (meant history : History) → history ≡ meant → entries_of history.directories ≤ most → within_entries most meant ≡ Ok history
pool_within most meant history is few =
    let low : nat_lt most (entries_of meant.directories) ≡ false = le-ltb most (entries_of meant.directories)
    (subst (λ (h : History). entries_of h.directories ≤ most) is few) in
    rw low (ap (λ (h : History). Ok h) (sym is))

pub pool_refused : (view : ℕ → History) (most : ℕ) (meant : History) (fault : ForestFault) (result : Result ℕ ImportFault)
    → ((let r : Result ℕ ForestFault = Err fault in r) ≡ Err faults.TooMany → most < entries_of meant.directories) → result ≡ Err (refusal_of fault)
    → Means view result (within_entries most meant)
pool_refused view most meant faults.TooMany result many is =
    let high : nat_lt most (entries_of meant.directories) ≡ true = lt-ltb most (entries_of meant.directories) (many refl) in
    subst (λ (r : Result ℕ ImportFault). Means view r (within_entries most meant)) (sym is) (rw high refl)
pool_refused view most meant faults.NoMemory result many is =
    subst (λ (r : Result ℕ ImportFault). Means view r (within_entries most meant)) (sym is) tt

-- ---- the limits, one after the other

few_entries : (most : ℕ) (meant history : History) → within_entries most meant ≡ Ok history → nat_lt most (entries_of meant.directories) ≡ false
few_entries most meant history = go (nat_lt most (entries_of meant.directories))
  where
    go : (test : Bool) → (if test then Err (TooLarge Entries) else Ok meant) ≡ Ok history → test ≡ false
    go true is = absurd (cc)
    go false is = refl

few_alike : (most : ℕ) (meant history : History) → within_entries most meant ≡ Ok history → meant ≡ history
few_alike most meant history = go (nat_lt most (entries_of meant.directories))
  where
    go : (test : Bool) → (if test then Err (TooLarge Entries) else Ok meant) ≡ Ok history → meant ≡ history
    go true is = absurd (cc)
    go false is = ok_same {E = ImportFault} meant history is

-- within the limit on entries, that on commits is left
commits_left : (limits : Limits) (history : History) → nat_lt limits.entries (entries_of history.directories) ≡ false
    → within_limits limits history ≡ within_commits limits.commits history
unfolding within_limits
commits_left limits history few = rw few

entries_alike : (limits : Limits) (first second : History) → second.directories ≡ first.directories → (fault : ImportFault)
    → within_entries limits.entries first ≡ Err fault → within_limits limits second ≡ Err fault
unfolding within_limits
entries_alike limits first second same fault =
    subst (λ (directories : List Files). within_entries limits.entries first ≡ Err fault
    → (if nat_lt limits.entries (entries_of directories) then Err (TooLarge Entries) else within_commits limits.commits second) ≡ Err fault) (sym same)
    (go (nat_lt limits.entries (entries_of first.directories)))
  where
    go : (test : Bool) → (if test then Err (TooLarge Entries) else Ok first) ≡ Err fault
        → (if test then Err (TooLarge Entries) else within_commits limits.commits second) ≡ Err fault
    go true is = is
    go false is = absurd (cc)

-- ---- a commit

module _ (limits : Limits) (history : History) (parents : List ℕ) (files : Files) (header : Header) where
  stood_directories : (known : Option ℕ) (commit : Commit) (directories : List Files) → (stood history directories known commit).directories ≡ directories
  stood_directories None commit directories = refl
  stood_directories (Some place) commit directories = refl

  with_commit_directories : (with_commit history (commit_on history parents files header)).directories ≡ with_directories history.directories files
  unfolding with_commit commit_on
  with_commit_directories = stood_directories (place_named history.names (commit_on history parents files header).name) (commit_on history parents files header)
      (with_directories history.directories files)

  stood_over : (known : Option ℕ) (commit : Commit)
      → stood history (with_directories history.directories files) known commit
      ≡ stood (with_trees_of history files) (with_directories history.directories files) known commit
  stood_over None commit = refl
  stood_over (Some place) commit = refl

  -- the trees are too many
  pub trees_refused : {X Y : Type 0} (view : X → History) (other : Y → History) (fault : ImportFault)
      → Means view (Err fault) (within_entries limits.entries (with_trees_of history files))
      → Means other (Err fault) (joined limits history (commit_on history parents files header))
  trees_refused view other fault means =
      means_alike view other fault (within_entries limits.entries (with_trees_of history files))
      (joined limits history (commit_on history parents files header))
      (entries_alike limits (with_trees_of history files) (with_commit history (commit_on history parents files header)) with_commit_directories fault) means

  module _ (grown : History) (pool : within_entries limits.entries (with_trees_of history files) ≡ Ok grown) (number : ℕ)
      (shown : files_at grown.directories number ≡ files)
      (tree : Oid) (tree_is : tree.0 ≡ tree_name (files_at grown.directories number)) (names : List Oid) (names_are : names ≡ grown.names)
      (name : Oid) (name_is : name ≡ commit_name tree.0 parents names header) where
    grown_is : with_trees_of history files ≡ grown
    grown_is = few_alike limits.entries (with_trees_of history files) grown pool

    names_kept : names ≡ history.names
    names_kept = names_are ∙ ap (λ (h : History). h.names) (sym grown_is)

    named : name ≡ (commit_on history parents files header).name
    unfolding commit_on
    named =
        name_is
        ∙ ap (λ (t : List ℕ). commit_name t parents names header) (tree_is ∙ ap tree_name shown)
        ∙ ap (λ (n : List Oid). commit_name (tree_name files) parents n header) names_kept

    few_there : (h : History) → h.directories ≡ with_directories history.directories files → within_limits limits h ≡ within_commits limits.commits h
    few_there h same =
        commits_left limits h
        (ap (λ (directories : List Files). nat_lt limits.entries (entries_of directories)) same
        ∙ few_entries limits.entries (with_trees_of history files) grown pool)

    -- the commit stands as it does where its trees are there
    pub stands : within_commits limits.commits (with_named grown
        (record { parents = parents; files = files_at grown.directories number; subject = subject_of header.message; name = name }))
        ≡ joined limits history (commit_on history parents files header)
    unfolding with_commit commit_on
    stands =
        let commit = commit_on history parents files header in
        sym (few_there (with_commit history commit) with_commit_directories
        ∙ ap (within_commits limits.commits)
        (stood_over (place_named history.names commit.name) commit
        ∙ ap (λ (h : History). with_named h commit) grown_is
        ∙ ap (λ (n : Oid). with_named grown (record commit { name = n })) (sym named)
        ∙ ap (λ (f : Files). with_named grown (record { parents = parents; files = f; subject = subject_of header.message; name = name })) (sym shown)))

    pub stands_at : unwrap_or (place_named grown.names name) (length grown.names) ≡ place_of_commit history (commit_on history parents files header)
    unfolding place_of_commit
    stands_at =
        ap (λ (n : Oid). unwrap_or (place_named grown.names n) (length grown.names)) named
        ∙ ap (λ (h : History). place_of_commit h (commit_on history parents files header)) (sym grown_is)
