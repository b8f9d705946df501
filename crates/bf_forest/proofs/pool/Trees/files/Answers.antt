use Rattle.std.proofs.Common.{◌≡◌, ℕ, ◌+◌, ◌-◌, ◌<◌, List, [], ◌∷◌, ◌++◌, length, take, refl, sym, ap, ◌∙◌, subst, length-append, arith}
use Rattle.std.specs.List.{list_all}
use Rattle.std.proofs.lemmas.Bool.{and_parts, and_from}
use Rattle.std.proofs.lemmas.List.{nil_from_length, append-nil}
use Rattle.std.proofs.lemmas.List.Folds.{list_all-append}
use Rattle.bf_paths.specs.Components.{is_component}
use Rattle.bf_forest.specs.declared.entries.FileEntry.{FileEntry}
use Rattle.bf_forest.specs.declared.nodes.Entry.{Entry}
use Rattle.bf_forest.specs.declared.nodes.EntryKind.TheVariants.{File, Directory}
use Rattle.bf_forest.specs.Listing.{name_in}
use Rattle.bf_forest.specs.Nodes.{World, files_in, entry_at, stood, are_within}
use Rattle.bf_forest.specs.Trees.{files_at}
use Rattle.bf_forest.proofs.Leveled.{lefts, IsLevel, AreLevels, length_of, lengths_of, lengths_more, node_level, level_rest, levels_more, levels_less}
use Rattle.bf_forest.proofs.Leveled.{walked_file, walked_push, falls_push, falls_file, directory_earlier, is_left}
use Rattle.bf_forest.proofs.Stepping.{stepped}
use Rattle.bf_forest.proofs.Tabled.{levels_of, levels-push, length-levels}
use Rattle.bf_forest.proofs.pool.Trees.files.Goals as goal

pub loop-entry-init : goal.loop-entry-init
loop-entry-init c =
    let now = c.args.self.now in
    let table = now.table in
    let trees = now.trees in
    let names = c.new-names.result.items in
    let below = c.new-below.result.items in
    let rest = c.as_slice-rest.result.now in
    let P : List ℕ → Type 0 = λ v. IsLevel trees (stood table v) in
    let Q : List (List ℕ) → Type 0 = λ v. AreLevels trees (levels_of table v) in
    record {
      walked = ap (λ v. v ++ lefts trees (levels_of table below) names (stood table rest)) c.new-files.ensures.items
          ∙ ap (λ v. lefts trees (levels_of table v) names (stood table rest)) c.new-below.ensures.items ∙ ap (λ v. files_in trees (stood table v))
          c.as_slice-rest.ensures;
      level = subst P (sym c.as_slice-rest.ensures) (node_level trees (stood table c.args.numbers.now) c.requires.node);
      levels = subst Q (sym c.new-below.ensures.items) tt;
      names = ap (list_all is_component) c.new-names.ensures.items;
      depth = ap length c.new-below.ensures.items ∙ sym (ap length c.new-names.ensures.items);
      within = ap (are_within (length table)) c.as_slice-rest.ensures ∙ c.requires.within;
      all_within = ap (list_all (are_within (length table))) c.new-below.ensures.items;
    }

pub returns-in_default-pop : goal.returns-in_default-pop
returns-in_default-pop c =
    let now = c.args.self.now in
    let table = now.table in
    let trees = now.trees in
    let below = c.loop-entry.below.items in
    let names = c.loop-entry.names.items in
    let rest = c.loop-entry.rest.now in
    let files = c.loop-entry.files.items in
    let no_rest = nil_from_length rest c.in_default.ensures.cases in
    let no_level : below ≡ [] = nil_from_length below (sym c.loop-entry.below.ok.0 ∙ c.in_default-pop.ensures.cases.0) in
    sym (append-nil files)
    ∙ sym (ap (λ v. files ++ lefts trees (levels_of table v) names (stood table rest)) no_level ∙ ap (λ v. files ++ files_in trees (stood table v)) no_rest)
    ∙ c.loop-entry.invariant.walked

pub loop-entry-smaller-in_default : goal.loop-entry-smaller-in_default
loop-entry-smaller-in_default c =
    let now = c.args.self.now in
    let table = now.table in
    let trees = now.trees in
    let below = c.loop-entry.below.items in
    let names = c.loop-entry.names.items in
    let rest = c.loop-entry.rest.now in
    let level = c.in-Some-pop.level in
    let less = c.pop.new.self.items in
    let none = ap (λ v. length_of (files_in trees (stood table v))) (nil_from_length rest c.in_default.ensures.cases) in
    let list = ap (lengths_of trees) (ap (levels_of table) c.in-Some-pop.ensures.items ∙ levels-push table less level) ∙ lengths_more trees
    (levels_of table less) (stood table level) in
    let same = ap (λ v. length_of (files_in trees (stood table v))) c.numbers-rest.ensures in
    omega (arith, none, list, same)

pub loop-entry-preserved-in_default : goal.loop-entry-preserved-in_default
loop-entry-preserved-in_default c =
    let now = c.args.self.now in
    let table = now.table in
    let trees = now.trees in
    let below = c.loop-entry.below.items in
    let names = c.loop-entry.names.items in
    let rest = c.loop-entry.rest.now in
    let less = c.pop.new.self.items in
    let fewer = c.pop-in_default.new.self.items in
    let level = c.in-Some-pop.level in
    let files = c.loop-entry.files.items in
    let whole : levels_of table below ≡ levels_of table less ++ stood table level ∷ [] = ap (levels_of table) c.in-Some-pop.ensures.items ∙ levels-push table
    less level in
    let left = is_left trees (levels_of table below) (levels_of table less) names fewer (stood table level) whole
    (length-levels table below ∙ c.loop-entry.invariant.depth)
    (c.pop-in_default.ensures.rest ∙ ap (λ n. take (n - 1) names) c.loop-entry.names.ok.0) in
    let P : List (List Entry) → Type 0 = AreLevels trees in
    let levels = levels_less trees (levels_of table less) (stood table level) (subst P whole c.loop-entry.invariant.levels) in
    let Q : List ℕ → Type 0 = λ v. IsLevel trees (stood table v) in
    let all = and_parts (list_all (are_within (length table)) less) _ (sym (list_all-append (are_within (length table)) less (level ∷ []))
    ∙ ap (list_all (are_within (length table))) (sym c.in-Some-pop.ensures.items) ∙ c.loop-entry.invariant.all_within) in
    record {
      walked = ap (λ v. files ++ lefts trees (levels_of table less) fewer (stood table v)) c.numbers-rest.ensures ∙ ap (λ v. files ++ v) (sym left.0)
          ∙ ap (λ v. files ++ lefts trees (levels_of table below) names (stood table v)) (sym (nil_from_length rest c.in_default.ensures.cases)) ∙
          c.loop-entry.invariant.walked;
      level = subst Q (sym c.numbers-rest.ensures) levels.1;
      levels = levels.0;
      names = left.1 c.loop-entry.invariant.names;
      depth = sym (length-levels table less) ∙ left.2;
      within = ap (are_within (length table)) c.numbers-rest.ensures ∙ (and_parts (are_within (length table) level) _ all.1).0;
      all_within = all.0;
    }

pub key-requires : goal.key-requires
key-requires c =
    let now = c.args.self.now in
    let table = now.table in
    let trees = now.trees in
    let rest = c.loop-entry.rest.now in
    let same : c.self.inside.table ≡ table = ap (λ (w : World). w.table) c.self.view_is in
    let number = c.in-Some.entry.now in
    let others = c.in-Some.others.now in
    let entry = entry_at table number in
    let step = stepped trees table rest others number c.in-Some.ensures.cases.0 c.loop-entry.invariant.level c.loop-entry.invariant.within in
    let P : List Entry → Type 0 = λ v. number < length v in
    subst P (sym same) step.here

pub kind-requires : goal.kind-requires
kind-requires c =
    let now = c.args.self.now in
    let table = now.table in
    let trees = now.trees in
    let rest = c.loop-entry.rest.now in
    let same : c.self.inside.table ≡ table = ap (λ (w : World). w.table) c.self.view_is in
    let number = c.in-Some.entry.now in
    let others = c.in-Some.others.now in
    let entry = entry_at table number in
    let step = stepped trees table rest others number c.in-Some.ensures.cases.0 c.loop-entry.invariant.level c.loop-entry.invariant.within in
    let P : List Entry → Type 0 = λ v. number < length v in
    subst P (sym same) step.here

pub add_file-requires-clause-name : goal.add_file-requires-clause-name
add_file-requires-clause-name c =
    let now = c.args.self.now in
    let table = now.table in
    let trees = now.trees in
    let rest = c.loop-entry.rest.now in
    let same : c.self.inside.table ≡ table = ap (λ (w : World). w.table) c.self.view_is in
    let number = c.in-Some.entry.now in
    let others = c.in-Some.others.now in
    let entry = entry_at table number in
    let step = stepped trees table rest others number c.in-Some.ensures.cases.0 c.loop-entry.invariant.level c.loop-entry.invariant.within in
    let named : c.name_in-name.result.now ≡ name_in entry.key = c.name_in-name.ensures ∙ ap name_in c.key.ensures ∙ ap
    (λ (v : List Entry). name_in (entry_at v number).key) same in
    ap is_component named ∙ step.component

pub loop-entry-smaller-in_ok-add_file-in-File : goal.loop-entry-smaller-in_ok-add_file-in-File
loop-entry-smaller-in_ok-add_file-in-File c =
    let now = c.args.self.now in
    let table = now.table in
    let trees = now.trees in
    let rest = c.loop-entry.rest.now in
    let same : c.self.inside.table ≡ table = ap (λ (w : World). w.table) c.self.view_is in
    let number = c.in-Some.entry.now in
    let others = c.in-Some.others.now in
    let entry = entry_at table number in
    let step = stepped trees table rest others number c.in-Some.ensures.cases.0 c.loop-entry.invariant.level c.loop-entry.invariant.within in
    let is : entry.kind ≡ File c.in-File.mode c.in-File.oid = ap (λ (v : List Entry). (entry_at v number).kind) (sym same) ∙ sym c.kind.ensures ∙
    c.in-File.is in
    let falls = falls_file trees (stood table rest) (stood table others) entry c.in-File.mode c.in-File.oid step.first is in
    omega (arith, falls)

pub loop-entry-preserved-in_ok-add_file-in-File : goal.loop-entry-preserved-in_ok-add_file-in-File
loop-entry-preserved-in_ok-add_file-in-File c =
    let now = c.args.self.now in
    let table = now.table in
    let trees = now.trees in
    let below = c.loop-entry.below.items in
    let names = c.loop-entry.names.items in
    let rest = c.loop-entry.rest.now in
    let same : c.self.inside.table ≡ table = ap (λ (w : World). w.table) c.self.view_is in
    let number = c.in-Some.entry.now in
    let others = c.in-Some.others.now in
    let entry = entry_at table number in
    let name = c.name_in-name.result.now in
    let step = stepped trees table rest others number c.in-Some.ensures.cases.0 c.loop-entry.invariant.level c.loop-entry.invariant.within in
    let named : name ≡ name_in entry.key = c.name_in-name.ensures ∙ ap name_in c.key.ensures ∙ ap (λ (v : List Entry). name_in (entry_at v number).key) same in
    let files = c.loop-entry.files.items in
    let is : entry.kind ≡ File c.in-File.mode c.in-File.oid = ap (λ (v : List Entry). (entry_at v number).kind) (sym same) ∙ sym c.kind.ensures ∙
    c.in-File.is in
    let file : List (List ℕ) → List FileEntry = λ v. files ++ record { path = v ++ name ∷ []; mode = c.in-File.mode; oid = c.in-File.oid } ∷ [] in
    record {
      walked = walked_file trees (levels_of table below) names (stood table rest) (stood table others) entry c.in-File.mode c.in-File.oid name files
          c.add_file.new.files.items
          (files_in trees (stood table c.args.numbers.now)) step.first is named (length-levels table below ∙ c.loop-entry.invariant.depth)
          (c.in_ok-add_file-in-File.ensures ∙ ap file c.as_slice.ensures.value) c.loop-entry.invariant.walked;
      level = level_rest trees entry (stood table others) step.level;
      levels = c.loop-entry.invariant.levels;
      names = c.loop-entry.invariant.names;
      depth = c.loop-entry.invariant.depth;
      within = step.within;
      all_within = c.loop-entry.invariant.all_within;
    }

pub node-requires : goal.node-requires
node-requires c =
    let now = c.args.self.now in
    let table = now.table in
    let trees = now.trees in
    let rest = c.loop-entry.rest.now in
    let same : c.self.inside.table ≡ table = ap (λ (w : World). w.table) c.self.view_is in
    let number = c.in-Some.entry.now in
    let others = c.in-Some.others.now in
    let entry = entry_at table number in
    let step = stepped trees table rest others number c.in-Some.ensures.cases.0 c.loop-entry.invariant.level c.loop-entry.invariant.within in
    let is : entry.kind ≡ Directory c.in-Directory.number = ap (λ (v : List Entry). (entry_at v number).kind) (sym same) ∙ sym c.kind.ensures ∙
    c.in-Directory.is in
    directory_earlier (length trees) entry c.in-Directory.number step.good is

pub loop-entry-smaller : goal.loop-entry-smaller
loop-entry-smaller c =
    let now = c.args.self.now in
    let table = now.table in
    let trees = now.trees in
    let below = c.loop-entry.below.items in
    let rest = c.loop-entry.rest.now in
    let same : c.self.inside.table ≡ table = ap (λ (w : World). w.table) c.self.view_is in
    let number = c.in-Some.entry.now in
    let others = c.in-Some.others.now in
    let entry = entry_at table number in
    let step = stepped trees table rest others number c.in-Some.ensures.cases.0 c.loop-entry.invariant.level c.loop-entry.invariant.within in
    let inner = c.as_slice-rest-in-Directory.result.now in
    let is : entry.kind ≡ Directory c.in-Directory.number = ap (λ (v : List Entry). (entry_at v number).kind) (sym same) ∙ sym c.kind.ensures ∙
    c.in-Directory.is in
    let files : files_in trees (stood table inner) ≡ files_at trees c.in-Directory.number =
    ap (λ v. files_in trees (stood table v)) c.as_slice-rest-in-Directory.ensures ∙ c.node.ensures.files in
    let deep : c.push-in-Directory.new.self.items ≡ below ++ others ∷ [] = c.in_ok-push-in-Directory-2.ensures.items ∙ ap (λ v. below ++ v ∷ [])
    c.new.ensures in
    let deeper : levels_of table c.push-in-Directory.new.self.items ≡ levels_of table below ++ stood table others ∷ [] = ap (levels_of table) deep ∙ levels-push
    table below others in
    let falls = falls_push trees (stood table rest) (stood table others) (stood table inner) entry c.in-Directory.number step.first is
    c.loop-entry.invariant.level files in
    let list = ap (lengths_of trees) deeper ∙ lengths_more trees (levels_of table below) (stood table others) in
    omega (arith, falls, list)

pub loop-entry-preserved : goal.loop-entry-preserved
loop-entry-preserved c =
    let now = c.args.self.now in
    let table = now.table in
    let trees = now.trees in
    let below = c.loop-entry.below.items in
    let names = c.loop-entry.names.items in
    let rest = c.loop-entry.rest.now in
    let same : c.self.inside.table ≡ table = ap (λ (w : World). w.table) c.self.view_is in
    let number = c.in-Some.entry.now in
    let others = c.in-Some.others.now in
    let entry = entry_at table number in
    let name = c.name_in-name.result.now in
    let step = stepped trees table rest others number c.in-Some.ensures.cases.0 c.loop-entry.invariant.level c.loop-entry.invariant.within in
    let named : name ≡ name_in entry.key = c.name_in-name.ensures ∙ ap name_in c.key.ensures ∙ ap (λ (v : List Entry). name_in (entry_at v number).key) same in
    let inner = c.as_slice-rest-in-Directory.result.now in
    let is : entry.kind ≡ Directory c.in-Directory.number = ap (λ (v : List Entry). (entry_at v number).kind) (sym same) ∙ sym c.kind.ensures ∙
    c.in-Directory.is in
    let files : files_in trees (stood table inner) ≡ files_at trees c.in-Directory.number =
    ap (λ v. files_in trees (stood table v)) c.as_slice-rest-in-Directory.ensures ∙ c.node.ensures.files in
    let deep : c.push-in-Directory.new.self.items ≡ below ++ others ∷ [] = c.in_ok-push-in-Directory-2.ensures.items ∙ ap (λ v. below ++ v ∷ [])
    c.new.ensures in
    let deeper : levels_of table c.push-in-Directory.new.self.items ≡ levels_of table below ++ stood table others ∷ [] = ap (levels_of table) deep ∙ levels-push
    table below others in
    let longer : c.push.new.self.items ≡ names ++ name ∷ [] = c.in_ok-push-in-Directory.ensures.items ∙ ap (λ v. names ++ v ∷ [])
    c.in_ok-from_slice-in-Directory.ensures in
    let R : List (List Entry) → Type 0 = AreLevels trees in
    let S : List ℕ → Type 0 = λ v. IsLevel trees (stood table v) in
    record {
      walked = ap (λ v. c.loop-entry.files.items ++ v)
          (walked_push trees (levels_of table below) (levels_of table c.push-in-Directory.new.self.items) names c.push.new.self.items (stood table rest)
          (stood table others) (stood table inner)
          entry c.in-Directory.number name step.first is named (length-levels table below ∙ c.loop-entry.invariant.depth) deeper longer files) ∙
          c.loop-entry.invariant.walked;
      level = subst S (sym c.as_slice-rest-in-Directory.ensures) (node_level trees (stood table c.node.result.now) c.node.ensures.node);
      levels = subst R (sym deeper) (levels_more trees (levels_of table below) (stood table others) c.loop-entry.invariant.levels
          (level_rest trees entry (stood table others) step.level));
      names = ap (list_all is_component) longer ∙ list_all-append is_component names (name ∷ [])
          ∙ and_from _ _ c.loop-entry.invariant.names (and_from _ _ (ap is_component named ∙ step.component) refl);
      depth = ap length deep ∙ length-append below (others ∷ []) ∙ ap (λ n. n + 1) c.loop-entry.invariant.depth
          ∙ sym (ap length longer ∙ length-append names (name ∷ []));
      within = ap (are_within (length table)) c.as_slice-rest-in-Directory.ensures ∙ c.node.ensures.within;
      all_within = ap (list_all (are_within (length table))) deep ∙ list_all-append (are_within (length table)) below (others ∷ [])
          ∙ and_from _ _ c.loop-entry.invariant.all_within (and_from _ _ step.within refl);
    }
