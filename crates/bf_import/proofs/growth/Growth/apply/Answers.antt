use Rattle.std.proofs.Common.{◌≡◌, ℕ, ◌<◌, ◌≤◌, List, length, take, IfSome, OnOk, subst, sym, ap, ◌∙◌}
use Rattle.std.proofs.lemmas.Result.{on_ok_weaker}
use Rattle.bf_forest.specs.Files.{Files, edited}
use Rattle.bf_forest.specs.Trees.{Pool, files_at, with_directories, entries_of}
use Rattle.bf_import.specs.Growing.{Growing, begun_with, edited_files, with_edits}
use Rattle.bf_import.specs.Kept.{IsKept, history_of}
use Rattle.bf_import.proofs.Keeping.{applied, edited_alike, both_ok, either_way, kept_with_forest}
use Rattle.bf_import.proofs.growth.Growth.apply.Goals as goal

pub invariant_of-self : goal.invariant_of-self
invariant_of-self c =
    let directories = c.self.inside.forest.trees in
    let meant : Pool =
    record c.self.inside.forest { trees = with_directories directories (edited (files_at directories c.tree_at-tree.result) c.args.edits.now) } in
    either_way c.apply.result
    (λ (joined : (c.apply.new.self.limit ≡ c.self.inside.forest.limit) × (take (length directories) c.apply.new.self.trees ≡ directories)).
    kept_with_forest c.self.inside c.self.invariant c.apply.new.self joined.0 joined.1)
    (λ (same : c.apply.new.self ≡ c.self.inside.forest). subst (λ (forest : Pool). IsKept (record c.self.inside { forest = forest })) (sym same)
    c.self.invariant)
    (both_ok c.apply.result
    (λ (pool : c.apply.new.self ≡ meant) (kept : take (length directories) c.apply.new.self.trees ≡ directories).
    (ap (λ (p : Pool). p.limit) pool, kept)) c.apply.ensures.pool c.apply.ensures.kept)
    c.apply.ensures.err

pub returns-clause-pool : goal.returns-clause-pool
returns-clause-pool c =
    let trees = c.self.inside.trees.items in
    let directories = c.self.inside.forest.trees in
    let begun : c.tree_at-tree.result ≡ begun_with trees c.args.place = c.tree_at-tree.ensures ∙ ap (λ (t : List ℕ). begun_with t c.args.place)
    c.as_slice.ensures.value in
    let meant : Pool =
    record c.self.inside.forest { trees = with_directories directories (edited (files_at directories c.tree_at-tree.result) c.args.edits.now) } in
    let there = subst (λ (g : Growing). IfSome c.args.place (λ place. place < length g.history.parents)) (sym c.self.view_is) c.requires in
    subst (λ (g : Growing). OnOk c.apply.result (history_of (record c.self.inside { forest = c.apply.new.self }) ≡ with_edits g.history c.args.place
    c.args.edits.now)) c.self.view_is
    (both_ok c.apply.result
    (λ (pool : c.apply.new.self ≡ meant) (kept : take (length directories) c.apply.new.self.trees ≡ directories).
    applied c.self.inside c.self.invariant c.args.place there c.tree_at-tree.result begun c.args.edits.now c.apply.new.self kept
    (ap (λ (p : Pool). p.trees) pool))
    c.apply.ensures.pool c.apply.ensures.kept)

pub returns-clause-within : goal.returns-clause-within
returns-clause-within c =
    on_ok_weaker c.apply.result
    (λ (few : entries_of c.apply.new.self.trees ≤ c.self.inside.forest.limit). subst (λ (g : Growing). entries_of c.apply.new.self.trees ≤ g.limits.entries)
    c.self.view_is
    (subst (λ (most : ℕ). entries_of c.apply.new.self.trees ≤ most) c.self.invariant.entries few))
    c.apply.ensures.within

pub returns-clause-too_many : goal.returns-clause-too_many
returns-clause-too_many c =
    let trees = c.self.inside.trees.items in
    let directories = c.self.inside.forest.trees in
    let begun : c.tree_at-tree.result ≡ begun_with trees c.args.place = c.tree_at-tree.ensures ∙ ap (λ (t : List ℕ). begun_with t c.args.place)
    c.as_slice.ensures.value in
    let there = subst (λ (g : Growing). IfSome c.args.place (λ place. place < length g.history.parents)) (sym c.self.view_is) c.requires in
    let alike = edited_alike c.self.inside c.self.invariant c.args.place there c.tree_at-tree.result begun c.args.edits.now in
    λ h.
    subst (λ (g : Growing). g.limits.entries < entries_of (with_edits g.history c.args.place c.args.edits.now).directories) c.self.view_is
    (subst (λ (most : ℕ). most < entries_of (with_directories directories (edited_files (history_of c.self.inside) c.args.place c.args.edits.now)))
    c.self.invariant.entries
    (subst (λ (files : Files). c.self.inside.forest.limit < entries_of (with_directories directories files)) alike (c.apply.ensures.too_many h)))
