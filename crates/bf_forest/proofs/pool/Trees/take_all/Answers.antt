use Rattle.std.proofs.Common.{◌≡◌, ◌++◌, [], sym, ap, ◌∙◌, subst}
use Rattle.std.proofs.lemmas.List.{append-nil}
use Rattle.bf_forest.specs.Nodes.{World, nodes_of, stood}
use Rattle.bf_forest.specs.Opened.{IsSettling}
use Rattle.bf_forest.specs.Overlays.{overlaid}
use Rattle.bf_forest.specs.Rests.{slots_in}
use Rattle.bf_forest.specs.Slots.{slots_of}
use Rattle.bf_forest.proofs.Pooled.{closed_in}
use Rattle.bf_forest.proofs.Walking.{Slots, run_taken}
use Rattle.bf_forest.proofs.pool.Trees.take_all.Goals as goal

pub returns-clause-advanced : goal.returns-clause-advanced
returns-clause-advanced c =
    λ trees slots h.
    let now = c.args.self.now in
    let top = c.args.top.now in
    let new = c.append.new.self in
    let base = top.rest.base in
    let changes = top.rest.changes.entries in
    let nodes = nodes_of c.self.inside.table c.self.inside.nodes.items in
    let closed = closed_in nodes now.trees c.self.invariant.2 (ap (λ (w : World). w.trees) c.self.view_is) in
    let old = slots_of (stood now.table base) in
    let whole : slots_in now.table top.rest ≡ old ++ [] = ap (overlaid old) c.requires.none ∙ sym (append-nil old) in
    let taken = run_taken now top.numbers new base (slots_in now.table top.rest) [] closed c.requires.frame.1 c.requires.frame.0
    (c.in_ok-append.ensures ∙ ap (λ v. top.numbers ++ v) c.as_slice.ensures) whole in
    let spent : overlaid (slots_of (stood now.table c.pass_all.new.self)) changes ≡ [] =
    ap (λ v. overlaid (slots_of (stood now.table v)) changes) c.pass_all.ensures ∙ ap (overlaid []) c.requires.none in
    let P : Slots → Type 0 = λ v. IsSettling trees slots now.trees (stood now.table new) v in
    subst P (sym spent) (taken.1 trees slots h)
