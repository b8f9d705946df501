use Rattle.std.proofs.Common.{◌≡◌, ◌==◌, length, subst, sym}
use Rattle.bf_history.specs.Named.{with_value}
use Rattle.bf_import.specs.Growing.{Importing, MarksStand, StandsBelow}
use Rattle.bf_import.proofs.Keeping.{either_way, marks_with}
use Rattle.bf_import.proofs.importer.Importer.set_mark.Goals as goal

pub invariant_of-self : goal.invariant_of-self
invariant_of-self c =
    let count = length c.self.inside.growth.history.parents in
    let there = subst (λ (i : Importing). StandsBelow (length i.loading.history.parents) c.args.what) (sym c.self.view_is) c.requires in
    either_way c.set.result
    (λ (set : c.set.new.self ≡ with_value ◌==◌ c.in-Some.number c.args.what c.self.inside.marks).
    marks_with count c.self.inside.marks c.self.invariant c.in-Some.number c.args.what there c.set.new.self set)
    (λ (same : c.set.new.self ≡ c.self.inside.marks). subst (MarksStand count) (sym same) c.self.invariant)
    c.set.ensures.ok c.set.ensures.err
