use Rattle.std.proofs.Common.{◌≡◌, ℕ, ◌<◌, List, length, All, subst, sym}
use Rattle.bf_forest.specs.Files.{is_same}
use Rattle.bf_history.specs.Named.{with_value}
use Rattle.bf_import.specs.Growing.{Growing}
use Rattle.bf_import.proofs.Keeping.{with_value_stands, kept_with_refs, either_way}
use Rattle.bf_import.proofs.growth.Growth.set_ref.Goals as goal

pub invariant_of-self : goal.invariant_of-self
invariant_of-self c =
    let refs = c.self.inside.refs in
    let stand : List (List ℕ × ℕ) → Type 0 = All (λ (ref : List ℕ × ℕ). ref.1 < length c.self.inside.graph) in
    let there = subst (λ (g : Growing). c.args.place < length g.history.parents) (sym c.self.view_is) c.requires in
    kept_with_refs c.self.inside c.self.invariant c.set.new.self
    (either_way c.set.result
    (λ (set : c.set.new.self ≡ with_value is_same c.args.name c.args.place refs). subst stand (sym set) (with_value_stands (λ place. place < length
    c.self.inside.graph) is_same c.args.name c.args.place there refs c.self.invariant.refs_stand))
    (λ (same : c.set.new.self ≡ refs). subst stand (sym same) c.self.invariant.refs_stand)
    c.set.ensures.ok c.set.ensures.err)
