use Rattle.std.proofs.Common.{ℕ, ◌<◌, List, length, All, subst, sym}
use Rattle.bf_forest.specs.Files.{is_same}
use Rattle.bf_import.proofs.Keeping.{without_value_stands, kept_with_refs}
use Rattle.bf_import.proofs.growth.Growth.remove_ref.Goals as goal

pub invariant_of-self : goal.invariant_of-self
invariant_of-self c =
    kept_with_refs c.self.inside c.self.invariant c.remove.new.self
    (subst (All (λ (ref : List ℕ × ℕ). ref.1 < length c.self.inside.graph)) (sym c.remove.ensures)
    (without_value_stands (λ place. place < length c.self.inside.graph) is_same c.args.name.now c.self.inside.refs c.self.invariant.refs_stand))
