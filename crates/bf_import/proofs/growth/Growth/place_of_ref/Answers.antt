use Rattle.std.proofs.Common.{ℕ, ◌<◌, length, Option, IfSome, subst, sym}
use Rattle.bf_forest.specs.Files.{is_same}
use Rattle.bf_import.specs.Growing.{Growing}
use Rattle.bf_import.proofs.Keeping.{value_stands}
use Rattle.bf_import.proofs.growth.Growth.place_of_ref.Goals as goal

pub returns-clause-within : goal.returns-clause-within
returns-clause-within c =
    let within = value_stands (λ place. place < length c.self.inside.graph) is_same c.args.name.now c.self.inside.refs c.self.invariant.refs_stand in
    subst (λ (g : Growing). IfSome c.get.result (λ place. place < length g.history.parents)) c.self.view_is
    (subst (λ (found : Option ℕ). IfSome found (λ place. place < length c.self.inside.graph)) (sym c.get.ensures) within)
