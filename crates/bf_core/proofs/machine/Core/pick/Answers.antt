use Rattle.std.proofs.Common.{◌≡◌, false, List, sym, ap, ◌∙◌, subst}
use Rattle.bf_search.specs.Farm.{has_claim}
use Rattle.bf_search.specs.declared.farm.Claim.{Claim}
use Rattle.bf_core.specs.Consuming.{best_at}
use Rattle.bf_core.specs.Machine.{Machine}
use Rattle.bf_core.proofs.Calls.{core_picked}
use Rattle.bf_core.proofs.machine.Core.pick.Goals as goal

pub invariant_of-self-in-Some : goal.invariant_of-self-in-Some
invariant_of-self-in-Some c =
    core_picked c.self.inside.first.value c.self.inside.leg c.self.inside.table c.self.inside.claims.items c.push.new.self.items c.self.inside.run c.best.new.self
    c.args.worker c.in-Some.place
    (subst (λ (m : Machine). has_claim m.claims c.args.worker ≡ false) (sym c.self.view_is) c.requires) c.self.invariant c.in_ok-best.ensures.same
    (ap (λ (cs : List Claim). best_at c.self.inside.run.ending c.self.inside.run.tree c.self.inside.table cs) (sym c.as_slice.ensures.value) ∙ sym
    c.in_ok-best.ensures.best ∙ c.in-Some.is)
    c.in_ok-push-in-Some.ensures.items
