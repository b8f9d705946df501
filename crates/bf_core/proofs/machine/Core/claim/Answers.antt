use Rattle.std.proofs.Common.{◌≡◌, false, List, Some, None, sym, ap, ◌∙◌, subst, rules}
use Rattle.std.proofs.lemmas.Bool.{both_ways}
use Rattle.bf_search.specs.declared.farm.Claim.{Claim}
use Rattle.bf_search.specs.declared.farm.Event.TheVariants.{Claim as Claimed}
use Rattle.bf_search.specs.Farm.{has_claim, step}
use Rattle.bf_core.specs.Consuming.{best_at}
use Rattle.bf_core.specs.Machine.{Machine, setting_of, farm_of, MayClaim}
use Rattle.bf_core.proofs.Calls.{core_picked, hindered}
use Rattle.bf_core.proofs.machine.Core.claim.Goals as goal

pub returns-then-not-may_claim-clause-illegal : goal.returns-then-not-may_claim-clause-illegal
returns-then-not-may_claim-clause-illegal c = λ done.
    subst (λ (m : Machine). step (setting_of m) (farm_of m) (Claimed c.args.worker c.args.place) ≡ None) c.self.view_is
    (hindered c.self.inside.first.value c.self.inside.leg c.self.inside.table c.self.inside.claims.items c.self.inside.run c.args.worker c.args.place
    c.self.invariant
    (λ may. both_ways c.may_claim.result c.if-not-may_claim.true
    (c.may_claim.ensures.1 (subst (λ (m : Machine). MayClaim m c.args.worker c.args.place) c.self.view_is may))))

pub invariant_of-self-2 : goal.invariant_of-self-2
invariant_of-self-2 c =
    let best : c.in_ok-best.field-0 ≡ Some c.args.place = search rules in
    let may = c.may_claim.ensures.0 c.if-not-may_claim.false in
    core_picked c.self.inside.first.value c.self.inside.leg c.self.inside.table c.self.inside.claims.items c.push.new.self.items c.self.inside.run c.best.new.self
    c.args.worker c.args.place (subst (λ (m : Machine). has_claim m.claims c.args.worker ≡ false) (sym c.self.view_is) may.idle) c.self.invariant
    c.in_ok-best.ensures.same
    (ap (λ (cs : List Claim). best_at c.self.inside.run.ending c.self.inside.run.tree c.self.inside.table cs) (sym c.as_slice.ensures.value) ∙ sym
    c.in_ok-best.ensures.best ∙ best)
    c.in_ok-push.ensures.items
