use Rattle.std.proofs.Common.{◌≡◌, true, List, sym, ap, subst}
use Rattle.bf_search.specs.declared.farm.Claim.{Claim}
use Rattle.bf_search.specs.declared.farm.Event.TheVariants.{Give as Given}
use Rattle.bf_search.specs.Farm.{stands, without}
use Rattle.bf_core.specs.Machine.{Machine, seen, IsStep}
use Rattle.bf_core.proofs.Calls.{core_given, gives}
use Rattle.bf_core.proofs.machine.Core.give.Goals as goal

pub invariant_of-self : goal.invariant_of-self
invariant_of-self c = core_given c.self.inside.first.value c.self.inside.leg c.self.inside.table c.self.inside.claims.items c.end_claim.new.claims.items
    c.self.inside.run c.args.worker c.end_claim.ensures c.self.invariant

pub returns-clause-event : goal.returns-clause-event
returns-clause-event c =
    subst (λ (m : Machine). IsStep m (Given c.args.worker c.args.place)
    (seen c.self.inside.first.value c.self.inside.leg c.self.inside.table c.end_claim.new.claims.items c.self.inside.run)) c.self.view_is
    (gives (seen c.self.inside.first.value c.self.inside.leg c.self.inside.table c.self.inside.claims.items c.self.inside.run) c.end_claim.new.claims.items
    c.args.worker c.args.place
    (subst (λ (m : Machine). stands m.claims c.args.worker c.args.place ≡ true) (sym c.self.view_is) c.requires) c.end_claim.ensures)

pub returns-clause-rest : goal.returns-clause-rest
returns-clause-rest c =
    subst (λ (m : Machine). seen c.self.inside.first.value c.self.inside.leg c.self.inside.table c.end_claim.new.claims.items c.self.inside.run ≡ record m
    { claims = without m.claims c.args.worker }) c.self.view_is
    (ap (λ (cs : List Claim). seen c.self.inside.first.value c.self.inside.leg c.self.inside.table cs c.self.inside.run) c.end_claim.ensures)
