use Rattle.std.proofs.Common.{◌≡◌, ◌↔◌, true, Some, None, ap, ◌∙◌, subst}
use Rattle.bf_search.specs.declared.farm.Ending.TheVariants as endings
use Rattle.bf_state.specs.Runs.{is_open}
use Rattle.bf_core.specs.Machine.{Machine, seen, run_of, IsLegOver}
use Rattle.bf_core.proofs.Calls.{consumed_of, waits, leg_over}
use Rattle.bf_core.proofs.machine.Core.ending.Goals as goal

pub returns-clause-ending : goal.returns-clause-ending
returns-clause-ending c = c.as_ref.ensures.value ∙ ap (λ (m : Machine). m.ending) c.self.view_is

pub returns-clause-none : goal.returns-clause-none
returns-clause-none c =
    subst (λ (m : Machine). (m.ending ≡ None) ↔ (is_open (run_of m).end ≡ true)) c.self.view_is
    (waits (seen c.self.inside.first.value c.self.inside.leg c.self.inside.table c.self.inside.claims.items c.self.inside.run)
    (consumed_of c.self.inside.first.value c.self.inside.leg c.self.inside.table c.self.inside.claims.items c.self.inside.run c.self.invariant))

pub returns-clause-leg : goal.returns-clause-leg
returns-clause-leg c =
    subst (λ (m : Machine). (m.ending ≡ Some endings.Leg) ↔ IsLegOver m) c.self.view_is
    (leg_over c.self.inside.first.value c.self.inside.leg c.self.inside.table c.self.inside.claims.items c.self.inside.run c.self.invariant)
