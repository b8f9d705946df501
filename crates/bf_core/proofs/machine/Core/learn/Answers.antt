use Rattle.std.proofs.Common.{◌≢◌, ◌↔◌, List, length, sym, subst}
use Rattle.std.specs.List.{Contains}
use Rattle.bf_search.specs.declared.farm.Claim.{Claim}
use Rattle.bf_search.specs.Outcomes.{outcomes_of_table}
use Rattle.bf_search.specs.Run.{Open}
use Rattle.bf_core.specs.Claims.{IsFree}
use Rattle.bf_core.specs.Consuming.{IsUnwanted}
use Rattle.bf_core.specs.Machine.{Machine, seen, run_of, IsLearnt, IsUnmoved}
use Rattle.bf_core.proofs.Joining.{iff_trans}
use Rattle.bf_core.proofs.Standing.{claims_beside}
use Rattle.bf_core.proofs.Calls.{IsPut, puts, learns, consumed_of, withdraws}
use Rattle.bf_core.proofs.machine.Core.learn.Goals as goal

free : (c : goal.In_ok-workers) → IsFree (length c.self.inside.table) (outcomes_of_table c.self.inside.table) c.self.inside.claims.items c.args.place
free c = subst (λ (m : Machine). IsFree (length m.table) (outcomes_of_table m.table) m.claims c.args.place) (sym c.self.view_is) c.requires

it : (c : goal.In_ok-workers) → IsPut c.self.inside.first.value c.self.inside.leg c.self.inside.table c.self.inside.claims.items c.self.inside.run
    c.args.place c.args.outcome c.learn.new.table c.self.inside.claims.items c.learn.new.self
it c =
    puts c.self.inside.first.value c.self.inside.leg c.self.inside.table c.self.inside.claims.items c.self.inside.run c.args.place c.args.outcome
    c.learn.new.table c.self.inside.claims.items c.learn.new.self c.self.invariant (free c).unknown
    (claims_beside c.self.inside.table c.self.inside.claims.items c.args.place c.args.outcome c.self.invariant.standing (free c).unclaimed)
    c.in_ok-workers.ensures.table c.in_ok-workers.ensures.run

pub invariant_of-self-2 : goal.invariant_of-self-2
invariant_of-self-2 c = (it c).core

pub returns-clause-learnt : goal.returns-clause-learnt
returns-clause-learnt c =
    subst (λ (m : Machine). IsLearnt m c.args.place c.args.outcome
    (seen c.self.inside.first.value c.self.inside.leg c.learn.new.table c.self.inside.claims.items c.learn.new.self)) c.self.view_is
    (learns c.self.inside.first.value c.self.inside.leg c.self.inside.table c.self.inside.claims.items c.self.inside.run c.args.place c.args.outcome
    c.learn.new.table c.learn.new.self c.in_ok-workers.ensures.table (it c))

pub returns-clause-consumed : goal.returns-clause-consumed
returns-clause-consumed c = consumed_of c.self.inside.first.value c.self.inside.leg c.learn.new.table c.self.inside.claims.items c.learn.new.self (it c).core

pub returns-clause-beside : goal.returns-clause-beside
returns-clause-beside c =
    subst (λ (m : Machine). (run_of m).end ≢ Open c.args.place
    → IsUnmoved m (seen c.self.inside.first.value c.self.inside.leg c.learn.new.table c.self.inside.claims.items c.learn.new.self)) c.self.view_is (it c).beside

pub returns-clause-withdrawn : goal.returns-clause-withdrawn
returns-clause-withdrawn c = λ v.
    iff_trans (subst (λ (cs : List Claim). Contains c.in_ok-workers.workers.items v ↔ IsUnwanted c.learn.new.self c.learn.new.table cs v)
    c.as_slice-claims.ensures.value (c.in_ok-workers.ensures.unwanted v))
    (withdraws c.self.inside.first.value c.self.inside.leg c.learn.new.table c.self.inside.claims.items c.learn.new.self v)
