use Rattle.std.proofs.Common.{◌≡◌, ◌≢◌, ◌↔◌, Bool, true, cond, List, [], Some, set, sym, ap, ◌∙◌, subst}
use Rattle.std.specs.List.{Contains}
use Rattle.bf_search.specs.declared.farm.Claim.{Claim}
use Rattle.bf_search.specs.declared.farm.Event.TheVariants.{Post as Posted}
use Rattle.bf_search.specs.Farm.{stands, without}
use Rattle.bf_search.specs.Run.{Open}
use Rattle.bf_core.specs.Consuming.{IsUnwanted}
use Rattle.bf_core.specs.Machine.{Machine, seen, run_of, IsStep, IsUnmoved}
use Rattle.bf_core.proofs.Joining.{iff_trans}
use Rattle.bf_core.proofs.Standing.{standing_place, claims_asked}
use Rattle.bf_core.proofs.Calls.{IsPut, puts, posts, claims_left, consumed_of, withdraws}
use Rattle.bf_core.proofs.machine.Core.put.Goals as goal

pub learn-requires-clause-within : goal.learn-requires-clause-within
learn-requires-clause-within c = (standing_place c.self.inside.table c.self.inside.claims.items c.args.worker c.args.place c.self.invariant.standing
    (subst (λ (m : Machine). stands m.claims c.args.worker c.args.place ≡ true) (sym c.self.view_is) c.requires)).0

pub learn-requires-clause-unknown : goal.learn-requires-clause-unknown
learn-requires-clause-unknown c = (standing_place c.self.inside.table c.self.inside.claims.items c.args.worker c.args.place c.self.invariant.standing
    (subst (λ (m : Machine). stands m.claims c.args.worker c.args.place ≡ true) (sym c.self.view_is) c.requires)).1

pub learn-requires-clause-claims : goal.learn-requires-clause-claims
learn-requires-clause-claims c =
    claims_asked (set c.self.inside.table c.args.place (Some c.args.outcome)) c.as_slice-2.result.now c.asked_of-asked.result.now c.args.asks
    (claims_left c.self.inside.table c.self.inside.claims.items c.as_slice-2.result.now c.args.worker c.args.place c.args.outcome
    c.self.invariant.standing
    (subst (λ (m : Machine). stands m.claims c.args.worker c.args.place ≡ true) (sym c.self.view_is) c.requires)
    (c.as_slice-2.ensures.value ∙ c.in_ok-others.ensures ∙ ap (λ (cs : List Claim). without cs c.args.worker) c.as_slice.ensures.value))
    c.asked_of-asked.ensures

-- ---- where the run has gone on

left_is : (c : goal.After-drop-self-inside) → c.in_ok-others.others.items ≡ without c.self.inside.claims.items c.args.worker
left_is c = c.in_ok-others.ensures ∙ ap (λ (cs : List Claim). without cs c.args.worker) c.as_slice.ensures.value

it : (c : goal.After-drop-self-inside) → IsPut c.self.inside.first.value c.self.inside.leg c.self.inside.table c.self.inside.claims.items c.self.inside.run
    c.args.place c.args.outcome c.learn.new.table c.in_ok-others.others.items c.learn.new.self
it c =
    let stood : stands c.self.inside.claims.items c.args.worker c.args.place ≡ true
    = subst (λ (m : Machine). stands m.claims c.args.worker c.args.place ≡ true) (sym c.self.view_is) c.requires in
    puts c.self.inside.first.value c.self.inside.leg c.self.inside.table c.self.inside.claims.items c.self.inside.run c.args.place c.args.outcome
    c.learn.new.table c.in_ok-others.others.items c.learn.new.self c.self.invariant
    (standing_place c.self.inside.table c.self.inside.claims.items c.args.worker c.args.place c.self.invariant.standing stood).1
    (claims_left c.self.inside.table c.self.inside.claims.items c.in_ok-others.others.items c.args.worker c.args.place c.args.outcome
    c.self.invariant.standing stood (left_is c))
    c.in_ok-workers.ensures.table c.in_ok-workers.ensures.run

pub invariant_of-self-2 : goal.invariant_of-self-2
invariant_of-self-2 c = (it c).core

pub returns-clause-event : goal.returns-clause-event
returns-clause-event c =
    subst (λ (m : Machine). IsStep m (Posted c.args.worker c.args.place c.args.outcome)
    (seen c.self.inside.first.value c.self.inside.leg c.learn.new.table c.in_ok-others.others.items c.learn.new.self)) c.self.view_is
    (posts c.self.inside.first.value c.self.inside.leg c.self.inside.table c.self.inside.claims.items c.self.inside.run c.args.worker c.args.place
    c.args.outcome c.learn.new.table c.in_ok-others.others.items c.learn.new.self
    (subst (λ (m : Machine). stands m.claims c.args.worker c.args.place ≡ true) (sym c.self.view_is) c.requires)
    c.in_ok-workers.ensures.table (left_is c) (it c))

pub returns-clause-consumed : goal.returns-clause-consumed
returns-clause-consumed c = consumed_of c.self.inside.first.value c.self.inside.leg c.learn.new.table c.in_ok-others.others.items c.learn.new.self (it c).core

pub returns-clause-beside : goal.returns-clause-beside
returns-clause-beside c =
    subst (λ (m : Machine). (run_of m).end ≢ Open c.args.place
    → IsUnmoved m (seen c.self.inside.first.value c.self.inside.leg c.learn.new.table c.in_ok-others.others.items c.learn.new.self)) c.self.view_is (it c).beside

pub returns-clause-withdrawn : goal.returns-clause-withdrawn
returns-clause-withdrawn c = λ asks v.
    iff_trans (subst (λ (cs : List Claim). Contains c.in_ok-workers.workers.items v ↔ IsUnwanted c.learn.new.self c.learn.new.table cs v)
    (c.asked_of-asked.ensures ∙ ap (λ (b : Bool). cond b c.as_slice-2.result.now []) asks ∙ c.as_slice-2.ensures.value)
    (c.in_ok-workers.ensures.unwanted v))
    (withdraws c.self.inside.first.value c.self.inside.leg c.learn.new.table c.in_ok-others.others.items c.learn.new.self v)
