use Rattle.std.proofs.Common.{◌≡◌, ◌↔◌, ◌<◌, Bool, false, is_some, length, arith, sym, ap, ◌∙◌, subst}
use Rattle.std.specs.Prelude.{IsTrue}
use Rattle.std.proofs.lemmas.Bool.{both_ways}
use Rattle.bf_search.specs.Outcomes.{outcomes_of_table}
use Rattle.bf_core.specs.Consuming.{Asks}
use Rattle.bf_core.specs.Machine.{Machine, WantsOutcome}
use Rattle.bf_core.proofs.Joining.{if_ok_map, iff_trans, none_of}
use Rattle.bf_core.proofs.Calls.{wants_asks, wants_within}
use Rattle.bf_core.proofs.machine.Core.wants.Goals as goal
use Rattle.bf_core.proofs.machine.Core.wants.Goals.{then-place-len-via-then-place-len, then-place-len-via-else-place-len+then-has_outcome}

pub returns-then-place-len-clause-wanted : goal.returns-then-place-len-clause-wanted
returns-then-place-len-clause-wanted c = (
  λ t. cc t,
  λ wants.
      let within : c.args.place < length c.self.inside.table
      = wants_within c.self.inside.first.value c.self.inside.leg c.self.inside.table c.self.inside.claims.items c.self.inside.run c.args.place
      c.self.invariant (subst (λ (m : Machine). WantsOutcome m c.args.place) (sym c.self.view_is) wants) in
      elim c.then-place-len.branch [
        | then-place-len-via-then-place-len w ↦ absurd (omega (arith, within, c.len.ensures, w.if-place-len.true))
        | then-place-len-via-else-place-len+then-has_outcome w ↦ absurd (both_ways (is_some (outcomes_of_table c.args.self.now.table c.args.place))
            (ap is_some wants.unknown) (sym w.has_outcome.ensures ∙ w.if-has_outcome.true))
      ],
)

pub returns-clause-wanted : goal.returns-clause-wanted
returns-clause-wanted c =
    if_ok_map {P = λ (asks : Bool). IsTrue asks ↔ Asks c.self.inside.run c.self.inside.table c.args.place}
    c.asks.result
    (λ asks h. subst (λ (m : Machine). IsTrue asks ↔ WantsOutcome m c.args.place) c.self.view_is
    (iff_trans h
    (wants_asks c.self.inside.first.value c.self.inside.leg c.self.inside.table c.self.inside.claims.items c.self.inside.run c.args.place
    (none_of (outcomes_of_table c.self.inside.table c.args.place)
    (subst (λ (m : Machine). is_some (outcomes_of_table m.table c.args.place) ≡ false) (sym c.self.view_is)
    (sym c.has_outcome.ensures ∙ c.if-has_outcome.false))))))
    c.asks.ensures.asks
