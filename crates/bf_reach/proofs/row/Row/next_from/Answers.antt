use Rattle.std.proofs.Common.{arith}
use Rattle.bf_reach.proofs.RowSteps.{Shows, shown_length, shown_result, none_past, place_after}
use Rattle.bf_reach.proofs.row.Row.next_from.Goals as goal

pub returns-then-p-self-clause-next : goal.returns-then-p-self-clause-next
returns-then-p-self-clause-next c =
    let shown : Shows c.self.inside.len c.self.inside.words.items c.args.self.now = record { holds = c.self.invariant; view = c.self.view_is } in
    shown_result c.self.inside.len c.self.inside.words.items c.args.self.now c.args.p c.as_slice.result.now c.next_bit.result shown c.as_slice.ensures.value
    c.next_bit.ensures

pub returns-else-p-self-clause-next : goal.returns-else-p-self-clause-next
returns-else-p-self-clause-next c =
    let shown : Shows c.self.inside.len c.self.inside.words.items c.args.self.now = record { holds = c.self.invariant; view = c.self.view_is } in
    none_past c.args.self.now c.args.p (omega (arith, shown_length _ _ _ shown))

pub returns-then-p-self-clause-can_go_on : goal.returns-then-p-self-clause-can_go_on
returns-then-p-self-clause-can_go_on c =
    let shown : Shows c.self.inside.len c.self.inside.words.items c.args.self.now = record { holds = c.self.invariant; view = c.self.view_is } in
    place_after c.args.self.now c.args.p c.next_bit.result (omega (arith, shown_length _ _ _ shown, c.self.invariant.short))
    (shown_result c.self.inside.len c.self.inside.words.items c.args.self.now c.args.p c.as_slice.result.now c.next_bit.result shown c.as_slice.ensures.value
    c.next_bit.ensures)
