use Rattle.std.proofs.Common.{[], length, ◌∙◌, ap, arith}
use Rattle.bf_names.proofs.Found.{ends_of, seen_between, seen_nowhere}
use Rattle.bf_names.proofs.order.NameOrder.begun_with.Goals as goal

pub overflow_cast-result : goal.overflow_cast-result
overflow_cast-result c = omega (arith, c.count_up_to-end.ensures.within, ap length c.as_slice-names.ensures.value, c.self.invariant)

pub returns-then-first-end : goal.returns-then-first-end
returns-then-first-end c = λ names is.
    let all = c.as_slice-names.ensures.value ∙ c.self.view_is in
    rw all
    (seen_between c.args.digits.now c.args.self.now c.count_before-first.result c.count_up_to-end.result (record { digits = []; place = 0 }) names
    (ends_of (c.as_slice-digits.ensures.value ∙ c.in_ok-text.ensures) all all is.ascend c.count_before-first.ensures.within c.count_before-first.ensures.count c.count_up_to-end.ensures.within
    c.count_up_to-end.ensures.count)
    c.if-first-end.true is)

pub returns : goal.returns
returns c = λ names is.
    let all = c.as_slice-names.ensures.value ∙ c.self.view_is in
    seen_nowhere c.args.digits.now c.args.self.now c.count_before-first.result c.count_up_to-end.result names
    (ends_of (c.as_slice-digits.ensures.value ∙ c.in_ok-text.ensures) all all is.ascend c.count_before-first.ensures.within c.count_before-first.ensures.count c.count_up_to-end.ensures.within
    c.count_up_to-end.ensures.count)
    c.if-first-end.false is
