use Rattle.std.proofs.Common.{◌==◌, length, drop, sym, ap, ◌∙◌, arith}
use Rattle.std.specs.List.{starts_with}
use Rattle.bf_names.proofs.Forming.{position_found, position_none}
use Rattle.bf_names.proofs.form.find.Goals as goal

pub returns-then-starts_with-clause-value : goal.returns-then-starts_with-clause-value
returns-then-starts_with-clause-value c =
    sym (position_found (λ at. starts_with ◌==◌ (drop at c.args.text.now) c.args.part.now) (length c.args.text.now) c.loop-at.at
    c.loop-at-test.true c.loop-at.invariant
    (ap (λ rest. starts_with ◌==◌ rest c.args.part.now) (sym c.rest_of.ensures) ∙ sym c.starts_with.ensures.value ∙ c.if-starts_with.true))

pub returns-clause-value : goal.returns-clause-value
returns-clause-value c =
    sym (position_none (λ at. starts_with ◌==◌ (drop at c.args.text.now) c.args.part.now) (length c.args.text.now) (λ k h.
    c.loop-at.invariant k (omega (arith, c.loop-at-test.false))))
