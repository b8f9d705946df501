use Rattle.std.proofs.Common.{ℕ, List, Ok, sym, ap, ◌∙◌}
use Rattle.bf_stream.specs.Fronts.{told_passed}
use Rattle.bf_stream.specs.Steps.{PassesLine}
use Rattle.bf_stream.proofs.Chains.{handed_on}
use Rattle.bf_stream.proofs.Passing.{step_stopped, step_refused, step_passed, step_ends}
use Rattle.bf_stream.proofs.cursor.Cursor.pass_line.Goals as goal

pub returns-in_err-ahead-clause-step : goal.returns-in_err-ahead-clause-step
returns-in_err-ahead-clause-step g c =
    let left = g.S.Source.left c.find_front.new.self.source.now in
    handed_on (λ r. PassesLine c.args.empty_too g.S.Source.left c.args.self.now c.find_front.new.self r) _ _ c.from_residual.ensures.1
    (step_stopped c.args.empty_too c.args.self.now.limits _ c.find_front.new.self.window _ left _ _ c.in_err-ahead.ensures.front)

pub returns-in_err-tell_passed-clause-step : goal.returns-in_err-tell_passed-clause-step
returns-in_err-tell_passed-clause-step g c =
    let left = g.S.Source.left c.find_front.new.self.source.now in
    handed_on (λ r. PassesLine c.args.empty_too g.S.Source.left c.args.self.now c.find_front.new.self r) _ _ c.from_residual-in_err-tell_passed.ensures.1
    (step_refused c.args.empty_too c.args.self.now.limits _ c.find_front.new.self.window _ left _ c.in_ok-ahead.ahead _ c.in_ok-ahead.ensures.front
    (ap (λ (t : List ℕ). told_passed c.args.empty_too t c.in_ok-ahead.ahead) (sym c.line.ensures.held) ∙ sym c.in_err-tell_passed.ensures))

pub returns-then-branch-clause-step : goal.returns-then-branch-clause-step
returns-then-branch-clause-step g c =
    step_passed c.args.empty_too c.args.self.now.limits _ _ c.find_front.new.self.window (g.S.Source.left c.find_front.new.self.source.now) c.in_ok-ahead.ahead
    c.in_ok-ahead.ensures.front
    (ap (λ (t : List ℕ). told_passed c.args.empty_too t c.in_ok-ahead.ahead) (sym c.line.ensures.held) ∙ sym c.in_ok-tell_passed.ensures ∙ ap (λ b. Ok b)
    c.if-branch.true)
    (c.take_line.ensures.place (g.S.Source.left c.find_front.new.self.source.now))

pub returns-clause-step : goal.returns-clause-step
returns-clause-step g c =
    step_ends c.args.empty_too c.args.self.now.limits _ c.find_front.new.self.window (g.S.Source.left c.find_front.new.self.source.now) c.in_ok-ahead.ahead
    c.in_ok-ahead.ensures.front
    (ap (λ (t : List ℕ). told_passed c.args.empty_too t c.in_ok-ahead.ahead) (sym c.line.ensures.held) ∙ sym c.in_ok-tell_passed.ensures ∙ ap (λ b. Ok b)
    c.if-branch.false)

pub returns-then-branch-clause-beyond : goal.returns-then-branch-clause-beyond
returns-then-branch-clause-beyond g c =
    c.take_line.ensures.beyond (g.S.Source.left c.find_front.new.self.source.now) ∙ c.in_ok-ahead.ensures.beyond
