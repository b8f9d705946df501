use Rattle.std.proofs.Common.{◌==◌}
use Rattle.bf_forms.proofs.Fronts.{behind_found, not_found}
use Rattle.bf_forms.proofs.cuts.cut.Goals as goal

pub returns-in-Some-clause-after : goal.returns-in-Some-clause-after
returns-in-Some-clause-after c = behind_found (λ b. b == c.args.byte) c.args.text.now c.in-Some.place c.in-Some.ensures

pub returns-in-None-clause-before : goal.returns-in-None-clause-before
returns-in-None-clause-before c = (not_found (λ b. b == c.args.byte) c.args.text.now c.in-None.ensures).0

pub returns-in-None-clause-none_after : goal.returns-in-None-clause-none_after
returns-in-None-clause-none_after c = (not_found (λ b. b == c.args.byte) c.args.text.now c.in-None.ensures).1
