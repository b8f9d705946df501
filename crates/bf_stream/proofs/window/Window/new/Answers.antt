use Rattle.std.proofs.Common.{rules, arith}
use Rattle.bf_stream.proofs.window.Window.new.Goals as goal

pub invariant_of-result : goal.invariant_of-result
invariant_of-result c = record {
  order = omega arith;
  within = search rules;
  size = search rules;
  count = search rules;
  spent = λ e. absurd (cc);
  known = omega arith;
  plain = λ e. absurd (cc);
}
