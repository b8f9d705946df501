use Rattle.std.proofs.Common.{List, sym, subst}
use Rattle.bf_tester.specs.declared.answer.Answer.{Answer}
use Rattle.bf_farm.specs.Reports.{AreAmong}
use Rattle.bf_farm.proofs.Soundness.{among_before, among_after, among_itself}
use Rattle.bf_farm.proofs.absorb.absorb.Goals as goal

pub returns-clause-own : goal.returns-clause-own
returns-clause-own g c = among_before (g.T.Tester.answers c.absorb.new.self) (g.T.Tester.answers c.args.tester.now) (g.T.Tester.answers c.args.other)
    c.in-Ok.ensures.ok

pub returns-clause-absorbed : goal.returns-clause-absorbed
returns-clause-absorbed g c = among_after (g.T.Tester.answers c.absorb.new.self) (g.T.Tester.answers c.args.tester.now)
    (g.T.Tester.answers c.args.other) c.in-Ok.ensures.ok

pub returns-in-Err-clause-own : goal.returns-in-Err-clause-own
returns-in-Err-clause-own g c =
    subst (λ (l : List Answer). AreAmong l (g.T.Tester.answers c.args.tester.now)) (sym c.in-Err.ensures.err.1)
    (among_itself (g.T.Tester.answers c.args.tester.now))
