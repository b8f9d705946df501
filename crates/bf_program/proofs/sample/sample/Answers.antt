use Rattle.std.proofs.Common.{arith}
use Rattle.bf_program.proofs.Sampling.{waits_told}
use Rattle.bf_program.proofs.sample.sample.Goals as goal

pub returns-then-commits-eq0-clause-tells : goal.returns-then-commits-eq0-clause-tells
returns-then-commits-eq0-clause-tells g c =
    waits_told c.args.request.now c.args.history.now c.nothing_searched.result (omega arith) c.nothing_searched.ensures.status
    c.nothing_searched.ensures.text
