use Rattle.std.proofs.Common.{◌+◌, length}
use Rattle.std.proofs.lemmas.Result.{IfErr-weaker}
use Rattle.bf_cert.specs.Faults.{IsFaultOf}
use Rattle.bf_claims.specs.Reading.{IsLineUpTo}
use Rattle.bf_claims.proofs.Bounds.{fault_line, goods_within}
use Rattle.bf_claims.proofs.read.read_bounded.Goals as goal

pub returns-clause-goods : goal.returns-clause-goods
returns-clause-goods c =
    goods_within c.args.history.now.names c.args.history.now.parents c.args.text.now c.read_cert.result c.read_cert.ensures.read

pub returns-clause-line : goal.returns-clause-line
returns-clause-line c =
    IfErr-weaker c.read_cert.result (λ fault. IsFaultOf c.args.history.now.names c.args.history.now.parents c.args.text.now fault)
    (λ fault. IsLineUpTo (length c.args.text.now + 1) fault)
    (λ fault is. fault_line c.args.history.now.names c.args.history.now.parents c.args.text.now fault is)
    c.read_cert.ensures.fault
