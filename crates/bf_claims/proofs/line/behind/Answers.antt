use Rattle.bf_cert.proofs.Cutting.{behind_is}
use Rattle.bf_claims.proofs.line.behind.Goals as goal

pub returns-clause-part : goal.returns-clause-part
returns-clause-part c = behind_is c.args.word.now c.args.text.now c.strip_prefix.result c.strip_prefix.ensures.cases
