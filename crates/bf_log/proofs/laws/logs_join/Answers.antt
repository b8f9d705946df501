use Rattle.bf_log.proofs.JoinedLogs.{log_joined}
use Rattle.bf_log.proofs.laws.logs_join.Goals as goal

pub returns : goal.returns
returns c = λ commits sides known xs ys. log_joined commits sides known xs ys
