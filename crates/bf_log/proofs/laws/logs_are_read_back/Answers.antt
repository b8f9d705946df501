use Rattle.bf_log.proofs.Back.{log_read_back}
use Rattle.bf_log.proofs.laws.logs_are_read_back.Goals as goal

pub returns : goal.returns
returns c = λ commits sides known entries readable named. log_read_back commits sides known entries readable named
