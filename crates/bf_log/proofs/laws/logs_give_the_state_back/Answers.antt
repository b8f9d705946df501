use Rattle.bf_log.proofs.Whole.{gives_back}
use Rattle.bf_log.proofs.laws.logs_give_the_state_back.Goals as goal

pub returns : goal.returns
returns c = λ setting commits sides b known left s later before given g are led. gives_back setting commits sides b
    given known left s later before g are led
