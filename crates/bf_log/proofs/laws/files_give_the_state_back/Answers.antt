use Rattle.bf_log.proofs.JoinedLogs.{file_gives_back}
use Rattle.bf_log.proofs.laws.files_give_the_state_back.Goals as goal

pub returns : goal.returns
returns c = λ setting commits sides now file told known left s later before readable named resolved led
    is. file_gives_back setting commits sides now file told known left s later before readable named resolved led is
