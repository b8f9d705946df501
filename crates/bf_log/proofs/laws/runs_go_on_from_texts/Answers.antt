use Rattle.bf_log.proofs.Cut.{text_goes_on}
use Rattle.bf_log.proofs.laws.runs_go_on_from_texts.Goals as goal

pub returns : goal.returns
returns c = λ setting commits sides b known s later before front back given g over are both led is e. text_goes_on
    setting commits sides b known s later before front back given g over are both led is e
