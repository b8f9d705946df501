use Rattle.bf_log.proofs.Cut.{cut_text}
use Rattle.bf_log.proofs.laws.logs_are_cut_at_marks.Goals as goal

pub returns : goal.returns
returns c = λ commits sides len known entries front back readable both are e is. cut_text len commits sides known
    entries front back readable both are e is
