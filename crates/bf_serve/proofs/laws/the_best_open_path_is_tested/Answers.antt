use Rattle.bf_serve.proofs.LawsKeeping.{test_is_best}
use Rattle.bf_serve.proofs.laws.the_best_open_path_is_tested.Goals as goal

pub returns : goal.returns
returns c = λ commits searches worker s digits h. test_is_best commits searches worker s digits h
