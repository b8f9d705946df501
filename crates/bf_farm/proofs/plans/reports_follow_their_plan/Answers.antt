use Rattle.bf_farm.proofs.Planned.{on_the_plan}
use Rattle.bf_farm.proofs.plans.reports_follow_their_plan.Goals as goal

pub returns : goal.returns
returns c = λ setting first names plan report is follows unfailed. on_the_plan setting first names plan report is follows unfailed
