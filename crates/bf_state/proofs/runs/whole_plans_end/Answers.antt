use Rattle.bf_state.proofs.Plans.{whole_plan_ends}
use Rattle.bf_state.proofs.runs.whole_plans_end.Goals as goal

pub returns : goal.returns
returns c = λ graph known s g over all. whole_plan_ends graph known s g over all
