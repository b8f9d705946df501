use Rattle.std.proofs.Common.{arith}
use Rattle.bf_core.proofs.Joining.{if_ok_map}
use Rattle.bf_runs.proofs.Doing.{by_more, by_itself}
use Rattle.bf_runs.proofs.case.run_case.Goals as goal

pub returns-then-workers-gt1-clause-workers : goal.returns-then-workers-gt1-clause-workers
returns-then-workers-gt1-clause-workers g c =
    if_ok_map c.run_farm.result (λ report. by_more c.min.result c.args.workers report (let is = c.min.ensures in omega arith)) c.run_farm.ensures.workers

pub returns-else-workers-gt1-clause-workers : goal.returns-else-workers-gt1-clause-workers
returns-else-workers-gt1-clause-workers g c =
    if_ok_map c.run_alone.result (λ report. by_itself c.args.workers c.args.case.table report) c.run_alone.ensures.alone
