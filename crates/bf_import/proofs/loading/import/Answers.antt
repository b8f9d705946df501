use Rattle.std.proofs.Common.{Err}
use Rattle.bf_import.proofs.Resting.{refusal_of_history}
use Rattle.bf_import.proofs.loading.import.Goals as goal

pub returns-in_err-history-clause-history : goal.returns-in_err-history-clause-history
returns-in_err-history-clause-history g c =
    refusal_of_history (g.S.Source.left c.args.source.now) c.args.limits c.in_err-history.field-0.0 c.from_residual.result c.from_residual.ensures.1
    c.in_err-history.ensures.history
