use Rattle.std.proofs.Common.{ap, Err}
use Rattle.bf_history.specs.declared.fault.ImportFault.{ImportFault}
use Rattle.bf_import.specs.Growing.{with_edits}
use Rattle.bf_import.proofs.Standing.{pool_within, pool_refused}
use Rattle.bf_import.proofs.growth.Growth.edited_tree.Goals as goal

pub returns-in-Ok-clause-pool : goal.returns-in-Ok-clause-pool
returns-in-Ok-clause-pool c =
    pool_within c.args.self.now.limits.entries (with_edits c.args.self.now.history c.args.first c.args.edits.now) c.apply.new.self.history c.in-Ok.ensures.pool
    c.in-Ok.ensures.within

pub returns-in-Err-clause-pool : goal.returns-in-Err-clause-pool
returns-in-Err-clause-pool c =
    pool_refused (λ _. c.apply.new.self.history) c.args.self.now.limits.entries (with_edits c.args.self.now.history c.args.first c.args.edits.now)
    c.in-Err.fault (Err c.refusal.result) c.in-Err.ensures.too_many (ap (λ (f : ImportFault). Err f) c.refusal.ensures)
