use Rattle.bf_import.proofs.Answered.{content_made, missing_passed_on}
use Rattle.bf_import.proofs.Resting.{memory_cause}
use Rattle.bf_import.proofs.loading.import_with_blobs.Goals as goal

pub returns-in_err-importer-clause-content : goal.returns-in_err-importer-clause-content
returns-in_err-importer-clause-content g c =
    missing_passed_on (g.S.Source.left c.args.source.now) c.args.limits c.new.result c.in_err-importer.field-0.0 c.from_residual.result c.new.ensures
    c.from_residual.ensures.1 c.in_err-importer.ensures.loads

pub returns-clause-content : goal.returns-clause-content
returns-clause-content g c =
    content_made (g.S.Source.left c.args.source.now) c.args.limits c.new.result c.in_ok-into_history.field-0 c.in_ok-importer.importer.loading.history
    c.in_ok-importer.blobs c.of.result c.new.ensures c.in_ok-into_history.ensures c.of.ensures c.in_ok-importer.ensures.loads

pub returns-clause-cause : goal.returns-clause-cause
returns-clause-cause g c = record { later = c.in_ok-importer.ensures.cause.later; failed = λ so. absurd (cc) }

pub returns-in_err-into_history-clause-cause : goal.returns-in_err-into_history-clause-cause
returns-in_err-into_history-clause-cause g c =
    memory_cause c.from_residual-in_err-into_history.result (g.S.Source.faults c.args.source.now) (g.S.Source.faults _)
    c.from_residual-in_err-into_history.ensures.1 c.in_ok-importer.ensures.cause.later
