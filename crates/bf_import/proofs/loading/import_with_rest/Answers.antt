use Rattle.std.proofs.Common.{Ok, None, subst, sym}
use Rattle.bf_history.specs.Imports.{MayImport}
use Rattle.bf_history.specs.Meanings.{History}
use Rattle.bf_import.proofs.Answered.{history_answered}
use Rattle.bf_import.proofs.Resting.{refusal_of_both}
use Rattle.bf_import.proofs.loading.import_with_rest.Goals as goal

pub returns-in_err-importer-clause-history : goal.returns-in_err-importer-clause-history
returns-in_err-importer-clause-history g c =
    refusal_of_both (g.S.Source.left c.args.source.now) c.args.limits c.in_err-importer.field-0.0 c.from_residual.result c.from_residual.ensures.1
    c.in_err-importer.ensures.loads

pub returns-clause-history : goal.returns-clause-history
returns-clause-history g c =
    subst (λ (history : History). MayImport (g.S.Source.left c.args.source.now) c.args.limits (Ok history)) (sym c.in_ok-into_history.ensures)
    (history_answered (g.S.Source.left c.args.source.now) c.args.limits c.in_ok-importer.importer.loading.history None c.in_ok-importer.ensures.loads)

pub returns-clause-cause : goal.returns-clause-cause
returns-clause-cause g c = record { later = c.in_ok-importer.ensures.cause.later; failed = λ so. absurd (cc) }
