use Rattle.std.proofs.Common.{Result, Ok, sym, ◌∙◌, ap}
use Rattle.bf_history.specs.declared.fault.ImportFault.{ImportFault}
use Rattle.bf_history.specs.Meanings.{Loading}
use Rattle.bf_import.specs.Growing.{Importing}
use Rattle.bf_import.proofs.Carried.{reset_alone}
use Rattle.bf_import.proofs.importer.Importer.take_reset.Goals as goal

pub returns-in-None-clause-loading : goal.returns-in-None-clause-loading
returns-in-None-clause-loading c =
    reset_alone c.args.self.now.loading c.args.branch c.args.from c.in-None.is
    ∙ ap (λ (i : Importing). let r : Result Loading ImportFault = Ok i.loading in r) (sym c.remove_ref.ensures)
