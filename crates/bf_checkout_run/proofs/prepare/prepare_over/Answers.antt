use Rattle.std.proofs.Common.{ℕ, List, Option, Result, IfOk, sym, subst, option_map}
use Rattle.bf_answers.specs.Ready.{AllTold}
use Rattle.bf_begin.proofs.Starting.{all_over_file}
use Rattle.bf_begin.specs.Files.{given_of}
use Rattle.bf_output.specs.Beginning.{begun_with_skips}
use Rattle.bf_output.specs.Inputs.{IsToldFrom}
use Rattle.bf_output.specs.Output.{IsOverFile, IsSearched}
use Rattle.bf_io.specs.declared.shelf.LoadFault.{LoadFault}
use Rattle.bf_words.specs.declared.verb.Verb.{Verb}
use Rattle.bf_words.specs.declared.verb.Verb.TheVariants.{Run}
use Rattle.bf_checkout_run.proofs.prepare.prepare_over.Goals as goal

pub returns-clause-tells : goal.returns-clause-tells
returns-clause-tells g c =
    let request = c.args.line.request.now in
    let words = c.args.line.words.now in
    let history = c.args.history in
    let run = subst (λ (file : Option (Result (List ℕ) LoadFault)). IfOk c.start.result (λ ready. AllTold request words ready (λ tested told.
    IsToldFrom (IsSearched Run request words tested history) (begun_with_skips request words file history) told))) c.lent.ensures c.start.ensures.tells in
    all_over_file request words (g.F.Shelf.files c.args.shelf.now) history c.in_ok-file.file c.start.result c.in_ok-file.ensures.file
    (subst (λ (verb : Verb). IfOk c.start.result (λ ready. AllTold request words ready (λ tested told.
    IsOverFile verb request words tested (option_map given_of c.in_ok-file.file) history told))) (sym c.requires.run) run)
