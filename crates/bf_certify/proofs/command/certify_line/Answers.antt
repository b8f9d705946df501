use Rattle.std.proofs.Common.{Ok, inl, refl}
use Rattle.bf_answers.proofs.Concluding.{causes_of_whole}
use Rattle.bf_answers.specs.declared.answer.Fault.{Fault}
use Rattle.bf_answers.specs.declared.started.Ready.TheVariants.{Told, Search}
use Rattle.bf_answers.specs.Tellings.{told_of}
use Rattle.bf_begin.proofs.Opening.{ready_told}
use Rattle.bf_commands.specs.Certify.{IsCertified}
use Rattle.bf_output.specs.Shown.{shown_by}
use Rattle.bf_certify.proofs.command.certify_line.Goals as goal

pub returns-in_ok-certify_search-in-Search-clause-tells : goal.returns-in_ok-certify_search-in-Search-clause-tells
returns-in_ok-certify_search-in-Search-clause-tells g c =
    let request = c.args.line.request.now in
    let tested = shown_by g.T.Tester c.certify_search.new.tester in
    ready_told (IsCertified request.verb request c.args.line.words.now tested) c.args.line (g.F.Shelf.files c.args.shelf.now)
    (Search c.in-Search.started) (told_of c.in_ok-certify_search-in-Search.field-0) c.in_ok-certify_search-in-Search.ensures.tells
    (g.S.Source.left c.args.stream.now) (rw c.in-Search.is at c.in_ok-ready.ensures.begins)

pub returns-in-Told-clause-tells : goal.returns-in-Told-clause-tells
returns-in-Told-clause-tells g c =
    let request = c.args.line.request.now in
    let tested = shown_by g.T.Tester c.args.tester.now in
    ready_told (IsCertified request.verb request c.args.line.words.now tested) c.args.line (g.F.Shelf.files c.args.shelf.now)
    (Told c.in-Told.answer) (told_of c.in-Told.answer) refl (g.S.Source.left c.args.stream.now) (rw c.in-Told.is at c.in_ok-ready.ensures.begins)

pub returns-in-Told-clause-cause : goal.returns-in-Told-clause-cause
returns-in-Told-clause-cause g c = causes_of_whole {E = Fault} _ _ _ (Ok c.in-Told.answer) (rw c.in-Told.is at c.in_ok-ready.ensures.sound)

pub returns-in-Told-clause-used : goal.returns-in-Told-clause-used
returns-in-Told-clause-used g c = inl refl

pub returns-in_err-ready-clause-used : goal.returns-in_err-ready-clause-used
returns-in_err-ready-clause-used g c = inl refl
