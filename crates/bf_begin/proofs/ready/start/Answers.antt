use Rattle.std.proofs.Common.{Ok, refl}
use Rattle.bf_answers.specs.declared.started.Ready.TheVariants.{Told}
use Rattle.bf_answers.specs.Ready.{verb_of}
use Rattle.bf_answers.specs.Tellings.{told_of}
use Rattle.bf_begin.proofs.Starting.{refused_by, started_told}
use Rattle.bf_begin.proofs.ready.start.Goals as goal

pub returns-in-Ok-clause-tells : goal.returns-in-Ok-clause-tells
returns-in-Ok-clause-tells c =
    started_told c.args.line.request.now c.args.line.words.now _ c.args.history c.in-Ok.first c.args.means (rw c.in-Ok.is at c.begin.ensures.step)

pub returns-in-Err-Refused-clause-tells : goal.returns-in-Err-Refused-clause-tells
returns-in-Err-Refused-clause-tells c =
    let answer = c.in-Err-Refused.answer in
    let step = rw c.in-Err-Refused.field-0-is at (rw c.in-Err-Refused.is at c.begin.ensures.step) in
    rw c.in-Err-Refused.field-0-is
    (refused_by c.args.line.request.now c.args.line.words.now _ (verb_of c.args.means) c.args.history (told_of answer) (Ok (Told answer)) step.0 refl)
