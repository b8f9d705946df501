use Rattle.bf_answers.proofs.Streamed.{not_imported}
use Rattle.bf_answers.specs.Tellings.{told_of}
use Rattle.bf_begin.proofs.door.open.Goals as goal
use Rattle.bf_grammar.specs.Limits.{standard_limits}

pub returns-in_ok-given-in-Ok-clause-opened : goal.returns-in_ok-given-in-Ok-clause-opened
returns-in_ok-given-in-Ok-clause-opened g c = (rw c.standard.ensures at c.in-Ok.ensures.history, c.in_ok-given-in-Ok.ensures.file)

pub returns-in_ok-refusal-in-Err-clause-opened : goal.returns-in_ok-refusal-in-Err-clause-opened
returns-in_ok-refusal-in-Err-clause-opened g c =
    let left = g.S.Source.left c.args.stream.now in
    let answer = c.in_ok-refusal-in-Err.field-0 in
    let tells = c.in_ok-refusal-in-Err.ensures.tells in
    let whole = c.in_ok-refusal-in-Err.ensures.whole in
    let may = rw c.standard.ensures at c.in-Err.ensures.history in
    (c.in-Err.fault, not_imported left standard_limits c.in-Err.fault (told_of answer) may c.in-Err.ensures.known whole tells, tells, whole)
