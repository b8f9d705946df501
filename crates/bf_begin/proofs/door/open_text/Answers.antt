use Rattle.std.proofs.Common.{refl}
use Rattle.bf_begin.proofs.Opening.{text_over, text_refused}
use Rattle.bf_begin.proofs.door.open_text.Goals as goal

pub returns-in-Text-clause-opened : goal.returns-in-Text-clause-opened
returns-in-Text-clause-opened g c = λ tell.
    text_over c.args.line.limits tell (g.S.Source.left c.args.stream.now) (g.F.Shelf.files c.args.shelf.now) c.args.line.words.now c.args.line.index
    c.in-Ok.history c.in_ok-text-in-Ok.field-0 (tell c.in-Ok.history c.in-Text.text)
    c.in-Ok.ensures.history c.in_ok-text-in-Ok.ensures.file (rw c.in-Text.is refl)

pub returns-in_ok-no_file-in-Missing-clause-opened : goal.returns-in_ok-no_file-in-Missing-clause-opened
returns-in_ok-no_file-in-Missing-clause-opened g c = λ tell.
    text_over c.args.line.limits tell (g.S.Source.left c.args.stream.now) (g.F.Shelf.files c.args.shelf.now) c.args.line.words.now c.args.line.index
    c.in-Ok.history c.in_ok-text-in-Ok.field-0 _
    c.in-Ok.ensures.history c.in_ok-text-in-Ok.ensures.file
    (rw c.in-Missing.is c.in_ok-no_file-in-Missing.ensures.tells)

pub returns-in_ok-too_large-in-TooLong-clause-opened : goal.returns-in_ok-too_large-in-TooLong-clause-opened
returns-in_ok-too_large-in-TooLong-clause-opened g c = λ tell.
    text_over c.args.line.limits tell (g.S.Source.left c.args.stream.now) (g.F.Shelf.files c.args.shelf.now) c.args.line.words.now c.args.line.index
    c.in-Ok.history c.in_ok-text-in-Ok.field-0 _
    c.in-Ok.ensures.history c.in_ok-text-in-Ok.ensures.file
    (rw c.in-TooLong.is c.in_ok-too_large-in-TooLong.ensures.tells)

pub returns-in_ok-refusal-in-Err-clause-opened : goal.returns-in_ok-refusal-in-Err-clause-opened
returns-in_ok-refusal-in-Err-clause-opened g c = λ tell.
    text_refused c.args.line.limits tell (g.S.Source.left c.args.stream.now) (g.F.Shelf.files c.args.shelf.now) c.args.line.words.now c.args.line.index
    c.in-Err.fault c.in_ok-refusal-in-Err.field-0 c.in-Err.ensures.history c.in-Err.ensures.known
    c.in_ok-refusal-in-Err.ensures.whole c.in_ok-refusal-in-Err.ensures.tells
