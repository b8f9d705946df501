use Rattle.bf_begin.proofs.Opening.{text_told}
use Rattle.bf_commands.specs.Orders.{limits_asked}
use Rattle.bf_certify.specs.Checking.{file_index, file_told}
use Rattle.bf_certify.proofs.checking.check_file.Goals as goal

pub returns-in-Over-clause-tells : goal.returns-in-Over-clause-tells
returns-in-Over-clause-tells g c =
    let opened = rw c.file_index.ensures at rw c.limits_asked.ensures.limits at rw c.in-Over.is at c.in_ok-opened.ensures.opened in
    text_told (limits_asked c.args.words.now) file_told (g.S.Source.left c.args.stream.now) (g.F.Shelf.files c.args.shelf.now) c.args.words.now
    (file_index c.args.words.now) c.in-Over.history c.in-Over.text
    c.check_text.result (opened file_told) (rw c.as_slice.ensures.bytes at c.check_text.ensures.tells)

pub returns-in-Refused-clause-tells : goal.returns-in-Refused-clause-tells
returns-in-Refused-clause-tells g c = (rw c.file_index.ensures at rw c.limits_asked.ensures.limits at rw c.in-Refused.is at c.in_ok-opened.ensures.opened) file_told

pub returns-in-Refused-clause-whole : goal.returns-in-Refused-clause-whole
returns-in-Refused-clause-whole g c = rw c.in-Refused.is at c.in_ok-opened.ensures.whole
