use Rattle.bf_begin.proofs.Opening.{text_told}
use Rattle.bf_commands.specs.Many.{told_of_list}
use Rattle.bf_grammar.specs.Limits.{standard_limits}
use Rattle.bf_many_run.proofs.command.many_file.Goals as goal

pub returns-in-Over-clause-tells : goal.returns-in-Over-clause-tells
returns-in-Over-clause-tells g c =
    let opened = rw c.standard.ensures at (rw c.in-Over.is at c.in_ok-opened.ensures.opened) in
    text_told standard_limits told_of_list (g.S.Source.left c.args.stream.now) (g.F.Shelf.files c.args.shelf.now) c.args.line.words.now 2 c.in-Over.history c.in-Over.text
    c.many_text.result (opened told_of_list) (rw c.as_slice.ensures.bytes at c.many_text.ensures.tells)

pub returns-in-Refused-clause-tells : goal.returns-in-Refused-clause-tells
returns-in-Refused-clause-tells g c = (rw c.standard.ensures at (rw c.in-Refused.is at c.in_ok-opened.ensures.opened)) told_of_list

pub returns-in-Refused-clause-whole : goal.returns-in-Refused-clause-whole
returns-in-Refused-clause-whole g c = rw c.in-Refused.is at c.in_ok-opened.ensures.whole
