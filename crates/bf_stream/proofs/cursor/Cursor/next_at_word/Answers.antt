use Rattle.std.proofs.Common.{rules}
use Rattle.bf_stream.proofs.Chains.{advances_stopped, reads_as, reads_handed_on}
use Rattle.bf_stream.proofs.Looking.{word_given, word_failed}
use Rattle.bf_stream.proofs.cursor.Cursor.next_at_word.Goals as goal

pub returns-in_err-ahead-clause-reads : goal.returns-in_err-ahead-clause-reads
returns-in_err-ahead-clause-reads g c =
    let found = c.in_err-ahead.ensures in
    reads_handed_on _ c.from_residual.ensures.1
    (reads_as (word_failed c.args.self.now.limits c.args.word.now _ _ _ c.next_front.new.self.window (g.S.Source.left c.next_front.new.self.source.now)
    found.front) (advances_stopped found.advances) found.beyond)

pub returns-clause-reads : goal.returns-clause-reads
returns-clause-reads g c =
    reads_as (word_given c.args.self.now.limits c.args.word.now _ c.next_front.new.self.window (g.S.Source.left c.next_front.new.self.source.now)
    c.in_ok-ahead.ahead c.line.result.now _ c.requires c.in_ok-ahead.ensures.front c.line.ensures.held c.tell_word.ensures) (search rules) c.in_ok-ahead.ensures.beyond
