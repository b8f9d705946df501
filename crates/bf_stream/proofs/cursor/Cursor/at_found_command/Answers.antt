use Rattle.std.proofs.Common.{rules, ◌<◌, length, refl}
use Rattle.bf_stream.proofs.Chains.{advances_stopped, reads_as, reads_handed_on}
use Rattle.bf_stream.proofs.Looking.{line_given, line_failed}
use Rattle.bf_stream.proofs.Plain.{plain_command}
use Rattle.bf_stream.proofs.cursor.Cursor.at_found_command.Goals as goal

pub returns-then-line-self-clause-reads : goal.returns-then-line-self-clause-reads
returns-then-line-self-clause-reads g c =
    let some : 0 < length c.in-Some.line.now = search rules in
    reads_as (plain_command c.args.self.now.limits c.args.self.now.window (g.S.Source.left c.args.self.now.source.now) c.in-Some.line.now c.in-Some.ensures some
    c.if-line-self.true) (search rules) refl

pub returns-in_err-ahead-clause-reads : goal.returns-in_err-ahead-clause-reads
returns-in_err-ahead-clause-reads g c =
    let found = c.in_err-ahead.ensures in
    reads_handed_on _ c.from_residual.ensures.1
    (reads_as (line_failed c.args.self.now.limits _ _ _ c.next_front.new.self.window (g.S.Source.left c.next_front.new.self.source.now) found.front)
    (advances_stopped found.advances) found.beyond)

pub returns-clause-reads : goal.returns-clause-reads
returns-clause-reads g c =
    reads_as (line_given c.args.self.now.limits _ c.next_front.new.self.window (g.S.Source.left c.next_front.new.self.source.now) c.in_ok-ahead.ahead _
    c.in_ok-ahead.ensures.front c.tell_line.ensures) (search rules) c.in_ok-ahead.ensures.beyond
