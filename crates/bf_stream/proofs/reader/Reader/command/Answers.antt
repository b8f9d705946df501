use Rattle.bf_grammar.specs.Commands.{command_at}
use Rattle.bf_stream.proofs.Chains.{reads_then, reads_stopped, reads_handed_on}
use Rattle.std.proofs.Common.{sym, ◌∙◌}
use Rattle.bf_stream.proofs.Resting.{whole_at_end}
use Rattle.bf_stream.proofs.Starts.{ends_due, ends_free}
use Rattle.bf_stream.proofs.reader.Reader.command.Goals as goal

pub returns-in_err-at_command-clause-reads : goal.returns-in_err-at_command-clause-reads
unfolding command_at
returns-in_err-at_command-clause-reads g c =
    reads_handed_on _ c.from_residual.ensures.1 (reads_stopped _ c.in_err-at_command.ensures.reads)

pub returns-then-branch-clause-reads : goal.returns-then-branch-clause-reads
unfolding command_at
returns-then-branch-clause-reads g c =
    reads_then _ (rw c.if-branch.true at c.in_ok-at_command.ensures.reads) c.command_in_front.ensures.reads

pub returns-then-is_done_due-clause-reads : goal.returns-then-is_done_due-clause-reads
unfolding command_at
returns-then-is_done_due-clause-reads g c =
    reads_then _ (rw c.if-branch.false at c.in_ok-at_command.ensures.reads)
    (ends_due g.S.Source.left g.S.Source.faults c.at_command.new.self c.line_number.result (sym c.is_done_due.ensures.due ∙ c.if-is_done_due.true)
    c.line_number.ensures.number)

pub returns-clause-reads : goal.returns-clause-reads
unfolding command_at
returns-clause-reads g c =
    reads_then _ (rw c.if-branch.false at c.in_ok-at_command.ensures.reads)
    (ends_free g.S.Source.left g.S.Source.faults c.at_command.new.self (sym c.is_done_due.ensures.due ∙ c.if-is_done_due.false))

pub returns-clause-whole : goal.returns-clause-whole
returns-clause-whole g c =
    whole_at_end c.args.self.now.cursor.limits _ c.at_command.new.self.window (g.S.Source.left c.at_command.new.self.source.now)
    (rw c.if-branch.false at c.in_ok-at_command.ensures.reads.gives)
