use Rattle.bf_grammar.specs.Commands.{changes_at}
use Rattle.bf_grammar.specs.Commands.{change_at}
use Rattle.bf_grammar.proofs.Onward.{changes_take}
use Rattle.bf_stream.proofs.Chains.{reads_handed_on}
use Rattle.bf_stream.proofs.Turns.{collects_none, collects_more, collects_all, collects_stopped, all_changes}
use Rattle.bf_stream.proofs.reader.Reader.changes.Goals as goal

pub changes-init : goal.changes-init
changes-init g c = collects_none g.S.Source.left g.S.Source.faults c.args.self.now.cursor change_at c.new-changes.result c.new-changes.ensures

pub changes-preserved : goal.changes-preserved
changes-preserved g c =
    collects_more change_at changes_take c.changes.changes c.push.new.self c.in_ok-change.field-0 c.in-Some.change c.in-Some.is c.in_ok-push-in-Some.ensures.ok
    c.changes.invariant c.in_ok-change.ensures.reads

pub returns-in_err-change : goal.returns-in_err-change
returns-in_err-change g c =
    reads_handed_on _ c.from_residual.ensures.1
    (collects_stopped change_at changes_take c.changes.changes changes_at all_changes c.in_err-change.field-0.0 c.changes.invariant
    c.in_err-change.ensures.reads)

pub returns-in-None : goal.returns-in-None
returns-in-None g c = collects_all change_at changes_take c.changes.changes changes_at all_changes c.in_ok-change.field-0 c.in-None.is c.changes.invariant
    c.in_ok-change.ensures.reads
