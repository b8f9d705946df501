use Rattle.std.proofs.Common.{codes}
use Rattle.bf_grammar.specs.Commands.{merges_at}
use Rattle.bf_stream.specs.Parts.{target_behind}
use Rattle.bf_grammar.proofs.Onward.{merges_take}
use Rattle.bf_stream.proofs.Chains.{reads_handed_on}
use Rattle.bf_stream.proofs.Turns.{collects_none, collects_more, collects_all, collects_stopped, all_merges}
use Rattle.bf_stream.proofs.reader.Reader.merges.Goals as goal

pub merges-init : goal.merges-init
merges-init g c = collects_none g.S.Source.left g.S.Source.faults c.args.self.now.cursor (target_behind (codes "merge")) c.new-merges.result
    c.new-merges.ensures

pub merges-preserved : goal.merges-preserved
merges-preserved g c =
    collects_more (target_behind (codes "merge")) merges_take c.merges.merges c.push.new.self c.in_ok-merge.field-0 c.in-Some.merge c.in-Some.is
    c.in_ok-push-in-Some.ensures.ok c.merges.invariant c.in_ok-merge.ensures.reads

pub returns-in_err-merge : goal.returns-in_err-merge
returns-in_err-merge g c =
    reads_handed_on _ c.from_residual.ensures.1
    (collects_stopped (target_behind (codes "merge")) merges_take c.merges.merges merges_at all_merges c.in_err-merge.field-0.0 c.merges.invariant
    c.in_err-merge.ensures.reads)

pub returns-in-None : goal.returns-in-None
returns-in-None g c = collects_all (target_behind (codes "merge")) merges_take c.merges.merges merges_at all_merges c.in_ok-merge.field-0 c.in-None.is
    c.merges.invariant c.in_ok-merge.ensures.reads
