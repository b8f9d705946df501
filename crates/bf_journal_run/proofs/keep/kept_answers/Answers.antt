use Rattle.std.proofs.Common.{arith, refl}
use Rattle.bf_journal_run.proofs.Kept.{next_gathered}
use Rattle.bf_journal_run.proofs.keep.kept_answers.Goals as goal

pub loop-place-preserved : goal.loop-place-preserved
loop-place-preserved c = record {
  so_far = next_gathered c.args.names.now c.args.journal.now.kept c.loop-place.place _ _ c.kept.result c.loop-place.answers.items
      c.push_kept.new.answers.items _ (omega arith) (omega arith) refl c.kept.ensures c.in_ok-push_kept.ensures c.loop-place.invariant.so_far;
}
