use Rattle.std.proofs.Common.{rules}
use Rattle.bf_state.proofs.Passing.{needed_are}
use Rattle.test_search.proofs.state.asked_over.Goals as goal

pub advance_over-requires-clause-weights : goal.advance_over-requires-clause-weights
advance_over-requires-clause-weights c =
    needed_are c.args.reach.now c.in_ok-try_clone.field-0.search c.as_slice.result.now (search rules)
