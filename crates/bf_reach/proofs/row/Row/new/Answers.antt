use Rattle.std.proofs.Common.{arith}
use Rattle.bf_reach.proofs.RowSteps.{clear_row}
use Rattle.bf_reach.proofs.row.Row.new.Goals as goal

pub invariant_of-result : goal.invariant_of-result
invariant_of-result c = (clear_row c.args.len c.words_for.result c.in_ok-words.words.items (omega arith) c.words_for.ensures
    (c.in_ok-words.ensures.items_if_clones_equal (λ y e. e))).holds

pub returns : goal.returns
returns c = (clear_row c.args.len c.words_for.result c.in_ok-words.words.items (omega arith) c.words_for.ensures
    (c.in_ok-words.ensures.items_if_clones_equal (λ y e. e))).view
