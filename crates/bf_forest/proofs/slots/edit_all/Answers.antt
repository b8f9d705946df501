use Rattle.bf_forest.proofs.Placed.{old_shorter}
use Rattle.bf_forest.proofs.slots.edit_all.Goals as goal

pub edit_rest-requires : goal.edit_rest-requires
edit_rest-requires c = old_shorter c.args.table.now c.args.rest.now.base c.loop-edit.rest.base c.requires c.loop-edit.invariant.base
