use Rattle.bf_core.proofs.Calls.{taken_back}
use Rattle.bf_core.proofs.consuming.Consumed.learn.Goals as goal

pub returns-in-Err-clause-back : goal.returns-in-Err-clause-back
returns-in-Err-clause-back c =
    taken_back c.args.table.now c.put.new.self c.remove.new.self c.args.known.0 c.args.known.1 c.requires.unknown c.put.ensures c.remove.ensures
