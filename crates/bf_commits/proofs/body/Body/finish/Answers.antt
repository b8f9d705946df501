use Rattle.std.proofs.Common.{length}
use Rattle.bf_commits.proofs.Pieces.{finished}
use Rattle.bf_commits.proofs.body.Body.finish.Goals as goal

pub returns : goal.returns
returns c = λ text is.
    finished c.hash_held.new.self text c.finish.result (c.hash_held.ensures.same (length text) text is) c.hash_held.ensures.empty c.finish.ensures
