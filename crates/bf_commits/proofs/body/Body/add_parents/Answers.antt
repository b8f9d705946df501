use Rattle.bf_commits.proofs.Pieces.{adds_more, longer}
use Rattle.bf_commits.proofs.body.Body.add_parents.Goals as goal

pub loop-place-preserved : goal.loop-place-preserved
loop-place-preserved c = record {
  lines = adds_more c.args.names.now c.args.parents.now c.loop-place.place-index c.loop-place-test.true c.args.self.now c.loop-place.self
      c.add_name.new.self c.loop-place.invariant.lines c.add_name.ensures.name;
  length = longer c.args.names.now c.args.parents.now c.loop-place.place-index c.loop-place-test.true c.loop-place.invariant.length c.add_name.ensures.length;
}
