use Rattle.std.proofs.Common.{◌<◌, ap}
use Rattle.bf_state.specs.Session.{Session}
use Rattle.bf_state.proofs.Below.{below_added}
use Rattle.bf_state.proofs.state.State.add_if_good.Goals as goal

pub invariant_of-self : goal.invariant_of-self
invariant_of-self c =
    let place : c.args.place < c.self.inside.len = rw (ap (λ (v : Session). v.len) c.self.view_is) c.requires in
    below_added _ _ _ _ c.add.result c.self.invariant place c.add.ensures.ok c.add.ensures.err
