use Rattle.bf_many.proofs.Adding.{pushed_cores}
use Rattle.bf_many.proofs.many.ManyCore.add.Goals as goal

pub invariant_of-self-2 : goal.invariant_of-self-2
invariant_of-self-2 c =
    pushed_cores c.self.inside.cores.items c.args.self.now c.push.new.self.items c.in_ok-core.core c.self.view_is c.requires.few
    c.self.invariant.consumed c.in_ok-core.ensures.consumed c.in_ok-push.ensures.items

pub returns-clause-consumed : goal.returns-clause-consumed
returns-clause-consumed c =
    (pushed_cores c.self.inside.cores.items c.args.self.now c.push.new.self.items c.in_ok-core.core c.self.view_is c.requires.few
    c.self.invariant.consumed c.in_ok-core.ensures.consumed c.in_ok-push.ensures.items).consumed
