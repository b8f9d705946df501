use Rattle.std.proofs.Common.{ℕ, List, map, take, subst, sym}
use Rattle.bf_tester.specs.contracts.plan_tester.PlanTesterTester.TheImpl.{ghosts as by_plan}
use Rattle.bf_many_run.proofs.Grouping.{asked_next, lines_more, no_searches}
use Rattle.bf_many_run.specs.Groups.{AreSearchesOf}
use Rattle.bf_many_run.specs.Lists.{words_in}
use Rattle.bf_many_run.proofs.slots.begin_all.Goals as goal

pub loop-line-init : goal.loop-line-init
loop-line-init c = no_searches by_plan c.args.history.now _ _ c.new.ensures.items c.new-2.ensures.items

pub add-requires-clause-asked : goal.add-requires-clause-asked
add-requires-clause-asked c =
    asked_next c.args.lines.now c.loop-line.line-index c.line-item.result _ _ c.requires.asked c.loop-line-test.true c.line-item.is c.line.ensures.words
    c.line.ensures.request

pub loop-line-preserved : goal.loop-line-preserved
loop-line-preserved c =
    subst (λ (lines : List (List (List ℕ))). AreSearchesOf by_plan c.args.history.now lines c.add.new.self.slots.items c.add.new.self.testers.items)
    (sym (lines_more c.args.lines.now c.loop-line.line-index c.line-item.result c.line.result.words.now c.loop-line-test.true c.line-item.is
    c.line.ensures.words))
    (c.in_ok-add.ensures.added (map words_in (take c.loop-line.line-index c.args.lines.now)) c.loop-line.invariant)
