use Rattle.std.proofs.Common.{map, take}
use Rattle.bf_tester.specs.contracts.plan_tester.PlanTesterTester.TheImpl.{ghosts as by_plan}
use Rattle.bf_many_run.specs.Groups.{AreSearchesOf}
use Rattle.bf_many_run.specs.Lists.{words_in}
use Rattle.bf_many_run.proofs.slots.begin_all.Given as goal

-- the searches of the lines so far
abbrev pub invariant-loop-line : goal.invariant-loop-line
invariant-loop-line l = AreSearchesOf by_plan l.history (map words_in (take l.line-index l.lines)) l.group.slots.items l.group.testers.items
