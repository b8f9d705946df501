use Rattle.std.proofs.Common.{ℕ, List, Option, sym, ap, subst}
use Rattle.bf_search.specs.declared.outcomes.Outcome.{Outcome}
use Rattle.bf_farm.specs.Answering.{HasFault}
use Rattle.bf_farm.specs.Doers.{AreDoneBy}
use Rattle.bf_farm.specs.Reports.{Manner}
use Rattle.bf_farm.specs.Sound.{IsSound}
use Rattle.bf_farm.specs.Workers.{answers_of}
use Rattle.bf_farm.proofs.Noted.{tests_are_own}
use Rattle.bf_farm.proofs.Posting.{posts_then_tests}
use Rattle.bf_farm.proofs.Soundness.{among_itself, among_then, table_wider}
use Rattle.bf_farm.proofs.Teams.{parts_of_team}
use Rattle.bf_farm.proofs.farm.run_farm.Goals as goal

pub absorb_all-requires-after_bounds : goal.absorb_all-requires-after_bounds
absorb_all-requires-after_bounds g c = λ κs lives k d l. (c.in_ok-team.ensures.parts k d l).0

pub finish-requires-clause-sound : goal.finish-requires-clause-sound
finish-requires-clause-sound g c = λ κs lives.
    subst (λ (t : Option (List Outcome)). IsSound t c.args.case.names.now (g.T.Tester.answers c.absorb_all.new.tester) c.in_ok-board.board)
    (sym (ap (λ (m : Manner). m.told) c.in_ok-absorb_all.ensures.manner))
    (c.in_ok-board.ensures.sound (g.T.Tester.told c.args.tester.now) (g.T.Tester.answers c.absorb_all.new.tester)
    (parts_of_team g.T.Tester c.args.tester.now c.absorb_all.new.tester c.in_ok-team.team.workers.items c.in_ok-team.ensures.parts
    c.in_ok-absorb_all.ensures.absorbed)
    (table_wider c.args.case.names.now (g.T.Tester.answers c.absorb_all.new.tester) (g.T.Tester.answers c.args.tester.now) c.args.case.table
    c.in_ok-absorb_all.ensures.own c.requires.known)
    c.requires.plan)

pub returns-clause-workers : goal.returns-clause-workers
returns-clause-workers g c = record {
  shared = c.in_ok-board.board.events;
  by_workers = subst (λ (n : ℕ). AreDoneBy n c.in_ok-board.board.events) c.in_ok-team.ensures.count c.in_ok-board.ensures.workers;
  then_own = tests_are_own c.in_ok-board.board.events c.in_ok-report.report.events.items _ _ _ c.in_ok-report.ensures.alone;
}

pub returns-clause-fault : goal.returns-clause-fault
returns-clause-fault g c =
    subst (λ (n : ℕ). HasFault n (g.T.Tester.faults c.finish.new.tester) (g.T.Tester.failed c.finish.new.tester) c.in_ok-report.report)
    c.in_ok-absorb_all.ensures.faults c.in_ok-report.ensures.fault

pub returns-in_err-team-clause-own : goal.returns-in_err-team-clause-own
returns-in_err-team-clause-own g c = among_itself (g.T.Tester.answers c.args.tester.now)

pub returns-in_err-board-clause-own : goal.returns-in_err-board-clause-own
returns-in_err-board-clause-own g c = among_itself (g.T.Tester.answers c.args.tester.now)

pub returns-in_err-report-clause-own : goal.returns-in_err-report-clause-own
returns-in_err-report-clause-own g c =
    among_then (g.T.Tester.answers c.args.tester.now) (g.T.Tester.answers c.absorb_all.new.tester) (g.T.Tester.answers c.finish.new.tester)
    c.finish.ensures.own c.in_ok-absorb_all.ensures.own

pub returns-clause-own : goal.returns-clause-own
returns-clause-own g c =
    among_then (g.T.Tester.answers c.args.tester.now) (g.T.Tester.answers c.absorb_all.new.tester) (g.T.Tester.answers c.finish.new.tester)
    c.finish.ensures.own c.in_ok-absorb_all.ensures.own

pub returns-clause-posted : goal.returns-clause-posted
returns-clause-posted g c =
    posts_then_tests c.args.case.names.now (g.T.Tester.answers c.args.tester.now) (g.T.Tester.answers c.absorb_all.new.tester)
    (g.T.Tester.answers c.finish.new.tester) c.in_ok-report.report.used.items c.in_ok-board.board.core.farm.table c.in_ok-board.board.events
    c.in_ok-report.report.events.items _
    (record {
      gained = answers_of g.T.Tester c.in_ok-team.team.workers.items;
      added = c.in_ok-absorb_all.ensures.gained;
      posted = c.in_ok-board.ensures.posted;
    })
    c.in_ok-report.ensures.alone c.in_ok-report.ensures.lacking c.in_ok-report.ensures.report.named
