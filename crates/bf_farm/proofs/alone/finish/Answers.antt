use Rattle.bf_farm.proofs.Noted.{tests_reported}
use Rattle.bf_farm.proofs.Gaining.{gained_none}
use Rattle.bf_farm.proofs.Promised.{lacking_told, halves_told, over_before}
use Rattle.bf_farm.proofs.Reporting.{sound_report, stops_of, fault_told, same_report, same_history}
use Rattle.bf_farm.proofs.alone.finish.Goals as goal

pub report_of-requires-clause-stops : goal.report_of-requires-clause-stops
report_of-requires-clause-stops g c = stops_of c.go_on.new.board.core _ _ _ c.in_ok-failed.failed c.in_ok-failed.ensures.ends

pub returns-clause-report : goal.returns-clause-report
returns-clause-report g c = same_report c.args.board.core c.go_on.new.board.core c.args.names.now c.in_ok-report.report c.in_ok-failed.ensures.start
    c.in_ok-report.ensures.report

pub returns-clause-history : goal.returns-clause-history
returns-clause-history g c = same_history c.args.board c.go_on.new.board c.in_ok-report.report c.in_ok-failed.ensures.start
    c.in_ok-failed.ensures.first c.in_ok-report.ensures.history

pub returns-clause-sound : goal.returns-clause-sound
returns-clause-sound g c =
    sound_report (g.T.Tester.told c.args.tester.now) c.args.names.now (g.T.Tester.answers c.go_on.new.tester) c.go_on.new.board c.in_ok-report.report
    (c.in_ok-failed.ensures.sound c.requires.sound) c.in_ok-report.ensures.table c.in_ok-report.ensures.events c.in_ok-report.ensures.used
    c.in_ok-report.ensures.report.named

pub returns-clause-fault : goal.returns-clause-fault
returns-clause-fault g c =
    fault_told c.go_on.new.board.core c.args.names.now _ _ _ c.in_ok-failed.failed c.in_ok-report.report c.in_ok-failed.ensures.ends
    c.in_ok-report.ensures.report c.in_ok-report.ensures.table

pub returns-clause-lacking : goal.returns-clause-lacking
returns-clause-lacking g c =
    lacking_told c.args.names.now c.args.board.core.farm.table (g.T.Tester.answers c.args.tester.now) (g.T.Tester.answers c.go_on.new.tester)
    c.go_on.new.board.core c.go_on.new.board.core.first c.in_ok-report.report
    (c.in_ok-failed.ensures.gains
    (over_before c.args.board.core c.go_on.new.board.core c.in_ok-failed.ensures.start c.in_ok-report.ensures.over) c.args.board.core.farm.table
    (g.T.Tester.answers c.args.tester.now)
    (gained_none c.args.names.now c.args.board.core (g.T.Tester.answers c.args.tester.now)))
    c.in_ok-report.ensures.report c.in_ok-report.ensures.table

pub returns-clause-halving : goal.returns-clause-halving
returns-clause-halving g c =
    halves_told c.args.board.core.setting c.args.board.core.first c.args.names.now c.in_ok-report.report
    (over_before c.args.board.core c.go_on.new.board.core c.in_ok-failed.ensures.start c.in_ok-report.ensures.over) (returns-clause-report g c)

pub returns-clause-alone : goal.returns-clause-alone
returns-clause-alone g c =
    tests_reported c.args.board.events (g.T.Tester.answers c.args.tester.now) (g.T.Tester.answers c.go_on.new.tester) c.go_on.new.board.core
    c.go_on.new.board.events c.args.names.now c.in_ok-failed.failed c.in_ok-report.report c.in_ok-failed.ensures.alone
    (stops_of c.go_on.new.board.core _ _ _ c.in_ok-failed.failed c.in_ok-failed.ensures.ends) c.in_ok-report.ensures.report
    c.in_ok-report.ensures.table c.in_ok-report.ensures.events
