use Rattle.std.proofs.Common.{List, Option, subst}
use Rattle.bf_search.specs.declared.outcomes.Outcome.{Outcome}
use Rattle.bf_search.specs.Farm.{Setting, Farm}
use Rattle.bf_state.specs.Session.{Session}
use Rattle.bf_farm.specs.Answering.{IsReport, HasHistory, Halves}
use Rattle.bf_farm.specs.Testers.{GainsLacking}
use Rattle.bf_farm.proofs.Noted.{alone_told}
use Rattle.bf_farm.proofs.Posting.{gains_no_posts, posts_then_tests}
use Rattle.bf_farm.proofs.Reporting.{sound_start}
use Rattle.bf_farm.proofs.Soundness.{among_itself}
use Rattle.bf_farm.proofs.alone.run_alone.Goals as goal

pub finish-requires-clause-sound : goal.finish-requires-clause-sound
finish-requires-clause-sound g c = λ κs lives.
    sound_start (g.T.Tester.told c.args.tester.now) c.args.case.names.now (g.T.Tester.answers c.args.tester.now) c.in_ok-board.board c.args.case.table
    c.in_ok-board.ensures.farm c.in_ok-board.ensures.events c.requires.known c.requires.plan

pub returns-clause-report : goal.returns-clause-report
returns-clause-report g c =
    subst (λ (s : Setting). IsReport s c.args.case.state c.args.case.names.now c.in_ok-report.report) c.in_ok-board.ensures.setting
    (subst (λ (f : Session). IsReport c.in_ok-board.board.core.setting f c.args.case.names.now c.in_ok-report.report) c.in_ok-board.ensures.state
    c.in_ok-report.ensures.report)

pub returns-clause-history : goal.returns-clause-history
returns-clause-history g c =
    subst (λ (s : Setting). HasHistory s c.args.case.table c.in_ok-report.report) c.in_ok-board.ensures.setting
    (subst (λ (t : List (Option Outcome)). HasHistory c.in_ok-board.board.core.setting t c.in_ok-report.report) c.in_ok-board.ensures.first
    c.in_ok-report.ensures.history)

pub returns-clause-lacking : goal.returns-clause-lacking
returns-clause-lacking g c =
    subst (λ (f : Farm). GainsLacking g.T.Tester c.args.tester.now c.finish.new.tester f.table c.in_ok-report.report)
    c.in_ok-board.ensures.farm c.in_ok-report.ensures.lacking

pub returns-clause-alone : goal.returns-clause-alone
returns-clause-alone g c =
    alone_told c.args.case.table (g.T.Tester.answers c.args.tester.now) (g.T.Tester.answers c.finish.new.tester) c.in_ok-board.board.events
    c.in_ok-report.report c.in_ok-board.ensures.events c.in_ok-report.ensures.alone (returns-clause-lacking g c)

pub returns-clause-halving : goal.returns-clause-halving
returns-clause-halving g c =
    subst (λ (s : Setting). Halves s c.in_ok-report.report) c.in_ok-board.ensures.setting c.in_ok-report.ensures.halving

pub returns-in_err-board-clause-own : goal.returns-in_err-board-clause-own
returns-in_err-board-clause-own g c = among_itself (g.T.Tester.answers c.args.tester.now)

pub returns-clause-posted : goal.returns-clause-posted
returns-clause-posted g c =
    posts_then_tests c.args.case.names.now (g.T.Tester.answers c.args.tester.now) (g.T.Tester.answers c.args.tester.now)
    (g.T.Tester.answers c.finish.new.tester) c.in_ok-report.report.used.items c.args.case.table c.in_ok-board.board.events
    c.in_ok-report.report.events.items _
    (gains_no_posts c.args.case.names.now (g.T.Tester.answers c.args.tester.now) c.in_ok-board.board.events c.in_ok-board.ensures.events)
    c.in_ok-report.ensures.alone (returns-clause-lacking g c) c.in_ok-report.ensures.report.named
