use Rattle.bf_farm.proofs.Noted.{tests_stay}
use Rattle.bf_core.proofs.Joining.{if_ok_map}
use Rattle.bf_farm.proofs.Asked.{on_ok}
use Rattle.bf_farm.proofs.Gaining.{gains_kept, gains_then}
use Rattle.bf_farm.proofs.Soundness.{among_itself}
use Rattle.bf_farm.proofs.alone.take_turn.Goals as goal

pub returns-in-Some-clause-sound : goal.returns-in-Some-clause-sound
returns-in-Some-clause-sound g c =
    on_ok c.test_claimed.result
    (λ keeps sound. keeps (c.in_ok-place.ensures.sound (g.T.Tester.told c.args.tester.now) c.args.names.now (g.T.Tester.answers c.args.tester.now) sound))
    c.test_claimed.ensures.sound

pub returns-in-Some-clause-alone : goal.returns-in-Some-clause-alone
returns-in-Some-clause-alone g c =
    if_ok_map c.test_claimed.result (λ turn tests. tests c.args.board.now.events (rw c.in-Some.is at c.in_ok-place.ensures.noted))
    c.test_claimed.ensures.alone

pub returns-in-None-clause-alone : goal.returns-in-None-clause-alone
returns-in-None-clause-alone g c =
    tests_stay (g.T.Tester.answers c.args.tester.now) c.args.board.now.events c.next_place.new.board.events (rw c.in-None.is at c.in_ok-place.ensures.noted)

pub returns-in-None-clause-sound : goal.returns-in-None-clause-sound
returns-in-None-clause-sound g c = c.in_ok-place.ensures.sound (g.T.Tester.told c.args.tester.now) c.args.names.now (g.T.Tester.answers c.args.tester.now)

pub returns-in-Some-clause-gains : goal.returns-in-Some-clause-gains
returns-in-Some-clause-gains g c =
    on_ok c.test_claimed.result
    (λ gains. gains_then c.args.names.now (g.T.Tester.answers c.args.tester.now) (g.T.Tester.answers c.args.tester.now)
    (g.T.Tester.answers c.test_claimed.new.tester)
    c.args.board.now.core c.next_place.new.board.core c.test_claimed.new.board.core c.in_ok-place.ensures.start
    (gains_kept c.args.names.now (g.T.Tester.answers c.args.tester.now) c.args.board.now.core c.next_place.new.board.core c.in_ok-place.ensures.start
    c.in_ok-place.ensures.table) gains)
    c.test_claimed.ensures.gains

pub returns-in-None-clause-gains : goal.returns-in-None-clause-gains
returns-in-None-clause-gains g c =
    gains_kept c.args.names.now (g.T.Tester.answers c.args.tester.now) c.args.board.now.core c.next_place.new.board.core c.in_ok-place.ensures.start
    c.in_ok-place.ensures.table

pub returns-in_err-place-clause-own : goal.returns-in_err-place-clause-own
returns-in_err-place-clause-own g c = among_itself (g.T.Tester.answers c.args.tester.now)

pub returns-in-None-clause-own : goal.returns-in-None-clause-own
returns-in-None-clause-own g c = among_itself (g.T.Tester.answers c.args.tester.now)
