use Rattle.std.proofs.lemmas.Option.{slice_get-get_or}
use Rattle.bf_farm.proofs.Soundness.{among_before, among_same, sound_tested, sound_untested}
use Rattle.bf_search.specs.declared.farm.Event.TheVariants as events
use Rattle.bf_farm.proofs.Asked.{fewer_after, one_stands}
use Rattle.bf_farm.proofs.Noted.{tested_once, failed_once}
use Rattle.bf_farm.proofs.Gaining.{gains_done, gains_none}
use Rattle.bf_farm.proofs.History.{done_where}
use Rattle.bf_farm.proofs.alone.test_claimed.Goals as goal

pub returns-in_ok-post-in-Done-clause-sound : goal.returns-in_ok-post-in-Done-clause-sound
returns-in_ok-post-in-Done-clause-sound g c = λ sound.
    sound_tested (g.T.Tester.told c.args.tester.now) c.args.names.now (g.T.Tester.answers c.args.tester.now) (g.T.Tester.answers c.test.new.self)
    _ c.args.board.now c.post.new.self 0 c.args.place c.in-Done.outcome _ c.in-Done.ensures.answers
    (slice_get-get_or c.args.names.now c.args.place _ c.requires.named) c.in-Done.ensures.planned
    c.in_ok-post-in-Done.ensures.done sound

pub returns-in-Failed-clause-sound : goal.returns-in-Failed-clause-sound
returns-in-Failed-clause-sound g c = λ sound.
    sound_untested (g.T.Tester.told c.args.tester.now) c.args.names.now (g.T.Tester.answers c.args.tester.now) (g.T.Tester.answers c.test.new.self)
    _ c.args.board.now c.give.new.self 0 c.args.place c.in-Failed.ensures.answers c.give.ensures sound

pub returns-in_ok-post-in-Done-clause-fewer : goal.returns-in_ok-post-in-Done-clause-fewer
returns-in_ok-post-in-Done-clause-fewer g c = λ goes.
    fewer_after c.args.board.now c.post.new.self c.args.place c.in-Done.outcome c.requires.within c.requires.asking
    (done_where _ c.args.board.now c.post.new.self (events.Post 0 c.args.place c.in-Done.outcome) c.in_ok-post-in-Done.ensures.done
    (one_stands c.args.board.now.core c.args.place c.requires.asking))

pub returns-in_ok-post-in-Done-clause-gains : goal.returns-in_ok-post-in-Done-clause-gains
returns-in_ok-post-in-Done-clause-gains g c =
    gains_done c.args.names.now (g.T.Tester.answers c.args.tester.now) (g.T.Tester.answers c.test.new.self) c.args.board.now c.post.new.self c.args.place _
    c.in-Done.outcome c.requires.asking c.requires.within c.in_ok-post-in-Done.ensures.done
    (slice_get-get_or c.args.names.now c.args.place _ c.requires.named) c.in-Done.ensures.answers

pub returns-in-Failed-clause-gains : goal.returns-in-Failed-clause-gains
returns-in-Failed-clause-gains g c =
    gains_none c.args.names.now (g.T.Tester.answers c.args.tester.now) (g.T.Tester.answers c.test.new.self) c.args.board.now c.give.new.self c.args.place
    c.requires.asking c.give.ensures c.in-Failed.ensures.answers

pub returns-in_ok-post-in-Done-clause-alone : goal.returns-in_ok-post-in-Done-clause-alone
returns-in_ok-post-in-Done-clause-alone g c = λ earlier.
    let done = done_where _ c.args.board.now c.post.new.self (events.Post 0 c.args.place c.in-Done.outcome) c.in_ok-post-in-Done.ensures.done
    (one_stands c.args.board.now.core c.args.place c.requires.asking) in
    tested_once (g.T.Tester.answers c.args.tester.now) (g.T.Tester.answers c.test.new.self) earlier c.args.board.now.events
    c.post.new.self.events c.args.place _ c.in-Done.outcome c.in-Done.ensures.answers done.noted

pub returns-in-Failed-clause-alone : goal.returns-in-Failed-clause-alone
returns-in-Failed-clause-alone g c = λ earlier.
    let done = done_where _ c.args.board.now c.give.new.self (events.Give 0 c.args.place) c.give.ensures
    (one_stands c.args.board.now.core c.args.place c.requires.asking) in
    failed_once (g.T.Tester.answers c.args.tester.now) (g.T.Tester.answers c.test.new.self) earlier c.args.board.now.events
    c.give.new.self.events c.args.place c.in-Failed.ensures.answers done.noted

pub returns-in_ok-post-in-Done-clause-own : goal.returns-in_ok-post-in-Done-clause-own
returns-in_ok-post-in-Done-clause-own g c =
    among_before (g.T.Tester.answers c.test.new.self) (g.T.Tester.answers c.args.tester.now) _ c.in-Done.ensures.answers

pub returns-in_err-post-in-Done-clause-own : goal.returns-in_err-post-in-Done-clause-own
returns-in_err-post-in-Done-clause-own g c =
    among_before (g.T.Tester.answers c.test.new.self) (g.T.Tester.answers c.args.tester.now) _ c.in-Done.ensures.answers

pub returns-in-Failed-clause-own : goal.returns-in-Failed-clause-own
returns-in-Failed-clause-own g c =
    among_same (g.T.Tester.answers c.test.new.self) (g.T.Tester.answers c.args.tester.now) c.in-Failed.ensures.answers

pub returns-in-NoMemory-clause-own : goal.returns-in-NoMemory-clause-own
returns-in-NoMemory-clause-own g c =
    among_same (g.T.Tester.answers c.test.new.self) (g.T.Tester.answers c.args.tester.now) c.in-NoMemory.ensures.answers
