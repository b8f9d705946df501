use Rattle.std.proofs.Common.{List, Option, refl, sym, ap, subst, ◌∙◌, arith}
use Rattle.bf_search.specs.declared.outcomes.Outcome.{Outcome}
use Rattle.bf_farm.specs.Reports.{Manner}
use Rattle.bf_farm.specs.Sound.{IsSound}
use Rattle.bf_farm.proofs.Gaining.{gains_then}
use Rattle.bf_farm.proofs.Noted.{tests_stay, tests_then}
use Rattle.bf_farm.proofs.Soundness.{among_itself, among_then, start_then}
use Rattle.bf_farm.proofs.alone.go_on.Goals as goal

pub loop-place-init : goal.loop-place-init
loop-place-init g c = record {
  sound = λ sound. sound;
  gains = λ over first before gained. gained;
  start = record { setting = refl; first = refl };
  first = refl;
  manner = refl;
  own = among_itself (g.T.Tester.answers c.args.tester.now);
  is_split = refl;
  faults = omega arith;
  claims = c.requires.claims;
  len = refl;
  alone = tests_stay (g.T.Tester.answers c.args.tester.now) c.args.board.now.events c.args.board.now.events refl;
}

pub loop-place-preserved : goal.loop-place-preserved
loop-place-preserved g c = record {
  sound = λ sound.
      let told = ap (λ (m : Manner). m.told) c.loop-place.invariant.manner in
      subst (λ (t : Option (List Outcome)). IsSound t c.args.names.now (g.T.Tester.answers c.take_turn.new.tester) c.take_turn.new.board) told
      (c.in_ok-take_turn.ensures.sound
      (subst (λ (t : Option (List Outcome)). IsSound t c.args.names.now (g.T.Tester.answers c.loop-place.tester) c.loop-place.board) (sym told)
      (c.loop-place.invariant.sound sound)));
  gains = gains_then c.args.names.now (g.T.Tester.answers c.args.tester.now) (g.T.Tester.answers c.loop-place.tester)
      (g.T.Tester.answers c.take_turn.new.tester) c.args.board.now.core c.loop-place.board.core c.take_turn.new.board.core
      c.loop-place.invariant.start c.loop-place.invariant.gains c.in_ok-take_turn.ensures.gains;
  start = start_then c.args.board.now c.loop-place.board c.take_turn.new.board c.loop-place.invariant.start c.in_ok-take_turn.ensures.start;
  first = c.in_ok-take_turn.ensures.first ∙ c.loop-place.invariant.first;
  manner = c.take_turn.ensures.manner ∙ c.loop-place.invariant.manner;
  own = among_then (g.T.Tester.answers c.args.tester.now) (g.T.Tester.answers c.loop-place.tester) (g.T.Tester.answers c.take_turn.new.tester)
      c.take_turn.ensures.own c.loop-place.invariant.own;
  is_split = c.take_turn.ensures.is_split ∙ c.loop-place.invariant.is_split;
  faults = (let before = c.loop-place.invariant.faults in let now = c.take_turn.ensures.faults in omega arith);
  claims = rw c.in-GoesOn.is at c.in_ok-take_turn.ensures.ends;
  len = c.in_ok-take_turn.ensures.len ∙ c.loop-place.invariant.len;
  alone = tests_then c.args.board.now.events c.loop-place.board.events c.take_turn.new.board.events (g.T.Tester.answers c.args.tester.now)
      (g.T.Tester.answers c.loop-place.tester) (g.T.Tester.answers c.take_turn.new.tester) _ c.loop-place.invariant.alone
      (rw c.in-GoesOn.is at c.in_ok-take_turn.ensures.alone);
}

pub returns-in-Ended-clause-alone : goal.returns-in-Ended-clause-alone
returns-in-Ended-clause-alone g c =
    tests_then c.args.board.now.events c.loop-place.board.events c.take_turn.new.board.events (g.T.Tester.answers c.args.tester.now)
    (g.T.Tester.answers c.loop-place.tester) (g.T.Tester.answers c.take_turn.new.tester) _ c.loop-place.invariant.alone
    (rw c.in-Ended.is at c.in_ok-take_turn.ensures.alone)

pub returns-in-Failed-clause-alone : goal.returns-in-Failed-clause-alone
returns-in-Failed-clause-alone g c =
    tests_then c.args.board.now.events c.loop-place.board.events c.take_turn.new.board.events (g.T.Tester.answers c.args.tester.now)
    (g.T.Tester.answers c.loop-place.tester) (g.T.Tester.answers c.take_turn.new.tester) _ c.loop-place.invariant.alone
    (rw c.in-Failed.is at c.in_ok-take_turn.ensures.alone)

pub returns-in-Ended-clause-own : goal.returns-in-Ended-clause-own
returns-in-Ended-clause-own g c =
    among_then (g.T.Tester.answers c.args.tester.now) (g.T.Tester.answers c.loop-place.tester) (g.T.Tester.answers c.take_turn.new.tester)
    c.take_turn.ensures.own c.loop-place.invariant.own

pub returns-in-Failed-clause-own : goal.returns-in-Failed-clause-own
returns-in-Failed-clause-own g c =
    among_then (g.T.Tester.answers c.args.tester.now) (g.T.Tester.answers c.loop-place.tester) (g.T.Tester.answers c.take_turn.new.tester)
    c.take_turn.ensures.own c.loop-place.invariant.own

pub returns-in_err-take_turn-clause-own : goal.returns-in_err-take_turn-clause-own
returns-in_err-take_turn-clause-own g c =
    among_then (g.T.Tester.answers c.args.tester.now) (g.T.Tester.answers c.loop-place.tester) (g.T.Tester.answers c.take_turn.new.tester)
    c.take_turn.ensures.own c.loop-place.invariant.own
