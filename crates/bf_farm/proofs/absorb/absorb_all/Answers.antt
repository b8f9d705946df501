use Rattle.std.proofs.Common.{◌≡◌, List, ◌++◌, length, refl, sym, ap, subst, ◌∙◌, arith}
use Rattle.std.proofs.lemmas.List.{append-nil, flat_map_more}
use Rattle.std.proofs.lemmas.List.Elements.{All-push}
use Rattle.bf_tester.specs.declared.answer.Answer.{Answer}
use Rattle.bf_farm.specs.declared.worker.Worker.{Worker}
use Rattle.bf_farm.specs.Testers.{KeepsManner, HasAnswersOf}
use Rattle.bf_farm.specs.Workers.{HasAllAnswersOf, GainsAnswersOf}
use Rattle.bf_farm.proofs.Rests.{next_of_rest, one_taken, all_taken}
use Rattle.bf_farm.proofs.Soundness.{among_itself, among_then}
use Rattle.bf_farm.proofs.absorb.absorb_all.Goals as goal

pub loop-worker-init : goal.loop-worker-init
loop-worker-init g c = record {
  manner = refl;
  is_split = refl;
  faults = refl;
  own = among_itself (g.T.Tester.answers c.args.tester.now);
  absorbed = λ k d l. absurd (omega arith);
  gained = sym (append-nil (g.T.Tester.answers c.args.tester.now));
  rest = c.into_iter-worker-iterator.ensures.into_iter_gives.0;
}

pub absorb-requires-after_bounds : goal.absorb-requires-after_bounds
absorb-requires-after_bounds g c = λ κs lives.
    next_of_rest (λ (w : Worker g.row.T.Denot). KeepsManner g.T.Tester c.args.tester.now w.tester)
    c.args.workers.items c.loop-worker.yielded c.loop-worker.worker-iterator.rest.items c.next.new.self.rest.items c.in-Some.worker
    c.loop-worker.invariant.rest c.in-Some.ensures.steps.0 c.requires
    ∙ sym c.loop-worker.invariant.manner

pub loop-worker-preserved : goal.loop-worker-preserved
loop-worker-preserved g c = record {
  manner = c.absorb.ensures.manner ∙ c.loop-worker.invariant.manner;
  is_split = c.absorb.ensures.is_split ∙ c.loop-worker.invariant.is_split;
  faults = c.absorb.ensures.faults ∙ c.loop-worker.invariant.faults;
  own = among_then (g.T.Tester.answers c.args.tester.now) (g.T.Tester.answers c.loop-worker.tester) (g.T.Tester.answers c.absorb.new.tester)
      c.absorb.ensures.own c.loop-worker.invariant.own;
  absorbed = All-push (λ (w : Worker g.row.T.Denot). HasAnswersOf g.T.Tester c.absorb.new.tester w.tester)
      c.loop-worker.yielded c.in-Some.worker
      (λ k d l. among_then _ (g.T.Tester.answers c.loop-worker.tester) (g.T.Tester.answers c.absorb.new.tester) c.absorb.ensures.own
      (c.loop-worker.invariant.absorbed k d l))
      c.in_ok-absorb.ensures.absorbed;
  gained = c.in_ok-absorb.ensures.gained ∙ ap (λ (l : List Answer). l ++ g.T.Tester.answers c.in-Some.worker.tester) c.loop-worker.invariant.gained
      ∙ flat_map_more (λ (w : Worker g.row.T.Denot). g.T.Tester.answers w.tester) (g.T.Tester.answers c.args.tester.now) c.loop-worker.yielded
      c.in-Some.worker;
  rest = one_taken c.args.workers.items c.loop-worker.yielded c.loop-worker.worker-iterator.rest.items c.next.new.self.rest.items c.in-Some.worker
      c.loop-worker.invariant.rest c.in-Some.ensures.steps.0;
}

pub returns-in_err-absorb-clause-own : goal.returns-in_err-absorb-clause-own
returns-in_err-absorb-clause-own g c =
    among_then (g.T.Tester.answers c.args.tester.now) (g.T.Tester.answers c.loop-worker.tester) (g.T.Tester.answers c.absorb.new.tester)
    c.absorb.ensures.own c.loop-worker.invariant.own

pub returns-clause-absorbed : goal.returns-clause-absorbed
returns-clause-absorbed g c =
    let none : length c.loop-worker.worker-iterator.rest.items ≡ 0 = omega (arith, c.in-None.ensures.steps.0, c.loop-worker.worker-iterator.rest.ok.0) in
    subst (λ (l : List (Worker g.row.T.Denot)). HasAllAnswersOf g.T.Tester c.loop-worker.tester l)
    (all_taken c.args.workers.items c.loop-worker.yielded c.loop-worker.worker-iterator.rest.items c.loop-worker.invariant.rest none)
    c.loop-worker.invariant.absorbed

pub returns-clause-gained : goal.returns-clause-gained
returns-clause-gained g c =
    let none : length c.loop-worker.worker-iterator.rest.items ≡ 0 = omega (arith, c.in-None.ensures.steps.0, c.loop-worker.worker-iterator.rest.ok.0) in
    subst (λ (l : List (Worker g.row.T.Denot)). GainsAnswersOf g.T.Tester c.args.tester.now c.loop-worker.tester l)
    (all_taken c.args.workers.items c.loop-worker.yielded c.loop-worker.worker-iterator.rest.items c.loop-worker.invariant.rest none)
    c.loop-worker.invariant.gained
