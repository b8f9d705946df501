use Rattle.std.proofs.Common.{length, refl, sym, ◌∙◌}
use Rattle.std.proofs.lemmas.Option.{slice_get_read}
use Rattle.bf_many.specs.Cores.{machine_of}
use Rattle.bf_serve.specs.Searches.{learned}
use Rattle.bf_serve.proofs.Learning.{free_in}
use Rattle.bf_serve.proofs.Learning.{served_learnt}
use Rattle.bf_serve.proofs.Moving.{knows_learned}
use Rattle.bf_serve.proofs.Sessions.{can_tell, idle_at, learnt, left_read, now_at}
use Rattle.bf_serve.proofs.Texts.{on_ok}
use Rattle.bf_serve.proofs.session.Session.learn_at.Goals as goal

pub standing_of-standing-requires : goal.standing_of-standing-requires
standing_of-standing-requires c =
    left_read c.args.self.now c.args.search c.core-core.result.now c.index-2.result.now c.requires.serving c.core-core.ensures c.index-2.ensures

pub learn-requires : goal.learn-requires
learn-requires c =
    free_in c.args.self.now c.args.search c.args.place c.core-core.result.now c.requires.serving c.core-core.ensures c.requires.place
    (sym c.has_outcome.ensures ∙ c.if-has_outcome.false) (sym c.is_tested.ensures ∙ c.if-is_tested.false)

pub tell-requires : goal.tell-requires
tell-requires c =
    let to = learnt c.args.self.now c.learn.new.self c.args.search c.args.place c.read-outcome.result c.core-core.result.now c.requires.serving
    c.core-core.ensures c.in_ok-withdrawn.ensures.learnt in
    record {
      can = can_tell c.args.self.now c.learn.new.self c.args.search c.core-core.result.now
          (learned (machine_of c.core-core.result.now) c.args.place c.read-outcome.result) c.in_ok-withdrawn.withdrawn.workers.items
          c.requires.serving to c.learn.ensures.consumed c.in_ok-withdrawn.ensures.ascending c.in_ok-withdrawn.ensures.withdrawn;
    }

pub returns : goal.returns
returns c = λ opening m opened at.
    let core = c.core-core.result.now in
    let read = slice_get_read c.args.self.now.openings.items (length c.args.self.now.openings.items) c.args.search c.index.result.now refl
    c.requires.search c.index.ensures in
    on_ok c.put_done.result
    (λ h. served_learnt c.args.self.now c.tell.new.self c.learn.new.self c.args.search c.args.place c.args.outcome c.read-outcome.result core
    c.index.result.now opening m c.args.out.now c.tell.new.out c.put_done.new.out c.requires.serving c.core-core.ensures read opened at
    (sym c.has_outcome.ensures ∙ c.if-has_outcome.false) (sym c.is_tested.ensures ∙ c.if-is_tested.false) c.read-outcome.ensures
    c.in_ok-withdrawn.ensures.learnt c.learn.ensures.consumed
    (λ x after. c.in_ok-tell.ensures c.index.result.now (machine_of core) x read (idle_at c.args.self.now c.args.search core c.requires.serving c.core-core.ensures)
    after c.standing_of-standing.ensures
    (knows_learned core x c.args.place c.read-outcome.result (sym c.has_outcome.ensures ∙ c.if-has_outcome.false)
    (now_at c.args.self.now.many c.learn.new.self c.args.search (machine_of core) (learned (machine_of core) c.args.place c.read-outcome.result) x
    (learnt c.args.self.now c.learn.new.self c.args.search c.args.place c.read-outcome.result core c.requires.serving c.core-core.ensures
    c.in_ok-withdrawn.ensures.learnt).change after))) h)
    c.put_done.ensures
