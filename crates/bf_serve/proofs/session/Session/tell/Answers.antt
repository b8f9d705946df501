use Rattle.std.proofs.Common.{◌≡◌, ℕ, List, length, refl, sym, subst, ◌∙◌, arith}
use Rattle.std.proofs.lemmas.Option.{slice_get_read}
use Rattle.bf_core.specs.Machine.{IsConsumed, Machine}
use Rattle.bf_many.specs.Cores.{machine_of, machines_of}
use Rattle.bf_many.proofs.Lists.{get-map}
use Rattle.bf_many.proofs.Picking.{all_at}
use Rattle.bf_serve.specs.declared.opening.Opening.{Opening}
use Rattle.bf_serve.specs.Searches.{needless}
use Rattle.bf_serve.specs.Steps.{IsOver, KnowsNoLess, TellsChange}
use Rattle.bf_serve.proofs.Changing.{some_is, told_change}
use Rattle.bf_serve.proofs.Needless.{core_needless}
use Rattle.bf_serve.proofs.Texts.{on_ok}
use Rattle.bf_serve.proofs.session.Session.tell.Goals as goal

pub put_news-requires-clause-over : goal.put_news-requires-clause-over
put_news-requires-clause-over c =
    subst (λ (graph : List (List ℕ)). IsOver graph (machine_of c.core-core.result.now)) (sym c.requires.can.reach)
    (all_at (IsOver c.args.self.now.history.now.parents) (machines_of c.args.self.now.many) c.args.search (machine_of c.core-core.result.now)
    c.requires.can.over (get-map machine_of c.args.self.now.many c.args.search c.core-core.result.now c.core-core.ensures))

pub put_news-requires-clause-consumed : goal.put_news-requires-clause-consumed
put_news-requires-clause-consumed c =
    all_at IsConsumed c.args.self.now.many c.args.search c.core-core.result.now c.requires.can.consumed c.core-core.ensures

pub returns : goal.returns
returns c = λ opening before core opened idle at stands knows.
    let there = slice_get_read c.args.self.now.openings.items (length c.args.self.now.openings.items) c.args.search c.index_mut-opening.result.now refl
    (let l = c.requires.can.below in let e = c.requires.can.each in omega (arith, l, e)) c.index_mut-opening.ensures.value in
    let same : c.index_mut-opening.result.now ≡ opening = some_is (sym there ∙ opened) in
    let core_same : c.core-core.result.now ≡ core = some_is (sym c.core-core.ensures ∙ at) in
    on_ok c.remember.result
    (λ h. subst (λ (o : Opening). TellsChange c.args.self.now c.remember.new.self c.args.search o before (machine_of core) c.args.out.now c.remember.new.out)
    same
    (subst (λ (m : Machine). TellsChange c.args.self.now c.remember.new.self c.args.search c.index_mut-opening.result.now before (machine_of m)
    c.args.out.now c.remember.new.out) core_same
    (told_change c.args.self.now _ c.remember.new.self c.args.search c.index_mut-opening.result.now c.put_news.new.opening before
    (machine_of c.core-core.result.now) c.from_vec.result c.in_ok-remaining.remaining c.args.out.now c.put_news.new.out c.remember.new.out
    (c.in_ok-remaining.ensures before stands
    (subst (λ (m : Machine). KnowsNoLess before (machine_of m)) (sym core_same) knows)) refl refl refl refl refl refl refl h
    (c.from_vec.ensures
    ∙ core_needless c.args.self.now.history.now.parents c.core-core.result.now c.args.workers.items c.requires.can.parents
    (all_at (IsOver c.args.self.now.history.now.parents) (machines_of c.args.self.now.many) c.args.search (machine_of c.core-core.result.now)
    c.requires.can.over (get-map machine_of c.args.self.now.many c.args.search c.core-core.result.now c.core-core.ensures))
    (all_at IsConsumed c.args.self.now.many c.args.search c.core-core.result.now c.requires.can.consumed c.core-core.ensures)
    c.claims-count.ensures.standing c.requires.can.rising (c.requires.can.withdrawn c.core-core.result.now c.core-core.ensures)))))
    (c.remember.ensures (needless before) idle)
