use Rattle.std.proofs.Common.{length, refl, subst, arith}
use Rattle.std.proofs.lemmas.Option.{slice_get_read}
use Rattle.bf_many.specs.Cores.{machine_of}
use Rattle.bf_many.proofs.Lists.{get-map}
use Rattle.bf_search.specs.declared.farm.Event.TheVariants.{Post as Posted}
use Rattle.bf_search.specs.declared.outcomes.Outcome.{Outcome}
use Rattle.bf_serve.specs.Serving.{changed, stepped}
use Rattle.bf_serve.specs.Steps.{Serves, searches_in}
use Rattle.bf_serve.proofs.Holding.{held_below, held_claimed}
use Rattle.bf_serve.proofs.Moving.{knows_posted}
use Rattle.bf_serve.proofs.Posting.{served_posted}
use Rattle.bf_serve.proofs.Sessions.{after_at, can_tell, did, idle_at, left_below, left_read, served_told}
use Rattle.bf_serve.proofs.Texts.{on_ok}
use Rattle.bf_serve.proofs.session.Session.post_held.Goals as goal

pub index-requires : goal.index-requires
index-requires c =
    let l = held_below c.args.self.now.many c.args.worker c.args.held c.requires.held in
    let e = c.requires.serving.each in
    omega (arith, l, e, c.args.self.now.openings.ok.0)

pub core-core-requires : goal.core-core-requires
core-core-requires c = held_below c.args.self.now.many c.args.worker c.args.held c.requires.held

pub index-requires-2 : goal.index-requires-2
index-requires-2 c =
    let l = left_below c.args.self.now c.args.held.search c.core-core.result.now c.requires.serving c.core-core.ensures in
    omega (arith, l, c.args.self.now.left.ok.0)

pub standing_of-standing-requires : goal.standing_of-standing-requires
standing_of-standing-requires c =
    left_read c.args.self.now c.args.held.search c.core-core.result.now c.index-2.result.now c.requires.serving c.core-core.ensures c.index-2.ensures

pub post-requires : goal.post-requires
post-requires c = held_claimed c.args.self.now.many c.args.worker c.args.held c.requires.held

pub tell-requires : goal.tell-requires
tell-requires c =
    let event = Posted c.args.worker c.args.held.place c.read-outcome.result in
    let to = did c.args.self.now c.post.new.self c.args.held.search c.core-core.result.now event c.requires.serving c.core-core.ensures
    c.in_ok-withdrawn.ensures.event in
    record {
      can = can_tell c.args.self.now c.post.new.self c.args.held.search c.core-core.result.now (stepped (machine_of c.core-core.result.now) event)
          c.in_ok-withdrawn.withdrawn.workers.items c.requires.serving to c.post.ensures.consumed c.in_ok-withdrawn.ensures.ascending
          c.in_ok-withdrawn.ensures.withdrawn;
    }

pub returns : goal.returns
returns c =
    let event = Posted c.args.worker c.args.held.place c.read-outcome.result in
    let m = machine_of c.core-core.result.now in
    let to = did c.args.self.now c.post.new.self c.args.held.search c.core-core.result.now event c.requires.serving c.core-core.ensures
    c.in_ok-withdrawn.ensures.event in
    let opened = slice_get_read c.args.self.now.openings.items (length c.args.self.now.openings.items) c.args.held.search c.index.result.now refl
    (let l = held_below c.args.self.now.many c.args.worker c.args.held c.requires.held in
    let e = c.requires.serving.each in omega (arith, l, e)) c.index.ensures in
    on_ok c.put_done.result
    (λ h. served_posted c.args.self.now c.tell.new.self c.args.worker c.args.held c.args.outcome c.index.result.now m c.args.out.now c.put_done.new.out
    opened (get-map machine_of c.args.self.now.many c.args.held.search c.core-core.result.now c.core-core.ensures)
    (subst (λ (x : Outcome). Serves (changed c.args.self.now.history.now (searches_in c.args.self.now) c.args.held.search c.index.result.now m
    (stepped m (Posted c.args.worker c.args.held.place x))) c.args.self.now c.tell.new.self c.args.out.now c.put_done.new.out)
    c.read-outcome.ensures
    (served_told c.args.self.now c.tell.new.self c.post.new.self c.args.held.search c.core-core.result.now (stepped m event) c.index.result.now
    c.args.out.now c.tell.new.out c.put_done.new.out c.requires.serving to c.post.ensures.consumed
    (c.in_ok-tell.ensures c.index.result.now m to.change.after opened
    (idle_at c.args.self.now c.args.held.search c.core-core.result.now c.requires.serving c.core-core.ensures)
    (after_at c.args.self.now.many c.post.new.self c.args.held.search m (stepped m event) to.change) c.standing_of-standing.ensures
    (knows_posted c.core-core.result.now to.change.after c.args.worker c.args.held.place c.read-outcome.result c.claims-count.ensures.standing
    to.change.now_is)) h)))
    c.put_done.ensures
