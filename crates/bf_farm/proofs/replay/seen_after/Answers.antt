use Rattle.std.proofs.Common.{ℕ, sym, subst}
use Rattle.std.specs.Option.{IfSome}
use Rattle.bf_search.specs.declared.farm.Event.{Event}
use Rattle.bf_search.specs.declared.farm.Event.TheVariants as events
use Rattle.bf_farm.specs.Posts.{SeesEvent}
use Rattle.bf_farm.proofs.Posting.{sees_own}
use Rattle.bf_farm.proofs.replay.seen_after.Goals as goal

pub returns-else-not-has_answer : goal.returns-else-not-has_answer
returns-else-not-has_answer g c =
    subst (λ (e : Event). IfSome c.checked_add.result (SeesEvent c.args.names.now (g.T.Tester.answers c.args.worker.now.tester) c.args.number e c.args.seen))
    (sym c.in-Post.is)
    (subst (λ (n : ℕ). IfSome c.checked_add.result
    (SeesEvent c.args.names.now (g.T.Tester.answers c.args.worker.now.tester) c.args.number (events.Post n c.in-Post.place c.in-Post.outcome) c.args.seen))
    (sym c.if-poster-number.false)
    (sees_own c.args.names.now (g.T.Tester.answers c.args.worker.now.tester) c.args.number c.in-Post.place c.in-Post.outcome c.args.seen _
    c.checked_add.result c.checked_add.ensures (c.has_answer.ensures c.if-not-has_answer.false)))
