use Rattle.std.proofs.Common.{◌≡◌, true, arith}
use Rattle.bf_search.specs.declared.farm.Event.TheVariants as events
use Rattle.bf_search.specs.Farm.{stands}
use Rattle.bf_farm.proofs.History.{leads_more, claims_after_post}
use Rattle.bf_farm.proofs.Seen.{withdrawn_seen}
use Rattle.bf_core.specs.Machine.{setting_of, farm_of}
use Rattle.bf_farm.proofs.board.Board.post.Goals as goal

pub invariant_of-self-2 : goal.invariant_of-self-2
invariant_of-self-2 c =
    let here : stands c.self.inside.core.claims c.args.worker c.args.place ≡ true = cc (c.stands.ensures, c.if-not-stands.false, c.claims.ensures.claims) in
    let less = claims_after_post (setting_of c.self.inside.core) (farm_of c.self.inside.core) (farm_of c.post.new.self) c.args.worker c.args.place
    c.args.outcome here c.in_ok-withdrawn.ensures.event.farm in (
      leads_more _ _ _ _ _ (events.Post c.args.worker c.args.place c.args.outcome) _ _ c.self.invariant.0 c.in_ok-withdrawn.ensures.event.farm
          c.in_ok-withdrawn.ensures.event.setting c.note.ensures.noted,
      omega (arith, less, c.self.invariant.1, c.note.ensures.len, c.note.ensures.room),
    )

pub returns-clause-withdrawn : goal.returns-clause-withdrawn
returns-clause-withdrawn c = λ here. withdrawn_seen c.post.new.self c.in_ok-withdrawn.withdrawn.workers.items c.post.ensures.consumed
    c.in_ok-withdrawn.ensures.withdrawn
