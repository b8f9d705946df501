use Rattle.std.proofs.Common.{◌≡◌, true, arith}
use Rattle.bf_search.specs.declared.farm.Event.TheVariants as events
use Rattle.bf_search.specs.Farm.{stands}
use Rattle.bf_farm.proofs.History.{leads_more, claims_after_give}
use Rattle.bf_core.specs.Machine.{setting_of, farm_of}
use Rattle.bf_farm.proofs.board.Board.give.Goals as goal

pub invariant_of-self : goal.invariant_of-self
invariant_of-self c =
    let here : stands c.self.inside.core.claims c.args.worker c.args.place ≡ true = cc (c.stands.ensures, c.if-stands.true, c.claims.ensures.claims) in
    let less = claims_after_give (setting_of c.self.inside.core) (farm_of c.self.inside.core) (farm_of c.give.new.self) c.args.worker
    c.args.place here c.give.ensures.event.farm in (
      leads_more _ _ _ _ _ (events.Give c.args.worker c.args.place) _ _ c.self.invariant.0 c.give.ensures.event.farm c.give.ensures.event.setting
          c.note.ensures.noted,
      omega (arith, less, c.self.invariant.1, c.note.ensures.len, c.note.ensures.room),
    )
