use Rattle.std.proofs.Common.{◌++◌, ◌∷◌, [], List, length, ap, ◌∙◌, arith}
use Rattle.bf_search.specs.declared.farm.Claim.{Claim}
use Rattle.bf_search.specs.declared.farm.Event.{Event}
use Rattle.bf_search.specs.declared.farm.Event.TheVariants as events
use Rattle.bf_farm.proofs.History.{leads_more, claimed, claims_after_claim}
use Rattle.bf_core.specs.Machine.{setting_of, farm_of}
use Rattle.bf_farm.proofs.board.Board.claim.Goals as goal

pub invariant_of-self-in-Work : goal.invariant_of-self-in-Work
invariant_of-self-in-Work c =
    let done = claimed c.self.inside.core c.pick.new.self c.args.worker c.in-Work.place c.in_ok-pick.pick c.in_ok-pick.ensures.work c.in-Work.is in
    let more = claims_after_claim (setting_of c.self.inside.core) (farm_of c.self.inside.core) (farm_of c.pick.new.self) c.args.worker
    c.in-Work.place done.farm in
    let count = ap (λ (l : List Claim). length l) c.claims.ensures.claims in (
      leads_more _ _ _ _ _ (events.Claim c.args.worker c.in-Work.place) _ _ c.self.invariant.0 done.farm done.setting
          (c.note.ensures.noted ∙ ap (λ (l : List Event). l ++ events.Claim c.args.worker c.in-Work.place ∷ []) c.reserve.ensures.items),
      omega (arith, more, count, c.in_ok-reserve.ensures.ok, c.note.ensures.len, c.note.ensures.room),
    )
