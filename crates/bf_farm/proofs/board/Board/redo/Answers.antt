use Rattle.std.proofs.Common.{◌++◌, ◌∷◌, [], List, length, ap, ◌∙◌, arith}
use Rattle.bf_search.specs.declared.farm.Claim.{Claim}
use Rattle.bf_search.specs.declared.farm.Event.{Event}
use Rattle.bf_farm.proofs.History.{leads_more, claims_after}
use Rattle.bf_core.specs.Machine.{setting_of, farm_of}
use Rattle.bf_farm.proofs.board.Board.redo.Goals as goal

pub invariant_of-self-in-Ok : goal.invariant_of-self-in-Ok
invariant_of-self-in-Ok c =
    let more = claims_after (setting_of c.self.inside.core) (farm_of c.self.inside.core) (farm_of c.apply.new.self) c.args.event c.in-Ok.ensures.ok.farm in
    let count = ap (λ (l : List Claim). length l) c.claims.ensures.claims in (
      leads_more _ _ _ _ _ c.args.event _ _ c.self.invariant.0 c.in-Ok.ensures.ok.farm c.in-Ok.ensures.ok.setting
          (c.note.ensures.noted ∙ ap (λ (l : List Event). l ++ c.args.event ∷ []) c.reserve.ensures.items),
      omega (arith, more, count, c.in_ok-reserve.ensures.ok, c.note.ensures.len, c.note.ensures.room),
    )
