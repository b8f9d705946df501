use Rattle.std.proofs.Common.{◌≡◌, List, Bool, [], length, ap, ◌∙◌, refl, arith}
use Rattle.std.proofs.lemmas.List.{get_or-replicate, length-replicate}
use Rattle.bf_reach.specs.Blocks.{row_at, empty_row}
use Rattle.bf_choice.proofs.SharedNumbers.{HasBlockRows-start}
use Rattle.bf_choice.proofs.sharing.SharedRows.clear.Goals as goal

pub returns : goal.returns
returns c =
    let long : length c.clear.new.self ≡ length c.args.self.now.blocks = ap (λ (b : List (List Bool)). length b) c.clear.ensures ∙ length-replicate _ _ in
    HasBlockRows-start _ _ _ c.requires.graph (record { rows = long ∙ c.requires.rows.rows; numbers = c.requires.rows.numbers }) refl
    (λ n within. ap (λ (b : List (List Bool)). row_at b n) c.clear.ensures ∙ get_or-replicate _ n empty_row [] (omega (arith, long, within)))
