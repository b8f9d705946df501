use Rattle.std.proofs.Common.{◌≡◌, ◌∙◌, length, replicate, sym, ap, arith}
use Rattle.std.proofs.lemmas.List.{with_items_is}
use Rattle.bf_reach.specs.Blocks.{empty_row, block_rows}
use Rattle.bf_reach.proofs.BlockSteps.{length-block_rows, rows_empty}
use Rattle.bf_reach.proofs.blocks.Blocks.clear.Goals as goal

pub returns : goal.returns
returns c =
    let rows = c.self.inside.rows in
    let number : rows ≡ length c.args.self.now = sym (length-block_rows rows c.self.inside.words.items) ∙ ap length c.self.view_is in
    ap (block_rows rows) (with_items_is c.self.inside.words c.fill.new.self
    (omega (arith, c.fill.ensures.len, ap length c.as_mut_slice.ensures.value, c.self.inside.words.ok.0)))
    ∙ rows_empty rows c.fill.new.self (length c.as_mut_slice.result.now) (c.fill.ensures.after (λ y e. e))
    ∙ ap (λ n. replicate n empty_row) number
