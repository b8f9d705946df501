use Rattle.std.proofs.Common.{◌≡◌, length, sym, ap, subst, ◌∙◌}
use Rattle.std.specs.List.{All}
use Rattle.bf_reach.proofs.BlockSteps.{length-block_rows, columns-block_rows}
use Rattle.bf_reach.proofs.blocks.Blocks.rows.Goals as goal

pub returns-clause-number : goal.returns-clause-number
returns-clause-number c = sym (length-block_rows c.self.inside.rows c.self.inside.words.items) ∙ ap length c.self.view_is

pub returns-clause-columns : goal.returns-clause-columns
returns-clause-columns c = subst (All (λ row. length row ≡ 512)) c.self.view_is (columns-block_rows c.self.inside.rows c.self.inside.words.items)
