use Rattle.std.proofs.Common.{ℕ, Bool, Option, ap, sym, ◌∙◌}
use Rattle.std.specs.List.{count_by}
use Rattle.bf_choice.specs.BlockRows.{numbered_row}
use Rattle.bf_choice.proofs.Rows.{count_by-empty}
use Rattle.bf_choice.proofs.sharing.SharedRows.count.Goals as goal

pub returns-in-None : goal.returns-in-None
returns-in-None c = sym count_by-empty ∙ ap (λ (x : Option ℕ). count_by (λ (v : Bool). v) (numbered_row c.args.self.now.blocks x)) c.in-None.ensures
