use Rattle.std.proofs.Common.{◌≡◌, set, take}
use Rattle.bf_choice.specs.BlockRows.{joined_row}
use Rattle.bf_choice.proofs.sharing.SharedRows.join_parents.Given as goal

abbrev pub invariant-loop-parent : goal.invariant-loop-parent
invariant-loop-parent l =
    (l.self.blocks ≡ set l.fn.self.blocks l.fn.self.taken (joined_row l.graph l.start l.place (take l.parent-index l.parent-items)))
    × (l.self.taken ≡ l.fn.self.taken) × (l.self.numbers ≡ l.fn.self.numbers)
