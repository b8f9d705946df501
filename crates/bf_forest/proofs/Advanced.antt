-- What a call that takes entries leaves of the directories that are being made.
use Rattle.std.proofs.Common.{◌≡◌, ℕ, List, [], Option, None, subst}
use Rattle.bf_forest.specs.declared.edits.Edit.{Edit}
use Rattle.bf_forest.specs.declared.opened.OpenDirectory.{OpenDirectory}
use Rattle.bf_forest.specs.Files.{Files}
use Rattle.bf_forest.specs.Nodes.{World, StaysIn}
use Rattle.bf_forest.specs.Opened.{IsSpent}
use Rattle.bf_forest.specs.Rests.{slots_in}
use Rattle.bf_forest.proofs.Walking.{IsAdvance, IsStacked, stays_trans, stacked_stays}

pub stacked_later : (start : World) (files : Files) (below : List OpenDirectory) (now next : World) (top : OpenDirectory) → IsStacked start files below now top
    → StaysIn now next → StaysIn start next
stacked_later start files below now next top h kept = stays_trans start now next (stacked_stays start files below now top h) kept

-- no directory is to be made first, so nothing is left
pub advance_over : (now next : World) (old top : OpenDirectory) (inner : Option (Option ℕ × List Edit)) → inner ≡ None → IsAdvance now next old top inner
    → IsSpent (slots_in next.table top.rest) inner → IsAdvance now next old top None × (slots_in next.table top.rest ≡ [])
advance_over now next old top inner is go spent =
    let P : Option (Option ℕ × List Edit) → Type 0 = λ v. IsAdvance now next old top v in
    let S : Option (Option ℕ × List Edit) → Type 0 = IsSpent (slots_in next.table top.rest) in
    (subst P is go, subst S is spent)
