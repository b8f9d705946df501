use Rattle.std.proofs.Common.{◌≡◌, true, take}
use Rattle.std.specs.List.{fold, list_all}
use Rattle.bf_forest.specs.Rests.{IsShorter, slots_in}
use Rattle.bf_forest.specs.Slots.{slots_after, has_path}
use Rattle.bf_forest.proofs.slots.edit_all.Given as goal

abbrev pub invariant-loop-edit : goal.invariant-loop-edit
invariant-loop-edit l = record {
  slots : slots_in l.table l.rest ≡ fold (λ slots edit. slots_after edit slots) (slots_in l.table l.initial.rest) (take l.edit-index l.edits);
  paths : list_all has_path (take l.edit-index l.edits) ≡ true;
  base : IsShorter l.rest.base l.initial.rest.base;
}
