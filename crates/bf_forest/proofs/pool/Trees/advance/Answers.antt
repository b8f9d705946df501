use Rattle.std.proofs.Common.{◌≡◌, ℕ, List, Option, true, length, subst}
use Rattle.std.specs.List.{list_all}
use Rattle.bf_forest.specs.declared.slots.EntrySlot.{EntrySlot}
use Rattle.bf_forest.specs.Nodes.{stood}
use Rattle.bf_forest.specs.Overlays.{overlaid}
use Rattle.bf_forest.specs.Slots.{is_based, slots_of}
use Rattle.bf_forest.proofs.Walking.{below_all}
use Rattle.bf_forest.proofs.pool.Trees.advance.Goals as goal

pub take-requires : goal.take-requires
take-requires c =
    let now = c.loop-key.self in
    let slots = slots_of (stood now.table c.loop-key.top.rest.base) in
    let P : List (List ℕ × Option EntrySlot) → Type 0 = λ v. list_all (λ slot. is_based (length now.trees) slot.1) (overlaid slots v) ≡ true in (
      c.loop-key.invariant.frame.0,
      c.loop-key.invariant.frame.1,
      below_all c.in-Some.key c.pop_first.new.self.entries c.in-Some.ensures.all_above,
      subst P c.in-Some.ensures.removal c.loop-key.invariant.frame.2,
    )
