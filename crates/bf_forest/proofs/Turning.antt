-- A change of a directory that is being made is taken.
use Rattle.std.proofs.Common.{◌≡◌, ℕ, ◌≤◌, ◌++◌, true, List, [], Option, length, ap, subst}
use Rattle.std.specs.List.{list_all}
use Rattle.bf_forest.specs.declared.nodes.Entry.{Entry}
use Rattle.bf_forest.specs.declared.opened.OpenDirectory.{OpenDirectory}
use Rattle.bf_forest.specs.declared.pool.KeptTree.{KeptTree}
use Rattle.bf_forest.specs.declared.slots.Rest.{Rest}
use Rattle.bf_forest.specs.declared.slots.EntrySlot.{EntrySlot}
use Rattle.bf_forest.specs.Files.{Files}
use Rattle.bf_forest.specs.Nodes.{World, AreNodes, nodes_of, world_of, stood, are_within}
use Rattle.bf_forest.specs.Opened.{IsBase, IsSettling, IsTurn, heft}
use Rattle.bf_forest.specs.Overlays.{change_entry}
use Rattle.bf_forest.specs.Rests.{IsPassed, slots_in, slots_with}
use Rattle.bf_forest.specs.Slots.{is_based}
use Rattle.bf_forest.proofs.Pooled.{closed_in}
use Rattle.bf_forest.proofs.Walking.{Slots, turn_taken}

-- what is left of a directory, behind some of its old entries
abbrev pub rest_behind : OpenDirectory → List ℕ → Rest
rest_behind top base = record { base = base; changes = top.rest.changes }

-- what is left, with what is to stand at a key in front
abbrev pub slots_from : World → OpenDirectory → List ℕ → List ℕ → Option EntrySlot → Slots
slots_from world top base key what = change_entry key what ++ slots_in world.table (rest_behind top base)

-- the old entries below a key are taken, and this is to stand there
pub record IsTurned (world : World) (top : OpenDirectory) (numbers base key : List ℕ) (change what : Option EntrySlot) : Type 0 where
  pub settles : (trees : List Files) (slots : Slots)
      → IsSettling trees slots world.trees (stood world.table top.numbers) (slots_with world.table top.rest key change)
      → IsSettling trees slots world.trees (stood world.table numbers) (slots_from world top base key what)
  pub within : are_within (length world.table) numbers ≡ true
  pub based : list_all (λ slot. is_based (length world.trees) slot.1) (slots_from world top base key what) ≡ true
  pub less : heft (slots_from world top base key what) ≤ heft (slots_with world.table top.rest key change)
  pub old : IsBase world.trees world.table base

pub turned : (table : List Entry) (kept : List KeptTree) (world : World) (top : OpenDirectory) (numbers base key seen : List ℕ) (change what : Option EntrySlot)
    → AreNodes [] (nodes_of table kept)
    → world_of table kept ≡ world → IsTurn world top key change → seen ≡ key → IsPassed table top.numbers numbers top.rest.base base seen → change ≡ what
    → IsTurned world top numbers base key change what
turned table kept world top numbers base key seen change what nodes view known same passed is =
    let T : List Entry → Type 0 = λ v. IsPassed v top.numbers numbers top.rest.base base key in
    let K : List ℕ → Type 0 = λ v. IsPassed table top.numbers numbers top.rest.base base v in
    let closed = closed_in (nodes_of table kept) world.trees nodes (ap (λ (w : World). w.trees) view) in
    let taken = turn_taken world top.numbers numbers top.rest.base base key change top.rest.changes.entries closed known.1 known.0 known.2
    (subst T (ap (λ (w : World). w.table) view) (subst K same passed)) in
    let B : Option EntrySlot → Type 0 = λ v. list_all (λ slot. is_based (length world.trees) slot.1) (slots_from world top base key v) ≡ true in
    let H : Option EntrySlot → Type 0 = λ v. heft (slots_from world top base key v) ≤ heft (slots_with world.table top.rest key change) in
    record {
      settles = λ trees slots h.
          let P : Option EntrySlot → Type 0 = λ v. IsSettling trees slots world.trees (stood world.table numbers) (slots_from world top base key v) in
          subst P is (taken.0.1 trees slots h);
      within = taken.0.0;
      based = subst B is (taken.0.2 known.3);
      less = subst H is taken.0.3;
      old = taken.1;
    }
