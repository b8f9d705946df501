use Rattle.std.proofs.Common.{◌==◌, Some, None, length, ap, ◌∙◌, refl, arith}
use Rattle.std.proofs.lemmas.Bool.{and_parts}
use Rattle.bf_forest.specs.declared.slots.EntrySlot.TheVariants.{File, Directory}
use Rattle.bf_forest.specs.Nodes.{stood}
use Rattle.bf_forest.specs.Rests.{slots_in}
use Rattle.bf_forest.specs.Slots.{is_base}
use Rattle.bf_forest.proofs.Settling.{no_edits}
use Rattle.bf_forest.proofs.Turning.{rest_behind, turned}
use Rattle.bf_forest.proofs.Walking.{entered, settling_file, settling_there}
use Rattle.bf_forest.proofs.pool.Trees.take.Goals as goal

pub returns-in-None-clause-turns : goal.returns-in-None-clause-turns
returns-in-None-clause-turns c =
    let turn = turned c.self.inside.table c.self.inside.nodes.items c.args.self.now c.args.top.now c.take_below.new.numbers c.take_below.new.base c.args.key
    c.as_slice.result.now
    c.args.change None c.self.invariant.2 c.self.view_is c.requires c.as_slice.ensures c.in_ok-take_below.ensures c.in-None.is in
    turn.settles

pub returns-in-None-clause-frame : goal.returns-in-None-clause-frame
returns-in-None-clause-frame c =
    let turn = turned c.self.inside.table c.self.inside.nodes.items c.args.self.now c.args.top.now c.take_below.new.numbers c.take_below.new.base c.args.key
    c.as_slice.result.now
    c.args.change None c.self.invariant.2 c.self.view_is c.requires c.as_slice.ensures c.in_ok-take_below.ensures c.in-None.is in
    (turn.old, turn.within, turn.based)

pub returns-in-None-clause-heft : goal.returns-in-None-clause-heft
returns-in-None-clause-heft c =
    let turn = turned c.self.inside.table c.self.inside.nodes.items c.args.self.now c.args.top.now c.take_below.new.numbers c.take_below.new.base c.args.key
    c.as_slice.result.now
    c.args.change None c.self.invariant.2 c.self.view_is c.requires c.as_slice.ensures c.in_ok-take_below.ensures c.in-None.is in
    omega (arith, turn.less)

pub enter-requires : goal.enter-requires
enter-requires c =
    let turn = turned c.self.inside.table c.self.inside.nodes.items c.args.self.now c.args.top.now c.take_below.new.numbers c.take_below.new.base c.args.key
    c.as_slice.result.now
    c.args.change c.args.change c.self.invariant.2 c.self.view_is c.requires c.as_slice.ensures c.in_ok-take_below.ensures refl in
    turn.within

pub returns-in-Some-File-clause-turns : goal.returns-in-Some-File-clause-turns
returns-in-Some-File-clause-turns c =
    λ trees slots h.
    let turn = turned c.self.inside.table c.self.inside.nodes.items c.args.self.now c.args.top.now c.take_below.new.numbers c.take_below.new.base c.args.key
    c.as_slice.result.now
    c.args.change (Some (File c.in-Some-File.mode c.in-Some-File.oid)) c.self.invariant.2 c.self.view_is c.requires c.as_slice.ensures
    c.in_ok-take_below.ensures (c.in-Some-File.is ∙ ap Some c.in-Some-File.field-0-is) in
    let rest = rest_behind c.args.top.now c.take_below.new.base in
    let known = entered c.args.self.now c.enter.new.self rest c.enter.new.numbers c.enter.ensures.kept c.enter.ensures.trees turn.old
    c.in_ok-enter-in-Some-File.ensures.within turn.based in
    known.2 trees slots _ c.in_ok-enter-in-Some-File.ensures.entry
    (settling_file trees slots c.args.self.now.trees (stood c.args.self.now.table c.take_below.new.numbers) c.args.key c.in-Some-File.mode c.in-Some-File.oid
    (slots_in c.args.self.now.table rest) (turn.settles trees slots h))

pub returns-in-Some-File-clause-frame : goal.returns-in-Some-File-clause-frame
returns-in-Some-File-clause-frame c =
    let turn = turned c.self.inside.table c.self.inside.nodes.items c.args.self.now c.args.top.now c.take_below.new.numbers c.take_below.new.base c.args.key
    c.as_slice.result.now
    c.args.change (Some (File c.in-Some-File.mode c.in-Some-File.oid)) c.self.invariant.2 c.self.view_is c.requires c.as_slice.ensures
    c.in_ok-take_below.ensures (c.in-Some-File.is ∙ ap Some c.in-Some-File.field-0-is) in
    let rest = rest_behind c.args.top.now c.take_below.new.base in
    let known = entered c.args.self.now c.enter.new.self rest c.enter.new.numbers c.enter.ensures.kept c.enter.ensures.trees turn.old
    c.in_ok-enter-in-Some-File.ensures.within turn.based in
    known.0

pub returns-in-Some-File-clause-heft : goal.returns-in-Some-File-clause-heft
returns-in-Some-File-clause-heft c =
    let turn = turned c.self.inside.table c.self.inside.nodes.items c.args.self.now c.args.top.now c.take_below.new.numbers c.take_below.new.base c.args.key
    c.as_slice.result.now
    c.args.change (Some (File c.in-Some-File.mode c.in-Some-File.oid)) c.self.invariant.2 c.self.view_is c.requires c.as_slice.ensures
    c.in_ok-take_below.ensures (c.in-Some-File.is ∙ ap Some c.in-Some-File.field-0-is) in
    let rest = rest_behind c.args.top.now c.take_below.new.base in
    let known = entered c.args.self.now c.enter.new.self rest c.enter.new.numbers c.enter.ensures.kept c.enter.ensures.trees turn.old
    c.in_ok-enter-in-Some-File.ensures.within turn.based in
    omega (arith, turn.less, known.1)

pub filled-requires : goal.filled-requires
filled-requires c =
    let turn = turned c.self.inside.table c.self.inside.nodes.items c.args.self.now c.args.top.now c.take_below.new.numbers c.take_below.new.base c.args.key
    c.as_slice.result.now
    c.args.change (Some (Directory c.in-Some-Directory.base c.in-Some-Directory.pending)) c.self.invariant.2 c.self.view_is c.requires c.as_slice.ensures
    c.in_ok-take_below.ensures (c.in-Some-Directory.is ∙ ap Some c.in-Some-Directory.field-0-is) in
    (and_parts (is_base (length c.args.self.now.trees) c.in-Some-Directory.base) _ turn.based).0

pub enter_directory-requires : goal.enter_directory-requires
enter_directory-requires c =
    let turn = turned c.self.inside.table c.self.inside.nodes.items c.args.self.now c.args.top.now c.take_below.new.numbers c.take_below.new.base c.args.key
    c.as_slice.result.now
    c.args.change c.args.change c.self.invariant.2 c.self.view_is c.requires c.as_slice.ensures c.in_ok-take_below.ensures refl in
    turn.within

pub returns-then-is_empty-clause-turns : goal.returns-then-is_empty-clause-turns
returns-then-is_empty-clause-turns c =
    λ trees slots h.
    let turn = turned c.self.inside.table c.self.inside.nodes.items c.args.self.now c.args.top.now c.take_below.new.numbers c.take_below.new.base c.args.key
    c.as_slice.result.now
    c.args.change (Some (Directory c.in-Some-Directory.base c.in-Some-Directory.pending)) c.self.invariant.2 c.self.view_is c.requires c.as_slice.ensures
    c.in_ok-take_below.ensures (c.in-Some-Directory.is ∙ ap Some c.in-Some-Directory.field-0-is) in
    let rest = rest_behind c.args.top.now c.take_below.new.base in
    let based = and_parts (is_base (length c.args.self.now.trees) c.in-Some-Directory.base) _ turn.based in
    let known = entered c.args.self.now c.enter_directory.new.self rest c.enter_directory.new.numbers c.enter_directory.ensures.kept
    c.enter_directory.ensures.trees turn.old
    c.in_ok-enter_directory-in-Some-Directory.ensures.within based.1 in
    let none = no_edits c.in-Some-Directory.pending c.is_empty.result (c.is_empty.ensures ∙ ap (λ v. length v == 0) c.as_slice-in-Some-Directory.ensures)
    c.if-is_empty.true in
    known.2 trees slots _ c.in_ok-enter_directory-in-Some-Directory.ensures.entry
    (settling_there trees slots c.args.self.now.trees (stood c.args.self.now.table c.take_below.new.numbers) c.args.key c.in-Some-Directory.base
    c.in-Some-Directory.pending
    (slots_in c.args.self.now.table rest) c.filled.result none (turn.settles trees slots h) c.filled.ensures.joined c.filled.ensures.number)

pub returns-then-is_empty-clause-frame : goal.returns-then-is_empty-clause-frame
returns-then-is_empty-clause-frame c =
    let turn = turned c.self.inside.table c.self.inside.nodes.items c.args.self.now c.args.top.now c.take_below.new.numbers c.take_below.new.base c.args.key
    c.as_slice.result.now
    c.args.change (Some (Directory c.in-Some-Directory.base c.in-Some-Directory.pending)) c.self.invariant.2 c.self.view_is c.requires c.as_slice.ensures
    c.in_ok-take_below.ensures (c.in-Some-Directory.is ∙ ap Some c.in-Some-Directory.field-0-is) in
    let rest = rest_behind c.args.top.now c.take_below.new.base in
    let based = and_parts (is_base (length c.args.self.now.trees) c.in-Some-Directory.base) _ turn.based in
    let known = entered c.args.self.now c.enter_directory.new.self rest c.enter_directory.new.numbers c.enter_directory.ensures.kept
    c.enter_directory.ensures.trees turn.old
    c.in_ok-enter_directory-in-Some-Directory.ensures.within based.1 in
    known.0

pub returns-then-is_empty-clause-heft : goal.returns-then-is_empty-clause-heft
returns-then-is_empty-clause-heft c =
    let turn = turned c.self.inside.table c.self.inside.nodes.items c.args.self.now c.args.top.now c.take_below.new.numbers c.take_below.new.base c.args.key
    c.as_slice.result.now
    c.args.change (Some (Directory c.in-Some-Directory.base c.in-Some-Directory.pending)) c.self.invariant.2 c.self.view_is c.requires c.as_slice.ensures
    c.in_ok-take_below.ensures (c.in-Some-Directory.is ∙ ap Some c.in-Some-Directory.field-0-is) in
    let rest = rest_behind c.args.top.now c.take_below.new.base in
    let based = and_parts (is_base (length c.args.self.now.trees) c.in-Some-Directory.base) _ turn.based in
    let known = entered c.args.self.now c.enter_directory.new.self rest c.enter_directory.new.numbers c.enter_directory.ensures.kept
    c.enter_directory.ensures.trees turn.old
    c.in_ok-enter_directory-in-Some-Directory.ensures.within based.1 in
    omega (arith, turn.less, known.1)

pub returns-clause-turns : goal.returns-clause-turns
returns-clause-turns c =
    let turn = turned c.self.inside.table c.self.inside.nodes.items c.args.self.now c.args.top.now c.take_below.new.numbers c.take_below.new.base c.args.key
    c.as_slice.result.now
    c.args.change (Some (Directory c.in-Some-Directory.base c.in-Some-Directory.pending)) c.self.invariant.2 c.self.view_is c.requires c.as_slice.ensures
    c.in_ok-take_below.ensures (c.in-Some-Directory.is ∙ ap Some c.in-Some-Directory.field-0-is) in
    turn.settles

pub returns-clause-frame : goal.returns-clause-frame
returns-clause-frame c =
    let turn = turned c.self.inside.table c.self.inside.nodes.items c.args.self.now c.args.top.now c.take_below.new.numbers c.take_below.new.base c.args.key
    c.as_slice.result.now
    c.args.change (Some (Directory c.in-Some-Directory.base c.in-Some-Directory.pending)) c.self.invariant.2 c.self.view_is c.requires c.as_slice.ensures
    c.in_ok-take_below.ensures (c.in-Some-Directory.is ∙ ap Some c.in-Some-Directory.field-0-is) in
    (turn.old, turn.within, (and_parts (is_base (length c.args.self.now.trees) c.in-Some-Directory.base) _ turn.based).1)

pub returns-clause-heft : goal.returns-clause-heft
returns-clause-heft c =
    let turn = turned c.self.inside.table c.self.inside.nodes.items c.args.self.now c.args.top.now c.take_below.new.numbers c.take_below.new.base c.args.key
    c.as_slice.result.now
    c.args.change (Some (Directory c.in-Some-Directory.base c.in-Some-Directory.pending)) c.self.invariant.2 c.self.view_is c.requires c.as_slice.ensures
    c.in_ok-take_below.ensures (c.in-Some-Directory.is ∙ ap Some c.in-Some-Directory.field-0-is) in
    omega (arith, turn.less)
