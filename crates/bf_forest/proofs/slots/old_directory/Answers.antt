use Rattle.std.proofs.Common.{sym, ap, ◌∙◌}
use Rattle.bf_forest.specs.Slots.{directory_of}
use Rattle.bf_forest.proofs.Placed.{found_none, found_there}
use Rattle.bf_forest.proofs.Resting.{kind_directory, kind_file}
use Rattle.bf_forest.proofs.slots.old_directory.Goals as goal

pub returns-then-end_of-place : goal.returns-then-end_of-place
returns-then-end_of-place c =
    sym (ap directory_of (found_none c.args.table.now c.args.numbers.now c.args.key.now c.place_of-place.result c.requires.1 c.place_of-place.ensures.within
    c.place_of-place.ensures.before c.place_of-place.ensures.behind (c.end_of.ensures.missing c.if-end_of-place.true).1))

pub returns-in-Directory : goal.returns-in-Directory
returns-in-Directory c =
    let at = c.end_of.ensures.there c.if-end_of-place.false in
    sym (ap directory_of (found_there c.args.table.now c.args.numbers.now c.args.key.now c.place_of-place.result at.1 c.place_of-place.ensures.before at.2)
    ∙ kind_directory _ c.in-Directory.number (sym c.kind.ensures ∙ c.in-Directory.is))

pub returns-in-File : goal.returns-in-File
returns-in-File c =
    let at = c.end_of.ensures.there c.if-end_of-place.false in
    sym (ap directory_of (found_there c.args.table.now c.args.numbers.now c.args.key.now c.place_of-place.result at.1 c.place_of-place.ensures.before at.2)
    ∙ kind_file _ c.in-File.field-0 c.in-File.field-1 (sym c.kind.ensures ∙ c.in-File.is))
