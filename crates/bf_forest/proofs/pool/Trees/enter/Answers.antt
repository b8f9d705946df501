use Rattle.std.proofs.Common.{length, ap, ◌∙◌}
use Rattle.bf_forest.specs.declared.nodes.Entry.{Entry}
use Rattle.bf_forest.specs.Nodes.{stood, are_within}
use Rattle.bf_forest.proofs.Added.{pool_grown, grown_in}
use Rattle.bf_forest.proofs.Joining.{on_ok}
use Rattle.bf_forest.proofs.Tabled.{stood_more, within_kept, within_push}
use Rattle.bf_forest.proofs.pool.Trees.enter.Goals as goal

pub invariant_of-self : goal.invariant_of-self
invariant_of-self c =
    pool_grown c.self.inside.entries c.self.inside.index c.self.inside.table c.add.new.self c.self.inside.nodes.items c.add.ensures.kept c.self.invariant

pub returns-in_err-number-clause-kept : goal.returns-in_err-number-clause-kept
returns-in_err-number-clause-kept c =
    (grown_in c.self.inside.table c.add.new.self c.self.inside.nodes.items c.args.self.now c.self.view_is c.add.ensures.kept c.self.invariant.3).stays

pub returns-in_err-number-clause-trees : goal.returns-in_err-number-clause-trees
returns-in_err-number-clause-trees c =
    (grown_in c.self.inside.table c.add.new.self c.self.inside.nodes.items c.args.self.now c.self.view_is c.add.ensures.kept c.self.invariant.3).trees_are

pub invariant_of-self-2 : goal.invariant_of-self-2
invariant_of-self-2 c =
    pool_grown c.self.inside.entries c.self.inside.index c.self.inside.table c.add.new.self c.self.inside.nodes.items c.add.ensures.kept c.self.invariant

pub returns-clause-entry : goal.returns-clause-entry
returns-clause-entry c =
    let grown = grown_in c.self.inside.table c.add.new.self c.self.inside.nodes.items c.args.self.now c.self.view_is c.add.ensures.kept c.self.invariant.3 in
    let new = c.add.new.self in
    let entry : Entry = record { key = c.args.key; kind = c.args.kind } in
    on_ok c.push.result _ _
    (λ e. ap (stood new) e ∙ stood_more c.args.self.now.table new c.args.numbers.now c.in_ok-number.number entry grown.table_is c.requires
    c.in_ok-number.ensures.entry)
    c.push.ensures

pub returns-clause-within : goal.returns-clause-within
returns-clause-within c =
    let grown = grown_in c.self.inside.table c.add.new.self c.self.inside.nodes.items c.args.self.now c.self.view_is c.add.ensures.kept c.self.invariant.3 in
    let new = c.add.new.self in
    let numbers = c.args.numbers.now in
    on_ok c.push.result _ _
    (λ e. ap (are_within (length new)) e
    ∙ within_push (length new) numbers c.in_ok-number.number (within_kept c.args.self.now.table new numbers grown.table_is c.requires)
    c.in_ok-number.ensures.within)
    c.push.ensures

pub returns-clause-kept : goal.returns-clause-kept
returns-clause-kept c =
    (grown_in c.self.inside.table c.add.new.self c.self.inside.nodes.items c.args.self.now c.self.view_is c.add.ensures.kept c.self.invariant.3).stays

pub returns-clause-trees : goal.returns-clause-trees
returns-clause-trees c =
    (grown_in c.self.inside.table c.add.new.self c.self.inside.nodes.items c.args.self.now c.self.view_is c.add.ensures.kept c.self.invariant.3).trees_are
