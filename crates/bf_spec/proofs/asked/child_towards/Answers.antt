use Rattle.std.proofs.Common.{sym, ap, ◌∙◌}
use Rattle.std.proofs.lemmas.Result.{IfOk-weaker}
use Rattle.bf_search.specs.Candidates.{is_in}
use Rattle.bf_search.specs.declared.outcomes.Mark.TheVariants.{Good}
use Rattle.bf_spec.specs.Nodes.{Follows}
use Rattle.bf_spec.specs.Ways.{GoesTowards}
use Rattle.bf_spec.proofs.Asking.{towards_unchecked, towards_bad, towards_good, bad_within}
use Rattle.bf_spec.proofs.Growing.{extends_trans, extends_nodes}
use Rattle.bf_spec.proofs.asked.child_towards.Goals as goal

pub returns-then-not-is_checked-clause-child : goal.returns-then-not-is_checked-clause-child
returns-then-not-is_checked-clause-child c =
    let graph = c.args.reach.now in
    let nodes = c.args.nodes.now.items in
    IfOk-weaker c.child.result (Follows nodes c.args.index Good c.child.new.nodes.items)
    (GoesTowards graph nodes c.args.index c.args.asked c.args.place c.child.new.nodes.items)
    (λ k child. towards_unchecked graph nodes c.args.index c.args.asked c.args.place c.requires.nodes c.requires.index c.requires.asks c.child.new.nodes.items k
    c.index.result.now c.index.ensures (sym c.is_checked.ensures ∙ c.if-not-is_checked.true) child)
    c.child.ensures.child

pub get-requires : goal.get-requires
get-requires c =
    rw c.deref.ensures
    (bad_within c.args.reach.now c.args.nodes.now.items c.args.index c.args.asked c.args.place c.requires.nodes c.requires.index c.requires.asks
    c.child-2.new.nodes.items c.in_ok-bad.bad c.in_ok-bad.ensures.extends c.in_ok-bad.ensures.child c.index-2.result.now c.requires.place c.index-2.ensures)

pub returns-then-get-clause-child : goal.returns-then-get-clause-child
returns-then-get-clause-child c =
    towards_bad c.args.reach.now c.args.nodes.now.items c.args.index c.args.asked c.args.place c.requires.nodes c.requires.index c.requires.asks
    c.child-2.new.nodes.items c.in_ok-bad.bad c.in_ok-bad.ensures.extends c.in_ok-bad.ensures.child c.index.result.now c.index-2.result.now
    c.index.ensures (sym c.is_checked.ensures ∙ c.if-not-is_checked.false) c.requires.place c.index-2.ensures
    (ap (λ row. is_in row c.args.place) (sym c.deref.ensures) ∙ sym c.get.ensures ∙ c.if-get.true)

pub child-requires-3-clause-nodes : goal.child-requires-3-clause-nodes
child-requires-3-clause-nodes c = extends_nodes c.args.reach.now c.args.nodes.now.items c.child-2.new.nodes.items c.in_ok-bad.ensures.extends c.requires.nodes

pub returns-clause-extends : goal.returns-clause-extends
returns-clause-extends c = extends_trans c.args.reach.now c.args.nodes.now.items c.child-2.new.nodes.items c.child-3.new.nodes.items
    c.in_ok-bad.ensures.extends c.child-3.ensures.extends

pub returns-clause-child : goal.returns-clause-child
returns-clause-child c =
    let graph = c.args.reach.now in
    let nodes = c.args.nodes.now.items in
    IfOk-weaker c.child-3.result (Follows c.child-2.new.nodes.items c.args.index Good c.child-3.new.nodes.items)
    (GoesTowards graph nodes c.args.index c.args.asked c.args.place c.child-3.new.nodes.items)
    (λ k child. towards_good graph nodes c.args.index c.args.asked c.args.place c.requires.nodes c.requires.index c.requires.asks
    c.child-2.new.nodes.items c.in_ok-bad.bad c.in_ok-bad.ensures.extends c.in_ok-bad.ensures.child c.child-3.new.nodes.items k c.index.result.now
    c.index-2.result.now c.index.ensures (sym c.is_checked.ensures ∙ c.if-not-is_checked.false) c.requires.place c.index-2.ensures
    (ap (λ row. is_in row c.args.place) (sym c.deref.ensures) ∙ sym c.get.ensures ∙ c.if-get.false) child)
    c.child-3.ensures.child
