use Rattle.std.proofs.Common.{rules, ◌≡◌, ◌<◌, ◌++◌, ◌∷◌, [], List, length, get_or, slice_set, sym, subst}
use Rattle.bf_spec.specs.declared.node.Node.{Node}
use Rattle.bf_spec.specs.Nodes.{path_of}
use Rattle.bf_spec.specs.Links.{Listed, AreLinked}
use Rattle.bf_spec.proofs.Linking.{linked_pushed, linked_still, linked_added}
use Rattle.bf_spec.proofs.nodes.Nodes.add.Goals as goal

pub invariant_of-self-in_err-push-2 : goal.invariant_of-self-in_err-push-2
invariant_of-self-in_err-push-2 c =
    subst (λ (ns : List Node). AreLinked ns c.push.new.self.items) (sym c.in_err-push-2.ensures.items)
    (linked_pushed c.self.inside.list.items c.self.inside.links.items c.push.new.self.items c.none.result c.in_ok-push.ensures.items c.none.ensures
    c.self.invariant)

pub invariant_of-self-else-parent-len : goal.invariant_of-self-else-parent-len
invariant_of-self-else-parent-len c =
    subst (λ (ns : List Node). AreLinked ns c.push.new.self.items) (sym c.in_ok-push-2.ensures.items)
    (linked_still c.self.inside.list.items c.args.node c.push.new.self.items
    (linked_pushed c.self.inside.list.items c.self.inside.links.items c.push.new.self.items c.none.result c.in_ok-push.ensures.items c.none.ensures
    c.self.invariant))

pub invariant_of-self-then-parent-len : goal.invariant_of-self-then-parent-len
invariant_of-self-then-parent-len c =
    subst (λ (ns : List Node). AreLinked ns (slice_set c.push.new.self.items c.args.parent c.put.new.self)) (sym c.in_ok-push-2.ensures.items)
    (linked_added c.self.inside.list.items c.push.new.self.items c.args.node c.args.parent c.args.mark c.len-child.result c.index_mut.result.now
    c.put.new.self (search rules)
    (linked_pushed c.self.inside.list.items c.self.inside.links.items c.push.new.self.items c.none.result c.in_ok-push.ensures.items c.none.ensures
    c.self.invariant)
    (subst (λ (v : Listed). c.args.parent < length v.items) (sym c.self.view_is) c.requires.parent)
    (λ d. subst (λ (v : Listed). path_of c.args.node ≡ path_of (get_or v.items c.args.parent d) ++ c.args.mark ∷ []) (sym c.self.view_is)
    (c.requires.path d))
    (search rules) c.index_mut.ensures.value c.put.ensures)
