use Rattle.std.proofs.Common.{ℕ, Option, IfSome, sym, subst, rules}
use Rattle.bf_spec.specs.declared.nodes.Links.{Links}
use Rattle.bf_spec.specs.Links.{Listed, LeadsTo, link_by, no_links}
use Rattle.bf_spec.proofs.Linking.{links_read}
use Rattle.bf_spec.proofs.nodes.Nodes.child.Goals as goal

pub returns : goal.returns
returns c =
    subst (λ (v : Listed). IfSome c.at.result (LeadsTo v.items c.args.parent c.args.mark)) c.self.view_is
    (subst (λ (o : Option ℕ). IfSome o (LeadsTo c.self.inside.list.items c.args.parent c.args.mark)) (sym c.at.ensures)
    (subst (λ (x : Links). IfSome (link_by x c.args.mark) (LeadsTo c.self.inside.list.items c.args.parent c.args.mark))
    (links_read c.self.inside.links.items c.args.parent c.index.result.now no_links (search rules) c.index.ensures)
    (c.self.invariant c.args.parent c.args.mark)))
