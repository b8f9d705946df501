use Rattle.std.proofs.Common.{◌≡◌, ◌<◌, ℕ, List, length, sym, ap, subst, ◌∙◌}
use Rattle.bf_graph.specs.Graph.{parents_of}
use Rattle.bf_search.specs.Bases.{has_place}
use Rattle.bf_cert.proofs.edges.Edges.has_parent.Goals as goal

pub has_sorted-requires : goal.has_sorted-requires
has_sorted-requires c =
    let within : c.args.place < length c.self.inside.graph.now = subst (λ (g : List (List ℕ)). c.args.place < length g) (sym c.self.view_is) c.requires in
    rw c.parents.ensures.parents (c.self.invariant.each c.args.place within).order

pub returns : goal.returns
returns c =
    let within : c.args.place < length c.self.inside.graph.now = subst (λ (g : List (List ℕ)). c.args.place < length g) (sym c.self.view_is) c.requires in
    c.has_sorted.ensures
    ∙ ap (λ (ps : List ℕ). has_place ps c.args.parent) c.parents.ensures.parents
    ∙ (c.self.invariant.each c.args.place within).same c.args.parent
    ∙ ap (λ (g : List (List ℕ)). has_place (parents_of g c.args.place) c.args.parent) c.self.view_is
