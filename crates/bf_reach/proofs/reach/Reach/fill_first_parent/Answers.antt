use Rattle.std.proofs.Common.{◌≡◌, ℕ, true, List, Option, sym, subst}
use Rattle.bf_graph.specs.Graph.{IsGraph}
use Rattle.bf_search.specs.Reach.{in_mode, reach_row}
use Rattle.bf_reach.proofs.Chains.{ChainTo, ChainTo-more, row-from_chain}
use Rattle.bf_reach.proofs.reach.Reach.fill_first_parent.Goals as goal

pub loop-next-preserved : goal.loop-next-preserved
loop-next-preserved c =
    let graph : List (List ℕ) = c.self.inside.graph in
    rw (c.set.ensures, c.copied-next.ensures, c.first.ensures.value)
    (ChainTo-more graph c.args.place c.loop-next.out c.in-Some.place c.parents.result.now c.parents.ensures.parents c.parents.ensures.earlier
    (subst (λ (next : Option ℕ). ChainTo graph c.args.place c.loop-next.out next) c.in-Some.is c.loop-next.invariant))

pub returns-clause-row : goal.returns-clause-row
returns-clause-row c =
    subst (λ (graph : List (List ℕ)). c.loop-next.out ≡ reach_row (in_mode graph true) c.args.place) c.self.view_is
    (row-from_chain c.self.inside.graph c.args.place c.loop-next.out (subst (λ (graph : List (List ℕ)). IsGraph graph) (sym c.self.view_is) c.len.ensures.graph)
    (subst (λ (next : Option ℕ). ChainTo c.self.inside.graph c.args.place c.loop-next.out next) c.in_default.is c.loop-next.invariant))
