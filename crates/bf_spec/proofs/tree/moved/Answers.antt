use Rattle.std.proofs.Common.{rules, refl, sym}
use Rattle.std.proofs.lemmas.List.Elements.{Contains-get_or}
use Rattle.bf_spec.proofs.Growing.{asked_within, sight_of}
use Rattle.bf_spec.proofs.Rerooting.{asks_at, moved_tree}
use Rattle.bf_spec.proofs.tree.moved.Goals as goal

pub unreachable-requires-in_default-ask : goal.unreachable-requires-in_default-ask
unreachable-requires-in_default-ask c =
    c.in_default-ask.not-Test c.requires.asks.0
    (asks_at c.args.reach.now c.requires.nodes.session c.requires.nodes.root c.args.nodes.now c.in-Some.start _ c.requires.asks.0 c.requires.nodes.tree
    c.in-Some.ensures.found
    (c.requires.asks.1 c.requires.nodes.session c.requires.nodes.root c.requires.nodes.tree))

pub grown-requires-clause-below : goal.grown-requires-clause-below
grown-requires-clause-below c =
    asked_within c.args.reach.now c.args.nodes.now _ c.in-Test.place c.requires.nodes
    (Contains-get_or c.args.nodes.now c.in-Some.start _ c.in-Some.ensures.found.0) c.in-Test.is

pub grown-requires-clause-sight : goal.grown-requires-clause-sight
grown-requires-clause-sight c = sight_of c.args.reach.now c.args.nodes.now c.index-nodes-start.result c.requires.nodes
    (c.in-Some.start, c.in-Some.ensures.found.0, sym c.index-nodes-start.is)

pub returns-clause-tree : goal.returns-clause-tree
returns-clause-tree c =
    moved_tree c.args.reach.now c.args.nodes.now c.in-Some.start c.index-nodes-start.result c.in_ok-node.node _ c.args.mark c.in-Some.ensures.found
    c.index-nodes-start.is c.in_ok-node.ensures (search rules) refl refl refl
