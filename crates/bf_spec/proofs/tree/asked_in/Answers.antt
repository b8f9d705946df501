use Rattle.std.proofs.Common.{◌≡◌, ◌↔◌, ◌<◌, IsTrue, List, [], length, subst}
use Rattle.std.specs.List.{slice_index_or}
use Rattle.bf_search.specs.Outcomes.{outcomes_of_table}
use Rattle.bf_search.specs.State.{Asked}
use Rattle.bf_spec.specs.declared.node.Node.{Node}
use Rattle.bf_spec.specs.Nodes.{path_of}
use Rattle.bf_spec.specs.Ways.{IsAsked}
use Rattle.bf_spec.proofs.Halting.{if_ok, root_search}
use Rattle.bf_spec.proofs.tree.asked_in.Goals as goal

pub returns-clause-asked : goal.returns-clause-asked
returns-clause-asked c = if_ok c.is_asked_from.result c.is_asked_from.ensures.asked (λ asked h session root t.
    let found = subst (λ (xs : List Node). (c.in-Some.start < length xs) × ((e : Node) → path_of (slice_index_or xs c.in-Some.start e) ≡ []))
    c.as_slice.ensures.value c.in-Some.ensures.found in
    subst (λ (a : Asked). IsTrue asked ↔ IsAsked c.args.reach.now (outcomes_of_table c.args.table.now) a.search c.args.place)
    (root_search c.args.reach.now session root c.args.nodes.now.items c.in-Some.start t.rooted.node t found.0 found.1) (h t.rooted.node))
