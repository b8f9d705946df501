use Rattle.std.proofs.Common.{◌≡◌, false, List, sym, ◌∙◌, subst}
use Rattle.std.specs.List.{slice_index_or}
use Rattle.bf_search.specs.Outcomes.{outcomes_of_table}
use Rattle.bf_search.specs.Run.{Run}
use Rattle.bf_spec.specs.declared.node.Node.{Node}
use Rattle.bf_spec.specs.Nodes.{IsTree, AreNodes}
use Rattle.bf_spec.specs.Walks.{is_over, run_below, HaltsAt, IsWalked}
use Rattle.bf_spec.proofs.Growing.{extends_nodes}
use Rattle.bf_spec.proofs.Halting.{if_ok, run_root, spent_walked}
use Rattle.bf_spec.proofs.follow.run_from.Goals as goal

pub returns-then-is_over-clause-walked : goal.returns-then-is_over-clause-walked
returns-then-is_over-clause-walked c = if_ok c.ended_at.result c.ended_at.ensures (λ walked is session root t.
    spent_walked c.args.reach.now (outcomes_of_table c.args.table.now) c.args.left session root c.args.nodes.now.items c.args.start c.index.result.now
    c.new-entries.result.items walked t c.requires.start c.requires.root c.index.ensures
    (sym c.is_over.ensures ∙ c.if-is_over.true) c.new-entries.ensures.items is)

pub halted-requires-clause-halts : goal.halted-requires-clause-halts
halted-requires-clause-halts c = (
  run_below c.args.reach.now (outcomes_of_table c.args.table.now) c.args.left
      (slice_index_or c.args.nodes.now.items c.args.start c.requires.nodes.tree.rooted.node),
  subst (λ (xs : List Node). HaltsAt xs c.follow.new.entries.items c.in_ok-halt.halt
      (run_below c.args.reach.now (outcomes_of_table c.args.table.now) c.args.left
      (slice_index_or c.args.nodes.now.items c.args.start c.requires.nodes.tree.rooted.node)))
      (sym c.as_slice.ensures.value) (c.in_ok-halt.ensures.halts c.requires.nodes.tree.rooted.node),
)

pub halted-requires-clause-places : goal.halted-requires-clause-places
halted-requires-clause-places c = (
  c.args.reach.now,
  subst (λ (xs : List Node). AreNodes c.args.reach.now xs) (sym c.as_slice.ensures.value)
      (extends_nodes c.args.reach.now c.args.nodes.now.items c.follow.new.nodes.items c.in_ok-halt.ensures.extends c.requires.nodes),
)

pub returns-clause-walked : goal.returns-clause-walked
returns-clause-walked c = if_ok c.halted.result c.halted.ensures (λ walked h session root t.
    let d : Node = c.requires.nodes.tree.rooted.node in
    let below : Run = run_below c.args.reach.now (outcomes_of_table c.args.table.now) c.args.left (slice_index_or c.args.nodes.now.items c.args.start d) in
    let on : is_over c.args.left ≡ false = sym c.is_over.ensures ∙ c.if-is_over.false in
    let halts : HaltsAt c.as_slice.result.now c.follow.new.entries.items c.in_ok-halt.halt below
    = subst (λ (xs : List Node). HaltsAt xs c.follow.new.entries.items c.in_ok-halt.halt below)
    (sym c.as_slice.ensures.value) (c.in_ok-halt.ensures.halts d) in
    let tree : IsTree c.args.reach.now session root c.as_slice.result.now
    = subst (λ (xs : List Node). IsTree c.args.reach.now session root xs) (sym c.as_slice.ensures.value) (c.in_ok-halt.ensures.extends.stays session root t) in
    subst (λ (r : Run). IsWalked c.args.reach.now session root c.follow.new.nodes.items r walked)
    (sym (run_root c.args.reach.now (outcomes_of_table c.args.table.now) c.args.left session root c.args.nodes.now.items c.args.start d t c.requires.start
    c.requires.root on))
    (subst (λ (xs : List Node). IsWalked c.args.reach.now session root xs below walked) c.as_slice.ensures.value
    (h c.args.reach.now session root below tree halts)))
