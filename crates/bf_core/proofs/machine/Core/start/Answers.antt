use Rattle.std.proofs.Common.{◌≡◌, refl, ◌∙◌, [], List, sym, subst}
use Rattle.bf_search.specs.declared.farm.Claim.{Claim}
use Rattle.bf_state.specs.Session.{Session}
use Rattle.bf_state.proofs.Below.{IsSearchOver-from_below}
use Rattle.bf_core.specs.Consuming.{IsCore}
use Rattle.bf_core.proofs.Calls.{starts, consumed_of}
use Rattle.bf_core.proofs.machine.Core.start.Goals as goal

it : (c : goal.After-new-2) → IsCore c.args.state c.args.leg c.args.table [] c.in_ok-run.run' × (c.in_ok-run.run'.tree.graph ≡ c.args.reach.now)
it c =
    starts c.args.reach.now c.args.state c.args.table c.args.leg c.in_ok-tree.tree c.in_ok-run.run' c.len.ensures.graph
    (IsSearchOver-from_below c.args.reach.now c.args.state.len c.args.state.search c.requires.len c.len-2.ensures.below)
    (c.requires.table ∙ sym c.requires.len) c.in_ok-tree.ensures.graph c.in_ok-tree.ensures.session c.in_ok-tree.ensures.root c.in_ok-run.ensures

pub invariant_of-result : goal.invariant_of-result
invariant_of-result c =
    subst (λ (cs : List Claim). IsCore c.of-first.result.value c.args.leg c.args.table cs c.in_ok-run.run') (sym c.new-2.ensures.items)
    (subst (λ (s : Session). IsCore s c.args.leg c.args.table [] c.in_ok-run.run') (sym c.of-first.ensures) (it c).0)

pub returns-clause-started : goal.returns-clause-started
returns-clause-started c = record { on_graph = (it c).1; from = c.of-first.ensures; on_table = refl; in_legs = refl; no_claims = c.new-2.ensures.items }

pub returns-clause-consumed : goal.returns-clause-consumed
returns-clause-consumed c = consumed_of c.of-first.result.value c.args.leg c.args.table c.new-2.result.items c.in_ok-run.run' (invariant_of-result c)
