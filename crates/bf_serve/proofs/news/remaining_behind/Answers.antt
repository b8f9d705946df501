use Rattle.std.proofs.Common.{◌≡◌, drop, refl, sym, ap, subst, ◌∙◌}
use Rattle.std.specs.Result.{IfOk}
use Rattle.bf_many.specs.Cores.{machine_of}
use Rattle.bf_serve.specs.declared.remaining.Remaining.{Remaining}
use Rattle.bf_serve.specs.Searches.{remaining_in}
use Rattle.bf_serve.proofs.Moving.{left_behind, none_of}
use Rattle.bf_serve.proofs.Running.{remaining_is, state_over}
use Rattle.bf_serve.proofs.news.remaining_behind.Goals as goal

pub remaining_in-requires : goal.remaining_in-requires
remaining_in-requires c =
    state_over c.args.reach.now c.args.core.now c.state.result.now c.requires.graph c.requires.over c.requires.consumed c.state.ensures.state

pub returns-then-is_empty : goal.returns-then-is_empty
returns-then-is_empty c = λ old stands knows.
    left_behind old (machine_of c.args.core.now) c.args.standing c.args.further.now stands knows
    (c.requires.further ∙ ap (drop c.args.standing.entries) c.requires.consumed.entries)
    (none_of c.args.further.now (sym c.is_empty.ensures ∙ c.if-is_empty.true))

pub returns-else-is_empty : goal.returns-else-is_empty
returns-else-is_empty c = λ old stands knows.
    subst (λ (left : Remaining). IfOk c.remaining_in.result (λ remaining. remaining ≡ left))
    (remaining_is c.args.reach.now c.args.core.now c.state.result.now (remaining_in c.args.reach.now c.state.result.now.search) c.requires.over
    c.requires.consumed c.state.ensures.state refl)
    c.remaining_in.ensures
