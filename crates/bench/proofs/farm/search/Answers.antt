use Rattle.std.proofs.Common.{◌-◌, refl, sym, subst}
use Rattle.bf_state.specs.Ends.{HasEnds}
use Rattle.bf_state.specs.Session.{Session}
use Rattle.bench.proofs.farm.search.Goals as goal

pub start-requires-clause-ends : goal.start-requires-clause-ends
start-requires-clause-ends c = subst (λ (s : Session). HasEnds s.search) (sym c.in_ok-state.ensures)
    (record { bad = c.len-len.result - 1; bad_is = refl; some_good = λ e. cc })
