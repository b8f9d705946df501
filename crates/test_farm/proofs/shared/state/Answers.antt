use Rattle.std.proofs.Common.{refl, sym, subst}
use Rattle.bf_state.specs.Session.{Session}
use Rattle.bf_state.specs.Ends.{HasEnds}
use Rattle.bf_spec.proofs.Halting.{if_ok}
use Rattle.test_farm.proofs.shared.state.Goals as goal

pub returns-clause-ends : goal.returns-clause-ends
returns-clause-ends c =
    if_ok c.new.result c.new.ensures (λ state is.
    subst (λ (s : Session). HasEnds s.search) (sym is) (record { bad = 7; bad_is = refl; some_good = λ e. cc }))
