use Rattle.std.proofs.Common.{ap, subst}
use Rattle.bf_stream.specs.Held.{Held, IsSpent}
use Rattle.bf_stream.proofs.Filled.{spent_seen}
use Rattle.bf_stream.proofs.window.Window.beyond.Goals as goal

pub returns-clause-beyond : goal.returns-clause-beyond
returns-clause-beyond c = ap (λ (h : Held). h.beyond) c.self.view_is

pub returns-clause-past : goal.returns-clause-past
returns-clause-past c = ap (λ (h : Held). h.past) c.self.view_is

pub returns-clause-spent : goal.returns-clause-spent
returns-clause-spent c = subst IsSpent c.self.view_is (spent_seen c.self.inside.beyond c.self.inside.quota c.self.invariant.spent)
