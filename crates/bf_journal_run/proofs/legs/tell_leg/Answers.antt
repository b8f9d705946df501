use Rattle.bf_journal_run.proofs.Leading.{err_if}
use Rattle.bf_journal_run.proofs.legs.tell_leg.Goals as goal

pub returns-clause-told : goal.returns-clause-told
returns-clause-told c = record {
  told = c.add_leg.new.self;
  text = c.in_ok-add_leg.ensures.text;
  known = c.in_ok-add_leg.ensures.known;
  trace = c.in_ok-add_leg.ensures.trace;
  on = c.in_ok-gone_with.ensures.on;
  over = c.in_ok-gone_with.ensures.over;
}

pub returns-in_err-add_leg-clause-memory : goal.returns-in_err-add_leg-clause-memory
returns-in_err-add_leg-clause-memory c = err_if _ c.from_residual.result c.from_residual.ensures.1

pub returns-in_err-gone_with-clause-memory : goal.returns-in_err-gone_with-clause-memory
returns-in_err-gone_with-clause-memory c = err_if _ c.from_residual-in_err-gone_with.result c.from_residual-in_err-gone_with.ensures.1
