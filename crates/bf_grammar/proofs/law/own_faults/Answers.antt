use Rattle.bf_grammar.specs.Place.{start_of}
use Rattle.bf_grammar.proofs.Faults.{no_such_fault}
use Rattle.bf_grammar.proofs.Laws.{own_end}
use Rattle.bf_grammar.proofs.law.own_faults.Goals as goal

pub returns-clause-command : goal.returns-clause-command
returns-clause-command c = no_such_fault

pub returns-clause-stream : goal.returns-clause-stream
returns-clause-stream c = λ bytes limits commands fault. own_end limits commands fault (start_of limits.stream bytes)
