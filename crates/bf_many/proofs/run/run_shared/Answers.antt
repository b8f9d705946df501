use Rattle.std.proofs.Common.{ℕ, subst}
use Rattle.bf_many.specs.Cores.{machines_of}
use Rattle.bf_many.specs.Shares.{AreTheirs}
use Rattle.bf_many.proofs.Ending.{reached, tables_left, whole_after}
use Rattle.bf_many.proofs.Helping.{home_itself, manner_of_parts}
use Rattle.bf_many.proofs.Lengths.{long_after}
use Rattle.bf_many.proofs.run.run_shared.Goals as goal

pub returns-in_err-team-clause-manner : goal.returns-in_err-team-clause-manner
returns-in_err-team-clause-manner g c = (home_itself g.T.Tester c.args.testers.now).manner

pub returns-in_err-team-clause-faults : goal.returns-in_err-team-clause-faults
returns-in_err-team-clause-faults g c = (home_itself g.T.Tester c.args.testers.now).faults

pub returns-in_err-team-clause-own : goal.returns-in_err-team-clause-own
returns-in_err-team-clause-own g c = (home_itself g.T.Tester c.args.testers.now).own

pub returns-in_err-replayed-clause-manner : goal.returns-in_err-replayed-clause-manner
returns-in_err-replayed-clause-manner g c = (home_itself g.T.Tester c.args.testers.now).manner

pub returns-in_err-replayed-clause-faults : goal.returns-in_err-replayed-clause-faults
returns-in_err-replayed-clause-faults g c = (home_itself g.T.Tester c.args.testers.now).faults

pub returns-in_err-replayed-clause-own : goal.returns-in_err-replayed-clause-own
returns-in_err-replayed-clause-own g c = (home_itself g.T.Tester c.args.testers.now).own

pub returns-in_err-absorb_all-clause-is_split : goal.returns-in_err-absorb_all-clause-is_split
returns-in_err-absorb_all-clause-is_split g c =
    whole_after g.T.Tester c.args.testers.now c.absorb_all.new.testers c.absorb_all.ensures.is_split c.requires.is_split

pub returns-in_err-tables-clause-is_split : goal.returns-in_err-tables-clause-is_split
returns-in_err-tables-clause-is_split g c =
    whole_after g.T.Tester c.args.testers.now c.absorb_all.new.testers c.absorb_all.ensures.is_split c.requires.is_split

pub returns-clause-is_split : goal.returns-clause-is_split
returns-clause-is_split g c =
    whole_after g.T.Tester c.args.testers.now c.absorb_all.new.testers c.absorb_all.ensures.is_split c.requires.is_split

pub returns-clause-history : goal.returns-clause-history
returns-clause-history g c = record {
  last = machines_of c.in_ok-replayed.replayed.many;
  legal = c.in_ok-replayed.ensures.led;
  reached = reached c.in_ok-replayed.replayed.many c.in_ok-tables.tables.items c.in_ok-replayed.ensures.claims c.in_ok-tables.ensures;
}

pub returns-clause-workers : goal.returns-clause-workers
returns-clause-workers g c =
    (subst (λ (n : ℕ). AreTheirs n c.in_ok-replayed.replayed) c.in_ok-team.ensures.count c.in_ok-replayed.ensures.workers).events

pub returns-clause-tables : goal.returns-clause-tables
returns-clause-tables g c =
    tables_left g.T.Tester c.args.case.names.now c.args.testers.now c.absorb_all.new.testers c.in_ok-team.team.workers.items c.args.case.reach.now
    c.args.case.searches.items c.in_ok-replayed.replayed.many c.in_ok-tables.tables.items c.in_ok-replayed.replayed.events.items
    c.in_ok-replayed.ensures.led c.in_ok-replayed.ensures.tables c.in_ok-tables.ensures c.requires.testers c.absorb_all.ensures.manner
    c.absorb_all.ensures.own c.in_ok-team.ensures.parts c.in_ok-absorb_all.ensures.absorbed

pub returns-clause-long : goal.returns-clause-long
returns-clause-long g c =
    long_after c.args.case.reach.now c.args.case.searches.items c.in_ok-replayed.replayed.many c.in_ok-tables.tables.items
    c.in_ok-replayed.replayed.events.items c.requires.case.each c.in_ok-replayed.ensures.led c.in_ok-tables.ensures

pub absorb_all-requires-after_bounds : goal.absorb_all-requires-after_bounds
absorb_all-requires-after_bounds g c = λ κs lives. manner_of_parts g.T.Tester c.args.testers.now c.in_ok-team.team.workers.items c.in_ok-team.ensures.parts
