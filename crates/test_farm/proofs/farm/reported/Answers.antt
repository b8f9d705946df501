use Rattle.bf_farm.proofs.Untold.{none_is_answered, none_is_planned}
use Rattle.test_farm.proofs.farm.reported.Goals as goal

pub run_alone-requires-clause-known : goal.run_alone-requires-clause-known
run_alone-requires-clause-known g c = λ κs lives.
    none_is_answered c.in_ok-case.case.names.now (g.T.Tester.answers c.args.tester.now) c.in_ok-case.case.table 8 c.in_ok-case.ensures.table

pub run_alone-requires-clause-plan : goal.run_alone-requires-clause-plan
run_alone-requires-clause-plan g c = λ κs lives. none_is_planned (g.T.Tester.told c.args.tester.now) c.in_ok-case.case.table 8 c.in_ok-case.ensures.table

pub run_farm-requires-clause-known : goal.run_farm-requires-clause-known
run_farm-requires-clause-known g c = λ κs lives.
    none_is_answered c.in_ok-case.case.names.now (g.T.Tester.answers c.args.tester.now) c.in_ok-case.case.table 8 c.in_ok-case.ensures.table

pub run_farm-requires-clause-plan : goal.run_farm-requires-clause-plan
run_farm-requires-clause-plan g c = λ κs lives. none_is_planned (g.T.Tester.told c.args.tester.now) c.in_ok-case.case.table 8 c.in_ok-case.ensures.table
