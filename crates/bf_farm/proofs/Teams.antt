-- Workers that were split off and tested, and a tester that has all of their answers.
use Rattle.std.proofs.Common.{List}
use Rattle.bf_tester.specs.declared.tester.Tester.{Ghosts}
use Rattle.bf_farm.specs.declared.worker.Worker.{Worker}
use Rattle.bf_farm.specs.Workers.{AreWorkersOf, ArePartsOf, HasAllAnswersOf}

pub parts_of_team : {T : Type 0} (by : Ghosts T) (tester home : T) (workers : List (Worker T)) → ArePartsOf by tester workers
    → HasAllAnswersOf by home workers → AreWorkersOf by (by.told tester) (by.answers home) workers
parts_of_team by tester home workers parts among = λ k d l. record { planned = (parts k d l).1; among = among k d l }
