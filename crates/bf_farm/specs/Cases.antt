-- What a run of tests starts from, and its report.
use Rattle.std.specs.Prelude.{List, Option}
use Rattle.bf_search.specs.declared.outcomes.Outcome.{Outcome}
use Rattle.bf_search.specs.Farm.{Setting}
use Rattle.bf_tester.specs.declared.answer.Answer.{Answer}
use Rattle.bf_tester.specs.declared.tester.Tester.{Ghosts}
use Rattle.bf_farm.specs.declared.case.Case.{Case}
use Rattle.bf_farm.specs.declared.report.Report.{Report}
use Rattle.bf_farm.specs.declared.worker.Worker.{Worker}
use Rattle.bf_farm.specs.Answering.{IsReport, HasHistory}
use Rattle.bf_farm.specs.Boards.{BoardView}
use Rattle.bf_farm.specs.Cores.{setting_at}
use Rattle.bf_farm.specs.Reports.{TableIn, TableFollows}
use Rattle.bf_farm.specs.Sound.{IsSound}
use Rattle.bf_farm.specs.Workers.{AreWorkersOf}

-- the run that a case asks for
abbrev pub setting_of : Case → Setting
setting_of case = setting_at case.reach.now case.state case.leg

-- the report is that of testing the commits of a case one at a time, on the answers that were used
abbrev pub IsReportOn : Case → Report → Type 0
IsReportOn case report = IsReport (setting_of case) case.state case.names.now report

-- its events are legal from the table of a case, leave no claim, and lead to the reported table
abbrev pub HasHistoryOn : Case → Report → Type 0
HasHistoryOn case report = HasHistory (setting_of case) case.table report

-- Where the answers of workers are among some answers, and the table of a case is of these, a board tells of these alone.
abbrev pub IsSoundAgain : {T : Type 0} → Ghosts T → List (Worker T) → Case → BoardView → Type 0
IsSoundAgain by workers case board =
    (told : Option (List Outcome)) (answers : List Answer) → AreWorkersOf by told answers workers
    → TableIn case.names.now answers case.table → TableFollows told case.table → IsSound told case.names.now answers board
