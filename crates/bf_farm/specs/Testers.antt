-- What a run of tests does to its tester, by the ghost members of the tester's type.
use Rattle.std.specs.Prelude.{◌≡◌, ℕ, List, ◌++◌, Option}
use Rattle.bf_oid.specs.declared.object.Oid.{Oid}
use Rattle.bf_search.specs.declared.outcomes.Outcome.{Outcome}
use Rattle.bf_tester.specs.declared.tester.Tester.{Ghosts}
use Rattle.bf_farm.specs.declared.alone.Turn.{Turn}
use Rattle.bf_farm.specs.declared.report.Report.{Report}
use Rattle.bf_farm.specs.Answering.{HasFault, IsSoundReport, ReportsTests, lacking}
use Rattle.bf_farm.specs.Boards.{BoardView}
use Rattle.bf_farm.specs.Ends.{EndsWith, TurnEnds, TestsOn, TurnTests, TestsClaimed}
use Rattle.bf_farm.specs.Gains.{GainsMore}
use Rattle.bf_farm.specs.Posts.{GainsPosts}
use Rattle.bf_farm.specs.Reports.{Manner, manner_by, AnswersFollow, AreAmong}
use Rattle.bf_farm.specs.Sound.{IsSound}

-- what no test changes in a tester
abbrev pub manner_of : {T : Type 0} → Ghosts T → T → Manner
manner_of by t = manner_by by.told by.command by.is_lenient by.grounds by.recalled t

-- a tester is of the same manner as another, or as it was before
abbrev pub KeepsManner : {T : Type 0} → Ghosts T → T → T → Type 0
KeepsManner by old new = manner_of by new ≡ manner_of by old

-- a tester that tested more: it is of the same manner, and its answers follow the plan
abbrev pub IsPart : {T : Type 0} → Ghosts T → T → T → Type 0
IsPart by old new = KeepsManner by old new × AnswersFollow (by.told old) (by.answers new)

-- a tester has the answers of another
abbrev pub HasAnswersOf : {T : Type 0} → Ghosts T → T → T → Type 0
HasAnswersOf by tester other = AreAmong (by.answers tester) (by.answers other)

module _ {T : Type 0} (by : Ghosts T) (old new : T) where
  -- ---- over a board, while the tester tests more

  -- a board that told of the tester's answers alone does so with those that it gained
  abbrev pub StaysSound : List Oid → BoardView → BoardView → Type 0
  StaysSound names before after =
      IsSound (by.told old) names (by.answers old) before → IsSound (by.told old) names (by.answers new) after

  -- what was gained over a board stays so, and is more
  abbrev pub GainsBy : List Oid → BoardView → BoardView → Type 0
  GainsBy names before after = GainsMore names before.core (by.answers old) after.core (by.answers new)

  -- the run has ended, or the test of this place has failed
  abbrev pub EndsBy : BoardView → Option ℕ → Type 0
  EndsBy board failed = EndsWith board.core (by.faults old) (by.faults new) (by.failed new) failed

  -- what one turn leaves: no claim; and the run has ended, or a test has failed
  abbrev pub TurnEndsBy : BoardView → Turn → Type 0
  TurnEndsBy board turn = TurnEnds board.core (by.faults old) (by.faults new) (by.failed new) turn

  -- the events that a board gained are the tests of the answers that were gained
  abbrev pub TestsOnBy : BoardView → BoardView → Option ℕ → Type 0
  TestsOnBy before after failed = TestsOn before.events (by.answers old) after.events (by.answers new) failed

  -- so after a turn
  abbrev pub TurnTestsBy : BoardView → BoardView → Turn → Type 0
  TurnTestsBy before after turn = TurnTests before.events (by.answers old) after.events (by.answers new) turn

  -- so since the claim of a place, which was the latest event
  abbrev pub TestsClaimedBy : ℕ → BoardView → BoardView → Turn → Type 0
  TestsClaimedBy p before after turn = TestsClaimed p before.events (by.answers old) after.events (by.answers new) turn

  -- ---- the report of a run

  -- the events that a report has beyond those of a board are the tests of the answers that were gained, and at last the test that failed
  abbrev pub ReportsTestsBy : BoardView → Report → Type 0
  ReportsTestsBy board report = ReportsTests board.events (by.answers old) (by.answers new) report

  -- it tells of the tester's answers alone
  abbrev pub IsSoundBy : List Oid → Report → Type 0
  IsSoundBy names report = IsSoundReport (by.told old) names (by.answers new) report

  -- where it ends with a failed test, the tester's count of faults rose, and it is the latest one that failed
  abbrev pub HasFaultBy : Report → Type 0
  HasFaultBy report = HasFault (by.faults old) (by.faults new) (by.failed new) report

  -- the tester gained the used answers that a table lacks, in order
  abbrev pub GainsLacking : List (Option Outcome) → Report → Type 0
  GainsLacking table report = by.answers new ≡ by.answers old ++ lacking table report.used.items

  -- the answers that the tester gained are the posts of the report
  abbrev pub GainsPostsBy : List Oid → Report → Type 0
  GainsPostsBy names report = GainsPosts names (by.answers old) (by.answers new) report.events.items
