-- What the code searches, as the definition of legs has it.
use Rattle.std.specs.Prelude.{◌≡◌, ◌<◌, ℕ, List, length, replicate, Option, None}
use Rattle.bf_farm.specs.declared.report.Report.{Report}
use Rattle.bf_runs.specs.declared.case.RunSettings.{RunSettings}
use Rattle.bf_runs.specs.declared.legs.Standing.{Standing}
use Rattle.bf_runs.specs.Legs.{Course, Stand, IsReady, IsLegRun, LeadsOn}
use Rattle.bf_search.specs.declared.farm.Ending.TheVariants as ending
use Rattle.bf_search.specs.declared.outcomes.Outcome.{Outcome}
use Rattle.bf_search.specs.LeftToAsk.{left_to_ask}
use Rattle.bf_search.specs.State.{Search, IsSearchOver}
use Rattle.bf_state.specs.Session.{Session}
use Rattle.bf_tester.specs.declared.tester.Tester.{Ghosts}

-- a search over a history, from where it begins
abbrev pub course_from : RunSettings → Search → Course
course_from search first = record {
  graph = search.history.now.parents;
  names = search.history.now.names;
  first = first;
  leg = search.leg;
  workers = search.workers;
}

abbrev pub stand_of : Standing → Stand
stand_of standing = record { search = standing.state.search; table = standing.table }

-- no outcome of the commits of a graph is known
abbrev pub KnowsNothing : List (List ℕ) → Standing → Type 0
KnowsNothing graph standing = standing.table ≡ replicate (length graph) None

-- a leg of a search may begin from a session and a table, whose outcomes the tester answered
abbrev pub CanBegin : {T : Type 0} → Ghosts T → T → RunSettings → Session → List (Option Outcome) → Type 0
CanBegin by tester search session table =
    IsReady search.history.now.parents search.history.now.names (by.told tester) (by.answers tester) session table

-- the report is the run of the leg that begins here, wherever the search began
abbrev pub IsRunOfLeg : RunSettings → Standing → Report → Type 0
IsRunOfLeg search standing report = (first : Search) → IsLegRun (course_from search first) standing.state report

-- a leg that ended after its marks leaves fewer places to ask for than it found
abbrev pub LeavesFewer : List (List ℕ) → Standing → Report → Type 0
LeavesFewer graph standing report =
    report.ending ≡ ending.Leg → left_to_ask graph report.state.search < left_to_ask graph standing.state.search

module _ {T : Type 0} (by : Ghosts T) (old new : T) (search : RunSettings) where
  -- the leg that begins here leads on, wherever the search began, while the tester tests more
  abbrev pub LegLeads : Standing → Report → Type 0
  LegLeads standing report =
      (first : Search) → IsSearchOver search.history.now.parents first
      → LeadsOn (course_from search first) (by.told old) (by.answers old) (by.answers new) (stand_of standing) report

  -- a next leg may begin where the report ends
  abbrev pub LeavesReady : Report → Type 0
  LeavesReady report =
      IsReady search.history.now.parents search.history.now.names (by.told old) (by.answers new) report.state report.table
