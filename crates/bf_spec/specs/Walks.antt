-- Runs through the nodes of a tree.
use Rattle.std.specs.Prelude.{◌≡◌, ◌≢◌, ℕ, zero, ◌<◌, Bool, true, false, List, [], ◌∷◌, ◌++◌, length, Option, Some, None}
use Rattle.std.specs.List.{slice_index_or}
use Rattle.bf_search.specs.declared.asks.Ask.{Ask}
use Rattle.bf_search.specs.declared.asks.Ask.TheVariants.{Test, FirstBad, OnlySkipped, WaitBoth, WaitBad, WaitGood}
use Rattle.bf_search.specs.declared.entries.Entry.{Entry}
use Rattle.bf_search.specs.declared.entries.Entry.TheVariants.{FirstBadFound, OnlySkippedLeft}
use Rattle.bf_search.specs.declared.farm.Ending.{Ending}
use Rattle.bf_search.specs.declared.farm.Ending.TheVariants as endings
use Rattle.bf_search.specs.declared.outcomes.Mark.{Mark}
use Rattle.bf_search.specs.declared.outcomes.Outcome.{Outcome}
use Rattle.bf_search.specs.declared.outcomes.Verdict.{Verdict}
use Rattle.bf_search.specs.declared.outcomes.Verdict.TheVariants.{Mark as MarkOf, Abort}
use Rattle.bf_search.specs.Farm.{end_of}
use Rattle.bf_search.specs.Outcomes.{Outcomes, outcomes_of_table, verdict_of}
use Rattle.bf_search.specs.Run.{End, Answered, Leg, Open, Aborted, Run, ended, after_step, run}
use Rattle.bf_search.specs.State.{Asked, ask, mark}
use Rattle.bf_state.specs.Runs.{is_open}
use Rattle.bf_state.specs.Session.{Session, with_search}
use Rattle.bf_spec.specs.declared.follow.Halt.{Halt}
use Rattle.bf_spec.specs.declared.follow.Halt.TheVariants as halts
use Rattle.bf_spec.specs.declared.follow.Next.{Next}
use Rattle.bf_spec.specs.declared.follow.Next.TheVariants as nexts
use Rattle.bf_spec.specs.declared.follow.Walked.{Walked}
use Rattle.bf_spec.specs.declared.node.Node.{Node}
use Rattle.bf_state.specs.Ends.{marks_of}
use Rattle.bf_spec.specs.Guessed.{asked_at}
use Rattle.bf_spec.specs.Nodes.{path_of, HasPath, IsTree}

-- ---- what contracts say of a run

-- The ending of a run that ended like this: there is none exactly where the run waits for an outcome.
abbrev pub Tells : Option Ending → End → Type 0
Tells None end = is_open end ≡ true
Tells (Some ending) end = (end_of ending ≡ end) × (is_open end ≡ false)

-- ---- one step of a run

abbrev pub next_by_verdict : ℕ → Outcome → Verdict → Next
next_by_verdict p outcome Abort = nexts.Aborted p outcome
next_by_verdict p outcome (MarkOf m) = nexts.Marked p m

abbrev pub next_by_outcome : ℕ → Option Outcome → Next
next_by_outcome p None = nexts.Waits
next_by_outcome p (Some outcome) = next_by_verdict p outcome (verdict_of outcome)

-- what follows an ask, where these outcomes are known
abbrev pub next_of : Outcomes → Ask → Next
next_of known (Test p) = next_by_outcome p (known p)
next_of known other = nexts.Answered

-- an ask that ends a search with both ends
abbrev pub IsAnswer : Ask → Type 0
IsAnswer (Test p) = ⊥
IsAnswer WaitBoth = ⊥
IsAnswer WaitBad = ⊥
IsAnswer WaitGood = ⊥
IsAnswer other = Unit {0}

abbrev pub answer_entries : Ask → List Entry
answer_entries (FirstBad p) = FirstBadFound p ∷ []
answer_entries (OnlySkipped ps) = OnlySkippedLeft ps ∷ []
answer_entries other = []

-- whether no mark is left in a leg
abbrev pub is_over : Option ℕ → Bool
is_over (Some zero) = true
is_over left = false

-- ---- runs in parts

-- what is left of a run where a node has asked
abbrev pub run_below : List (List ℕ) → Outcomes → Option ℕ → Node → Run
run_below graph known left node = after_step known (run graph known) left node.state.search node.step.ask

-- A run makes these entries, and then does as another one. Nothing is said of the outcomes that they used.
pub record LeadsInto (before : List Entry) (rest run : Run) : Type 0 where
  pub entries : run.entries ≡ before ++ rest.entries
  pub search : run.search ≡ rest.search
  pub end : run.end ≡ rest.end

-- what is left of a run over the outcomes of a table where the node at an index has asked
abbrev pub run_at : List (List ℕ) → List (Option Outcome) → Option ℕ → List Node → ℕ → Node → Run
run_at graph table left nodes i d = run_below graph (outcomes_of_table table) left (slice_index_or nodes i d)

-- ---- where a run halts

-- Where a run halts: its node, the entries that lead there, and what is left of the run.
abbrev pub HaltsAt : List Node → List Entry → Halt → Run → Type 0
HaltsAt nodes entries (halts.Answered i) run = (i < length nodes) × ((d : Node) → let node = slice_index_or nodes i d in
    IsAnswer node.step.ask × LeadsInto entries (ended (answer_entries node.step.ask) node.state.search (Answered node.step.ask)) run
    × (path_of node ≡ marks_of entries))
HaltsAt nodes entries (halts.Waits i) run = (i < length nodes) × ((d : Node) → let node = slice_index_or nodes i d in
    (p : ℕ) × (node.step.ask ≡ Test p) × LeadsInto entries (ended [] node.state.search (Open p)) run × (path_of node ≡ marks_of entries))
HaltsAt nodes entries (halts.Aborted i p outcome) run = (i < length nodes) × ((d : Node) → let node = slice_index_or nodes i d in
    LeadsInto entries (ended [] node.state.search (Aborted p outcome)) run × (path_of node ≡ marks_of entries))
HaltsAt nodes entries (halts.Over i j m p) run = (i < length nodes) × (j < length nodes) × ((d : Node) →
    LeadsInto entries (ended [] (mark (slice_index_or nodes i d).state.search m p) Leg) run
    × (path_of (slice_index_or nodes j d) ≡ marks_of entries) × ((slice_index_or nodes i d).step.ask ≡ Test p)
    × (path_of (slice_index_or nodes j d) ≡ path_of (slice_index_or nodes i d) ++ m ∷ []))

-- ---- what was walked

-- what was walked to a node, with these entries and this ending
pub record IsEndedAt (node : Node) (entries : List Entry) (told : Option Ending) (walked : Walked) : Type 0 where
  pub logged : walked.entries.items ≡ entries
  pub ending : walked.ending ≡ told
  pub state : walked.state ≡ node.state
  pub path : walked.path.items ≡ path_of node

-- what was walked in a leg that is over after a mark that leads from one node to another
pub record IsOverAt (from to : Node) (m : Mark) (p : ℕ) (entries : List Entry) (walked : Walked) : Type 0 where
  pub logged : walked.entries.items ≡ entries
  pub ending : walked.ending ≡ Some endings.Leg
  pub state : walked.state ≡ with_search from.state (mark from.state.search m p)
  pub path : walked.path.items ≡ path_of to

-- what was walked has the entries of a run
abbrev pub HasEntries : Run → Walked → Type 0
HasEntries run walked = walked.entries.items ≡ run.entries

-- what was walked ended as a run ended
abbrev pub HasEnding : Run → Walked → Type 0
HasEnding run walked = Tells walked.ending run.end

-- what was walked reached the state of a run, which began in a session
abbrev pub HasState : Session → Run → Walked → Type 0
HasState session run walked = walked.state ≡ with_search session run.search

-- what was walked has the marks of a run
abbrev pub HasMarks : Run → Walked → Type 0
HasMarks run walked = walked.path.items ≡ marks_of run.entries

-- the search of a run is what the end of the walked path has reached, except where a leg was over
abbrev pub IsThere : List (List ℕ) → Asked → Run → Walked → Type 0
IsThere graph root run walked = run.end ≢ Leg → (asked_at graph root walked.path.items).search ≡ run.search

-- the end of the walked path has asked, from the search of a run on: also where a leg was over
abbrev pub HasAsked : List (List ℕ) → Asked → Run → Walked → Type 0
HasAsked graph root run walked = (asked_at graph root walked.path.items).search ≡ (ask graph run.search).search

-- the end of the walked path asks for the place whose outcome a run waits for
abbrev pub IsWaiting : List (List ℕ) → Asked → Run → Walked → Type 0
IsWaiting graph root run walked = (p : ℕ) → run.end ≡ Open p → (asked_at graph root walked.path.items).step.ask ≡ Test p

-- What was walked is this run, and its path has a node.
pub record IsWalked (graph : List (List ℕ)) (session : Session) (root : Asked) (nodes : List Node) (run : Run) (walked : Walked) : Type 0 where
  pub entries : HasEntries run walked
  pub ending : HasEnding run walked
  pub state : HasState session run walked
  pub path : HasMarks run walked
  pub node : HasPath nodes walked.path.items
  pub there : IsThere graph root run walked
  pub asked : HasAsked graph root run walked
  pub waits : IsWaiting graph root run walked

-- what was walked is each run that halts there
abbrev pub WalksHalted : List Node → List Entry → Halt → Walked → Type 0
WalksHalted nodes entries halt walked =
    (graph : List (List ℕ)) (session : Session) (root : Asked) (run : Run) → IsTree graph session root nodes → HaltsAt nodes entries halt run
    → IsWalked graph session root nodes run walked

-- what was walked is the run from the root over the outcomes of a table
abbrev pub WalksRun : List (List ℕ) → List (Option Outcome) → Option ℕ → List Node → List Node → Walked → Type 0
WalksRun graph table left old new walked =
    (session : Session) (root : Asked) → IsTree graph session root old
    → IsWalked graph session root new (run graph (outcomes_of_table table) left root.search) walked
