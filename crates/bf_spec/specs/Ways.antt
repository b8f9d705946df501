-- Paths that ask for a place.
use Rattle.std.specs.Prelude.{◌≡◌, ◌≢◌, ◌↔◌, ℕ, Bool, false, true, not, IsTrue, ◌&&◌, ◌==◌, if◌then◌else◌, List, Option, Some, None}
use Rattle.std.specs.Arc.{arc_value}
use Rattle.std.specs.List.{slice_index_or}
use Rattle.bf_search.specs.declared.asks.Ask.{Ask}
use Rattle.bf_search.specs.declared.asks.Ask.TheVariants.{Test}
use Rattle.bf_search.specs.declared.outcomes.Mark.{Mark}
use Rattle.bf_search.specs.declared.outcomes.Mark.TheVariants.{Skip}
use Rattle.bf_search.specs.declared.outcomes.Outcome.{Outcome}
use Rattle.bf_search.specs.declared.outcomes.Verdict.{Verdict}
use Rattle.bf_search.specs.declared.outcomes.Verdict.TheVariants.{Mark as MarkOf, Abort}
use Rattle.bf_search.specs.Candidates.{is_in}
use Rattle.bf_search.specs.Guesses.{is_candidate_of}
use Rattle.bf_search.specs.OpenPaths.{Allows, Leads}
use Rattle.bf_search.specs.Outcomes.{Outcomes, outcomes_of_table, verdict_of}
use Rattle.bf_search.specs.State.{Search, is_place, mark}
use Rattle.bf_spec.specs.declared.asked.Way.{Way}
use Rattle.bf_spec.specs.declared.asked.Way.TheVariants.{Here, Nowhere, Goes, Guesses}
use Rattle.bf_spec.specs.declared.node.Node.{Node}
use Rattle.bf_spec.specs.Nodes.{Follows}

-- some path from a search asks for this place
abbrev pub IsAsked : List (List ℕ) → Outcomes → Search → ℕ → Type 0
IsAsked graph known s p = (marks : List Mark) × (left : ℕ) × Leads graph known s marks p left

-- only candidates are asked for from a node on, and a place is none of them
abbrev pub is_no_candidate : Node → ℕ → Bool
is_no_candidate node x = node.state.search.checked && not (is_in (arc_value node.sight.mask) x)

abbrev pub way_by_verdict : ℕ → Verdict → Way
way_by_verdict q Abort = Nowhere
way_by_verdict q (MarkOf m) = Goes q m

abbrev pub way_by_outcome : ℕ → Option Outcome → Way
way_by_outcome q None = Guesses q
way_by_outcome q (Some outcome) = way_by_verdict q (verdict_of outcome)

-- where a path to x goes on from a node that has asked for this
abbrev pub way_of : Outcomes → Node → Ask → ℕ → Way
way_of known node (Test q) x = if q == x then Here else if is_no_candidate node x then Nowhere else way_by_outcome q (known q)
way_of known node other x = Nowhere

-- where a path to a place goes on from a node
abbrev pub way_from : List (Option Outcome) → Node → ℕ → Way
way_from table node place = way_of (outcomes_of_table table) node node.step.ask place

-- of the two guesses at q, no other one leads on to x
abbrev pub IsGuessTowards : List (List ℕ) → Search → ℕ → ℕ → Mark → Type 0
IsGuessTowards graph s q x m =
    Allows None m × ((known : Outcomes) (n : Mark) (marks : List Mark) (left : ℕ) → Allows None n → Leads graph known (mark s n q) marks x left → n ≡ m)

-- a node follows by the guess that can lead on to x
abbrev pub GoesTowards : List (List ℕ) → List Node → ℕ → ℕ → ℕ → List Node → ℕ → Type 0
GoesTowards graph old parent q x new child =
    (m : Mark) × Follows old parent m new child × ((d : Node) → IsGuessTowards graph (slice_index_or old parent d).state.search q x m)

-- ---- where nothing is told

-- a place may be asked: it is a candidate, and neither the bad place nor skipped
pub record MayBeAsked (graph : List (List ℕ)) (s : Search) (x : ℕ) : Type 0 where
  pub candidate : is_candidate_of graph s x ≡ true
  pub not_bad : s.bad ≢ Some x
  pub not_skipped : is_in s.skips x ≡ false

-- an outcome says more than that its place is skipped
abbrev pub says_more : Verdict → Bool
says_more (MarkOf Skip) = false
says_more other = true

abbrev pub is_told : Option Outcome → Bool
is_told None = false
is_told (Some outcome) = says_more (verdict_of outcome)

-- no more is known of a place that may be asked than that it is skipped
abbrev pub AreUntold : List (List ℕ) → Outcomes → Search → Type 0
AreUntold graph known s = (q : ℕ) → MayBeAsked graph s q → is_told (known q) ≡ false

-- whether a place may be asked from a node on
abbrev pub may_be_asked : Node → ℕ → Bool
may_be_asked node x = is_in (arc_value node.sight.mask) x && not (is_place node.state.search.bad x) && not (is_in node.state.search.skips x)

-- no outcome of a table says more of a place that may be asked from a node on
abbrev pub IsUntold : List (Option Outcome) → Node → Type 0
IsUntold table node = (q : ℕ) → may_be_asked node q ≡ true → is_told (outcomes_of_table table q) ≡ false

-- the check has passed, a place may be asked, and nothing is told of those that may be
pub record IsSure (table : List (Option Outcome)) (node : Node) (x : ℕ) : Type 0 where
  pub checked : node.state.search.checked ≡ true
  pub may : may_be_asked node x ≡ true
  pub untold : IsUntold table node

-- ---- the answer

-- the answer says whether some path from a node asks for a place
abbrev pub TellsIfAskedFrom : List (List ℕ) → List (Option Outcome) → List Node → ℕ → ℕ → Bool → Type 0
TellsIfAskedFrom graph table nodes start place answer = (d : Node) →
    IsTrue answer ↔ IsAsked graph (outcomes_of_table table) (slice_index_or nodes start d).state.search place
