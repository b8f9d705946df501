-- What stands between requests: the searches that were begun, each with its farm machine, and the words for the next one.
use Rattle.std.specs.Prelude.{ℕ, Bool, not, ◌==◌, ◌&&◌, nat_lt, if◌then◌else◌, List, [], ◌∷◌, filter, map, count_by, slice_set, Some}
use Rattle.std.specs.Option.{is_some}
use Rattle.bf_many.specs.Many.{FarmMachine}
use Rattle.bf_search.specs.declared.farm.Claim.{Claim}
use Rattle.bf_search.specs.declared.outcomes.Outcome.{Outcome}
use Rattle.bf_search.specs.Candidates.{is_in}
use Rattle.bf_search.specs.Farm.{best_place, consumed}
use Rattle.bf_search.specs.Guesses.{is_candidate_of}
use Rattle.bf_search.specs.OpenPaths.{is_claimed, left_of}
use Rattle.bf_search.specs.Outcomes.{lenient, outcomes_of_table}
use Rattle.bf_search.specs.Reach.{places}
use Rattle.bf_search.specs.Run.{Run}
use Rattle.bf_search.specs.State.{Search}
use Rattle.bf_serve.specs.declared.opening.Opening.{Opening}
use Rattle.bf_serve.specs.declared.remaining.Remaining.{Remaining}

-- The searches that were begun, in the order in which they were: for each the words for its two sides, the ends that its
-- log makes known, and whether its outcomes are read leniently; and its farm machine. Beside them the words that stand for
-- the next search.
pub record Searches : Type 0 where
  pub openings : List Opening
  pub machines : List FarmMachine
  pub pending : List (List ℕ)

abbrev pub no_search : Searches
no_search = record { openings = []; machines = []; pending = [] }

-- the run of a search on the outcomes that are known
abbrev pub run_of : FarmMachine → Run
run_of m = consumed m.setting m.farm.table

-- ---- what is left

-- how many candidates of a search are skipped
unfoldable pub away_of : List (List ℕ) → Search → ℕ
away_of graph s = count_by (λ p. is_candidate_of graph s p && is_in s.skips p) (places graph)

-- how many commits may still be the first bad one, and how many of these are skipped
abbrev pub remaining_in : List (List ℕ) → Search → Remaining
remaining_in graph s = record { left = left_of graph s; away = away_of graph s }

abbrev pub left_in : FarmMachine → Remaining
left_in m = remaining_in m.setting.graph (run_of m).search

-- ---- which tests are asked for

-- claims of all places but one
abbrev pub all_but : List (List ℕ) → ℕ → List Claim
all_but graph p = map (λ q. record { worker = 0; place = q }) (filter (λ q. not (q == p)) (places graph))

-- whether some path of a search asks for a place: were all others claimed, there would be an open one
abbrev pub is_asked : FarmMachine → ℕ → Bool
is_asked m p = is_some (best_place m.setting (record m.farm { claims = all_but m.setting.graph p }))

-- a worker among others that stand in ascending order
abbrev pub with_worker : ℕ → List ℕ → List ℕ
with_worker w [] = w ∷ []
with_worker w (v ∷ vs) = if nat_lt w v then w ∷ v ∷ vs else if w == v then v ∷ vs else v ∷ with_worker w vs

abbrev pub ascending : List ℕ → List ℕ
ascending [] = []
ascending (w ∷ ws) = with_worker w (ascending ws)

-- the workers, in ascending order, whose commits no path asks for
abbrev pub needless : FarmMachine → List ℕ
needless m = ascending (map (λ c. c.worker) (filter (λ (c : Claim). not (is_asked m c.place)) m.farm.claims))

-- ---- outcomes

abbrev pub has_outcome : FarmMachine → ℕ → Bool
has_outcome m p = is_some (outcomes_of_table m.farm.table p)

-- whether a worker tests a place for a search
abbrev pub is_tested : FarmMachine → ℕ → Bool
is_tested m p = is_claimed m.farm.claims p

-- an outcome as a search reads it
abbrev pub read_by : Opening → Outcome → Outcome
read_by o outcome = if o.lenient then lenient outcome else outcome

-- an outcome that is known from elsewhere
abbrev pub learned : FarmMachine → ℕ → Outcome → FarmMachine
learned m p outcome = record m { farm = record m.farm { table = slice_set m.farm.table p (Some outcome) } }
