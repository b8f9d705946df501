-- What a run of tests reports: answers that were given, and no others.
use Rattle.std.specs.Prelude.{◌≡◌, ℕ, Bool, List, All, Contains, Option, Some}
use Rattle.std.specs.List.{slice_get}
use Rattle.bf_oid.specs.declared.object.Oid.{Oid}
use Rattle.bf_search.specs.declared.farm.Event.{Event}
use Rattle.bf_search.specs.declared.farm.Event.TheVariants as events
use Rattle.bf_search.specs.declared.outcomes.Outcome.{Outcome}
use Rattle.bf_search.specs.Outcomes.{outcomes_of_table}
use Rattle.bf_tester.specs.declared.answer.Answer.{Answer}
use Rattle.bf_tester.specs.Grounds.{Ground}
use Rattle.bf_tester.specs.Replies.{answer_of, FollowsPlan}

-- the outcome of a place is among the answers, with the name of its commit
pub record IsAnswered (names : List Oid) (answers : List Answer) (p : ℕ) (outcome : Outcome) : Type 0 where
  pub name : Oid
  pub named : slice_get names p ≡ Some name
  pub given : Contains answers (answer_of p name outcome)

-- each outcome of the table is among the answers
abbrev pub TableIn : List Oid → List Answer → List (Option Outcome) → Type 0
TableIn names answers table = (p : ℕ) (outcome : Outcome) → outcomes_of_table table p ≡ Some outcome → IsAnswered names answers p outcome

-- where a plan is told, each outcome of the table is the plan's
abbrev pub TableFollows : Option (List Outcome) → List (Option Outcome) → Type 0
TableFollows told table = (p : ℕ) (outcome : Outcome) → outcomes_of_table table p ≡ Some outcome → FollowsPlan told p outcome

-- where a plan is told, each answer is the plan's
abbrev pub AnswersFollow : Option (List Outcome) → List Answer → Type 0
AnswersFollow told answers = All (λ a. FollowsPlan told a.place a.outcome) answers

-- a post is of an answer
abbrev pub IsPostIn : List Oid → List Answer → Event → Type 0
IsPostIn names answers (events.Post worker p outcome) = IsAnswered names answers p outcome
IsPostIn names answers (events.Claim worker p) = Unit {0}
IsPostIn names answers (events.Give worker p) = Unit {0}

abbrev pub PostsIn : List Oid → List Answer → List Event → Type 0
PostsIn names answers events = All (λ e. IsPostIn names answers e) events

-- what no test changes in a tester
pub record Manner : Type 0 where
  pub told : Option (List Outcome)
  pub command : List (List ℕ)
  pub is_lenient : Bool
  pub grounds : List Ground
  pub recalled : List Answer

abbrev pub manner_by : {T : Type 0} → (T → Option (List Outcome)) → (T → List (List ℕ)) → (T → Bool) → (T → List Ground) → (T → List Answer) → T → Manner
manner_by told command is_lenient grounds recalled t =
    record { told = told t; command = command t; is_lenient = is_lenient t; grounds = grounds t; recalled = recalled t }

-- some answers are among these
abbrev pub AreAmong : List Answer → List Answer → Type 0
AreAmong answers part = All (λ a. Contains answers a) part
