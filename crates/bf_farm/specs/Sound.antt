-- A board that tells of answers alone.
use Rattle.std.specs.Prelude.{◌≡◌, ℕ, List, All, Option, Some}
use Rattle.bf_oid.specs.declared.object.Oid.{Oid}
use Rattle.bf_search.specs.declared.farm.Event.{Event}
use Rattle.bf_search.specs.declared.farm.Event.TheVariants as events
use Rattle.bf_search.specs.declared.outcomes.Outcome.{Outcome}
use Rattle.bf_search.specs.Outcomes.{outcomes_of_table}
use Rattle.bf_tester.specs.declared.answer.Answer.{Answer}
use Rattle.bf_tester.specs.Replies.{FollowsPlan}
use Rattle.bf_farm.specs.Boards.{BoardView}
use Rattle.bf_farm.specs.Cores.{IsSameStart}
use Rattle.bf_farm.specs.Doers.{AreDoneBy}
use Rattle.bf_farm.specs.Posts.{posts_of}
use Rattle.bf_farm.specs.Reports.{IsAnswered, AnswersFollow, AreAmong}

-- the outcome of a place is among the answers and, where a plan is told, is the plan's
pub record IsSoundPost (told : Option (List Outcome)) (names : List Oid) (answers : List Answer) (p : ℕ) (outcome : Outcome) : Type 0 where
  pub answered : IsAnswered names answers p outcome
  pub planned : FollowsPlan told p outcome

abbrev pub IsSoundEvent : Option (List Outcome) → List Oid → List Answer → Event → Type 0
IsSoundEvent told names answers (events.Post worker p outcome) = IsSoundPost told names answers p outcome
IsSoundEvent told names answers (events.Claim worker p) = Unit {0}
IsSoundEvent told names answers (events.Give worker p) = Unit {0}

-- the outcomes of the table, and those of the posts
pub record IsSound (told : Option (List Outcome)) (names : List Oid) (answers : List Answer) (board : BoardView) : Type 0 where
  pub table : (p : ℕ) (outcome : Outcome) → outcomes_of_table board.core.farm.table p ≡ Some outcome → IsSoundPost told names answers p outcome
  pub posts : All (λ e. IsSoundEvent told names answers e) board.events

-- a board that told of answers alone still does
abbrev pub KeepsSound : BoardView → BoardView → Type 0
KeepsSound old new =
    (told : Option (List Outcome)) (names : List Oid) (answers : List Answer) → IsSound told names answers old → IsSound told names answers new

-- where some events tell of answers alone, a board that did still does
abbrev pub KeepsSoundWith : List Event → BoardView → BoardView → Type 0
KeepsSoundWith es old new =
    (told : Option (List Outcome)) (names : List Oid) (answers : List Answer) → All (λ e. IsSoundEvent told names answers e) es
    → IsSound told names answers old → IsSound told names answers new

-- some answers, which follow the plan, are among these
pub record ArePartOf (told : Option (List Outcome)) (answers part : List Answer) : Type 0 where
  pub planned : AnswersFollow told part
  pub among : AreAmong answers part

-- Claims were given back, and nothing else has changed: the events still tell of answers alone, of the same workers and of
-- the same posts.
pub record GivesBack (old new : BoardView) : Type 0 where
  pub start : IsSameStart old.core new.core
  pub first : new.first ≡ old.first
  pub table : new.core.farm.table ≡ old.core.farm.table
  pub posts : (told : Option (List Outcome)) (names : List Oid) (answers : List Answer)
      → All (λ e. IsSoundEvent told names answers e) old.events → All (λ e. IsSoundEvent told names answers e) new.events
  pub workers : (workers : ℕ) → AreDoneBy workers old.events → AreDoneBy workers new.events
  pub same_posts : posts_of new.events ≡ posts_of old.events
