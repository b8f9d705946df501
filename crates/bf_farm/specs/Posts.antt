-- What was posted, and that it is what was answered.
use Rattle.std.specs.Prelude.{◌≡◌, ℕ, ◌==◌, cond, List, [], ◌∷◌, ◌++◌, flat_map, map, take, All, IsPermutation, Some}
use Rattle.std.specs.List.{slice_get}
use Rattle.bf_oid.specs.declared.object.Oid.{Oid}
use Rattle.bf_search.specs.declared.farm.Event.{Event}
use Rattle.bf_search.specs.declared.farm.Event.TheVariants as events
use Rattle.bf_search.specs.declared.outcomes.Outcome.{Outcome}
use Rattle.bf_tester.specs.declared.answer.Answer.{Answer}
use Rattle.bf_tester.specs.Replies.{answer_of}
use Rattle.bf_farm.specs.Answering.{pair_of}
use Rattle.bf_farm.specs.Doers.{worker_of}

-- what an event posts: a place with its outcome, or nothing
abbrev pub post_in : Event → List (ℕ × Outcome)
post_in (events.Post worker p outcome) = (p, outcome) ∷ []
post_in (events.Claim worker p) = []
post_in (events.Give worker p) = []

-- the posts among events, in order
abbrev pub posts_of : List Event → List (ℕ × Outcome)
posts_of es = flat_map post_in es

-- what an event posts, where it is of this worker
abbrev pub post_by : ℕ → Event → List (ℕ × Outcome)
post_by number e = cond (worker_of e == number) (post_in e) []

-- the posts of one worker, in order
abbrev pub posts_by : ℕ → List Event → List (ℕ × Outcome)
posts_by number es = flat_map (post_by number) es

-- each answer has the name of its place
abbrev pub AreNamed : List Oid → List Answer → Type 0
AreNamed names answers = All (λ a. slice_get names a.place ≡ Some a.name) answers

-- The answers are these posts, in the same order.
pub record ArePostsInOrder (names : List Oid) (posts : List (ℕ × Outcome)) (answers : List Answer) : Type 0 where
  pub named : AreNamed names answers
  pub same : posts ≡ map pair_of answers

-- The answers are these posts, each as often, in whatever order.
pub record ArePosts (names : List Oid) (posts : List (ℕ × Outcome)) (answers : List Answer) : Type 0 where
  pub named : AreNamed names answers
  pub same : IsPermutation posts (map pair_of answers)

-- The answers that were gained are the posts of these events.
pub record GainsPosts (names : List Oid) (before after : List Answer) (es : List Event) : Type 0 where
  pub gained : List Answer
  pub added : after ≡ before ++ gained
  pub posted : ArePosts names (posts_of es) gained

-- the answer at an index is this outcome of this place, with the name of the place
pub record IsNextAnswer (names : List Oid) (answers : List Answer) (seen p : ℕ) (outcome : Outcome) : Type 0 where
  pub name : Oid
  pub named : slice_get names p ≡ Some name
  pub next : slice_get answers seen ≡ Some (answer_of p name outcome)

-- Where the first `seen` answers were a worker's posts, after an event the first `now` ones are.
abbrev pub SeesEvent : List Oid → List Answer → ℕ → Event → ℕ → ℕ → Type 0
SeesEvent names answers number e seen now =
    (posts : List (ℕ × Outcome)) → ArePostsInOrder names posts (take seen answers) → ArePostsInOrder names (posts ++ post_by number e) (take now answers)
