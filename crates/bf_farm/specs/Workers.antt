-- Workers, each with a tester of its own.
use Rattle.std.specs.Prelude.{◌≡◌, ℕ, ◌<◌, suc, List, ◌++◌, flat_map, length, All, Option}
use Rattle.std.specs.List.{slice_index_or}
use Rattle.bf_oid.specs.declared.object.Oid.{Oid}
use Rattle.bf_search.specs.declared.farm.Event.{Event}
use Rattle.bf_search.specs.declared.outcomes.Outcome.{Outcome}
use Rattle.bf_tester.specs.declared.answer.Answer.{Answer}
use Rattle.bf_tester.specs.declared.tester.Tester.{Ghosts}
use Rattle.bf_farm.specs.declared.worker.Worker.{Worker}
use Rattle.bf_farm.specs.Doers.{AreDoneBy}
use Rattle.bf_farm.specs.Posts.{ArePostsInOrder, posts_by}
use Rattle.bf_farm.specs.Sound.{ArePartOf}
use Rattle.bf_farm.specs.Testers.{KeepsManner, IsPart, HasAnswersOf}

-- the answers of all workers, which follow the plan, are among these
abbrev pub AreWorkersOf : {T : Type 0} → Ghosts T → Option (List Outcome) → List Answer → List (Worker T) → Type 0
AreWorkersOf by told answers workers = All (λ w. ArePartOf told answers (by.answers w.tester)) workers

-- the workers' testers are of the same manner as a tester
abbrev pub AreOfManner : {T : Type 0} → Ghosts T → T → List (Worker T) → Type 0
AreOfManner by tester workers = All (λ w. KeepsManner by tester w.tester) workers

-- the workers' testers were split off from a tester, and tested
abbrev pub ArePartsOf : {T : Type 0} → Ghosts T → T → List (Worker T) → Type 0
ArePartsOf by tester workers = All (λ w. IsPart by tester w.tester) workers

-- a tester has the answers of all workers
abbrev pub HasAllAnswersOf : {T : Type 0} → Ghosts T → T → List (Worker T) → Type 0
HasAllAnswersOf by tester workers = All (λ w. HasAnswersOf by tester w.tester) workers

-- each worker's tester tested more
abbrev pub TestedMore : {T : Type 0} → Ghosts T → List (Worker T) → List (Worker T) → Type 0
TestedMore by old new =
    (k : ℕ) (d : Worker _) → k < length old → IsPart by (slice_index_or old k d).tester (slice_index_or new k d).tester

-- the answers of all workers, those of the first one first
abbrev pub answers_of : {T : Type 0} → Ghosts T → List (Worker T) → List Answer
answers_of by workers = flat_map (λ w. by.answers w.tester) workers

-- a tester gained the answers of all workers, and no others
abbrev pub GainsAnswersOf : {T : Type 0} → Ghosts T → T → T → List (Worker T) → Type 0
GainsAnswersOf by old new workers = by.answers new ≡ by.answers old ++ answers_of by workers

-- The answers of each worker are its posts, in order. The first so many workers are looked at.
abbrev pub AnswersArePosts : {T : Type 0} → Ghosts T → List (Worker T) → List Oid → List Event → ℕ → Type 0
AnswersArePosts by workers names es count =
    (k : ℕ) (d : Worker _) → k < count → ArePostsInOrder names (posts_by (suc k) es) (by.answers (slice_index_or workers k d).tester)

-- Workers did these events, and the answers of each are its posts, in order.
pub record AreAllPosted {T : Type 0} (by : Ghosts T) (workers : List (Worker T)) (names : List Oid) (es : List Event) : Type 0 where
  pub done : AreDoneBy (length workers) es
  pub each : AnswersArePosts by workers names es (length workers)
