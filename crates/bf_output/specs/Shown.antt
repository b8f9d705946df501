-- What a tester shows, and what a command does to it before it tests.
use Rattle.std.specs.Prelude.{◌≡◌, ℕ, Bool, ◌||◌, List, [], drop, Option, Some, None}
use Rattle.bf_search.specs.declared.outcomes.Outcome.{Outcome}
use Rattle.bf_tester.specs.declared.answer.Answer.{Answer}
use Rattle.bf_tester.specs.declared.tester.Tester.{Ghosts}
use Rattle.bf_tester.specs.Plans.{PreparesTold}
use Rattle.bf_words.specs.declared.request.Request.{Request}

-- what a tester shows: the outcomes by place, where it tells them, how it tests, the answers that it gave, and its faults
pub record TesterShown : Type 0 where
  pub plan : Option (List Outcome)
  pub command : List (List ℕ)
  pub is_lenient : Bool
  pub answers : List Answer
  pub faults : ℕ
  pub failed : Option ℕ
  pub is_split : Bool

-- what a tester shows, by the ghost members of its type
abbrev pub shown_by : {T : Type 0} → Ghosts T → T → TesterShown
shown_by by t = record {
  plan = by.told t;
  command = by.command t;
  is_lenient = by.is_lenient t;
  answers = by.answers t;
  faults = by.faults t;
  failed = by.failed t;
  is_split = by.is_split t;
}

-- the words after `--`
abbrev pub command_of : Request → List (List ℕ) → List (List ℕ)
command_of request words = tail_from words request.tail
  where
    tail_from : List (List ℕ) → Option ℕ → List (List ℕ)
    tail_from words None = []
    tail_from words (Some i) = drop i words

-- the tester took the command and the reading of its outcomes, before it tested
pub record IsPrepared (request : Request) (words : List (List ℕ)) (before after : TesterShown) : Type 0 where
  pub command : after.command ≡ command_of request words
  pub is_lenient : after.is_lenient ≡ (before.is_lenient || request.lenient)
  pub plan : PreparesTold request.lenient before.plan after.plan
  pub is_split : after.is_split ≡ before.is_split
