-- What a reply to a test says of the tester.
use Rattle.std.specs.Prelude.{◌≡◌, ℕ, Bool, true, false, ◌||◌, List, [], ◌∷◌, ◌++◌, Option, Some, None}
use Rattle.bf_io.specs.Causes.{raised}
use Rattle.bf_oid.specs.declared.object.Oid.{Oid}
use Rattle.bf_search.specs.declared.outcomes.Outcome.{Outcome}
use Rattle.bf_search.specs.Outcomes.{planned}
use Rattle.bf_tester.specs.declared.answer.Answer.{Answer}
use Rattle.bf_tester.specs.Looks.{Look}
use Rattle.bf_tester.specs.Plans.{IsReadAs}
use Rattle.bf_tester.specs.declared.answer.TestReply.{TestReply}
use Rattle.bf_tester.specs.declared.answer.TestReply.TheVariants.{Done, Dropped, Failed, NoMemory}

abbrev pub answer_of : ℕ → Oid → Outcome → Answer
answer_of place name outcome = record { place = place; name = name; outcome = outcome }

-- the answers after a reply: a test that was done adds its own at the end, and no other reply adds one
abbrev pub answers_after : TestReply → List Answer → ℕ → Oid → List Answer
answers_after (Done outcome) answers place name = answers ++ answer_of place name outcome ∷ []
answers_after Dropped answers place name = answers
answers_after Failed answers place name = answers
answers_after NoMemory answers place name = answers

-- the place of the latest failed test after a reply
abbrev pub failed_after : TestReply → Option ℕ → ℕ → Option ℕ
failed_after (Done outcome) failed place = failed
failed_after Dropped failed place = failed
failed_after Failed failed place = Some place
failed_after NoMemory failed place = failed

-- where a plan is told, an outcome is the plan's
abbrev pub FollowsPlan : Option (List Outcome) → ℕ → Outcome → Type 0
FollowsPlan None place outcome = Unit {0}
FollowsPlan (Some plan) place outcome = outcome ≡ planned plan place

abbrev pub ReplyFollowsPlan : Option (List Outcome) → ℕ → TestReply → Type 0
ReplyFollowsPlan told place (Done outcome) = FollowsPlan told place outcome
ReplyFollowsPlan told place Dropped = Unit {0}
ReplyFollowsPlan told place Failed = Unit {0}
ReplyFollowsPlan told place NoMemory = Unit {0}

-- a tester that reads leniently answers lenient readings alone
abbrev pub ReplyIsReadAs : Bool → TestReply → Type 0
ReplyIsReadAs is_lenient (Done outcome) = IsReadAs is_lenient outcome
ReplyIsReadAs is_lenient Dropped = Unit {0}
ReplyIsReadAs is_lenient Failed = Unit {0}
ReplyIsReadAs is_lenient NoMemory = Unit {0}

-- where the outcome is a lenient reading, so is the reply
abbrev pub RepliesAsRead : Bool → Outcome → TestReply → Type 0
RepliesAsRead is_lenient outcome reply = IsReadAs is_lenient outcome → ReplyIsReadAs is_lenient reply

abbrev pub is_dropped : TestReply → Bool
is_dropped Dropped = true
is_dropped (Done outcome) = false
is_dropped Failed = false
is_dropped NoMemory = false

abbrev pub is_failed : TestReply → Bool
is_failed Failed = true
is_failed (Done outcome) = false
is_failed Dropped = false
is_failed NoMemory = false

-- one look at the flag was made, and decides whether a request is dropped
pub record DropsByOneLook (before after : Look) (reply : TestReply) : Type 0 where
  pub looked : after.looks ≡ raised before.looks
  pub seen : after.seen ≡ (before.seen || is_dropped reply)
  pub bare : after.bare ≡ before.bare
  pub quiet : before.bare ≡ true → is_dropped reply ≡ false
