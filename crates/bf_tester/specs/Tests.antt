-- What a test of a commit, and what taking over answers, does to a tester, by the ghost members of the tester's type.
use Rattle.std.specs.Prelude.{◌≡◌, ℕ, ◌≤◌, List, ◌++◌, ◌∷◌, []}
use Rattle.bf_io.specs.Causes.{Rose}
use Rattle.bf_oid.specs.declared.object.Oid.{Oid}
use Rattle.bf_tester.specs.Replies.{answers_after, failed_after, ReplyFollowsPlan, ReplyIsReadAs}
use Rattle.bf_tester.specs.declared.answer.TestReply.{TestReply}
use Rattle.bf_tester.specs.declared.answer.TestReply.TheVariants.{Done, Dropped, Failed, NoMemory}
use Rattle.bf_tester.specs.declared.answer.Tested.{Tested}
use Rattle.bf_tester.specs.declared.process.ProcessTester.{ProcessTester}
use Rattle.bf_tester.specs.declared.tester.Tester.{Ghosts}

module _ {T : Type 0} (by : Ghosts T) where
  -- what no test and no taking over changes in a tester
  pub record KeepsManner (old new : T) : Type 0 where
    pub told : by.told new ≡ by.told old
    pub command : by.command new ≡ by.command old
    pub is_split : by.is_split new ≡ by.is_split old
    pub is_lenient : by.is_lenient new ≡ by.is_lenient old
    pub grounds : by.grounds new ≡ by.grounds old
    pub recalled : by.recalled new ≡ by.recalled old

  -- the answers of one tester may be taken over by the other
  pub record AreOfOneKind (tester other : T) : Type 0 where
    pub command : by.command tester ≡ by.command other
    pub is_lenient : by.is_lenient tester ≡ by.is_lenient other
    pub grounds : by.grounds tester ≡ by.grounds other
    pub recalled : by.recalled tester ≡ by.recalled other

  -- The test of a commit at a place ended with a reply: an answer is noted, as the plan says and as outcomes are read,
  -- and so is the place of a test that failed.
  pub record NotesReply (old new : T) (place : ℕ) (name : Oid) (reply : TestReply) : Type 0 where
    pub answers : by.answers new ≡ answers_after reply (by.answers old) place name
    pub planned : ReplyFollowsPlan (by.told old) place reply
    pub read : ReplyIsReadAs (by.is_lenient old) reply
    pub failed : by.failed new ≡ failed_after reply (by.failed old) place

  -- the count of faults did not fall, and a test fails only where it rose
  pub record HasCauseOf (old new : T) (reply : TestReply) : Type 0 where
    pub later : by.faults old ≤ by.faults new
    pub fault : reply ≡ Failed → Rose (by.faults old) (by.faults new)

  -- the faults are as they were, and so is the place of the latest test that failed
  pub record KeepsFaults (old new : T) : Type 0 where
    pub faults : by.faults new ≡ by.faults old
    pub failed : by.failed new ≡ by.failed old

-- ---- tests in folders

abbrev pub test_of : ℕ → Oid → Tested
test_of place tree = record { place = place; tree = tree }

-- the tests in folders after a reply: a test that was done adds its place with the name of the tree, and no other reply
-- adds one
abbrev pub tested_after : TestReply → List Tested → ℕ → Oid → List Tested
tested_after (Done outcome) tested place tree = tested ++ test_of place tree ∷ []
tested_after Dropped tested place tree = tested
tested_after Failed tested place tree = tested
tested_after NoMemory tested place tree = tested

-- the tests that a tester of a command made in folders, the oldest first
abbrev pub tested_by : ProcessTester → List Tested
tested_by tester = tester.tested.items
