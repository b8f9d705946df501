-- What a wait for a command says of the flag that it looks at.
use Rattle.std.specs.Prelude.{◌≡◌, ◌≤◌, Bool, true, false, ◌||◌, Option, Some, None, Result, Ok, Err}
use Rattle.bf_io.specs.Causes.{raised}
use Rattle.bf_tester.specs.Looks.{Look}
use Rattle.bf_tester.specs.Replies.{is_dropped}
use Rattle.bf_tester.specs.declared.answer.TestReply.{TestReply}

-- some looks at the flag were made, or none, and something was dropped exactly where one of them found it raised
pub record LooksOn (before after : Look) (dropped : Bool) : Type 0 where
  pub looked : before.looks ≤ after.looks
  pub seen : after.seen ≡ (before.seen || dropped)
  pub bare : after.bare ≡ before.bare
  pub quiet : before.bare ≡ true → dropped ≡ false

-- whether a command was ended, and so has no outcome
abbrev pub is_withdrawn : {T E : Type 0} → Result (Option T) E → Bool
is_withdrawn (Ok None) = true
is_withdrawn (Ok (Some outcome)) = false
is_withdrawn (Err fault) = false

-- at least one look at the flag was made, and a request is dropped exactly where one of these looks found it raised
pub record DropsByLooks (before after : Look) (reply : TestReply) : Type 0 where
  pub looked : raised before.looks ≤ after.looks
  pub seen : after.seen ≡ (before.seen || is_dropped reply)
  pub bare : after.bare ≡ before.bare
  pub quiet : before.bare ≡ true → is_dropped reply ≡ false
