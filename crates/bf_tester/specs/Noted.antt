-- What every tester notes.
use Rattle.std.specs.Prelude.{ℕ, Bool, true, false, ◌||◌, List, [], ◌++◌}
use Rattle.bf_oid.specs.declared.object.Oid.{Oid}
use Rattle.bf_tester.specs.declared.answer.Answer.{Answer}
use Rattle.bf_tester.specs.declared.answer.TestReply.{TestReply}
use Rattle.bf_tester.specs.Replies.{answers_after}

pub record Noted : Type 0 where
  pub command : List (List ℕ)
  pub answers : List Answer  -- the oldest first
  pub is_lenient : Bool
  pub is_split : Bool

-- the notes of a new tester
abbrev pub first_notes : Noted
first_notes = record { command = []; answers = []; is_lenient = false; is_split = false }

-- the notes with this command, read leniently from now on where that is asked
abbrev pub prepared_by : Noted → List (List ℕ) → Bool → Noted
prepared_by notes words leniently = record notes { command = words; is_lenient = notes.is_lenient || leniently }

-- the notes with more answers at the end
abbrev pub with_more : Noted → List Answer → Noted
with_more notes answers = record notes { answers = notes.answers ++ answers }

-- the notes after a reply
abbrev pub notes_after : Noted → TestReply → ℕ → Oid → Noted
notes_after notes reply place name = record notes { answers = answers_after reply notes.answers place name }

-- the notes of a tester that is split off
abbrev pub split_notes : Noted → Noted
split_notes notes = record notes { answers = []; is_split = true }
