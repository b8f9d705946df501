-- What the program answers: a status, and the text that is written.
use Rattle.std.specs.Prelude.{ℕ, List, Result, Ok, Err}
use Rattle.bf_output.specs.declared.status.Status.{Status}

pub record Told : Type 0 where
  pub status : Status
  pub text : List ℕ

-- what is answered in the end: a refusal, or what the last step tells
abbrev pub told_by : Result Told Told → Told
told_by (Ok told) = told
told_by (Err told) = told
