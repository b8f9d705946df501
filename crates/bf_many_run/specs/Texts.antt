-- The texts of several searches, as the code makes them.
use Rattle.std.specs.Prelude.{◌≡◌, ◌+◌, ◌++◌}
use Rattle.bf_answers.specs.declared.answer.Answer.{Answer}
use Rattle.bf_commands.specs.Many.{or_status, search_line}
use Rattle.bf_many_run.specs.declared.text.Texts.{Texts}

-- the text of one more search was added, behind its number
pub record AddsText (old : Texts) (answer : Answer) (new : Texts) : Type 0 where
  pub count : new.count ≡ old.count + 1
  pub status : new.status ≡ or_status old.status answer.status
  pub text : new.text ≡ old.text ++ search_line (old.count + 1) ++ answer.text

-- the answer that has all texts
abbrev pub SaysTexts : Texts → Answer → Type 0
SaysTexts texts answer = (answer.status ≡ texts.status) × (answer.text ≡ texts.text)
