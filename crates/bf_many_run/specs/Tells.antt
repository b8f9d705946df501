-- Answers that tell what is to be told.
use Rattle.std.specs.Prelude.{ℕ, List, Option}
use Rattle.bf_history.specs.Meanings.{History}
use Rattle.bf_io.specs.declared.shelf.ShelfFile.{ShelfFile}
use Rattle.bf_output.specs.Inputs.{IsStreamed, IsTextTold}
use Rattle.bf_answers.specs.declared.answer.Answer.{Answer}
use Rattle.bf_answers.specs.Tellings.{Says, told_of}
use Rattle.bf_commands.specs.Many.{IsManyOutput, told_of_list}

abbrev pub TellsText : History → List ℕ → Answer → Type 0
TellsText history text answer = Says (told_of_list history text) answer

abbrev pub TellsStreamed : List (List ℕ) → Option (List ShelfFile) → Option (List ℕ) → Answer → Type 0
TellsStreamed words files left answer = IsStreamed (IsTextTold told_of_list words 2 files) left (told_of answer)

abbrev pub TellsOutput : List (List ℕ) → Option (List ShelfFile) → Option (List ℕ) → Answer → Type 0
TellsOutput words files left answer = IsManyOutput words files left (told_of answer)
