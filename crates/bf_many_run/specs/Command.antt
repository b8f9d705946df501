-- What a call of `many` asks for and meets.
use Rattle.std.specs.Prelude.{◌≡◌, ℕ, ◌≤◌, Bool, false, is_none, List, None}
use Rattle.bf_answers.specs.Answers.{Command}
use Rattle.bf_answers.specs.Devices.{Met, met}
use Rattle.bf_commands.specs.Many.{IsManyOutput, wrong_word}

-- whether the words ask for a list of searches
abbrev pub loads_list : List (List ℕ) → Bool
loads_list words = is_none (wrong_word words)

-- the command of these words: it tests nothing by the tester that it is given
abbrev pub to_many : Met → Command
to_many met = record {
  Tells = IsManyOutput met.words met.shelf.files met.source.left;
  reads = loads_list met.words;
  loads = loads_list met.words;
  tests = false;
}

-- a number of workers
pub record IsCount (workers : ℕ) : Type 0 where
  pub some : 1 ≤ workers
  pub most : workers ≤ 64

-- words that are accepted, for so many workers
pub record IsAsked (words : List (List ℕ)) (workers : ℕ) : Type 0 where
  pub right : wrong_word words ≡ None
  pub count : IsCount workers
