-- How a row is found in the table of the options.
use Rattle.std.specs.Prelude.{ℕ, ◌&&◌, List, find, Option}
use Rattle.bf_words.specs.declared.options.OptionRow.{OptionRow}
use Rattle.bf_words.specs.declared.verb.Verb.{Verb}
use Rattle.bf_words.specs.Options.{is_text, is_with, text_of}

-- the first of these rows whose option a command has and a word gives
abbrev pub row_in : List OptionRow → Verb → List ℕ → Option OptionRow
row_in rows verb word = find (λ (row : OptionRow). is_with verb row.choice && is_text (text_of row.choice) word) rows
