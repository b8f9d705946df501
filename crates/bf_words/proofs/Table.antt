-- The program's table of the options is what is said of them.
use Rattle.std.proofs.Common.{◌≡◌, ℕ, List, map, refl, ap}
use Rattle.bf_words.specs.declared.options.OptionRow.{OptionRow}
use Rattle.bf_words.specs.declared.options.TheConstants.{OPTIONS}
use Rattle.bf_words.specs.declared.verb.Verb.{Verb}
use Rattle.bf_words.specs.Options.{choices, row_of, option_of}
use Rattle.bf_words.specs.Table.{row_in}

-- each option has its row, with its form, and there is no other row
as_said : OPTIONS ≡ map row_of choices
as_said = refl

pub found_in_table : (verb : Verb) (word : List ℕ) → row_in OPTIONS verb word ≡ option_of verb word
unfolding option_of
found_in_table verb word = ap (λ (rows : List OptionRow). row_in rows verb word) as_said
