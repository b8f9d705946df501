use Rattle.std.proofs.Common.{◌∙◌}
use Rattle.bf_words.proofs.Table.{found_in_table}
use Rattle.bf_words.proofs.options.option_of.Goals as goal

pub returns : goal.returns
returns c = c.row_in.ensures ∙ found_in_table c.args.verb c.args.word.now
