use Rattle.bf_words.specs.Words.{request}
use Rattle.bf_output.proofs.Outputs.{one_for}
use Rattle.bf_output.proofs.laws.one_output.Goals as goal

pub returns : goal.returns
returns c = λ words files tested bytes told other untested untraced whole also_whole.
    one_for told other whole also_whole words files tested (request words) bytes untested untraced
