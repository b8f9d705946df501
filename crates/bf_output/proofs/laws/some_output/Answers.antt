use Rattle.bf_words.specs.Words.{request}
use Rattle.bf_output.proofs.Outputs.{some_for}
use Rattle.bf_output.proofs.laws.some_output.Goals as goal

pub returns : goal.returns
returns c = λ words files tested bytes none untraced. some_for words files tested none (request words) bytes untraced
