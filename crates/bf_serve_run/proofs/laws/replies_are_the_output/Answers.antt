use Rattle.bf_serve_run.proofs.Replies.{replies_are_the_output}
use Rattle.bf_serve_run.proofs.laws.replies_are_the_output.Goals as goal

pub returns : goal.returns
returns c = replies_are_the_output
