use Rattle.std.proofs.Common.{refl}
use Rattle.bf_stream.proofs.Holding.{HasLine-text}
use Rattle.bf_stream.proofs.window.Window.line.Goals as goal

pub returns-clause-text : goal.returns-clause-text
returns-clause-text c = HasLine-text c.args.self.now c.bytes-bytes.result.now _ c.end_of_line-end.result c.bytes-bytes.ensures.bytes c.end_of_line-end.ensures
    refl
