use Rattle.std.proofs.Common.{refl}
use Rattle.bf_stream.specs.contracts.window.Window.{the_view}
use Rattle.bf_stream.proofs.Holding.{view-advanced}
use Rattle.bf_stream.proofs.window.Window.advance.Goals as goal

pub returns : goal.returns
returns c = rw (← c.self.view_is) (view-advanced (the_view c.self.inside) c.self.inside.buf.items c.self.inside.start c.self.inside.end c.args.count
    c.args.lines refl)
