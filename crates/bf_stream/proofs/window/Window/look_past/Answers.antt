use Rattle.std.proofs.Common.{sym, ap, ◌∙◌}
use Rattle.bf_stream.specs.Window.{is_seen}
use Rattle.bf_stream.proofs.Filled.{past_already}
use Rattle.bf_stream.proofs.window.Window.look_past.Goals as goal

pub returns-in-Some-clause-filled : goal.returns-in-Some-clause-filled
returns-in-Some-clause-filled g c = past_already c.args.self.now (sym c.beyond.ensures.past ∙ ap is_seen c.in-Some.is) c.requires
