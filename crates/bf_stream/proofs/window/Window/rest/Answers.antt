use Rattle.std.proofs.Common.{◌∙◌, ap, sym, arith}
use Rattle.std.specs.Option.{option_to_list}
use Rattle.bf_stream.proofs.Ends.{end_at-le}
use Rattle.bf_stream.proofs.Resting.{rest_none, rest_some}
use Rattle.bf_stream.proofs.window.Window.rest.Goals as goal

pub with_end_of_line-behind-requires : goal.with_end_of_line-behind-requires
with_end_of_line-behind-requires c = omega (arith, end_at-le c.bytes-bytes.result.now)

pub returns-in-None-clause-rest : goal.returns-in-None-clause-rest
returns-in-None-clause-rest c =
    rest_none c.args.self.now c.bytes-bytes.result.now _ c.with_end_of_line-behind.result _ c.bytes-bytes.ensures.bytes c.end_of_line-end.ensures
    c.with_end_of_line-behind.ensures c.in_ok-rest.ensures (sym c.beyond.ensures.beyond ∙ ap option_to_list c.in-None.is)

pub returns-in_ok-push-in-Some-clause-rest : goal.returns-in_ok-push-in-Some-clause-rest
returns-in_ok-push-in-Some-clause-rest c =
    rest_some c.args.self.now c.bytes-bytes.result.now _ c.with_end_of_line-behind.result _ _ c.in-Some.byte c.bytes-bytes.ensures.bytes
    c.end_of_line-end.ensures c.with_end_of_line-behind.ensures c.in_ok-rest.ensures (sym c.beyond.ensures.beyond ∙ ap option_to_list c.in-Some.is)
    c.in_ok-push-in-Some.ensures.ok
