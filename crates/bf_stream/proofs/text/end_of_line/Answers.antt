use Rattle.std.proofs.Common.{arith, Some, None}
use Rattle.std.proofs.lemmas.Bool.{eq-eqb}
use Rattle.bf_stream.proofs.Ends.{end_at-le, end_at-found, end_at-here}
use Rattle.bf_stream.proofs.text.end_of_line.Goals as goal

pub returns-then-bytes-known-eq10 : goal.returns-then-bytes-known-eq10
returns-then-bytes-known-eq10 c = end_at-here c.args.bytes.now c.args.known c.requires c.if-known-bytes.true (eq-eqb _ _ c.if-bytes-known-eq10.true)

pub slice_bounds-memchr-count : goal.slice_bounds-memchr-count
slice_bounds-memchr-count c = omega (arith, end_at-le c.args.bytes.now)

pub slice_bounds-memchr-start : goal.slice_bounds-memchr-start
slice_bounds-memchr-start c = omega (arith, end_at-le c.args.bytes.now)

pub returns-in-Some : goal.returns-in-Some
returns-in-Some c = end_at-found c.args.bytes.now c.args.known (Some c.in-Some.at) c.requires c.in-Some.ensures

pub returns-in-None : goal.returns-in-None
returns-in-None c = end_at-found c.args.bytes.now c.args.known None c.requires c.in-None.ensures
