use Rattle.std.proofs.Common.{refl, ap, ◌∙◌}
use Rattle.bf_stream.specs.Held.{Held, beyond_of, place_of}
use Rattle.bf_stream.proofs.Filled.{nothing-place, nothing-beyond}
use Rattle.bf_stream.proofs.cursor.Cursor.with_window.Goals as goal

pub returns-clause-opens : goal.returns-clause-opens
returns-clause-opens g c =
    let left = g.S.Source.left c.args.source.now in
    record {
      place = ap (λ (h : Held). place_of h left) c.requires.fresh ∙ nothing-place c.args.limits.stream left;
      beyond = ap (λ (h : Held). beyond_of h left) c.requires.fresh ∙ nothing-beyond c.args.limits.stream left;
      count = refl;
      limits = refl;
    }
