use Rattle.std.proofs.Common.{◌≡◌, ◌<◌, length, sym, ap, ◌∙◌, arith}
use Rattle.bf_stream.specs.Held.{Held}
use Rattle.bf_stream.specs.Window.{held_bytes}
use Rattle.bf_stream.proofs.Ends.{end_at}
use Rattle.bf_stream.proofs.Plain.{plain_here, first_byte}
use Rattle.bf_stream.proofs.window.Window.note_line.Goals as goal

pub invariant_of-self : goal.invariant_of-self
invariant_of-self c =
    let here : held_bytes c.self.inside ≡ c.args.self.now.bytes = ap (λ (h : Held). h.bytes) c.self.view_is in
    let at : c.args.size ≡ end_at (held_bytes c.self.inside) = c.requires.line ∙ ap end_at (sym here) in
    let lt : c.args.size < length (held_bytes c.self.inside) = omega (arith, ap length here, c.requires.ended) in
    record {
      order = c.self.invariant.order;
      within = c.self.invariant.within;
      size = c.self.invariant.size;
      count = c.self.invariant.count;
      spent = c.self.invariant.spent;
      known = omega arith;
      plain = λ other. plain_here (held_bytes c.self.inside) c.args.size at lt
          (first_byte c.bytes.result.now (held_bytes c.self.inside) (c.bytes.ensures.bytes ∙ sym here) other);
    }
