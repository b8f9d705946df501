use Rattle.std.proofs.Common.{[], ◌∷◌, true, ap, ◌∙◌}
use Rattle.bf_stream.specs.Held.{Held}
use Rattle.bf_stream.proofs.window.Window.note_beyond.Goals as goal

pub invariant_of-self : goal.invariant_of-self
invariant_of-self c = record {
  order = c.self.invariant.order;
  within = c.self.invariant.within;
  size = c.self.invariant.size;
  count = c.self.invariant.count;
  spent = λ seen. ap (λ (h : Held). h.quota) c.self.view_is ∙ c.requires;
  known = c.self.invariant.known;
  plain = c.self.invariant.plain;
}

pub returns : goal.returns
returns c = ap (λ (h : Held). record h { past = true; beyond = c.args.byte ∷ [] }) c.self.view_is
