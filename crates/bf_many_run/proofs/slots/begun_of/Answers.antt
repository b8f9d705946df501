use Rattle.std.proofs.Common.{refl, ◌∙◌}
use Rattle.bf_searches.proofs.Going.{known_begun, text_begun}
use Rattle.bf_many_run.proofs.slots.begun_of.Goals as goal

pub returns : goal.returns
returns c = record {
  state = refl;
  text = text_begun _ _ _ _ _ _ _ _ _ _ c.in_ok-add_entries.ensures.text c.new-telling.ensures.text refl refl c.new-telling.ensures.known
      c.as_slice.ensures.value;
  known = known_begun _ _ _ _ _ c.in_ok-add_entries.ensures.known c.new-telling.ensures.known c.as_slice.ensures.value;
  trace = c.in_ok-add_entries.ensures.trace ∙ c.new-telling.ensures.trace;
}
