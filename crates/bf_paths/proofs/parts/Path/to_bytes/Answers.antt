use Rattle.std.proofs.Common.{◌≡◌, get_or, length, ◌<◌, sym, ap, ◌∙◌}
use Rattle.bf_paths.proofs.Splitting.{path_text_at}
use Rattle.bf_paths.proofs.parts.Path.to_bytes.Goals as goal

pub loop-place-preserved : goal.loop-place-preserved
loop-place-preserved c =
    let same : c.deref-component-items.result.now ≡ c.args.self.now = c.deref-component-items.ensures.value ∙ c.self.view_is in
    path_text_at c.args.self.now c.loop-place.place c.as_slice.result.now c.loop-place.text c.push_component.new.text
    (rw (← same) c.loop-place-test.true) (cc) c.loop-place.invariant c.in_ok-push_component.ensures.first c.in_ok-push_component.ensures.later
