use Rattle.std.proofs.Common.{◌+◌, drop, sym, ap, ◌∙◌}
use Rattle.bf_search.specs.State.{Search}
use Rattle.bf_state.specs.Session.{Session, with_search}
use Rattle.bf_spec.specs.Kept.{after_marks}
use Rattle.bf_spec.proofs.Keeping.{one_mark, no_mark}
use Rattle.bf_spec.proofs.kept.mark_all.Goals as goal

pub loop-marking-preserved : goal.loop-marking-preserved
loop-marking-preserved c = record {
  marked = c.loop-marking.invariant.marked
      ∙ ap (λ (s : Search). with_search c.loop-marking.state s)
      (one_mark c.loop-marking.state.search c.args.marks.now c.loop-marking.marking-index _ c.loop-marking-test.true)
      ∙ ap (λ (v : Session). after_marks v (drop (c.loop-marking.marking-index + 1) c.args.marks.now)) (sym c.in_ok-mark.ensures.ok);
  len = ap (λ (v : Session). v.len) c.in_ok-mark.ensures.ok ∙ c.loop-marking.invariant.len;
}

pub returns : goal.returns
returns c = sym (c.loop-marking.invariant.marked
    ∙ ap (λ (s : Search). with_search c.loop-marking.state s)
    (no_mark c.loop-marking.state.search c.args.marks.now c.loop-marking.marking-index c.loop-marking-test.false))
