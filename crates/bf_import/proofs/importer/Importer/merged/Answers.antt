use Rattle.std.proofs.Common.{◌+◌, ◌<◌, ℕ, List, length, All, sym, subst}
use Rattle.std.proofs.lemmas.List.Elements.{All-push}
use Rattle.smallvec.specs.SmallVec.{SmallVec}
use Rattle.bf_history.specs.declared.fault.ImportFault.TheVariants.{BadFrom}
use Rattle.bf_history.specs.Meanings.{place_of_target}
use Rattle.bf_history.proofs.Meant.{EachSoFar, each_more, each_refused, each_done}
use Rattle.bf_import.proofs.importer.Importer.merged.Goals as goal

pub returns-in_err-place_of_target-clause-places : goal.returns-in_err-place_of_target-clause-places
returns-in_err-place_of_target-clause-places c =
    each_refused (place_of_target BadFrom c.args.self.now.loading) c.args.merges.now c.loop-target.target-index c.loop-target.places.items
    (λ (place : ℕ). place) (λ (places : SmallVec ℕ). places.items)
    c.target-item.result c.in_err-place_of_target.field-0.0 c.from_residual.result c.from_residual.ensures.1 c.loop-target-test.true c.target-item.is
    c.in_err-place_of_target.ensures.place c.loop-target.invariant.so_far

pub loop-target-preserved : goal.loop-target-preserved
loop-target-preserved c = record {
  so_far = subst (λ (done : List ℕ). EachSoFar (place_of_target BadFrom c.args.self.now.loading) c.args.merges.now (c.loop-target.target-index + 1) done)
      (sym c.in_ok-push.ensures.ok)
      (each_more (place_of_target BadFrom c.args.self.now.loading) c.args.merges.now c.loop-target.target-index c.loop-target.places.items c.target-item.result
      c.in_ok-place_of_target.field-0 c.loop-target-test.true c.target-item.is c.in_ok-place_of_target.ensures.place c.loop-target.invariant.so_far);
  there = subst (All (λ place. place < length c.args.self.now.loading.history.parents)) (sym c.in_ok-push.ensures.ok)
      (All-push (λ place. place < length c.args.self.now.loading.history.parents) c.loop-target.places.items c.in_ok-place_of_target.field-0
      c.loop-target.invariant.there c.in_ok-place_of_target.ensures.there);
}

pub returns-clause-places : goal.returns-clause-places
returns-clause-places c = each_done (place_of_target BadFrom c.args.self.now.loading) c.args.merges.now c.loop-target.target-index c.loop-target.places.items
    c.loop-target-test.false c.loop-target.invariant.so_far
