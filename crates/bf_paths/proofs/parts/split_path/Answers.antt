use Rattle.std.proofs.Common.{◌≡◌, ◌==◌, ap, sym, ◌∙◌, false, true, refl, rules, tests, arith, length, map}
use Rattle.std.specs.List.{slice_split, list_all}
use Rattle.std.proofs.lemmas.Iterator.Splits.{YieldsList-from_slice_split}
use Rattle.std.proofs.lemmas.Iterator.Consumers.{YieldsList-turn, YieldsList-end}
use Rattle.std.proofs.lemmas.List.Folds.{list_all_at}
use Rattle.bf_paths.specs.Components.{is_slash, is_component}
use Rattle.bf_paths.proofs.Splitting.{path_of-bad, path_of-good}
use Rattle.bf_paths.proofs.parts.split_path.Goals as goal

pub returns-then-not-is_component-clause-bad : goal.returns-then-not-is_component-clause-bad
returns-then-not-is_component-clause-bad c =
    let text = c.args.text.now in
    let t = YieldsList-turn (YieldsList-from_slice_split {s = c.into_iter-name-iterator.result} _ is_slash text (cc) (cc) refl
    (λ x b q k. search (rules, tests))) c.loop-name.yielded _ c.loop-name.yielded_by _ _ c.in-Some.name c.in-Some.is c.next.ensures.steps in
    λ _. path_of-bad text (length c.loop-name.yielded) c.in-Some.name.now t.0 t.1 (sym c.is_component.ensures ∙ c.if-not-is_component.true)

pub returns-clause-ok : goal.returns-clause-ok
returns-clause-ok c =
    let text = c.args.text.now in
    let t = YieldsList-end (YieldsList-from_slice_split {s = c.into_iter-name-iterator.result} _ is_slash text (cc) (cc) refl
    (λ x b q k. search (rules, tests))) c.loop-name.yielded _ c.loop-name.yielded_by _ _ c.in-None.is c.next.ensures.steps in
    path_of-good text c.loop-name.components.items (c.loop-name.invariant.items ∙ t.0) c.loop-name.invariant.components
