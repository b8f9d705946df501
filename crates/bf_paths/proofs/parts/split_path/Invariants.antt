use Rattle.std.proofs.Common.{◌≡◌, true, map}
use Rattle.std.specs.List.{list_all}
use Rattle.bf_paths.specs.Components.{is_component}
use Rattle.bf_paths.proofs.parts.split_path.Given as goal

abbrev pub invariant-loop-name : goal.invariant-loop-name
invariant-loop-name l = record {
  items : l.components.items ≡ map (λ x. x.now) l.yielded;
  components : list_all is_component l.components.items ≡ true;
}
