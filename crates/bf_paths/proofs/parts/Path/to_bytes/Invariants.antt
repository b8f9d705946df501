use Rattle.std.proofs.Common.{◌≡◌, take}
use Rattle.bf_paths.specs.Components.{path_text}
use Rattle.bf_paths.proofs.parts.Path.to_bytes.Given as goal

abbrev pub invariant-loop-place : goal.invariant-loop-place
invariant-loop-place l = l.text ≡ path_text (take l.place l.self)
