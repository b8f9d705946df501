use Rattle.std.proofs.Common.{◌≡◌, ℕ, ◌<◌}
use Rattle.bf_graph.specs.Graph.{parents_of}
use Rattle.bf_choice.specs.declared.parents.Parentage.TheVariants.{Merge}
use Rattle.bf_choice.specs.Sizes.{parentage_of}
use Rattle.bf_choice.proofs.merges.has_merge.Given as goal

abbrev pub invariant-loop-place : goal.invariant-loop-place
invariant-loop-place l = (p : ℕ) → p < l.place → parentage_of (parents_of l.graph p) ≡ Merge → ⊥
