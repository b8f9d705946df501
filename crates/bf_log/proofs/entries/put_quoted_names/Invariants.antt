use Rattle.std.proofs.Common.{◌≡◌, ℕ, ◌++◌, take}
use Rattle.std.specs.List.{flat_map}
use Rattle.bf_terms.specs.Texts as texts
use Rattle.bf_log.specs.Labels.{commits_of}
use Rattle.bf_log.proofs.entries.put_quoted_names.Given as goal

abbrev pub invariant-loop-place : goal.invariant-loop-place
invariant-loop-place l = l.out ≡ l.fn.out ++ flat_map (λ (p : ℕ). texts.quoted (texts.hex_of (commits_of l.commits) p)) (take l.place-index l.places)
