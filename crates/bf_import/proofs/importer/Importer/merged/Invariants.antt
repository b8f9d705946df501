use Rattle.std.proofs.Common.{◌<◌, length, All}
use Rattle.bf_history.specs.declared.fault.ImportFault.TheVariants.{BadFrom}
use Rattle.bf_history.specs.Meanings.{place_of_target}
use Rattle.bf_history.proofs.Meant.{EachSoFar}
use Rattle.bf_import.proofs.importer.Importer.merged.Given as goal

abbrev pub invariant-loop-target : goal.invariant-loop-target
invariant-loop-target l = record {
  so_far : EachSoFar (place_of_target BadFrom l.self.loading) l.merges l.target-index l.places.items;
  there : All (λ place. place < length l.self.loading.history.parents) l.places.items;
}
