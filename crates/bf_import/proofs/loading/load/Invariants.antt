use Rattle.std.proofs.Common.{◌≡◌, ◌≤◌, ℕ, List, Option, false}
use Rattle.bf_history.specs.Keeping.{Kept}
use Rattle.bf_stream.specs.Standing as standing
use Rattle.bf_import.specs.Faults.{IsSameKind}
use Rattle.bf_import.specs.Loading.{IsFurnishedBy, LoadsOn}
use Rattle.bf_import.specs.Rest.{Leads}
use Rattle.bf_import.proofs.loading.load.Given as goal

abbrev pub invariant-commands : goal.invariant-commands
invariant-commands g l = record {
  loads : (start : Kept) (bytes : Option (List ℕ))
      → LoadsOn l.fn.importer.limits start bytes (standing.reader_place g.S.Source.left l.fn.reader) (g.C.Contents.kept l.fn.contents)
      l.fn.importer.loading
      → LoadsOn l.fn.importer.limits start bytes (standing.reader_place g.S.Source.left l.reader) (g.C.Contents.kept l.contents) l.importer.loading;
  furnished : IsFurnishedBy (g.C.Contents.kept l.fn.contents) l.fn.importer.loading → IsFurnishedBy (g.C.Contents.kept l.contents) l.importer.loading;
  same_kind : IsSameKind (g.C.Contents.kept l.fn.contents) (g.C.Contents.kept l.contents);
  limits : l.importer.limits ≡ l.fn.importer.limits;
  read_under : standing.limits_of l.reader ≡ l.fn.importer.limits;
  going_on : standing.is_over l.reader ≡ false;
  leads : Leads l.fn.importer.limits (standing.reader_place g.S.Source.left l.fn.reader) (standing.reader_place g.S.Source.left l.reader);
  beyond : standing.beyond_at g.S.Source.left l.reader ≡ standing.beyond_at g.S.Source.left l.fn.reader;
  source : standing.source_of l.reader ≡ standing.source_of l.fn.reader;
  later : standing.reader_faults g.S.Source.faults l.fn.reader ≤ standing.reader_faults g.S.Source.faults l.reader;
}

abbrev pub decreases-commands : goal.decreases-commands
decreases-commands g l = standing.left_to_read l.reader
