use Rattle.std.proofs.Common.{◌≡◌, ◌++◌, drop}
use Rattle.bf_log.specs.Written.{known_after_all}
use Rattle.bf_terms.specs.Texts as texts
use Rattle.bf_log.specs.Labels.{commits_of, sides_of}
use Rattle.bf_log.proofs.entries.put_entries.Given as goal

abbrev pub invariant-loop-entry : goal.invariant-loop-entry
invariant-loop-entry l = record {
  lines : l.out ++ texts.log_from (commits_of l.commits) (sides_of l.sides) l.known (drop l.entry-index l.entries)
      ≡ l.fn.out ++ texts.log_from (commits_of l.commits) (sides_of l.sides) l.fn.known l.entries;
  known : known_after_all l.known (drop l.entry-index l.entries) ≡ known_after_all l.fn.known l.entries;
}
