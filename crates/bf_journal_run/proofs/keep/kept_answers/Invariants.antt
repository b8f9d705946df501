use Rattle.std.proofs.Common.{◌≡◌, ◌++◌, drop}
use Rattle.bf_journal_run.specs.Kept.{answers_from, answers_of}
use Rattle.bf_journal_run.proofs.keep.kept_answers.Given as goal

abbrev pub invariant-loop-place : goal.invariant-loop-place
invariant-loop-place l = record {
  so_far : l.answers.items ++ answers_from l.place (drop l.place l.names) (drop l.place l.journal.kept) ≡ answers_of l.names l.journal.kept;
}
