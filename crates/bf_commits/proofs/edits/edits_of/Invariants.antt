use Rattle.bf_commits.proofs.Changes.{SoFar}
use Rattle.bf_commits.proofs.edits.edits_of.Given as goal

abbrev pub invariant-loop-change : goal.invariant-loop-change
invariant-loop-change g l =
    SoFar l.marks (g.C.Contents.kept l.fn.contents) l.fn.changes (g.C.Contents.kept l.contents) l.change-iterator.rest.items l.edits.items
