use Rattle.std.proofs.Common.{true, ◌≡◌, List, ℕ, sym, subst, take}
use Rattle.std.specs.Option.{is_some}
use Rattle.bf_search.specs.Outcomes.{outcomes_of_table}
use Rattle.bf_farm.specs.Used.{marked_places, AreAnswersAt}
use Rattle.bf_farm.proofs.Marking.{marks_next, known_at}
use Rattle.bf_farm.proofs.report.marked_of.Goals as goal

pub note_marked-requires-clause-known : goal.note_marked-requires-clause-known
note_marked-requires-clause-known c =
    known_at (λ p. is_some (outcomes_of_table c.args.table.now p) ≡ true) c.args.entries.now c.loop-entry.entry-index c.entry-item.result
    c.loop-entry-test.true c.entry-item.is c.requires.known

pub loop-entry-preserved : goal.loop-entry-preserved
loop-entry-preserved c =
    subst (λ (ps : List ℕ). AreAnswersAt c.args.names.now c.args.table.now ps c.note_marked.new.used.items)
    (sym (marks_next c.args.entries.now c.loop-entry.entry-index c.entry-item.result c.loop-entry-test.true c.entry-item.is))
    (c.in_ok-note_marked.ensures (marked_places (take c.loop-entry.entry-index c.args.entries.now)) c.loop-entry.invariant)
