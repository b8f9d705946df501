use Rattle.std.proofs.Common.{ℕ, List, inl, inr, ap, sym, ◌∙◌, arith}
use Rattle.bf_choice.specs.Sizes.{parentage_of}
use Rattle.bf_choice.specs.BlockRows.{is_apart}
use Rattle.bf_choice.proofs.SharedNumbers.{apart_from, has_room, HasBlockRows-shared, HasBlockRows-taken}
use Rattle.bf_choice.proofs.sharing.SharedRows.fill.Goals as goal
use Rattle.bf_choice.proofs.sharing.SharedRows.fill.Goals.{in_default-via-in-Single+else-place-start-ge-COLUMNS, in_default-via-in_default}

pub take_row-requires-clause-room : goal.take_row-requires-clause-room
take_row-requires-clause-room c = has_room c.args.graph.now c.args.start c.args.place c.args.self.now c.requires.place c.requires.rows
    (elim c.in_default.branch [
      | in_default-via-in-Single+else-place-start-ge-COLUMNS w ↦ inl (omega (arith, w.if-place-start-ge-COLUMNS.false, c.requires.start))
      | in_default-via-in_default w ↦ inr (ap (λ (ps : List ℕ). is_apart (parentage_of ps)) (sym c.parents.ensures.parents)
          ∙ ap is_apart (sym c.parentage_of.ensures) ∙ apart_from c.parentage_of.result w.in_default.not-Single)
    ])

pub returns-in-Single : goal.returns-in-Single
returns-in-Single c =
    HasBlockRows-shared _ _ _ c.in-Single.parent _ _ c.requires.graph (omega (arith, c.if-place-start-ge-COLUMNS.true)) c.requires.place
    (ap parentage_of (sym c.parents.ensures.parents) ∙ sym c.in-Single.ensures) c.requires.rows c.share_row.ensures.blocks c.share_row.ensures.taken
    c.share_row.ensures.numbers

pub returns-in_default : goal.returns-in_default
returns-in_default c = HasBlockRows-taken _ _ _ c.args.self.now _ c.requires.start c.requires.place
    (elim c.in_default.branch [
      | in_default-via-in-Single+else-place-start-ge-COLUMNS w ↦ inl (omega (arith, w.if-place-start-ge-COLUMNS.false, c.requires.start))
      | in_default-via-in_default w ↦ inr (ap (λ (ps : List ℕ). is_apart (parentage_of ps)) (sym c.parents.ensures.parents)
          ∙ ap is_apart (sym c.parentage_of.ensures) ∙ apart_from c.parentage_of.result w.in_default.not-Single)
    ])
    c.requires.rows c.take_row.ensures.blocks c.take_row.ensures.taken c.take_row.ensures.numbers
