use Rattle.std.proofs.Common.{◌≡◌, Bool, true, false, List, ℕ, Option, Some, None, codes, refl, sym, ◌∙◌, ap, Err}
use Rattle.bf_grammar.specs.declared.fault.Limits.{Limits}
use Rattle.bf_grammar.specs.Place.{pure}
use Rattle.bf_grammar.specs.Commands.{original_oid_at, where_asked}
use Rattle.bf_grammar.specs.Forms.{text_after}
use Rattle.bf_stream.proofs.Chains.{reads_then, reads_stopped, reads_by, reads_handed_on}
use Rattle.bf_stream.proofs.Lines.{optional_stopped, optional_absent, optional_refused, optional_taken, at_true, line_is}
use Rattle.bf_stream.proofs.reader.Reader.original_oid.Goals as goal

-- where there is no name, none is kept
none_kept : (asked : Bool) → (let none : Option (List ℕ) = None in none) ≡ where_asked asked None
none_kept true = refl
none_kept false = refl

-- what is kept of a name, by the limits
kept_by : Option (List ℕ) → Limits → Option (List ℕ)
kept_by text limits = where_asked limits.original_names text

pub returns-in_err-at_word : goal.returns-in_err-at_word
unfolding original_oid_at
returns-in_err-at_word g c =
    reads_handed_on _ c.from_residual.ensures.1 (reads_stopped _
    (optional_stopped (codes "original-oid") (λ line. text_after line (codes "original-oid")) c.in_err-at_word.ensures.reads))

pub returns-then-not-branch : goal.returns-then-not-branch
unfolding original_oid_at kept_by
returns-then-not-branch g c =
    reads_then (λ text limits. pure (kept_by text limits)) (optional_absent (codes "original-oid") (λ line. text_after line (codes "original-oid"))
    (rw c.if-not-branch.true at c.in_ok-at_word.ensures.reads)) (reads_by _ _ _ (kept_by None) None (none_kept _))

pub returns-in_err-text : goal.returns-in_err-text
unfolding original_oid_at
returns-in_err-text g c =
    let held = at_true _ _ c.if-not-branch.false c.in_ok-at_word.ensures.line in
    let is = line_is g.S.Source.left c.at_word.new.self c.line_number-line.result c.line.result.now c.line_number-line.ensures.number
    (c.line.ensures.text held) in
    reads_handed_on _ c.from_residual-in_err-text.ensures.1
    (reads_stopped _ (optional_refused (codes "original-oid") (λ line. text_after line (codes "original-oid")) c.line_number-line.result c.line.result.now
    c.in_err-text.field-0.0 (rw c.if-not-branch.false at c.in_ok-at_word.ensures.reads) is c.in_err-text.ensures.value
    (λ e. c.in_err-text.ensures.own.0 (ap (λ y. Err y) e))))

pub returns : goal.returns
unfolding original_oid_at kept_by
returns g c =
    let held = at_true _ _ c.if-not-branch.false c.in_ok-at_word.ensures.line in
    let is = line_is g.S.Source.left c.at_word.new.self c.line_number-line.result c.line.result.now c.line_number-line.ensures.number
    (c.line.ensures.text held) in
    let taken = (c.take_line.ensures.line held).reads in
    let limits = c.limits-limits.ensures.limits ∙ sym taken.limits in
    reads_then (λ text limits. pure (kept_by text limits)) (optional_taken (codes "original-oid") (λ line. text_after line (codes "original-oid")) c.line_number-line.result c.line.result.now
    c.in_ok-text.text.now (rw c.if-not-branch.false at c.in_ok-at_word.ensures.reads) is c.in_ok-text.ensures.value
    taken) (reads_by _ _ _ (kept_by (Some c.in_ok-text.text.now)) _
    (c.in_ok-kept.ensures ∙ ap (λ (l : Limits). where_asked l.original_names (Some c.in_ok-text.text.now)) limits))
