use Rattle.std.proofs.Common.{◌≡◌, ◌+◌, List, [], ℕ, ap, ◌∙◌, arith}
use Rattle.std.proofs.lemmas.Result.{err_from_is_err_and}
use Rattle.bf_reading.specs.Reading.{lines_of, read_lines, read_line, Command, PassedOver}
use Rattle.bf_reading.proofs.Numbered.{behind_lines, line_passed, line_read, line_refused, all_read}
use Rattle.bf_reading.proofs.read.read_log.Goals as goal

pub returns-in_err-command-clause-refused : goal.returns-in_err-command-clause-refused
returns-in_err-command-clause-refused c =
    let p = err_from_is_err_and c.from_residual.result c.from_residual.ensures.1 in
    rw (p.1, p.2, c.loop-text.invariant.read, c.in-Some.ensures.line)
    (line_refused c.in_err-command.field-0.0 c.loop-text.lines (c.loop-text.line + 1) c.in-Some.text.now (lines_of c.in-Some.after.now)
    c.in_err-command.ensures.refused)

pub loop-text-preserved-in_ok-push : goal.loop-text-preserved-in_ok-push
loop-text-preserved-in_ok-push c =
    let line : read_line c.in-Some.text.now ≡ Command c.in-Some-2.command.word = rw c.in-Some-2.is at c.in_ok-command.ensures.line in
    let number : c.in-Some-2.command.line ≡ c.loop-text.line + 1 = rw c.in-Some-2.is at c.in_ok-command.ensures.number in
    record {
      read = c.loop-text.invariant.read
          ∙ ap (λ (ls : List (List ℕ)). behind_lines c.loop-text.lines (read_lines (c.loop-text.line + 1) ls)) c.in-Some.ensures.line
          ∙ line_read c.loop-text.lines c.push.new.self (c.loop-text.line + 1) c.in-Some.text.now (lines_of c.in-Some.after.now) c.in-Some-2.command line number
          c.in_ok-push.ensures.ok;
      number = omega (arith, c.loop-text.invariant.number, c.in-Some.ensures.shorter);
    }

pub loop-text-preserved : goal.loop-text-preserved
loop-text-preserved c =
    let line : read_line c.in-Some.text.now ≡ PassedOver = rw c.in_default-2.is at c.in_ok-command.ensures.line in
    record {
      read = c.loop-text.invariant.read
          ∙ ap (λ (ls : List (List ℕ)). behind_lines c.loop-text.lines (read_lines (c.loop-text.line + 1) ls)) c.in-Some.ensures.line
          ∙ line_passed c.loop-text.lines (c.loop-text.line + 1) c.in-Some.text.now (lines_of c.in-Some.after.now) line;
      number = omega (arith, c.loop-text.invariant.number, c.in-Some.ensures.shorter);
    }

pub returns-clause-lines : goal.returns-clause-lines
returns-clause-lines c =
    let nothing : c.loop-text.rest.now ≡ [] = c.in_default.ensures.line in
    c.loop-text.invariant.read
    ∙ ap (λ (text : List ℕ). behind_lines c.loop-text.lines (read_lines (c.loop-text.line + 1) (lines_of text))) nothing
    ∙ all_read c.loop-text.lines (c.loop-text.line + 1)
