use Rattle.std.proofs.Common.{◌≡◌, ◌+◌, length, arith}
use Rattle.std.proofs.lemmas.Result.{err_from_is_err_and}
use Rattle.bf_many_run.proofs.Listing.{all_listed, asked_more, fault_refused, few_more, right_more, words_more}
use Rattle.bf_many_run.proofs.list.read_list.Goals as goal

pub returns-in_err-read_line-clause-refused : goal.returns-in_err-read_line-clause-refused
returns-in_err-read_line-clause-refused c =
    let number : c.len.result + 1 ≡ length c.loop-line.lines.items + 1 = omega (arith, c.len.ensures, c.loop-line.lines.ok.0) in
    let p = err_from_is_err_and c.from_residual.result c.from_residual.ensures.1 in
    rw (p.1, p.2)
    (fault_refused c.args.text.now c.loop-line.rest.now c.in-Some.line.now c.in-Some.after.now _ _ c.in_err-read_line.field-0.0
    c.loop-line.invariant.right c.in-Some.ensures.line number c.in_err-read_line.ensures.refused)

pub loop-line-preserved : goal.loop-line-preserved
loop-line-preserved c =
    let text = c.args.text.now in
    let rest = c.loop-line.rest.now in
    let line = c.in-Some.line.now in
    let after = c.in-Some.after.now in
    let lines = c.loop-line.lines.items in
    let now = c.push.new.self.items in
    let number : c.len.result + 1 ≡ length c.loop-line.lines.items + 1 = omega (arith, c.len.ensures, c.loop-line.lines.ok.0) in
    record {
      words = words_more text rest line after lines now c.in_ok-read_line.field-0 _ c.in-Some.ensures.line number c.in_ok-push.ensures.items
          c.in_ok-read_line.ensures.read c.loop-line.invariant.words;
      asked = asked_more text rest line after lines now c.in_ok-read_line.field-0 _ c.in-Some.ensures.line number c.in_ok-push.ensures.items
          c.in_ok-read_line.ensures.read c.loop-line.invariant.asked;
      few = few_more text rest line after lines now c.in_ok-read_line.field-0 _ c.in-Some.ensures.line number c.in_ok-push.ensures.items
          c.in_ok-read_line.ensures.read;
      right = right_more text rest line after lines now c.in_ok-read_line.field-0 _ c.in-Some.ensures.line number c.in_ok-push.ensures.items
          c.in_ok-read_line.ensures.read c.loop-line.invariant.right;
    }

pub returns-clause-lines : goal.returns-clause-lines
returns-clause-lines c =
    all_listed c.args.text.now c.loop-line.rest.now c.loop-line.lines.items c.in_default.ensures.line c.loop-line.invariant.words
    c.loop-line.invariant.asked c.loop-line.invariant.few c.loop-line.invariant.right
