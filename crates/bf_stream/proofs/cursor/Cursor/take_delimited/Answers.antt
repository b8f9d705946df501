use Rattle.std.proofs.Common.{◌≡◌, Ok, Err, length, subst, ap, ◌∙◌, arith, rules}
use Rattle.bf_grammar.specs.declared.fault.Limits.{Limits}
use Rattle.bf_grammar.specs.Place.{Gives}
use Rattle.bf_stream.specs.Cursor.{place_at, limits_of}
use Rattle.bf_stream.specs.Data.{content_line}
use Rattle.bf_stream.proofs.Chains.{goes_here, goes_further, reads_as, reads_handed_on}
use Rattle.bf_stream.proofs.Delimited.{lines_here, lines_more, lines_stopped, lines_refused}
use Rattle.bf_stream.proofs.cursor.Cursor.take_delimited.Goals as goal

pub lines-init : goal.lines-init
lines-init g c = record {
  taken = lines_here c.args.self.now.limits c.args.line c.args.delimiter.now c.new-bytes.result _ c.new-bytes.ensures;
  within = omega (arith, ap length c.new-bytes.ensures);
  goes = goes_here g.S.Source.left g.S.Source.faults c.args.self.now;
}

pub lines-preserved : goal.lines-preserved
lines-preserved g c =
    let left = g.S.Source.left in
    let last = c.in_ok-take_delimiter.ensures in
    let line = c.in_ok-take_content_line.ensures in
    let same : limits_of c.take_delimiter.new.self ≡ limits_of c.args.self.now = last.limits ∙ c.lines.invariant.goes.limits in
    record {
      taken = lines_more c.args.self.now.limits c.args.line c.args.delimiter.now c.lines.bytes c.take_content_line.new.content _ _
          (place_at left c.take_delimiter.new.self) _ c.lines.invariant.taken
          (rw c.if-branch.false at last.gives)
          (subst (λ (limits : Limits). Gives (λ (_ : Unit {0}). c.take_content_line.new.content) (place_at left c.take_delimiter.new.self)
          (place_at left c.take_content_line.new.self) (Ok tt) (content_line limits c.args.line c.lines.bytes)) same line.line);
      within = line.within;
      goes = goes_further (goes_further c.lines.invariant.goes (record { turns = last.turns; cause = last.cause; limits = last.limits; source = last.source })
          last.beyond) line.advances line.beyond;
    }

pub returns-in_err-take_delimiter : goal.returns-in_err-take_delimiter
returns-in_err-take_delimiter g c =
    let gives = c.in_err-take_delimiter.ensures.gives in
    reads_handed_on _ c.from_residual.ensures.1
    (reads_as (lines_stopped c.args.self.now.limits c.args.line c.args.delimiter.now c.lines.bytes _ _ (place_at g.S.Source.left c.take_delimiter.new.self) _ _
    c.lines.invariant.taken gives) (search rules) (c.in_err-take_delimiter.ensures.beyond ∙ c.lines.invariant.goes.beyond))

pub returns-in_err-take_content_line : goal.returns-in_err-take_content_line
returns-in_err-take_content_line g c =
    let left = g.S.Source.left in
    let same : limits_of c.take_delimiter.new.self ≡ limits_of c.args.self.now = c.in_ok-take_delimiter.ensures.limits ∙ c.lines.invariant.goes.limits in
    reads_handed_on _ c.from_residual-in_err-take_content_line.ensures.1
    (reads_as (lines_refused c.args.self.now.limits c.args.line c.args.delimiter.now c.lines.bytes c.take_content_line.new.content _ _
    (place_at left c.take_delimiter.new.self) (place_at left c.take_content_line.new.self) _ _
    c.lines.invariant.taken
    (rw c.if-branch.false at c.in_ok-take_delimiter.ensures.gives)
    (subst (λ (limits : Limits). Gives (λ (_ : Unit {0}). c.take_content_line.new.content) (place_at left c.take_delimiter.new.self)
    (place_at left c.take_content_line.new.self) (Err c.in_err-take_content_line.field-0.0) (content_line limits c.args.line c.lines.bytes)) same
    c.in_err-take_content_line.ensures.line)) (search rules)
    (c.in_err-take_content_line.ensures.beyond ∙ c.in_ok-take_delimiter.ensures.beyond ∙ c.lines.invariant.goes.beyond))
