use Rattle.std.proofs.Common.{ℕ, List, Result, sym, ap, subst, ◌∙◌, arith}
use Rattle.bf_cert.specs.declared.cert.Cert.{Cert}
use Rattle.bf_cert.specs.Lines.{lines_of}
use Rattle.bf_cert.specs.Reading.{Gives}
use Rattle.bf_claims.specs.Reading.{read_behind, read_head}
use Rattle.bf_claims.proofs.Turns.{at_certificate, at_fault, no_certificate, past_line}
use Rattle.bf_claims.proofs.read.read_head.Goals as goal

pub returns-then-is_certificate-clause-read : goal.returns-then-is_certificate-clause-read
returns-then-is_certificate-clause-read c =
    let names = c.args.history.now.names in
    let graph = c.args.history.now.parents in
    let rest = c.loop-line.rest.now in
    subst (λ (read : Result Cert ℕ). Gives c.read_behind.result read)
    (sym (c.loop-line.invariant.same
    ∙ ap (λ (lines : List (List ℕ)). read_head names graph c.loop-line.before c.loop-line.head lines) c.in-Some.ensures.line
    ∙ at_certificate names graph c.loop-line.before c.loop-line.head c.in-Some.line.now (lines_of c.in-Some.after.now)
    (sym c.is_certificate.ensures ∙ c.if-is_certificate.true)
    ∙ ap (λ (lines : List (List ℕ)). read_behind names graph c.loop-line.before c.loop-line.head lines) (sym c.in-Some.ensures.line)))
    c.read_behind.ensures.read

pub returns-in_default-take_line-clause-read : goal.returns-in_default-take_line-clause-read
returns-in_default-take_line-clause-read c =
    let names = c.args.history.now.names in
    let graph = c.args.history.now.parents in
    c.loop-line.invariant.same
    ∙ ap (λ (lines : List (List ℕ)). read_head names graph c.loop-line.before c.loop-line.head lines) c.in-Some.ensures.line
    ∙ at_fault names graph c.loop-line.before c.loop-line.head c.in-Some.line.now (lines_of c.in-Some.after.now)
    (sym c.is_certificate.ensures ∙ c.if-is_certificate.false) (sym c.in_default-take_line.ensures.value)

pub loop-line-preserved : goal.loop-line-preserved
loop-line-preserved c =
    let names = c.args.history.now.names in
    let graph = c.args.history.now.parents in
    record {
      rows = c.in-Some-take_line.ensures.rows;
      same = c.loop-line.invariant.same
          ∙ ap (λ (lines : List (List ℕ)). read_head names graph c.loop-line.before c.loop-line.head lines) c.in-Some.ensures.line
          ∙ past_line names graph c.loop-line.before c.loop-line.head c.in-Some-take_line.next c.in-Some.line.now (lines_of c.in-Some.after.now)
          (sym c.is_certificate.ensures ∙ c.if-is_certificate.false) (sym c.in-Some-take_line.ensures.value);
      from = omega (arith, c.loop-line.invariant.from);
      room = omega (arith, c.loop-line.invariant.room, c.in-Some.ensures.shorter);
    }

pub returns-clause-read : goal.returns-clause-read
returns-clause-read c =
    let names = c.args.history.now.names in
    let graph = c.args.history.now.parents in
    c.loop-line.invariant.same
    ∙ ap (λ (text : List ℕ). read_head names graph c.loop-line.before c.loop-line.head (lines_of text)) c.in_default.ensures.line
    ∙ no_certificate names graph c.loop-line.before c.loop-line.head
