use Rattle.std.proofs.Common.{sym, ◌∙◌, arith}
use Rattle.bf_serve.proofs.Learning.{served_no_word, served_number}
use Rattle.bf_serve.proofs.Texts.{on_ok}
use Rattle.bf_serve.proofs.session.Session.learn.Goals as goal

pub returns-in-Ok : goal.returns-in-Ok
returns-in-Ok c =
    served_number c.args.self.now c.learn_at.new.self c.args.number c.in-Some.place c.args.commit.now c.in-Ok.outcome c.args.outcome
    c.learn_at.result c.args.out.now c.learn_at.new.out c.requires.serving c.requires.number
    (omega (arith, c.if-number-len.false, c.len.ensures, c.args.self.now.openings.ok.0)) (sym c.in-Some.is ∙ c.place_of_commit.ensures.value)
    c.in-Ok.is c.learn_at.ensures

pub returns-in-Err : goal.returns-in-Err
returns-in-Err c =
    on_ok c.put_refusal-in-Err.result
    (λ h. served_no_word c.args.self.now c.args.number c.in-Some.place c.args.commit.now c.in-Err.refusal c.args.outcome c.args.out.now
    c.put_refusal-in-Err.new.out c.requires.serving c.requires.number
    (omega (arith, c.if-number-len.false, c.len.ensures, c.args.self.now.openings.ok.0)) (sym c.in-Some.is ∙ c.place_of_commit.ensures.value)
    c.in-Err.is h)
    c.put_refusal-in-Err.ensures
