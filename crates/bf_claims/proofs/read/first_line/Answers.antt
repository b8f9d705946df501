use Rattle.std.proofs.Common.{◌+◌, List, ℕ, ◌∷◌, ap, sym, ◌∙◌, drop}
use Rattle.bf_cert.specs.Lines.{lines_of}
use Rattle.bf_cert.proofs.Cutting.{first_cut, no_cut}
use Rattle.bf_claims.proofs.read.first_line.Goals as goal

pub returns-in-Some-clause-line : goal.returns-in-Some-clause-line
returns-in-Some-clause-line c =
    first_cut c.args.text.now c.in-Some.end c.in-Some.ensures
    ∙ ap (λ (line : List ℕ). line ∷ lines_of (drop (c.in-Some.end + 1) c.args.text.now)) (sym c.split_at.ensures.front)
    ∙ ap (λ (rest : List ℕ). c.split_at.result.0.now ∷ lines_of rest) (sym c.split_at.ensures.back)

pub returns-in-None-clause-line : goal.returns-in-None-clause-line
returns-in-None-clause-line c = no_cut c.args.text.now (sym c.is_empty.ensures ∙ c.if-is_empty.false) c.in-None.ensures
