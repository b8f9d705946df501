use Rattle.std.proofs.Common.{Bool, Ok, subst, sym, rules, refl}
use Rattle.bf_grammar.specs.Place.{Gives}
use Rattle.bf_stream.specs.Cursor.{place_at, looks_for}
use Rattle.bf_stream.proofs.Chains.{reads_as}
use Rattle.bf_stream.proofs.Plain.{plain_word, plain_has_line}
use Rattle.bf_stream.proofs.cursor.Cursor.at_found_word.Goals as goal

pub returns-then-line-self-clause-reads : goal.returns-then-line-self-clause-reads
returns-then-line-self-clause-reads g c =
    let here = place_at g.S.Source.left c.args.self.now in
    reads_as (subst (λ (there : Bool). Gives (λ x. x) here here (Ok there) (looks_for c.args.word.now c.args.self.now.limits)) (sym c.has_word.ensures)
    (plain_word c.args.self.now.limits c.args.word.now c.args.self.now.window (g.S.Source.left c.args.self.now.source.now) c.in-Some.line.now c.requires
    c.in-Some.ensures c.if-line-self.true))
    (search rules) refl

pub returns-then-line-self-clause-line : goal.returns-then-line-self-clause-line
returns-then-line-self-clause-line g c =
    plain_has_line c.args.self.now.window (g.S.Source.left c.args.self.now.source.now) c.in-Some.line.now c.has_word.result c.in-Some.ensures
