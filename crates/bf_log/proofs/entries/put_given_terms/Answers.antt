use Rattle.std.proofs.Common.{◌++◌, codes}
use Rattle.bf_terms.specs.Texts as texts
use Rattle.bf_terms.specs.Texts.{given_terms}
use Rattle.bf_log.specs.Labels.{sides_of}
use Rattle.bf_log.proofs.Joined.{more, last}
use Rattle.bf_log.proofs.entries.put_given_terms.Goals as goal

pub returns : goal.returns
unfolding given_terms
returns c =
    last c.args.out.now (((texts.quoted (codes "--term-new")) ++ (texts.quoted (sides_of c.args.sides).new)) ++ (texts.quoted (codes "--term-old")))
    (texts.quoted (sides_of c.args.sides).old) c.put_quoted-3.new.out c.put_quoted-4.new.out c.put_quoted-4.result
    (more c.args.out.now ((texts.quoted (codes "--term-new")) ++ (texts.quoted (sides_of c.args.sides).new)) (texts.quoted (codes "--term-old"))
    c.put_quoted-2.new.out c.put_quoted-3.new.out (more c.args.out.now (texts.quoted (codes "--term-new")) (texts.quoted (sides_of c.args.sides).new)
    c.put_quoted.new.out c.put_quoted-2.new.out c.in_ok-put_quoted.ensures c.in_ok-put_quoted-2.ensures) c.in_ok-put_quoted-3.ensures)
    c.put_quoted-4.ensures
