use Rattle.std.proofs.Common.{◌++◌, codes}
use Rattle.bf_terms.specs.Texts.{waiting_for_both}
use Rattle.bf_log.specs.Labels.{sides_of}
use Rattle.bf_log.proofs.Joined.{more, last}
use Rattle.bf_log.proofs.answer.put_waiting_for_both.Goals as goal

pub returns : goal.returns
unfolding waiting_for_both
returns c =
    last c.args.out.now ((((codes "waiting for both ") ++ (sides_of c.args.sides).old) ++ (codes " and ")) ++ (sides_of c.args.sides).new) (codes " commits")
    c.append-4.new.self c.append-5.new.self c.append-5.result
    (more c.args.out.now (((codes "waiting for both ") ++ (sides_of c.args.sides).old) ++ (codes " and ")) (sides_of c.args.sides).new c.append-3.new.self
    c.append-4.new.self (more c.args.out.now ((codes "waiting for both ") ++ (sides_of c.args.sides).old) (codes " and ") c.append-2.new.self
    c.append-3.new.self (more c.args.out.now (codes "waiting for both ") (sides_of c.args.sides).old c.append.new.self c.append-2.new.self
    c.in_ok-append.ensures.ok c.in_ok-append-2.ensures.ok) c.in_ok-append-3.ensures.ok) c.in_ok-append-4.ensures.ok)
    c.append-5.ensures.ok
