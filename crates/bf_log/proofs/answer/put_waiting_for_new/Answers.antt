use Rattle.std.specs.Fmt.{decimal}
use Rattle.std.proofs.Common.{◌++◌, codes}
use Rattle.bf_terms.specs.Texts.{waiting_for_new}
use Rattle.bf_log.specs.Labels.{sides_of}
use Rattle.bf_log.proofs.Joined.{more, last}
use Rattle.bf_log.proofs.answer.put_waiting_for_new.Goals as goal

pub returns : goal.returns
unfolding waiting_for_new
returns c =
    last c.args.out.now ((((((codes "waiting for ") ++ (sides_of c.args.sides).new) ++ (codes " commit, ")) ++ (decimal c.args.good_count)) ++ (codes " "))
    ++ (sides_of c.args.sides).old) (codes " known") c.append-5.new.self c.append-6.new.self c.append-6.result
    (more c.args.out.now (((((codes "waiting for ") ++ (sides_of c.args.sides).new) ++ (codes " commit, ")) ++ (decimal c.args.good_count)) ++ (codes " "))
    (sides_of c.args.sides).old c.append-4.new.self c.append-5.new.self
    (more c.args.out.now ((((codes "waiting for ") ++ (sides_of c.args.sides).new) ++ (codes " commit, ")) ++ (decimal c.args.good_count)) (codes " ")
    c.put_decimal.new.out c.append-4.new.self (more c.args.out.now (((codes "waiting for ") ++ (sides_of c.args.sides).new) ++ (codes " commit, "))
    (decimal c.args.good_count) c.append-3.new.self c.put_decimal.new.out
    (more c.args.out.now ((codes "waiting for ") ++ (sides_of c.args.sides).new) (codes " commit, ") c.append-2.new.self c.append-3.new.self
    (more c.args.out.now (codes "waiting for ") (sides_of c.args.sides).new c.append.new.self c.append-2.new.self c.in_ok-append.ensures.ok
    c.in_ok-append-2.ensures.ok) c.in_ok-append-3.ensures.ok) c.in_ok-put_decimal.ensures.ok) c.in_ok-append-4.ensures.ok) c.in_ok-append-5.ensures.ok)
    c.append-6.ensures.ok
