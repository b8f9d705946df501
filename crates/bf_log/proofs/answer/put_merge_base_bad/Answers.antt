use Rattle.std.proofs.Common.{◌++◌, codes}
use Rattle.bf_terms.specs.Texts as texts
use Rattle.bf_terms.specs.Texts.{merge_base_bad_lines}
use Rattle.bf_log.specs.Labels.{commits_of, sides_of}
use Rattle.bf_log.proofs.Joined.{more, last}
use Rattle.bf_log.proofs.answer.put_merge_base_bad.Goals as goal

pub returns : goal.returns
unfolding merge_base_bad_lines
returns c =
    last c.args.out.now ((((((codes "The merge base ") ++ (texts.hex_of (commits_of c.args.commits) c.args.place)) ++ (codes " is "))
    ++ (sides_of c.args.sides).new) ++ (codes ".\nThe change was undone between it and one of the ")) ++ (sides_of c.args.sides).old) (codes " commits.\n")
    c.append-5.new.self c.append-6.new.self c.append-6.result
    (more c.args.out.now (((((codes "The merge base ") ++ (texts.hex_of (commits_of c.args.commits) c.args.place)) ++ (codes " is "))
    ++ (sides_of c.args.sides).new) ++ (codes ".\nThe change was undone between it and one of the ")) (sides_of c.args.sides).old c.append-4.new.self
    c.append-5.new.self (more c.args.out.now ((((codes "The merge base ") ++ (texts.hex_of (commits_of c.args.commits) c.args.place)) ++ (codes " is "))
    ++ (sides_of c.args.sides).new) (codes ".\nThe change was undone between it and one of the ") c.append-3.new.self c.append-4.new.self
    (more c.args.out.now (((codes "The merge base ") ++ (texts.hex_of (commits_of c.args.commits) c.args.place)) ++ (codes " is "))
    (sides_of c.args.sides).new c.append-2.new.self c.append-3.new.self
    (more c.args.out.now ((codes "The merge base ") ++ (texts.hex_of (commits_of c.args.commits) c.args.place)) (codes " is ") c.put_hex.new.out
    c.append-2.new.self (more c.args.out.now (codes "The merge base ") (texts.hex_of (commits_of c.args.commits) c.args.place) c.append.new.self
    c.put_hex.new.out c.in_ok-append.ensures.ok c.in_ok-put_hex.ensures) c.in_ok-append-2.ensures.ok) c.in_ok-append-3.ensures.ok)
    c.in_ok-append-4.ensures.ok) c.in_ok-append-5.ensures.ok)
    c.append-6.ensures.ok
