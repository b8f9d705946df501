use Rattle.std.proofs.Common.{◌++◌, codes}
use Rattle.bf_terms.specs.Texts as texts
use Rattle.bf_terms.specs.Texts.{possible_words, first_words}
use Rattle.bf_log.specs.Labels.{commits_of, sides_of}
use Rattle.bf_log.proofs.Joined.{more, last}
use Rattle.bf_log.proofs.entries.put_possible.Goals as goal

pub returns : goal.returns
unfolding possible_words first_words
returns c =
    last c.args.out.now (((codes "# " ++ texts.possible_words (sides_of c.args.sides)) ++ (codes ": "))
    ++ (texts.label_of (commits_of c.args.commits) c.args.place)) (codes "\n") c.put_label.new.out c.append-2.new.self c.append-2.result
    (more c.args.out.now ((codes "# " ++ texts.possible_words (sides_of c.args.sides)) ++ (codes ": "))
    (texts.label_of (commits_of c.args.commits) c.args.place) c.append.new.self c.put_label.new.out
    (more c.args.out.now (codes "# " ++ texts.possible_words (sides_of c.args.sides)) (codes ": ") c.put_between.new.out c.append.new.self
    c.in_ok-put_between.ensures c.in_ok-append.ensures.ok) c.in_ok-put_label.ensures)
    c.append-2.ensures.ok
