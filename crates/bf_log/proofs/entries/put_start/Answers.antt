use Rattle.std.proofs.Common.{◌++◌, codes}
use Rattle.bf_terms.specs.Texts as texts
use Rattle.bf_terms.specs.Texts.{start_lines}
use Rattle.bf_log.specs.Labels.{commits_of, sides_of}
use Rattle.bf_log.proofs.Joined.{more, last}
use Rattle.bf_log.proofs.entries.put_start.Goals as goal

pub returns : goal.returns
unfolding start_lines
returns c =
    last c.args.out.now ((((texts.end_lines (commits_of c.args.commits) (sides_of c.args.sides) c.args.bad c.args.goods.now) ++ (codes "git bisect start"))
    ++ (texts.option_words (sides_of c.args.sides) c.args.first_parent c.args.terms_given))
    ++ (texts.end_words (commits_of c.args.commits) c.args.bad c.args.goods.now)) (codes "\n") c.put_start_names.new.out c.append-2.new.self
    c.append-2.result
    (more c.args.out.now (((texts.end_lines (commits_of c.args.commits) (sides_of c.args.sides) c.args.bad c.args.goods.now) ++ (codes "git bisect start"))
    ++ (texts.option_words (sides_of c.args.sides) c.args.first_parent c.args.terms_given))
    (texts.end_words (commits_of c.args.commits) c.args.bad c.args.goods.now) c.put_options.new.out c.put_start_names.new.out
    (more c.args.out.now ((texts.end_lines (commits_of c.args.commits) (sides_of c.args.sides) c.args.bad c.args.goods.now) ++ (codes "git bisect start"))
    (texts.option_words (sides_of c.args.sides) c.args.first_parent c.args.terms_given) c.append.new.self c.put_options.new.out
    (more c.args.out.now (texts.end_lines (commits_of c.args.commits) (sides_of c.args.sides) c.args.bad c.args.goods.now) (codes "git bisect start")
    c.put_ends.new.out c.append.new.self c.in_ok-put_ends.ensures c.in_ok-append.ensures.ok) c.in_ok-put_options.ensures) c.in_ok-put_start_names.ensures)
    c.append-2.ensures.ok
