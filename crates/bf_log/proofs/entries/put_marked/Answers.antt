use Rattle.std.proofs.Common.{◌++◌, codes}
use Rattle.bf_terms.specs.Texts as texts
use Rattle.bf_terms.specs.Texts.{mark_lines}
use Rattle.bf_log.specs.Labels.{commits_of}
use Rattle.bf_log.proofs.Joined.{more, last}
use Rattle.bf_log.proofs.entries.put_marked.Goals as goal

pub returns : goal.returns
unfolding mark_lines
returns c =
    last c.args.out.now ((texts.comment_of (commits_of c.args.commits) c.args.word.now c.args.place) ++ (codes "git bisect " ++ c.args.word.now ++ codes " "))
    (texts.text_line (texts.hex_of (commits_of c.args.commits) c.args.place)) c.put_between.new.out c.put_name_line.new.out c.put_name_line.result
    (more c.args.out.now (texts.comment_of (commits_of c.args.commits) c.args.word.now c.args.place) (codes "git bisect " ++ c.args.word.now ++ codes " ")
    c.put_comment.new.out c.put_between.new.out c.in_ok-put_comment.ensures c.in_ok-put_between.ensures)
    c.put_name_line.ensures
