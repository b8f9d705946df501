use Rattle.std.proofs.Common.{◌++◌, codes}
use Rattle.bf_terms.specs.Texts as texts
use Rattle.bf_terms.specs.Texts.{aborted_line}
use Rattle.bf_log.specs.Labels.{commits_of}
use Rattle.bf_log.proofs.Joined.{more, last}
use Rattle.bf_log.proofs.answer.put_aborted.Goals as goal

pub returns : goal.returns
unfolding aborted_line
returns c =
    last c.args.out.now (((codes "bisect aborted: ") ++ (texts.outcome_text c.args.outcome)) ++ (codes " on "))
    (texts.text_line (texts.hex_of (commits_of c.args.commits) c.args.place)) c.append-2.new.self c.put_name_line.new.out c.put_name_line.result
    (more c.args.out.now ((codes "bisect aborted: ") ++ (texts.outcome_text c.args.outcome)) (codes " on ") c.put_outcome.new.out c.append-2.new.self
    (more c.args.out.now (codes "bisect aborted: ") (texts.outcome_text c.args.outcome) c.append.new.self c.put_outcome.new.out c.in_ok-append.ensures.ok
    c.in_ok-put_outcome.ensures) c.in_ok-append-2.ensures.ok)
    c.put_name_line.ensures
