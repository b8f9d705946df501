use Rattle.std.proofs.Common.{codes}
use Rattle.std.specs.List.{flat_map}
use Rattle.bf_terms.specs.Texts as texts
use Rattle.bf_terms.specs.Texts.{skipped_left_lines}
use Rattle.bf_log.specs.Labels.{commits_of, sides_of}
use Rattle.bf_log.proofs.Joined.{last}
use Rattle.bf_log.proofs.entries.put_skipped_left.Goals as goal

pub returns : goal.returns
unfolding skipped_left_lines
returns c =
    last c.args.out.now (codes "# only skipped commits left to test\n")
    (flat_map (texts.comment_of (commits_of c.args.commits) (texts.possible_words (sides_of c.args.sides))) c.args.places.now) c.append.new.self
    c.put_possibles.new.out c.put_possibles.result
    c.in_ok-append.ensures.ok
    c.put_possibles.ensures
