use Rattle.std.proofs.Common.{ℕ}
use Rattle.std.specs.List.{flat_map}
use Rattle.std.proofs.Common.{◌++◌, codes}
use Rattle.bf_terms.specs.Texts as texts
use Rattle.bf_terms.specs.Texts.{only_skipped_lines}
use Rattle.bf_log.specs.Labels.{commits_of, sides_of}
use Rattle.bf_log.proofs.Joined.{more, last}
use Rattle.bf_log.proofs.answer.put_only_skipped.Goals as goal

pub returns : goal.returns
unfolding only_skipped_lines
returns c =
    last c.args.out.now ((((codes "There are only 'skip'ped commits left to test.\nThe first ") ++ (sides_of c.args.sides).new)
    ++ (codes " commit could be any of:\n")) ++ (flat_map (λ (p : ℕ). texts.text_line (texts.hex_of (commits_of c.args.commits) p)) c.args.places.now))
    (codes "We cannot bisect more!\n") c.put_names.new.out c.append-4.new.self c.append-4.result
    (more c.args.out.now (((codes "There are only 'skip'ped commits left to test.\nThe first ") ++ (sides_of c.args.sides).new)
    ++ (codes " commit could be any of:\n")) (flat_map (λ (p : ℕ). texts.text_line (texts.hex_of (commits_of c.args.commits) p)) c.args.places.now)
    c.append-3.new.self c.put_names.new.out (more c.args.out.now
    ((codes "There are only 'skip'ped commits left to test.\nThe first ") ++ (sides_of c.args.sides).new) (codes " commit could be any of:\n")
    c.append-2.new.self c.append-3.new.self (more c.args.out.now (codes "There are only 'skip'ped commits left to test.\nThe first ")
    (sides_of c.args.sides).new c.append.new.self c.append-2.new.self c.in_ok-append.ensures.ok c.in_ok-append-2.ensures.ok) c.in_ok-append-3.ensures.ok)
    c.in_ok-put_names.ensures)
    c.append-4.ensures.ok
