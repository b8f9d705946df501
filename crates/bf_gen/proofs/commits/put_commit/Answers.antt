use Rattle.std.proofs.Common.{◌≡◌, ◌+◌, ◌++◌, length, codes, ap, ◌∙◌}
use Rattle.std.specs.Fmt.{decimal}
use Rattle.std.proofs.lemmas.Result.{on_ok_weaker}
use Rattle.bf_gen.specs.Streams.{commit_text}
use Rattle.bf_gen.proofs.Growing.{behind}
use Rattle.bf_gen.proofs.commits.put_commit.Goals as goal

pub returns : goal.returns
unfolding commit_text
returns c =
    let commit = c.args.commit in
    let first = c.put_text.new.text in
    let second = c.put_line.new.text in
    let third = c.put_between.new.text in
    let fourth = c.put_line-2.new.text in
    let fifth = c.put_line-3.new.text in
    let mark : second ≡ first ++ ((codes "mark :" ++ decimal (commit + 1)) ++ codes "\n") =
    c.in_ok-put_line.ensures ∙ ap (λ n. first ++ ((codes "mark :" ++ decimal (n + 1)) ++ codes "\n")) c.from.ensures in
    let committer : third ≡ second ++ ((codes "committer gen <gen> " ++ decimal commit ++ codes " +0000") ++ codes "\n") =
    c.in_ok-put_between.ensures ∙ ap (λ n. second ++ ((codes "committer gen <gen> " ++ decimal n ++ codes " +0000") ++ codes "\n")) c.from-2.ensures in
    let count : fourth ≡ third ++ ((codes "data " ++ decimal (length (codes "c" ++ decimal commit) + 1)) ++ codes "\n") =
    c.in_ok-put_line-2.ensures ∙ ap (λ n. third ++ ((codes "data " ++ decimal n) ++ codes "\n")) c.message_length.ensures in
    let message : fifth ≡ fourth ++ ((codes "c" ++ decimal commit) ++ codes "\n") =
    c.in_ok-put_line-3.ensures ∙ ap (λ n. fourth ++ ((codes "c" ++ decimal n) ++ codes "\n")) c.from-3.ensures in
    let after = c.put_parents.new.text in
    on_ok_weaker c.put_parents.result
    (λ parents. behind c.args.text.now _ first _ after c.in_ok-put_text.ensures
    (behind first _ second _ after mark (behind second _ third _ after committer (behind third _ fourth _ after count
    (behind fourth _ fifth _ after message parents)))))
    c.put_parents.ensures
