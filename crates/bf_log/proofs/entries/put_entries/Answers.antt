use Rattle.std.proofs.Common.{◌≡◌, ◌++◌, ◌∷◌, List, ℕ, suc, drop, sym, ◌∙◌, ap, add-one}
use Rattle.std.proofs.Math.Seq.{drop-cons}
use Rattle.std.proofs.lemmas.List.{append-nil, drop_all}
use Rattle.bf_terms.specs.Texts as texts
use Rattle.bf_terms.specs.Texts.{log_from}
use Rattle.bf_log.specs.Written.{known_after_all}
use Rattle.bf_log.specs.Labels.{commits_of, sides_of}
use Rattle.bf_log.proofs.Joined.{entry_more}
use Rattle.bf_search.specs.declared.entries.Entry.{Entry}
use Rattle.bf_log.proofs.entries.put_entries.Goals as goal

pub loop-entry-preserved : goal.loop-entry-preserved
loop-entry-preserved c =
    let commits = commits_of c.args.commits in
    let sides = sides_of c.args.sides in
    let i = c.loop-entry.entry-index in
    let rest : drop i c.args.entries.now ≡ c.entry-item.result ∷ drop (suc i) c.args.entries.now =
    drop-cons c.args.entries.now i c.entry-item.result c.loop-entry-test.true ∙ ap (λ (e : Entry). e ∷ drop (suc i) c.args.entries.now) (sym c.entry-item.is) in
    record {
      lines = ap (λ (j : ℕ). c.put_status.new.out ++ log_from commits sides c.learn.new.self (drop j c.args.entries.now)) (add-one i)
          ∙ entry_more commits sides c.loop-entry.known c.learn.new.self c.entry-item.result (drop (suc i) c.args.entries.now) c.loop-entry.out
          c.put_entry.new.out c.put_status.new.out
          c.in_ok-put_entry.ensures c.in_ok-learn.ensures c.in_ok-put_status.ensures
          ∙ ap (λ (es : List Entry). c.loop-entry.out ++ log_from commits sides c.loop-entry.known es) (sym rest)
          ∙ c.loop-entry.invariant.lines;
      known = ap (λ (j : ℕ). known_after_all c.learn.new.self (drop j c.args.entries.now)) (add-one i)
          ∙ ap (λ (k : texts.Known). known_after_all k (drop (suc i) c.args.entries.now)) c.in_ok-learn.ensures
          ∙ ap (known_after_all c.loop-entry.known) (sym rest)
          ∙ c.loop-entry.invariant.known;
    }

pub returns-clause-lines : goal.returns-clause-lines
unfolding log_from
returns-clause-lines c =
    let commits = commits_of c.args.commits in
    let sides = sides_of c.args.sides in
    sym (append-nil c.loop-entry.out)
    ∙ ap (λ (es : List Entry). c.loop-entry.out ++ log_from commits sides c.loop-entry.known es)
    (sym (drop_all c.loop-entry.entry-index c.args.entries.now c.loop-entry-test.false))
    ∙ c.loop-entry.invariant.lines
