use Rattle.std.proofs.Common.{ℕ, List, [], ◌++◌, length, drop, All, Option, sym, ap, subst, ◌∙◌}
use Rattle.std.proofs.lemmas.List.{append-nil}
use Rattle.std.proofs.lemmas.List.Elements.{All-drop}
use Rattle.std.specs.Option.{IfSome, option_copied}
use Rattle.bf_many.specs.Cores.{machine_of}
use Rattle.bf_output.specs.Beginning.{commits_of}
use Rattle.bf_search.specs.declared.entries.Entry.{Entry}
use Rattle.bf_search.specs.declared.farm.Ending.{Ending}
use Rattle.bf_search.specs.Within.{IsEndingWithin, IsEntryWithin}
use Rattle.bf_spec.specs.Walks.{Tells}
use Rattle.bf_terms.specs.Texts.{log_from}
use Rattle.bf_serve.specs.declared.opening.Opening.{Opening}
use Rattle.bf_serve.specs.Searches.{run_of}
use Rattle.bf_serve.specs.Turns.{ended_by}
use Rattle.bf_serve.proofs.Running.{ending_places, entries_within}
use Rattle.bf_serve.proofs.Telling.{run_told}
use Rattle.bf_serve.proofs.Texts.{not_false, not_true, told_before, told_now}
use Rattle.bf_serve.proofs.news.put_news.Goals as goal

pub write_entries-requires : goal.write_entries-requires
write_entries-requires c =
    subst (λ (n : ℕ). All (IsEntryWithin n) c.entries_behind-further.result.now) (ap (λ (l : List (List ℕ)). length l) c.requires.reach)
    (subst (λ (es : List Entry). All (IsEntryWithin (length c.args.subject.reach.now)) es) (sym c.entries_behind-further.ensures)
    (All-drop (IsEntryWithin (length c.args.subject.reach.now)) c.args.standing.entries c.entries.result.now
    (entries_within c.args.subject.reach.now c.args.core.now c.entries.result.now c.requires.graph c.requires.over c.requires.consumed
    c.entries.ensures.entries)))

pub remaining_behind-requires-clause-further : goal.remaining_behind-requires-clause-further
remaining_behind-requires-clause-further c =
    c.entries_behind-further.ensures ∙ ap (drop c.args.standing.entries) c.entries.ensures.entries

pub put_ended-requires : goal.put_ended-requires
put_ended-requires c =
    subst (λ (n : ℕ). IfSome (option_copied c.ending-ending.result) (IsEndingWithin n)) (ap (λ (l : List (List ℕ)). length l) c.requires.reach)
    (ending_places c.args.subject.reach.now c.args.core.now (option_copied c.ending-ending.result) c.requires.graph c.requires.over
    c.requires.consumed c.ending-ending.ensures.ending)

pub returns-then-not-standing : goal.returns-then-not-standing
returns-then-not-standing c = λ old stands knows.
    run_told c.args.subject.history.now c.args.subject.number c.args.opening.now c.write_entries.new.opening old (machine_of c.args.core.now)
    c.args.standing c.entries_behind-further.result.now c.as_slice.result.now c.in_ok-remaining.remaining [] c.args.out.now c.put_log.new.out
    c.put_changed_left.new.out c.put_changed_left.new.out stands
    (c.entries_behind-further.ensures ∙ ap (drop c.args.standing.entries) (c.entries.ensures.entries ∙ c.requires.consumed.entries))
    (c.as_slice.ensures ∙ c.in_ok-write_entries.ensures.text
    ∙ ap (λ (t : List ℕ). t ++ log_from (commits_of c.args.subject.history.now) c.args.opening.now.terms c.args.opening.now.known
    c.entries_behind-further.result.now) c.new-text.ensures)
    c.in_ok-write_entries.ensures.opening
    (c.in_ok-remaining.ensures old stands knows)
    c.in_ok-put_log.ensures c.in_ok-put_changed_left.ensures (sym (append-nil c.put_changed_left.new.out))
    (told_before (commits_of c.args.subject.history.now) c.args.subject.number c.args.opening.now.terms (run_of old).end
    (run_of (machine_of c.args.core.now)).end (sym stands.waits ∙ not_true c.args.standing.is_open c.if-not-standing.true))

pub returns : goal.returns
returns c = λ old stands knows.
    run_told c.args.subject.history.now c.args.subject.number c.args.opening.now c.write_entries.new.opening old (machine_of c.args.core.now)
    c.args.standing c.entries_behind-further.result.now c.as_slice.result.now c.in_ok-remaining.remaining
    (ended_by (commits_of c.args.subject.history.now) c.args.subject.number c.write_entries.new.opening.terms
    (run_of (machine_of c.args.core.now)).end) c.args.out.now c.put_log.new.out
    c.put_changed_left.new.out c.put_ended.new.out stands
    (c.entries_behind-further.ensures ∙ ap (drop c.args.standing.entries) (c.entries.ensures.entries ∙ c.requires.consumed.entries))
    (c.as_slice.ensures ∙ c.in_ok-write_entries.ensures.text
    ∙ ap (λ (t : List ℕ). t ++ log_from (commits_of c.args.subject.history.now) c.args.opening.now.terms c.args.opening.now.known
    c.entries_behind-further.result.now) c.new-text.ensures)
    c.in_ok-write_entries.ensures.opening
    (c.in_ok-remaining.ensures old stands knows)
    c.in_ok-put_log.ensures c.in_ok-put_changed_left.ensures
    (c.in_ok-put_ended.ensures (run_of (machine_of c.args.core.now)).end
    (subst (λ (o : Option Ending). Tells o (run_of (machine_of c.args.core.now)).end) (sym c.ending-ending.ensures.ending)
    c.requires.consumed.ending))
    (ap (λ (o : Opening). ended_by (commits_of c.args.subject.history.now) c.args.subject.number o.terms (run_of (machine_of c.args.core.now)).end)
    c.in_ok-write_entries.ensures.opening
    ∙ told_now (commits_of c.args.subject.history.now) c.args.subject.number c.args.opening.now.terms (run_of old).end
    (run_of (machine_of c.args.core.now)).end (sym stands.waits ∙ not_false c.args.standing.is_open c.if-not-standing.false))
