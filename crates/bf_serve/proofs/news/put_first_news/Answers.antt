use Rattle.std.proofs.Common.{ℕ, List, ◌++◌, length, All, Option, sym, ap, subst, ◌∙◌}
use Rattle.std.specs.Option.{IfSome, option_copied}
use Rattle.bf_many.specs.Cores.{machine_of}
use Rattle.bf_output.specs.Beginning.{commits_of}
use Rattle.bf_search.specs.declared.farm.Ending.{Ending}
use Rattle.bf_search.specs.Within.{IsEndingWithin, IsEntryWithin}
use Rattle.bf_spec.specs.Walks.{Tells}
use Rattle.bf_terms.specs.Texts.{log_from}
use Rattle.bf_serve.specs.Searches.{run_of}
use Rattle.bf_serve.proofs.Running.{ending_places, entries_within, remaining_is, state_over}
use Rattle.bf_serve.proofs.Telling.{begun_told}
use Rattle.bf_serve.proofs.news.put_first_news.Goals as goal

pub write_entries-requires-2 : goal.write_entries-requires-2
write_entries-requires-2 c =
    subst (λ (n : ℕ). All (IsEntryWithin n) c.entries.result.now) (ap (λ (l : List (List ℕ)). length l) c.requires.reach)
    (entries_within c.args.subject.reach.now c.args.core.now c.entries.result.now c.requires.graph c.requires.over c.requires.consumed
    c.entries.ensures.entries)

pub remaining_in-requires : goal.remaining_in-requires
remaining_in-requires c =
    state_over c.args.subject.reach.now c.args.core.now c.state.result.now c.requires.graph c.requires.over c.requires.consumed c.state.ensures.state

pub put_ended-requires : goal.put_ended-requires
put_ended-requires c =
    subst (λ (n : ℕ). IfSome (option_copied c.ending-ending.result) (IsEndingWithin n)) (ap (λ (l : List (List ℕ)). length l) c.requires.reach)
    (ending_places c.args.subject.reach.now c.args.core.now (option_copied c.ending-ending.result) c.requires.graph c.requires.over
    c.requires.consumed c.ending-ending.ensures.ending)

pub returns : goal.returns
returns c = λ first starts.
    begun_told c.args.subject.history.now c.args.subject.number first c.args.opening.now c.write_entries.new.opening
    c.write_entries-2.new.opening (machine_of c.args.core.now) c.args.entries.now c.entries.result.now c.write_entries.new.text
    c.as_slice.result.now c.in_ok-remaining.remaining c.args.out.now c.put_log.new.out c.put_left.new.out c.put_ended.new.out starts
    (c.in_ok-write_entries.ensures.text
    ∙ ap (λ (t : List ℕ). t ++ log_from (commits_of c.args.subject.history.now) c.args.opening.now.terms c.args.opening.now.known
    c.args.entries.now) c.new-text.ensures)
    c.in_ok-write_entries.ensures.opening
    (c.as_slice.ensures ∙ c.in_ok-write_entries-2.ensures.text)
    c.in_ok-write_entries-2.ensures.opening
    (c.entries.ensures.entries ∙ c.requires.consumed.entries)
    (remaining_is c.args.subject.reach.now c.args.core.now c.state.result.now c.in_ok-remaining.remaining c.requires.over c.requires.consumed
    c.state.ensures.state c.in_ok-remaining.ensures)
    c.in_ok-put_log.ensures c.in_ok-put_left.ensures
    (c.in_ok-put_ended.ensures (run_of (machine_of c.args.core.now)).end
    (subst (λ (o : Option Ending). Tells o (run_of (machine_of c.args.core.now)).end) (sym c.ending-ending.ensures.ending)
    c.requires.consumed.ending))
