use Rattle.std.proofs.Common.{◌≡◌, ℕ, false, List, ◌∷◌, [], ◌++◌, map, refl, sym, ap, ◌∙◌, subst}
use Rattle.std.specs.List.{slice_index_or}
use Rattle.bf_search.specs.declared.entries.Entry.{Entry}
use Rattle.bf_search.specs.declared.entries.Entry.TheVariants.{Marked, SkippedBase}
use Rattle.bf_search.specs.declared.outcomes.Mark.{Mark}
use Rattle.bf_search.specs.Outcomes.{outcomes_of_table}
use Rattle.bf_search.specs.Run.{Run, marked_one}
use Rattle.bf_spec.specs.declared.follow.Halt.TheVariants as halts
use Rattle.bf_spec.specs.declared.node.Node.{Node}
use Rattle.bf_state.specs.Ends.{marks_of}
use Rattle.bf_spec.specs.Walks.{is_over, run_below, HaltsAt}
use Rattle.bf_spec.proofs.Growing.{extends_trans, extends_nodes, extends_same}
use Rattle.bf_spec.proofs.Following.{leads_as, marks_marked, marks_after, halts_answered, halts_waits, halts_aborted, marked_asks, step_less, step_over, step_on}
use Rattle.bf_spec.proofs.follow.follow.Goals as goal

pub loop-place-init : goal.loop-place-init
loop-place-init c = record {
  within = c.requires.start;
  nodes = c.requires.nodes;
  extends = extends_same c.args.reach.now c.args.nodes.now.items;
  on = c.requires.left;
  path = λ d. c.requires.root d ∙ sym (ap marks_of c.requires.entries);
  same = λ d.
      let r : Run = run_below c.args.reach.now (outcomes_of_table c.args.table.now) c.args.left (slice_index_or c.args.nodes.now.items c.args.start d) in
      leads_as [] c.args.entries.now.items r r r (sym c.requires.entries) refl (record { entries = refl; search = refl; end = refl });
}

pub returns-in-Answered-clause-halts : goal.returns-in-Answered-clause-halts
returns-in-Answered-clause-halts c = λ d.
    halts_answered c.args.reach.now (outcomes_of_table c.args.table.now) c.loop-place.left c.loop-place.nodes.items c.loop-place.index c.index.result.now
    c.loop-place.invariant.nodes c.loop-place.invariant.within c.index.ensures
    (run_below c.args.reach.now (outcomes_of_table c.args.table.now) c.args.left (slice_index_or c.args.nodes.now.items c.args.start d))
    c.loop-place.entries.items d (c.loop-place.invariant.same d) c.loop-place.invariant.path c.in-Answered.ensures

pub returns-in-Waits-clause-halts : goal.returns-in-Waits-clause-halts
returns-in-Waits-clause-halts c = λ d.
    halts_waits c.args.reach.now (outcomes_of_table c.args.table.now) c.loop-place.left c.loop-place.nodes.items c.loop-place.index c.index.result.now
    c.loop-place.invariant.nodes c.loop-place.invariant.within c.index.ensures
    (run_below c.args.reach.now (outcomes_of_table c.args.table.now) c.args.left (slice_index_or c.args.nodes.now.items c.args.start d))
    c.loop-place.entries.items d (c.loop-place.invariant.same d) c.loop-place.invariant.path c.in-Waits.ensures

pub returns-in-Aborted-clause-halts : goal.returns-in-Aborted-clause-halts
returns-in-Aborted-clause-halts c = λ d.
    halts_aborted c.args.reach.now (outcomes_of_table c.args.table.now) c.loop-place.left c.loop-place.nodes.items c.loop-place.index c.index.result.now
    c.loop-place.invariant.nodes c.loop-place.invariant.within c.index.ensures
    (run_below c.args.reach.now (outcomes_of_table c.args.table.now) c.args.left (slice_index_or c.args.nodes.now.items c.args.start d))
    c.loop-place.entries.items d (c.loop-place.invariant.same d) c.loop-place.invariant.path c.in-Aborted.place c.in-Aborted.outcome c.in-Aborted.ensures

pub child-requires-clause-asks : goal.child-requires-clause-asks
child-requires-clause-asks c = λ d.
    marked_asks c.args.reach.now (outcomes_of_table c.args.table.now) c.loop-place.left c.loop-place.nodes.items c.loop-place.index c.index.result.now
    c.loop-place.invariant.nodes c.loop-place.invariant.within c.index.ensures c.in-Marked.place c.in-Marked.mark c.in-Marked.ensures d

pub returns-in_err-next-in-Marked-clause-extends : goal.returns-in_err-next-in-Marked-clause-extends
returns-in_err-next-in-Marked-clause-extends c = extends_trans c.args.reach.now c.args.nodes.now.items c.loop-place.nodes.items c.child.new.nodes.items
    c.loop-place.invariant.extends c.in_err-next-in-Marked.ensures.extends

pub returns-in_err-push-in-Marked-clause-extends : goal.returns-in_err-push-in-Marked-clause-extends
returns-in_err-push-in-Marked-clause-extends c = extends_trans c.args.reach.now c.args.nodes.now.items c.loop-place.nodes.items c.child.new.nodes.items
    c.loop-place.invariant.extends c.in_ok-next-in-Marked.ensures.extends

pub returns-in_err-push_warnings-in-Marked-clause-extends : goal.returns-in_err-push_warnings-in-Marked-clause-extends
returns-in_err-push_warnings-in-Marked-clause-extends c = extends_trans c.args.reach.now c.args.nodes.now.items c.loop-place.nodes.items
    c.child.new.nodes.items c.loop-place.invariant.extends c.in_ok-next-in-Marked.ensures.extends

pub returns-then-is_over-clause-extends : goal.returns-then-is_over-clause-extends
returns-then-is_over-clause-extends c = extends_trans c.args.reach.now c.args.nodes.now.items c.loop-place.nodes.items c.child.new.nodes.items
    c.loop-place.invariant.extends c.in_ok-next-in-Marked.ensures.extends

pub returns-then-is_over-clause-halts : goal.returns-then-is_over-clause-halts
returns-then-is_over-clause-halts c = λ d.
    let whole : Run = run_below c.args.reach.now (outcomes_of_table c.args.table.now) c.args.left (slice_index_or c.args.nodes.now.items c.args.start d) in
    subst (λ (es : List Entry). HaltsAt c.child.new.nodes.items es
    (halts.Over c.loop-place.index c.in_ok-next-in-Marked.next c.in-Marked.mark c.in-Marked.place) whole)
    (sym c.in_ok-push-in-Marked.ensures.items)
    (step_over c.args.reach.now (outcomes_of_table c.args.table.now) c.loop-place.left c.loop-place.nodes.items c.loop-place.index c.index.result.now
    c.loop-place.invariant.nodes c.loop-place.invariant.within c.index.ensures
    c.in-Marked.place c.in-Marked.mark c.in-Marked.ensures c.child.new.nodes.items c.in_ok-next-in-Marked.next
    c.in_ok-next-in-Marked.ensures.extends c.in_ok-next-in-Marked.ensures.child
    whole c.loop-place.entries.items d (c.loop-place.invariant.same d) c.loop-place.invariant.path
    (ap is_over (sym c.one_less-left.ensures) ∙ sym c.is_over.ensures ∙ c.if-is_over.true))

pub loop-place-smaller : goal.loop-place-smaller
loop-place-smaller c =
    step_less c.args.reach.now (outcomes_of_table c.args.table.now) c.loop-place.left c.loop-place.nodes.items c.loop-place.index c.index.result.now
    c.loop-place.invariant.nodes c.loop-place.invariant.within c.index.ensures
    c.in-Marked.place c.in-Marked.mark c.in-Marked.ensures c.child.new.nodes.items c.in_ok-next-in-Marked.next
    c.in_ok-next-in-Marked.ensures.extends c.in_ok-next-in-Marked.ensures.child

pub loop-place-preserved : goal.loop-place-preserved
loop-place-preserved c =
    let warned : List ℕ = c.index-in-Marked.result.now.step.warned in
    let before : List Entry = c.loop-place.entries.items ++ Marked c.in-Marked.mark c.in-Marked.place ∷ [] in
    let entries_are : c.push_warnings.new.entries.items ≡ before ++ map (λ q. SkippedBase q) warned
    = c.in_ok-push_warnings-in-Marked.ensures
    ∙ ap (λ (xs : List Entry). xs ++ map (λ q. SkippedBase q) c.as_slice.result.now) c.in_ok-push-in-Marked.ensures.items
    ∙ ap (λ (ps : List ℕ). before ++ map (λ q. SkippedBase q) ps) c.as_slice.ensures in
    let on : is_over c.one_less-left.result ≡ false = sym c.is_over.ensures ∙ c.if-is_over.false in
    record {
      within = c.in_ok-next-in-Marked.ensures.child.0;
      nodes = extends_nodes c.args.reach.now c.loop-place.nodes.items c.child.new.nodes.items c.in_ok-next-in-Marked.ensures.extends
          c.loop-place.invariant.nodes;
      extends = extends_trans c.args.reach.now c.args.nodes.now.items c.loop-place.nodes.items c.child.new.nodes.items c.loop-place.invariant.extends
          c.in_ok-next-in-Marked.ensures.extends;
      on = on;
      path = λ d.
          c.in_ok-next-in-Marked.ensures.child.1 d
          ∙ ap (λ (ms : List Mark). ms ++ c.in-Marked.mark ∷ []) (c.loop-place.invariant.path d)
          ∙ sym (ap marks_of entries_are ∙ marks_after before warned ∙ marks_marked c.loop-place.entries.items c.in-Marked.mark c.in-Marked.place);
      same = λ d.
          let whole : Run = run_below c.args.reach.now (outcomes_of_table c.args.table.now) c.args.left (slice_index_or c.args.nodes.now.items c.args.start d) in
          let below : Node = slice_index_or c.child.new.nodes.items c.in_ok-next-in-Marked.next d in
          leads_as (before ++ map (λ q. SkippedBase q) warned) c.push_warnings.new.entries.items
          (run_below c.args.reach.now (outcomes_of_table c.args.table.now) (marked_one c.loop-place.left) below)
          (run_below c.args.reach.now (outcomes_of_table c.args.table.now) c.one_less-left.result below) whole (sym entries_are)
          (ap (λ x. run_below c.args.reach.now (outcomes_of_table c.args.table.now) x below) (sym c.one_less-left.ensures))
          (step_on c.args.reach.now (outcomes_of_table c.args.table.now) c.loop-place.left c.loop-place.nodes.items c.loop-place.index c.index.result.now
          c.loop-place.invariant.nodes c.loop-place.invariant.within c.index.ensures
          c.in-Marked.place c.in-Marked.mark c.in-Marked.ensures c.child.new.nodes.items c.in_ok-next-in-Marked.next
          c.in_ok-next-in-Marked.ensures.extends c.in_ok-next-in-Marked.ensures.child
          whole c.loop-place.entries.items d (c.loop-place.invariant.same d) c.index-in-Marked.result.now d
          (ap is_over (sym c.one_less-left.ensures) ∙ on) c.index-in-Marked.ensures);
    }
