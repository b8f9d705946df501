use Rattle.bf_spec.specs.Guessed.{asked_at}
use Rattle.std.proofs.Common.{refl, ◌++◌, List, ℕ, map, rules, ap, sym, ◌∙◌, subst}
use Rattle.std.specs.List.{Contains}
use Rattle.bf_search.specs.declared.asks.Step.{Step}
use Rattle.bf_search.specs.declared.entries.Entry.TheVariants.{SkippedBase}
use Rattle.bf_search.specs.declared.outcomes.Mark.{Mark}
use Rattle.bf_search.specs.Outcomes.{outcomes_of_table}
use Rattle.bf_search.specs.Run.{run}
use Rattle.bf_core.specs.Claims.{IsSameTree}
use Rattle.bf_core.proofs.Joining.{walk_of, begins_by}
use Rattle.bf_core.proofs.consuming.Consumed.begin.Goals as goal

same : (c : goal.After-drop-more-2) → IsSameTree c.args.tree c.run.new.self
same c = record {
  graph = c.in_ok-walked.ensures.graph;
  session = c.in_ok-walked.ensures.session;
  root = c.in_ok-walked.ensures.root;
  kept =
      c.in_ok-walked.ensures.kept;
}

pub returns : goal.returns
returns c =
    begins_by c.args.tree c.run.new.self c.args.table.now c.args.leg c.leg_of-left.result c.in_ok-entries.entries.items c.in_ok-walked.walked
    (run c.args.tree.graph (outcomes_of_table c.args.table.now) c.leg_of-left.result c.args.tree.root.search) _ c.leg_of-left.ensures
    (c.in_ok-entries.ensures ∙ ap (λ (ps : List ℕ). map (λ p. SkippedBase p) ps) (c.as_slice.ensures ∙ ap (λ (t : Step). t.warned) c.root_ask.ensures))
    (same c)
    (walk_of c.args.tree c.run.new.self (outcomes_of_table c.args.table.now) c.leg_of-left.result c.in_ok-walked.walked (same c)
    c.in_ok-walked.ensures.entries c.in_ok-walked.ensures.ending c.in_ok-walked.ensures.state c.in_ok-walked.ensures.path
    c.in_ok-walked.ensures.there c.in_ok-walked.ensures.asked)
    (record {
      graph = c.jump.ensures.graph;
      session = c.jump.ensures.session;
      root = c.jump.ensures.root ∙ ap (λ (ms : List Mark). asked_at c.run.new.self.graph c.run.new.self.root ms) c.as_slice-2.ensures.value;
      nodes = λ path h. (c.jump.ensures.paths path).1
          (subst (λ (ms : List Mark). Contains c.run.new.self.paths (ms ++ path)) (sym c.as_slice-2.ensures.value) h);
      entries = c.in_ok-append.ensures.items;
      state = refl;
      ending = refl;
      left = search rules;
    })
