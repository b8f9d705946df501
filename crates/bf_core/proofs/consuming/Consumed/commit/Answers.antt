use Rattle.std.proofs.Common.{◌++◌, List, rules, sym, subst}
use Rattle.std.specs.List.{Contains}
use Rattle.bf_search.specs.declared.outcomes.Mark.{Mark}
use Rattle.bf_core.proofs.consuming.Consumed.commit.Goals as goal

pub returns-clause-ok : goal.returns-clause-ok
returns-clause-ok c = record {
  graph = search rules;
  session = search rules;
  root = search rules;
  nodes = λ path h. (c.jump.ensures.paths path).1
      (subst (λ (ms : List Mark). Contains c.args.self.now.tree.paths (ms ++ path)) (sym c.as_slice.ensures.value) h);
  entries = search rules;
  state = search rules;
  ending = search rules;
  left = search rules;
}
