use Rattle.std.proofs.Common.{◌≡◌, ◌++◌, ◌∙◌, [], List, length, eqb-true, sym, subst}
use Rattle.std.proofs.lemmas.List.{nil_from_length}
use Rattle.bf_search.specs.declared.outcomes.Mark.{Mark}
use Rattle.bf_spec.specs.Links.{Listed}
use Rattle.bf_spec.specs.Nodes.{HasPath, IsTree}
use Rattle.bf_spec.proofs.nodes.Nodes.reroot.Goals as goal

pub returns-then-is_empty-clause-paths : goal.returns-then-is_empty-clause-paths
returns-then-is_empty-clause-paths c =
    let none : c.args.prefix.now ≡ [] = nil_from_length c.args.prefix.now (eqb-true (length c.args.prefix.now) 0 (sym c.is_empty.ensures ∙ c.if-is_empty.true)) in
    λ more. (
      λ h. subst (λ (path : List Mark). HasPath c.args.self.now.items (path ++ more)) (sym none) h,
      λ h. subst (λ (path : List Mark). HasPath c.args.self.now.items (path ++ more)) none h,
    )

pub returns-clause-tree : goal.returns-clause-tree
returns-clause-tree c = λ graph session root t.
    c.reroot.ensures.tree graph session root (subst (λ (v : Listed). IsTree graph session root v.items) (sym c.self.view_is) t)
