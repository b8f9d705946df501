use Rattle.std.proofs.Common.{◌∷◌, [], List, sym, subst, ◌∙◌}
use Rattle.std.proofs.lemmas.Bool.{true≢false}
use Rattle.bf_spec.specs.declared.node.Node.{Node}
use Rattle.bf_spec.specs.Guessed.{next_asked}
use Rattle.bf_spec.specs.Nodes.{HasPath, IsTree}
use Rattle.bf_spec.proofs.tree.advance_nodes.Goals as goal
use Rattle.bf_spec.proofs.tree.advance_nodes.Goals.{else-is_guess-via-then-is_guess+else-has_path, else-is_guess-via-else-is_guess}

pub returns-then-has_path-clause-tree : goal.returns-then-has_path-clause-tree
returns-then-has_path-clause-tree c = λ session root t. c.reroot.ensures.tree c.args.reach.now session root t

pub moved-requires-clause-asks : goal.moved-requires-clause-asks
moved-requires-clause-asks c = (
  c.requires.asks.0,
  λ session root t. c.requires.asks.1 session root
      (subst (λ (xs : List Node). IsTree c.args.reach.now session root xs) c.as_slice-2.ensures.value t),
)

pub returns-clause-tree : goal.returns-clause-tree
returns-clause-tree c = λ session root t.
    subst (λ (xs : List Node). IsTree c.args.reach.now session (next_asked c.args.reach.now root c.args.mark) xs) (sym c.in_ok-nodes.ensures)
    (c.in_ok-root.ensures.tree session root (subst (λ (xs : List Node). IsTree c.args.reach.now session root xs) (sym c.as_slice-2.ensures.value) t))

pub returns-in_err-nodes-clause-kept : goal.returns-in_err-nodes-clause-kept
returns-in_err-nodes-clause-kept c = λ guess has.
    elim c.else-is_guess.branch [
      | else-is_guess-via-then-is_guess+else-has_path w ↦
          let told = w.has_path.ensures.1 (subst (λ (xs : List Node). HasPath xs (c.args.mark ∷ [])) (sym w.as_slice.ensures.value) has) in
          absurd (true≢false (sym told ∙ w.if-has_path.false))
      | else-is_guess-via-else-is_guess w ↦ absurd (true≢false (sym (c.is_guess.ensures.1 guess) ∙ w.if-is_guess.false))
    ]
