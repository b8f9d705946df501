use Rattle.std.proofs.Common.{◌≡◌, ◌+◌, ◌<◌, List, ℕ, [], ◌∷◌, ◌++◌, length, arith, sym, ap, ◌∙◌}
use Rattle.std.proofs.lemmas.Bool.{cond-true}
use Rattle.bf_graph.proofs.Layouts.{length-lists_from, Pushed, pushed}
use Rattle.bf_graph.proofs.graph.Graph.push.Goals as goal

same_length : (c : goal.After-len-2) → length c.args.self.now ≡ length c.self.inside.ends.items
same_length c = ap length (sym c.self.view_is) ∙ length-lists_from 0 _ _

both : (c : goal.After-len-2) → Pushed c.self.inside.ends.items c.self.inside.parents.items c.args.parents.now c.push.new.self.items
    c.extend_from_slice.new.self.items
both c =
    let few : length c.self.inside.ends.items < 4294967295 = omega (arith, same_length c) in
    pushed _ _ _ _ _ _ c.self.invariant (rw (same_length c) at c.requires.earlier) few c.in_ok-extend_from_slice.ensures.items
    (c.len.ensures ∙ c.extend_from_slice.new.self.ok.0) (c.push.ensures.items ∙ cond-true _ _ _ c.if-is_err.ensures.negation)

pub invariant_of-self-2 : goal.invariant_of-self-2
invariant_of-self-2 c = (both c).layout

pub returns-clause-ok : goal.returns-clause-ok
returns-clause-ok c =
    let more : c.push.new.self.len ≡ c.self.inside.ends.len + 1 = c.push.ensures.len ∙ cond-true _ _ _ c.if-is_err.ensures.negation in
    omega (arith, same_length c, c.len-2.ensures, c.self.inside.ends.ok.0)

pub returns-clause-pushed : goal.returns-clause-pushed
returns-clause-pushed c = (both c).lists ∙ ap (λ (x : List (List ℕ)). x ++ c.args.parents.now ∷ []) c.self.view_is
