use Rattle.std.proofs.Common.{◌↔◌, ◌<◌, IsTrue, length, sym, ap, ◌∙◌, subst}
use Rattle.bf_search.specs.Outcomes.{outcomes_of_table}
use Rattle.bf_spec.specs.Tree.{Guesses, HasNode, session_of, root_of}
use Rattle.bf_spec.specs.Ways.{IsAsked}
use Rattle.bf_spec.proofs.Halting.{if_ok}
use Rattle.bf_spec.proofs.Rerooting.{root_kept, session_kept, rooted_after, path_kept}
use Rattle.bf_spec.proofs.tree.SpecTree.is_asked.Goals as goal

pub invariant_of-self : goal.invariant_of-self
invariant_of-self c = rooted_after c.self.inside.reach.now c.self.inside.nodes.items c.asked_in.new.nodes.items c.asked_in.ensures.extends c.self.invariant

pub returns-clause-kept : goal.returns-clause-kept
returns-clause-kept c = λ path h. path_kept c.self.inside.reach.now c.self.inside.nodes.items c.asked_in.new.nodes.items path c.asked_in.ensures.extends
    (subst (λ (t : Guesses). HasNode t path) (sym c.self.view_is) h)

pub returns-clause-root : goal.returns-clause-root
returns-clause-root c = root_kept c.self.inside.reach.now c.self.inside.nodes.items c.asked_in.new.nodes.items c.asked_in.ensures.extends c.self.invariant ∙ ap
    (λ (t : Guesses). t.root) c.self.view_is

pub returns-clause-session : goal.returns-clause-session
returns-clause-session c = session_kept c.self.inside.reach.now c.self.inside.nodes.items c.asked_in.new.nodes.items c.asked_in.ensures.extends c.self.invariant
    ∙ ap (λ (t : Guesses). t.session) c.self.view_is

pub returns-clause-asked : goal.returns-clause-asked
returns-clause-asked c = if_ok c.asked_in.result c.asked_in.ensures.asked (λ asked h.
    subst (λ (t : Guesses). IsTrue asked ↔ IsAsked t.graph (outcomes_of_table c.args.table.now) t.root.search c.args.place) c.self.view_is
    (h (session_of c.self.inside.nodes.items) (root_of c.self.inside.nodes.items) c.self.invariant))

pub asked_in-requires-clause-place : goal.asked_in-requires-clause-place
asked_in-requires-clause-place c = subst (λ (t : Guesses). c.args.place < length t.graph) (sym c.self.view_is) c.requires
