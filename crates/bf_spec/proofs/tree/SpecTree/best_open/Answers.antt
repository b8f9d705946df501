use Rattle.std.proofs.Common.{◌≡◌, Option, Some, sym, ap, ◌∙◌, subst}
use Rattle.bf_search.specs.Outcomes.{outcomes_of_table}
use Rattle.bf_search.specs.OpenPaths.{OpenPath, best_open, place_of}
use Rattle.bf_spec.specs.Nodes.{IsFound}
use Rattle.bf_spec.specs.Tree.{Guesses, HasNode, session_of, root_of}
use Rattle.bf_spec.proofs.Rerooting.{root_kept, session_kept, rooted_after, path_kept, path_to, place_is, found_has}
use Rattle.bf_spec.proofs.tree.SpecTree.best_open.Goals as goal

pub invariant_of-self : goal.invariant_of-self
invariant_of-self c = rooted_after c.self.inside.reach.now c.self.inside.nodes.items c.best_in.new.nodes.items c.in_err-found.ensures.extends c.self.invariant

pub returns-in_err-found-clause-kept : goal.returns-in_err-found-clause-kept
returns-in_err-found-clause-kept c = λ path h. path_kept c.self.inside.reach.now c.self.inside.nodes.items c.best_in.new.nodes.items path
    c.in_err-found.ensures.extends (subst (λ (t : Guesses). HasNode t path) (sym c.self.view_is) h)

pub returns-in_err-found-clause-root : goal.returns-in_err-found-clause-root
returns-in_err-found-clause-root c = root_kept c.self.inside.reach.now c.self.inside.nodes.items c.best_in.new.nodes.items c.in_err-found.ensures.extends
    c.self.invariant ∙ ap (λ (t : Guesses). t.root) c.self.view_is

pub invariant_of-self-2 : goal.invariant_of-self-2
invariant_of-self-2 c = rooted_after c.self.inside.reach.now c.self.inside.nodes.items c.best_in.new.nodes.items c.in_ok-found.ensures.extends c.self.invariant

pub returns-clause-kept : goal.returns-clause-kept
returns-clause-kept c = λ path h. path_kept c.self.inside.reach.now c.self.inside.nodes.items c.best_in.new.nodes.items path c.in_ok-found.ensures.extends
    (subst (λ (t : Guesses). HasNode t path) (sym c.self.view_is) h)

pub returns-clause-root : goal.returns-clause-root
returns-clause-root c = root_kept c.self.inside.reach.now c.self.inside.nodes.items c.best_in.new.nodes.items c.in_ok-found.ensures.extends c.self.invariant ∙
    ap (λ (t : Guesses). t.root) c.self.view_is

pub returns-clause-best : goal.returns-clause-best
returns-clause-best c =
    subst (λ (t : Guesses). c.place_found.result ≡ place_of (best_open t.graph (outcomes_of_table c.args.table.now) c.args.claims.now t.root.search))
    c.self.view_is
    (c.place_found.ensures ∙ place_is c.best_in.new.nodes.items c.in_ok-found.found
    (best_open c.self.inside.reach.now (outcomes_of_table c.args.table.now) c.args.claims.now (root_of c.self.inside.nodes.items).search)
    (c.in_ok-found.ensures.found (session_of c.self.inside.nodes.items) (root_of c.self.inside.nodes.items) c.self.invariant))

pub returns-clause-answer : goal.returns-clause-answer
returns-clause-answer c = λ path e.
    let here : best_open c.self.inside.reach.now (outcomes_of_table c.args.table.now) c.args.claims.now (root_of c.self.inside.nodes.items).search ≡ Some path
    = subst (λ (t : Guesses). best_open t.graph (outcomes_of_table c.args.table.now) c.args.claims.now t.root.search ≡ Some path) (sym c.self.view_is) e in
    path_to c.best_in.new.nodes.items path.marks (found_has c.best_in.new.nodes.items c.in_ok-found.found path
    (subst (λ (o : Option OpenPath). IsFound c.best_in.new.nodes.items c.in_ok-found.found o) here
    (c.in_ok-found.ensures.found (session_of c.self.inside.nodes.items) (root_of c.self.inside.nodes.items) c.self.invariant)))

pub returns-in_err-found-clause-session : goal.returns-in_err-found-clause-session
returns-in_err-found-clause-session c = session_kept c.self.inside.reach.now c.self.inside.nodes.items c.best_in.new.nodes.items c.in_err-found.ensures.extends
    c.self.invariant ∙ ap (λ (t : Guesses). t.session) c.self.view_is

pub returns-clause-session : goal.returns-clause-session
returns-clause-session c = session_kept c.self.inside.reach.now c.self.inside.nodes.items c.best_in.new.nodes.items c.in_ok-found.ensures.extends
    c.self.invariant ∙ ap (λ (t : Guesses). t.session) c.self.view_is
