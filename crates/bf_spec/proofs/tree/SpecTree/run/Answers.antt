use Rattle.std.proofs.Common.{◌≡◌, ◌≢◌, ℕ, sym, ap, ◌∙◌, subst}
use Rattle.bf_search.specs.declared.asks.Ask.TheVariants.{Test}
use Rattle.bf_search.specs.Run.{Leg, Open}
use Rattle.bf_search.specs.State.{ask}
use Rattle.bf_state.specs.Session.{with_search}
use Rattle.bf_spec.specs.Guessed.{asked_at}
use Rattle.bf_spec.specs.Tree.{Guesses, HasNode, run_of, session_of, root_of}
use Rattle.bf_state.specs.Ends.{marks_of}
use Rattle.bf_spec.specs.Walks.{Tells}
use Rattle.bf_spec.proofs.Halting.{if_ok}
use Rattle.bf_spec.proofs.Rerooting.{root_kept, session_kept, rooted_after, path_kept, path_to}
use Rattle.bf_spec.proofs.tree.SpecTree.run.Goals as goal

pub invariant_of-self : goal.invariant_of-self
invariant_of-self c = rooted_after c.self.inside.reach.now c.self.inside.nodes.items c.run_in.new.nodes.items c.run_in.ensures.extends c.self.invariant

pub returns-clause-kept : goal.returns-clause-kept
returns-clause-kept c = λ path h. path_kept c.self.inside.reach.now c.self.inside.nodes.items c.run_in.new.nodes.items path c.run_in.ensures.extends
    (subst (λ (t : Guesses). HasNode t path) (sym c.self.view_is) h)

pub returns-clause-root : goal.returns-clause-root
returns-clause-root c = root_kept c.self.inside.reach.now c.self.inside.nodes.items c.run_in.new.nodes.items c.run_in.ensures.extends c.self.invariant ∙ ap
    (λ (t : Guesses). t.root) c.self.view_is

pub returns-clause-session : goal.returns-clause-session
returns-clause-session c = session_kept c.self.inside.reach.now c.self.inside.nodes.items c.run_in.new.nodes.items c.run_in.ensures.extends c.self.invariant ∙
    ap (λ (t : Guesses). t.session) c.self.view_is

pub returns-clause-entries : goal.returns-clause-entries
returns-clause-entries c = if_ok c.run_in.result c.run_in.ensures.walked (λ walked h.
    subst (λ (t : Guesses). walked.entries.items ≡ (run_of t c.args.table.now c.args.left).entries) c.self.view_is
    (h (session_of c.self.inside.nodes.items) (root_of c.self.inside.nodes.items) c.self.invariant).entries)

pub returns-clause-ending : goal.returns-clause-ending
returns-clause-ending c = if_ok c.run_in.result c.run_in.ensures.walked (λ walked h.
    subst (λ (t : Guesses). Tells walked.ending (run_of t c.args.table.now c.args.left).end) c.self.view_is
    (h (session_of c.self.inside.nodes.items) (root_of c.self.inside.nodes.items) c.self.invariant).ending)

pub returns-clause-state : goal.returns-clause-state
returns-clause-state c = if_ok c.run_in.result c.run_in.ensures.walked (λ walked h.
    subst (λ (t : Guesses). walked.state ≡ with_search t.session (run_of t c.args.table.now c.args.left).search) c.self.view_is
    (h (session_of c.self.inside.nodes.items) (root_of c.self.inside.nodes.items) c.self.invariant).state)

pub returns-clause-path : goal.returns-clause-path
returns-clause-path c = if_ok c.run_in.result c.run_in.ensures.walked (λ walked h.
    subst (λ (t : Guesses). walked.path.items ≡ marks_of (run_of t c.args.table.now c.args.left).entries) c.self.view_is
    (h (session_of c.self.inside.nodes.items) (root_of c.self.inside.nodes.items) c.self.invariant).path)

pub returns-clause-node : goal.returns-clause-node
returns-clause-node c = if_ok c.run_in.result c.run_in.ensures.walked (λ walked h.
    path_to c.run_in.new.nodes.items walked.path.items (h (session_of c.self.inside.nodes.items) (root_of c.self.inside.nodes.items) c.self.invariant).node)

pub returns-clause-there : goal.returns-clause-there
returns-clause-there c = if_ok c.run_in.result c.run_in.ensures.walked (λ walked h.
    subst (λ (t : Guesses). (run_of t c.args.table.now c.args.left).end ≢ Leg
    → (asked_at t.graph t.root walked.path.items).search ≡ (run_of t c.args.table.now c.args.left).search) c.self.view_is
    (h (session_of c.self.inside.nodes.items) (root_of c.self.inside.nodes.items) c.self.invariant).there)

pub returns-clause-waits : goal.returns-clause-waits
returns-clause-waits c = if_ok c.run_in.result c.run_in.ensures.walked (λ walked h.
    subst (λ (t : Guesses). (p : ℕ) → (run_of t c.args.table.now c.args.left).end ≡ Open p → (asked_at t.graph t.root walked.path.items).step.ask ≡ Test p)
    c.self.view_is (h (session_of c.self.inside.nodes.items) (root_of c.self.inside.nodes.items) c.self.invariant).waits)

pub returns-clause-asked : goal.returns-clause-asked
returns-clause-asked c = if_ok c.run_in.result c.run_in.ensures.walked (λ walked h.
    subst (λ (t : Guesses). (asked_at t.graph t.root walked.path.items).search ≡ (ask t.graph (run_of t c.args.table.now c.args.left).search).search)
    c.self.view_is (h (session_of c.self.inside.nodes.items) (root_of c.self.inside.nodes.items) c.self.invariant).asked)
