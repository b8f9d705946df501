use Rattle.std.proofs.Common.{◌≡◌, ℕ, ◌<◌, ◌++◌, ◌∷◌, [], List, length, get_or, arith, sym, ap, ◌∙◌}
use Rattle.std.proofs.lemmas.List.Elements.{Contains-get_or}
use Rattle.bf_search.specs.Outcomes.{Outcomes, outcomes_of_table}
use Rattle.bf_search.specs.declared.outcomes.Mark.{Mark}
use Rattle.bf_search.specs.declared.farm.Claim.{Claim}
use Rattle.bf_spec.specs.declared.node.Node.{Node}
use Rattle.bf_spec.specs.declared.walk.Look.{Look}
use Rattle.bf_spec.specs.declared.walk.Look.TheVariants.{Ended, Free, Known, Guess}
use Rattle.bf_spec.specs.Guessed.{look_of}
use Rattle.bf_spec.specs.Nodes.{path_of, AreNodes, Extends, left_at, best_at}
use Rattle.bf_spec.proofs.Growing.{extends_trans, extends_nodes, read_as}
use Rattle.bf_spec.proofs.Walking.{IsChildAt, child_at_left, child_at_best, node_facts, best_ended, best_free, asks_known}
use Rattle.bf_spec.proofs.walk.settle.Goals as goal

-- the look at the node that was read is the look at each reading of its index
look_here : (known : Outcomes) (claims : List Claim) (nodes : List Node) (i : ℕ) (node d : Node) (look : Look) → i < length nodes → node ≡ get_or nodes i node
    → look ≡ look_of known claims node.step.ask
    → look_of known claims (get_or nodes i d).step.ask ≡ look
look_here known claims nodes i node d look l e h = ap (λ (n : Node). look_of known claims n.step.ask) (read_as nodes i node d l e) ∙ sym h

pub returns-in-Ended-clause-stops : goal.returns-in-Ended-clause-stops
returns-in-Ended-clause-stops c = λ d.
    c.loop-place.invariant.same d
    ∙ best_ended c.args.reach.now (outcomes_of_table c.args.table.now) c.args.claims.now (get_or c.loop-place.nodes.items c.loop-place.index d)
    (node_facts c.args.reach.now c.loop-place.nodes.items _ c.loop-place.invariant.nodes
    (Contains-get_or c.loop-place.nodes.items c.loop-place.index d c.loop-place.invariant.within))
    (look_here (outcomes_of_table c.args.table.now) c.args.claims.now c.loop-place.nodes.items c.loop-place.index c.index.result.now d Ended
    c.loop-place.invariant.within c.index.ensures c.in-Ended.ensures)

pub returns-in-Free-clause-stops : goal.returns-in-Free-clause-stops
returns-in-Free-clause-stops c = λ d. (
  c.loop-place.invariant.within,
  λ e.
      c.loop-place.invariant.same d
      ∙ ap (λ (n : Node). best_at c.args.reach.now (outcomes_of_table c.args.table.now) c.args.claims.now n)
      (read_as c.loop-place.nodes.items c.loop-place.index c.index.result.now d c.loop-place.invariant.within c.index.ensures ∙ sym
      (read_as c.loop-place.nodes.items c.loop-place.index c.index.result.now e c.loop-place.invariant.within c.index.ensures))
      ∙ best_free c.args.reach.now (outcomes_of_table c.args.table.now) c.args.claims.now (get_or c.loop-place.nodes.items c.loop-place.index e) c.in-Free.place
      (node_facts c.args.reach.now c.loop-place.nodes.items _ c.loop-place.invariant.nodes
      (Contains-get_or c.loop-place.nodes.items c.loop-place.index e c.loop-place.invariant.within))
      (look_here (outcomes_of_table c.args.table.now) c.args.claims.now c.loop-place.nodes.items c.loop-place.index c.index.result.now e (Free c.in-Free.place)
      c.loop-place.invariant.within c.index.ensures c.in-Free.ensures),
)

pub returns-in-Guess-clause-stops : goal.returns-in-Guess-clause-stops
returns-in-Guess-clause-stops c = λ d. (
  c.loop-place.invariant.within,
  c.loop-place.invariant.fewer,
  λ e. (
    c.loop-place.invariant.same d
        ∙ ap (λ (n : Node). best_at c.args.reach.now (outcomes_of_table c.args.table.now) c.args.claims.now n)
        (read_as c.loop-place.nodes.items c.loop-place.index c.index.result.now d c.loop-place.invariant.within c.index.ensures ∙ sym
        (read_as c.loop-place.nodes.items c.loop-place.index c.index.result.now e c.loop-place.invariant.within c.index.ensures)),
    look_here (outcomes_of_table c.args.table.now) c.args.claims.now c.loop-place.nodes.items c.loop-place.index c.index.result.now e (Guess c.in-Guess.place)
        c.loop-place.invariant.within c.index.ensures c.in-Guess.ensures,
  ),
)

-- the step of the loop, over plain lists
known_step : (graph : List (List ℕ)) (known : Outcomes) (claims : List Claim) (nodes new : List Node) (i k : ℕ) (node : Node) (p : ℕ) (m : Mark)
    → AreNodes graph nodes → i < length nodes → node ≡ get_or nodes i node → Known p m ≡ look_of known claims node.step.ask → Extends graph nodes new
    → (k < length new) × ((d : Node) → path_of (get_or new k d) ≡ path_of (get_or nodes i d) ++ m ∷ [])
    → (left_at graph new k < left_at graph nodes i) × ((d : Node) → best_at graph known claims (get_or nodes i d) ≡ best_at graph known claims (get_or new k d))
known_step graph known claims nodes new i k node p m t l e h x child = (
  child_at_left graph nodes new i k m t c p node
      (asks_known graph known claims (get_or nodes i node) p m (look_here known claims nodes i node node (Known p m) l e h)),
  λ d. child_at_best graph nodes new i k m t c known claims p d (look_here known claims nodes i node d (Known p m) l e h),
)
  where
    c : IsChildAt graph nodes new i k m
    c = record { above = l; below = child.0; extends = x; path = child.1 }

pub returns-in_err-index-in-Known-clause-extends : goal.returns-in_err-index-in-Known-clause-extends
returns-in_err-index-in-Known-clause-extends c = extends_trans c.args.reach.now c.args.nodes.now.items c.loop-place.nodes.items c.child.new.nodes.items
    c.loop-place.invariant.extends c.in_err-index-in-Known.ensures.extends

pub loop-place-smaller : goal.loop-place-smaller
loop-place-smaller c =
    (known_step c.args.reach.now (outcomes_of_table c.args.table.now) c.args.claims.now c.loop-place.nodes.items c.child.new.nodes.items c.loop-place.index
    c.in_ok-index-in-Known.index c.index.result.now c.in-Known.place c.in-Known.mark
    c.loop-place.invariant.nodes c.loop-place.invariant.within c.index.ensures c.in-Known.ensures c.in_ok-index-in-Known.ensures.extends
    c.in_ok-index-in-Known.ensures.child).0

pub loop-place-preserved : goal.loop-place-preserved
loop-place-preserved c =
    let next = known_step c.args.reach.now (outcomes_of_table c.args.table.now) c.args.claims.now c.loop-place.nodes.items c.child.new.nodes.items
    c.loop-place.index c.in_ok-index-in-Known.index c.index.result.now c.in-Known.place c.in-Known.mark
    c.loop-place.invariant.nodes c.loop-place.invariant.within c.index.ensures c.in-Known.ensures c.in_ok-index-in-Known.ensures.extends
    c.in_ok-index-in-Known.ensures.child in
    record {
      within = c.in_ok-index-in-Known.ensures.child.0;
      nodes = extends_nodes c.args.reach.now c.loop-place.nodes.items c.child.new.nodes.items c.in_ok-index-in-Known.ensures.extends
          c.loop-place.invariant.nodes;
      extends = extends_trans c.args.reach.now c.args.nodes.now.items c.loop-place.nodes.items c.child.new.nodes.items c.loop-place.invariant.extends
          c.in_ok-index-in-Known.ensures.extends;
      fewer = let less = next.0 in let before = c.loop-place.invariant.fewer in omega (arith, less, before);
      same = λ d. c.loop-place.invariant.same d ∙ next.1 d;
    }
