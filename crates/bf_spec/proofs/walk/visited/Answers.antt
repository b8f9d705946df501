use Rattle.std.proofs.Common.{◌≡◌, ℕ, ◌<◌, ◌++◌, ◌∷◌, [], List, Bool, count_by, length, get_or, arith, ap, ◌∙◌, subst}
use Rattle.bf_search.specs.Outcomes.{Outcomes, outcomes_of_table}
use Rattle.bf_search.specs.declared.asks.Ask.TheVariants.{Test}
use Rattle.bf_search.specs.declared.outcomes.Mark.{Mark}
use Rattle.bf_search.specs.declared.outcomes.Mark.TheVariants.{Good, Bad}
use Rattle.bf_search.specs.declared.farm.Claim.{Claim}
use Rattle.bf_spec.specs.declared.node.Node.{Node}
use Rattle.bf_spec.specs.declared.walk.Stop.{Stop}
use Rattle.bf_spec.specs.declared.walk.Stop.TheVariants.{Guess}
use Rattle.bf_spec.specs.declared.walk.Visit.TheVariants.{Fork}
use Rattle.bf_spec.specs.Nodes.{path_of, AreNodes, Extends, Stops, Visits, left_at, best_at}
use Rattle.bf_spec.proofs.Growing.{extends_trans, extends_nodes, extends_length, extends_at}
use Rattle.bf_spec.proofs.Walking.{IsChildAt, child_at_left, asks_guess, best_below, free_found, first_of, left_at-extends}
use Rattle.bf_spec.proofs.walk.visited.Goals as goal

pub child-requires-clause-nodes : goal.child-requires-clause-nodes
child-requires-clause-nodes c = extends_nodes c.args.reach.now c.args.nodes.now.items c.settle.new.nodes.items c.in_ok-settle.ensures.extends c.requires.nodes

pub returns-in_err-good-in-Guess-clause-extends : goal.returns-in_err-good-in-Guess-clause-extends
returns-in_err-good-in-Guess-clause-extends c = extends_trans c.args.reach.now c.args.nodes.now.items c.settle.new.nodes.items c.child.new.nodes.items
    c.in_ok-settle.ensures.extends c.in_err-good-in-Guess.ensures.extends

abbrev StopsHere : (graph : List (List ℕ)) (known : Outcomes) (claims : List Claim) (old new : List Node) (start : ℕ) → Stop → Type 0
StopsHere graph known claims old new start stop = (d : Node)
    → Stops graph known claims new stop (left_at graph old start) (best_at graph known claims (get_or old start d))

-- the first child, over plain lists
first_child : (graph : List (List ℕ)) (known : Outcomes) (claims : List Claim) (old one two : List Node) (start i k p : ℕ) (m : Mark) (d : Node) (stop : Stop)
    → AreNodes graph one → StopsHere graph known claims old one start stop → stop ≡ Guess i p
    → Extends graph one two → (k < length two) × ((e : Node) → path_of (get_or two k e) ≡ path_of (get_or one i e) ++ m ∷ [])
    → IsChildAt graph one two i k m × (left_at graph two k < left_at graph old start)
first_child graph known claims old one two start i k p m d stop t stops is x child =
    let at : StopsHere graph known claims old one start (Guess i p) = subst (λ (s : Stop). StopsHere graph known claims old one start s) is stops in
    let c : IsChildAt graph one two i k m = record { above = (at d).0; below = child.0; extends = x; path = child.1 } in
    let less = child_at_left graph one two i k m t c p d (asks_guess graph known claims (get_or one i d) p ((at d).2 d).1) in
    let most = (at d).1 in
    (c, omega (arith, less, most))

-- the second one, after more nodes have come
second_child : (graph : List (List ℕ)) (known : Outcomes) (claims : List Claim) (old one three four : List Node) (start i j p : ℕ) (m : Mark) (d : Node)
    (stop : Stop) → AreNodes graph one → StopsHere graph known claims old one start stop → stop ≡ Guess i p
    → Extends graph one three → Extends graph three four → (j < length four) × ((e : Node) → path_of (get_or four j e) ≡ path_of (get_or three i e) ++ m ∷ [])
    → IsChildAt graph three four i j m × (left_at graph four j < left_at graph old start)
second_child graph known claims old one three four start i j p m d stop t stops is y x child =
    let at : StopsHere graph known claims old one start (Guess i p) = subst (λ (s : Stop). StopsHere graph known claims old one start s) is stops in
    let c : IsChildAt graph three four i j m = record { above = extends_length graph one three i y (at d).0; below = child.0; extends = x; path = child.1 } in
    let same = extends_at graph one three i d y (at d).0 in
    let asks : (get_or three i d).step.ask ≡ Test p = ap (λ (n : Node). n.step.ask) same ∙ asks_guess graph known claims (get_or one i d) p ((at d).2 d).1 in
    let less = child_at_left graph three four i j m (extends_nodes graph one three y t) c p d asks in
    let most = (at d).1 in
    let kept = left_at-extends graph one three i d y (at d).0 in
    (c, omega (arith, less, most, kept))

-- the place that the node asks after more nodes have come
asks_still : (graph : List (List ℕ)) (known : Outcomes) (claims : List Claim) (old one three : List Node) (start i p : ℕ) (d : Node) (stop : Stop)
    → StopsHere graph known claims old one start stop → stop ≡ Guess i p → Extends graph one three
    → (i < length three) × ((get_or three i d).step.ask ≡ Test p)
asks_still graph known claims old one three start i p d stop stops is y =
    let at : StopsHere graph known claims old one start (Guess i p) = subst (λ (s : Stop). StopsHere graph known claims old one start s) is stops in (
      extends_length graph one three i y (at d).0,
      ap (λ (n : Node). n.step.ask) (extends_at graph one three i d y (at d).0) ∙ asks_guess graph known claims
          (get_or one i d) p ((at d).2 d).1,
    )

-- both children, over plain lists
forks : (graph : List (List ℕ)) (known : Outcomes) (claims : List Claim) (old one two three : List Node) (start i k j p : ℕ) (d : Node) (stop : Stop)
    → AreNodes graph one → StopsHere graph known claims old one start stop → stop ≡ Guess i p
    → Extends graph one two → (k < length two) × ((e : Node) → path_of (get_or two k e) ≡ path_of (get_or one i e) ++ Good ∷ [])
    → Extends graph two three → (j < length three) × ((e : Node) → path_of (get_or three j e) ≡ path_of (get_or two i e) ++ Bad ∷ [])
    → Visits (record { graph = graph; outcomes = known; claims = claims }) three d (Fork k j) (left_at graph old start) (best_at graph known claims (get_or old start d))
forks graph known claims old one two three start i k j p d stop t stops is a child b other =
    let at : StopsHere graph known claims old one start (Guess i p) = subst (λ (s : Stop). StopsHere graph known claims old one start s) is stops in
    let first = first_child graph known claims old one two start i k p Good d stop t stops is a child in
    let second = second_child graph known claims old one two three start i j p Bad d stop t stops is a b other in
    let less = first.1 in
    let kept = left_at-extends graph two three k d b child.0 in (
      extends_length graph two three k b child.0,
      other.0,
      omega (arith, less, kept),
      second.1,
      ((at d).2 d).0 ∙ best_below graph known claims one two three i k j p d t ((at d).2 d).1 first.0 second.0,
    )

pub returns-in-Free-clause-visit : goal.returns-in-Free-clause-visit
returns-in-Free-clause-visit c = λ d.
    let stops = subst (λ (s : Stop). (d : Node) → Stops c.args.reach.now (outcomes_of_table c.args.table.now) c.args.claims.now c.settle.new.nodes.items s
    (left_at c.args.reach.now c.args.nodes.now.items c.args.start)
    (best_at c.args.reach.now (outcomes_of_table c.args.table.now) c.args.claims.now (get_or c.args.nodes.now.items c.args.start d))) c.in-Free.is
    c.in_ok-settle.ensures.stops in
    free_found c.args.reach.now c.settle.new.nodes.items c.in-Free.index c.in-Free.place c.index.result.now c.index-in-Free.result.now c.count.result
    (length c.as_slice.result.now)
    (best_at c.args.reach.now (outcomes_of_table c.args.table.now) c.args.claims.now (get_or c.args.nodes.now.items c.args.start d))
    (extends_nodes c.args.reach.now c.args.nodes.now.items c.settle.new.nodes.items c.in_ok-settle.ensures.extends c.requires.nodes)
    (stops d).0 c.index.ensures c.index-in-Free.ensures (c.count.ensures ∙ ap (λ (row : List Bool). count_by (λ (v : Bool). v) row) c.deref.ensures)
    (ap length c.as_slice.ensures.value) (stops d).1

pub child-requires-in-Guess-clause-index : goal.child-requires-in-Guess-clause-index
child-requires-in-Guess-clause-index c =
    (asks_still c.args.reach.now (outcomes_of_table c.args.table.now) c.args.claims.now c.args.nodes.now.items c.settle.new.nodes.items
    c.child.new.nodes.items c.args.start c.in-Guess.index c.in-Guess.place (first_of c.args.nodes.now.items c.args.start c.requires.start)
    c.in_ok-settle.field-0 c.in_ok-settle.ensures.stops c.in-Guess.is c.in_ok-good-in-Guess.ensures.extends).0

pub child-requires-in-Guess-clause-nodes : goal.child-requires-in-Guess-clause-nodes
child-requires-in-Guess-clause-nodes c =
    extends_nodes c.args.reach.now c.settle.new.nodes.items c.child.new.nodes.items c.in_ok-good-in-Guess.ensures.extends
    (extends_nodes c.args.reach.now c.args.nodes.now.items c.settle.new.nodes.items c.in_ok-settle.ensures.extends c.requires.nodes)

pub child-requires-in-Guess-clause-asks : goal.child-requires-in-Guess-clause-asks
child-requires-in-Guess-clause-asks c = λ d.
    (asks_still c.args.reach.now (outcomes_of_table c.args.table.now) c.args.claims.now c.args.nodes.now.items c.settle.new.nodes.items
    c.child.new.nodes.items c.args.start c.in-Guess.index c.in-Guess.place d c.in_ok-settle.field-0 c.in_ok-settle.ensures.stops c.in-Guess.is
    c.in_ok-good-in-Guess.ensures.extends).1

pub returns-in_err-bad-in-Guess-clause-extends : goal.returns-in_err-bad-in-Guess-clause-extends
returns-in_err-bad-in-Guess-clause-extends c =
    extends_trans c.args.reach.now c.args.nodes.now.items c.child.new.nodes.items c.child-in-Guess.new.nodes.items
    (extends_trans c.args.reach.now c.args.nodes.now.items c.settle.new.nodes.items c.child.new.nodes.items c.in_ok-settle.ensures.extends
    c.in_ok-good-in-Guess.ensures.extends) c.in_err-bad-in-Guess.ensures.extends

pub returns-in_ok-bad-in-Guess-clause-extends : goal.returns-in_ok-bad-in-Guess-clause-extends
returns-in_ok-bad-in-Guess-clause-extends c =
    extends_trans c.args.reach.now c.args.nodes.now.items c.child.new.nodes.items c.child-in-Guess.new.nodes.items
    (extends_trans c.args.reach.now c.args.nodes.now.items c.settle.new.nodes.items c.child.new.nodes.items c.in_ok-settle.ensures.extends
    c.in_ok-good-in-Guess.ensures.extends) c.in_ok-bad-in-Guess.ensures.extends

pub returns-in_ok-bad-in-Guess-clause-visit : goal.returns-in_ok-bad-in-Guess-clause-visit
returns-in_ok-bad-in-Guess-clause-visit c = λ d.
    forks c.args.reach.now (outcomes_of_table c.args.table.now) c.args.claims.now c.args.nodes.now.items c.settle.new.nodes.items c.child.new.nodes.items
    c.child-in-Guess.new.nodes.items c.args.start c.in-Guess.index c.in_ok-good-in-Guess.good c.in_ok-bad-in-Guess.bad c.in-Guess.place d
    c.in_ok-settle.field-0
    (extends_nodes c.args.reach.now c.args.nodes.now.items c.settle.new.nodes.items c.in_ok-settle.ensures.extends c.requires.nodes)
    c.in_ok-settle.ensures.stops c.in-Guess.is c.in_ok-good-in-Guess.ensures.extends c.in_ok-good-in-Guess.ensures.child
    c.in_ok-bad-in-Guess.ensures.extends c.in_ok-bad-in-Guess.ensures.child
