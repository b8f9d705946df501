use Rattle.std.proofs.Common.{◌≡◌, ℕ, ◌<◌, List, Bool, cond, get_or, take, length, ap, sym, ◌∙◌, subst, arith}
use Rattle.std.specs.List.{All}
use Rattle.bf_graph.specs.Graph.{parents_of, IsGraph}
use Rattle.bf_search.specs.Reach.{in_mode}
use Rattle.bf_search.proofs.Modes.{IsGraph-in_mode}
use Rattle.bf_choice.specs.Numbering.{number_of, numbers_of, IsNumbered}
use Rattle.bf_choice.proofs.Numbered.{IsNumbered-start, IsNumbered-skip, IsNumbered-more, parents_of-followed, numbers_of-below, number_of-le}
use Rattle.bf_choice.proofs.numbering.candidate_graph.Goals as goal
use Rattle.bf_choice.proofs.numbering.candidate_graph.Goals.{then-get+in_ok-number_parents+in_ok-push, else-get}

pub loop-place-init : goal.loop-place-init
loop-place-init c = subst (λ (small : List (List ℕ)). IsNumbered (in_mode c.args.graph.now c.args.first_parent) c.args.mask.now 0 small)
    (sym c.new-small.ensures) (IsNumbered-start _ _)

-- the parents that the mode follows, as the code has them
followed-is : (graph : List (List ℕ)) (first_parent : Bool) (place : ℕ) (parents followed : List ℕ) → parents ≡ parents_of graph place
    → followed ≡ cond first_parent (take 1 parents) parents → followed ≡ parents_of (in_mode graph first_parent) place
followed-is graph first_parent place parents followed e is = is ∙ ap (λ (ps : List ℕ). cond first_parent (take 1 ps) ps) e ∙ parents_of-followed graph
    first_parent place

followed_earlier : (graph : List (List ℕ)) (first_parent : Bool) (place : ℕ) (followed : List ℕ) → IsGraph graph
    → followed ≡ parents_of (in_mode graph first_parent) place → All (λ parent. parent < place) followed
followed_earlier graph first_parent place followed g e = subst (λ (ps : List ℕ). All (λ parent. parent < place) ps) (sym e)
    ((IsGraph-in_mode graph first_parent g).earlier place)

numbers_within : (row : List Bool) (place : ℕ) (followed numbers : List ℕ) (size : ℕ) → size ≡ number_of row place → numbers ≡ numbers_of row followed
    → All (λ parent. parent < place) followed → All (λ n. n < size) numbers
numbers_within row place followed numbers size e is earlier =
    subst (λ (ns : List ℕ). All (λ n. n < size) ns) (sym is)
    (subst (λ (x : ℕ). All (λ n. n < x) (numbers_of row followed)) (sym e) (numbers_of-below row followed place earlier))

pub number_parents-requires-clause-parents : goal.number_parents-requires-clause-parents
number_parents-requires-clause-parents c k d l =
    let followed = followed-is c.args.graph.now c.args.first_parent c.loop-place.place _ _ c.parents.ensures.parents c.parents_in_mode-followed.ensures in
    let below : get_or c.parents_in_mode-followed.result.now k d < c.loop-place.place = followed_earlier c.args.graph.now c.args.first_parent c.loop-place.place
    _ c.len-place-end.ensures.graph followed k d l in
    omega arith

pub push-requires-clause-earlier : goal.push-requires-clause-earlier
push-requires-clause-earlier c =
    numbers_within c.args.mask.now c.loop-place.place c.parents_in_mode-followed.result.now c.as_slice.result.now (length c.loop-place.small)
    c.loop-place.invariant.size (c.as_slice.ensures.value ∙ c.in_ok-number_parents.ensures)
    (followed_earlier c.args.graph.now c.args.first_parent c.loop-place.place _ c.len-place-end.ensures.graph
    (followed-is c.args.graph.now c.args.first_parent c.loop-place.place _ _ c.parents.ensures.parents c.parents_in_mode-followed.ensures))

pub push-requires-clause-room : goal.push-requires-clause-room
push-requires-clause-room c = omega (arith, number_of-le c.args.mask.now c.loop-place.place, c.loop-place.invariant.size)

pub loop-place-preserved : goal.loop-place-preserved
loop-place-preserved c =
    elim c.if-get.branch [
      | then-get+in_ok-number_parents+in_ok-push w ↦
          rw w.small-is
          (rw w.in_ok-push.ensures.pushed
          (IsNumbered-more (in_mode c.args.graph.now c.args.first_parent) c.args.mask.now c.loop-place.place c.loop-place.small w.as_slice.result.now
          (sym c.get.ensures ∙ w.if-get.true)
          (w.as_slice.ensures.value ∙ w.in_ok-number_parents.ensures
          ∙ ap (numbers_of c.args.mask.now) (followed-is c.args.graph.now c.args.first_parent c.loop-place.place _ _ w.parents.ensures.parents
          w.parents_in_mode-followed.ensures))
          c.loop-place.invariant))
      | else-get w ↦
          rw w.small-is
          (IsNumbered-skip (in_mode c.args.graph.now c.args.first_parent) c.args.mask.now c.loop-place.place c.loop-place.small
          (sym c.get.ensures ∙ w.if-get.false) c.loop-place.invariant)
    ]
