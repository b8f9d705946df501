-- Runs over whole plans.
use Rattle.std.proofs.Common.{◌≡◌, ℕ, ◌<◌, false, List, Some, None, refl, sym, ◌∙◌, arith}
use Rattle.bf_graph.specs.Graph.{IsGraph}
use Rattle.bf_search.specs.declared.outcomes.Outcome.{Outcome}
use Rattle.bf_search.specs.Outcomes.{Outcomes}
use Rattle.bf_search.specs.State.{Search, IsSearchOver}
use Rattle.bf_search.specs.Run.{End, Answered, Leg, Open, Aborted, one_at_a_time}
use Rattle.bf_state.specs.Runs.{is_unfinished}
use Rattle.bf_state.proofs.Causes.{leg_ends}
use Rattle.bf_state.proofs.Used.{told, clash}

finished : (e : End) → (e ≡ Leg → ⊥) → ((p : ℕ) → e ≡ Open p → ⊥) → is_unfinished e ≡ false
finished (Answered a) no_leg no_open = refl
finished Leg no_leg no_open = absurd (no_leg refl)
finished (Open p) no_leg no_open = absurd (no_open p refl)
finished (Aborted p outcome) no_leg no_open = refl

pub whole_plan_ends : (graph : List (List ℕ)) (known : Outcomes) (s : Search) → IsGraph graph → IsSearchOver graph s
    → ((p : ℕ) → (outcome : Outcome) × (known p ≡ Some outcome)) → is_unfinished (one_at_a_time graph s known 0).end ≡ false
whole_plan_ends graph known s g over all =
    finished (one_at_a_time graph s known 0).end
    (λ e. let more : 0 < 0 = (leg_ends graph known g s 0 over e).0 in absurd (omega arith))
    (λ p e. clash (sym (all p).1 ∙ (told known graph None s).unknown p e))
