-- Events that are done again, one after the other.
use Rattle.std.proofs.Common.{◌≡◌, ℕ, ◌+◌, ◌<◌, List, [], ◌∷◌, ◌++◌, length, get_or, take, All, sym, ap, subst, ◌∙◌, append_assoc}
use Rattle.std.proofs.lemmas.List.{take_more}
use Rattle.std.proofs.lemmas.List.Elements.{All-head}
use Rattle.bf_search.specs.declared.farm.Event.{Event}
use Rattle.bf_farm.specs.Boards.{BoardView, Does}
use Rattle.bf_farm.proofs.Parts.{all_left, all_right}

-- the events that were done are noted
pub one_redone : (first old new : BoardView) (es : List Event) (i : ℕ) (d : Event) → i < length es → Does old new (get_or es i d)
    → old.events ≡ first.events ++ take i es → new.events ≡ first.events ++ take (i + 1) es
one_redone first old new es i d within does before =
    does.noted
    ∙ ap (λ (l : List Event). l ++ get_or es i d ∷ []) before
    ∙ append_assoc first.events (take i es) (get_or es i d ∷ [])
    ∙ ap (λ (l : List Event). first.events ++ l) (sym (take_more es i d within))

-- what holds of so many and one more holds of so many, and of this one
pub of_fewer : {X : Type 0} (P : X → Type 0) (xs : List X) (i : ℕ) (d : X) → i < length xs → All P (take (i + 1) xs) → All P (take i xs)
of_fewer P xs i d within h = all_left P (take i xs) (get_or xs i d ∷ []) (subst (λ l. All P l) (take_more xs i d within) h)

pub of_this : {X : Type 0} (P : X → Type 0) (xs : List X) (i : ℕ) (d : X) → i < length xs → All P (take (i + 1) xs) → P (get_or xs i d)
of_this P xs i d within h =
    All-head P (get_or xs i d) [] (all_right P (take i xs) (get_or xs i d ∷ []) (subst (λ l. All P l) (take_more xs i d within) h))
