-- An ask over a ranking.
use Rattle.std.proofs.Common.{◌≡◌, ◌≢◌, ℕ, ◌<◌, Bool, cond, List, [], ◌∷◌, length, slice_index_or, Option, Some, None, refl, sym, ap, subst, ◌∙◌, arith}
use Rattle.std.proofs.lemmas.Bool.{ne_eqb}
use Rattle.std.specs.List.{All, Contains}
use Rattle.std.specs.Option.{IfSome}
use Rattle.bf_choice.proofs.Listed.{Contains-filter_range}
use Rattle.bf_choice.specs.Ranking.{IsOther, IsRanking}
use Rattle.bf_choice.proofs.Leading.{inside}
use Rattle.bf_search.specs.declared.asks.Ask.{Ask}
use Rattle.bf_search.specs.declared.asks.Ask.TheVariants.{FirstBad}
use Rattle.bf_search.specs.Candidates.{is_in, places_of}
use Rattle.bf_search.specs.Choice.{best}
use Rattle.bf_search.specs.State.{Search}
use Rattle.bf_state.specs.Ranked.{ask_of_choice, IsRankingOf}
use Rattle.bf_state.specs.Weighed.{mask_of, weights_of}
use Rattle.bf_state.specs.Steps.{ending, ask_listed, ask_over}
use Rattle.bf_state.proofs.Firsts.{only_has}

-- a search does not end among candidates of which one is not the bad place
goes_on : (ps : List ℕ) (bad p : ℕ) → Contains ps p → p ≢ bad → ending ps bad ≡ None
goes_on [] bad p among other = absurd (omega (arith, among.1))
goes_on (q ∷ []) bad p among other = ap (λ (b : Bool). cond b (Some (FirstBad bad)) None) (ne_eqb q bad (λ same. other (sym (only_has q p among) ∙ same)))
goes_on (q ∷ r ∷ ps) bad p among other = refl

pub over_choice : (mask skips : List Bool) (weights : List ℕ) (bad : ℕ) (choice : Option ℕ) → choice ≡ best mask weights bad skips
    → IfSome choice (IsOther mask bad) → ask_of_choice mask bad choice ≡ ask_over mask weights bad skips
over_choice mask skips weights bad None chosen other = ap (λ (o : Option ℕ). ask_listed (ending (places_of mask) bad) (places_of mask) o) chosen
over_choice mask skips weights bad (Some p) chosen other =
    let among : Contains (places_of mask) p = Contains-filter_range (λ q. is_in mask q) 0 (length mask) p (omega arith) (omega (arith, inside mask p other.0))
    other.0 in
    sym (ap (λ (e : Option Ask). ask_listed e (places_of mask) (Some p)) (goes_on (places_of mask) bad p among other.1))
    ∙ ap (λ (o : Option ℕ). ask_listed (ending (places_of mask) bad) (places_of mask) o) chosen

-- each place of a ranking is one of the row
pub ranked_within : (mask : List Bool) (weights ps : List ℕ) (bad n : ℕ) → length mask ≡ n → IsRanking mask weights bad ps → All (λ p. p < n) ps
ranked_within mask weights ps bad n len ranking = λ k d l. omega (arith, inside mask (slice_index_or ps k d) (ranking.each k d l).0, len)

one_place : {p q : ℕ} → Some p ≡ Some q → p ≡ q
one_place e = cc

-- a ranking by the weights of a search is that of the search
pub ranking_of : (graph : List (List ℕ)) (s : Search) (mask : List Bool) (weights : List ℕ) (bad : ℕ) (ps : List ℕ) → s.bad ≡ Some bad → mask ≡ mask_of graph s
    → weights ≡ weights_of graph s
    → IsRanking mask weights bad ps → IsRankingOf graph s ps
ranking_of graph s mask weights bad ps bad_is m w ranking = λ other is.
    let same : bad ≡ other = one_place (sym bad_is ∙ is) in
    subst (λ (b : ℕ). IsRanking (mask_of graph s) (weights_of graph s) b ps) same
    (subst (λ (ws : List ℕ). IsRanking (mask_of graph s) ws bad ps) w (subst (λ (r : List Bool). IsRanking r weights bad ps) m ranking))
