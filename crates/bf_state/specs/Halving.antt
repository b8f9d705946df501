-- Searches among candidates that stand in one line.
use Rattle.std.specs.Prelude.{◌≡◌, ◌⊎◌, ℕ, true, false, List}
use Rattle.bf_search.specs.declared.outcomes.Mark.TheVariants.{Good, Bad}
use Rattle.bf_search.specs.declared.outcomes.Outcome.{Outcome}
use Rattle.bf_search.specs.declared.outcomes.Verdict.TheVariants.{Mark as MarkOf}
use Rattle.bf_search.specs.Candidates.{is_in}
use Rattle.bf_search.specs.Guesses.{is_candidate_of}
use Rattle.bf_search.specs.Outcomes.{verdict_of}
use Rattle.bf_search.specs.Reach.{in_mode, Reaches}
use Rattle.bf_search.specs.State.{Search}

-- of each two candidates one reaches the other in the mode
abbrev pub IsLine : List (List ℕ) → Search → Type 0
IsLine graph s = (p q : ℕ) → is_candidate_of graph s p ≡ true → is_candidate_of graph s q ≡ true
    → Reaches (in_mode graph s.first_parent) p q ⊎ Reaches (in_mode graph s.first_parent) q p

-- no place is skipped
abbrev pub NoneSkipped : Search → Type 0
NoneSkipped s = (p : ℕ) → is_in s.skips p ≡ false

-- the verdict is good or bad
abbrev pub IsGoodOrBad : Outcome → Type 0
IsGoodOrBad outcome = (verdict_of outcome ≡ MarkOf Good) ⊎ (verdict_of outcome ≡ MarkOf Bad)
