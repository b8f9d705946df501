-- The way to a place: the guess by which a path can go on to it.
use Rattle.std.specs.Prelude.{ℕ, ◌&&◌, if◌then◌else◌, List}
use Rattle.bf_search.specs.declared.outcomes.Mark.{Mark}
use Rattle.bf_search.specs.declared.outcomes.Mark.TheVariants.{Good, Bad}
use Rattle.bf_search.specs.Reach.{reaches}
use Rattle.bf_search.specs.State.{Search}

-- From a search that has asked for q: bad, where q was asked among candidates and reaches x; else good.
abbrev pub way : List (List ℕ) → Search → ℕ → ℕ → Mark
way graph asked q x = if asked.checked && reaches graph q x then Bad else Good
