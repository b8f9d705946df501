-- What is known of a search with both ends, and of the marks that a run made.
use Rattle.std.specs.Prelude.{◌≡◌, ◌≢◌, ℕ, zero, suc, List, [], ◌∷◌, length, Option, Some, None}
use Rattle.bf_search.specs.declared.entries.Entry.{Entry}
use Rattle.bf_search.specs.declared.entries.Entry.TheVariants.{Marked}
use Rattle.bf_search.specs.declared.outcomes.Mark.{Mark}
use Rattle.bf_search.specs.Outcomes.{Outcomes}
use Rattle.bf_search.specs.Run.{Run, left_after, run}
use Rattle.bf_search.specs.State.{Search}

-- a bad place and a good one are known
pub record HasEnds (s : Search) : Type 0 where
  pub bad : ℕ
  pub bad_is : s.bad ≡ Some bad
  pub some_good : s.goods ≢ []

-- the marks among the entries, in order
abbrev pub marks_of : List Entry → List Mark
marks_of [] = []
marks_of (Marked m p ∷ entries) = m ∷ marks_of entries
marks_of (other ∷ entries) = marks_of entries

-- a leg that is not over, or none
abbrev pub IsUnspent : Option ℕ → Type 0
IsUnspent None = Unit {0}
IsUnspent (Some zero) = ⊥
IsUnspent (Some (suc k)) = Unit {0}

-- the run from where another one ended, to the end of the same leg
abbrev pub run_on : List (List ℕ) → Outcomes → Option ℕ → Run → Run
run_on graph known left first = run graph known (left_after left (length first.used)) first.search
