-- What the outcome of a test says of its commit (git-bisect(1), "Bisect run"), and the outcomes that a plan gives.
use Rattle.std.specs.Prelude.{ℕ, nat_le, ◌||◌, ◌==◌, if◌then◌else◌, List, [], ◌∷◌, Option, Some, None}
use Rattle.std.specs.List.{slice_index_or}
use Rattle.bf_search.specs.declared.outcomes.Outcome.{Outcome}
use Rattle.bf_search.specs.declared.outcomes.Outcome.TheVariants.{Exit, Killed}
use Rattle.bf_search.specs.declared.outcomes.Mark.TheVariants.{Good, Bad, Skip}
use Rattle.bf_search.specs.declared.outcomes.Verdict.{Verdict}
use Rattle.bf_search.specs.declared.outcomes.Verdict.TheVariants.{Mark, Abort}

-- 0 is good, 125 skips, and 1 to 124 are bad. 126 and above abort the run, and so does a signal.
abbrev pub verdict_of : Outcome → Verdict
verdict_of (Exit status) =
    if status == 0 then Mark Good
    else if status == 125 then Mark Skip
    else if nat_le status 124 then Mark Bad
    else Abort
verdict_of Killed = Abort

-- The lenient reading: a command that its shell could not start, status 126 or 127, counts as bad.
abbrev pub lenient : Outcome → Outcome
lenient (Exit status) = if (status == 126) || (status == 127) then Exit 1 else Exit status
lenient Killed = Killed

-- the outcome that a letter of a plan stands for: g, b, s, a, k and n
abbrev pub outcome_of_letter : ℕ → Option Outcome
outcome_of_letter letter =
    if letter == 103 then Some (Exit 0)
    else if letter == 98 then Some (Exit 1)
    else if letter == 115 then Some (Exit 125)
    else if letter == 97 then Some (Exit 128)
    else if letter == 107 then Some Killed
    else if letter == 110 then Some (Exit 127)
    else None

-- a plan gives each place an outcome, and past its end a skip
abbrev pub planned : List Outcome → ℕ → Outcome
planned plan p = slice_index_or plan p (Exit 125)

-- Outcomes by place, where they are known. A plan knows them all.
abbrev pub Outcomes : Type 0
Outcomes = ℕ → Option Outcome

abbrev pub outcomes_of_plan : List Outcome → Outcomes
outcomes_of_plan plan p = Some (planned plan p)

abbrev pub outcomes_of_table : List (Option Outcome) → Outcomes
outcomes_of_table table p = slice_index_or table p None

-- Pairs of a place and its outcome. Of two pairs of one place the first counts.
abbrev pub outcomes_of_pairs : List (ℕ × Outcome) → Outcomes
outcomes_of_pairs [] p = None
outcomes_of_pairs ((q, outcome) ∷ pairs) p = if q == p then Some outcome else outcomes_of_pairs pairs p
