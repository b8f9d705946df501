-- The places whose outcomes a run used.
use Rattle.std.specs.Prelude.{◌≡◌, ℕ, true, List, [], ◌∷◌, ◌++◌, map, All, Option, Some, None}
use Rattle.std.specs.List.{slice_get}
use Rattle.std.specs.Option.{is_some, option_copied}
use Rattle.std.specs.Borrow.{Bor}
use Rattle.bf_oid.specs.declared.object.Oid.{Oid}
use Rattle.bf_search.specs.declared.entries.Entry.{Entry}
use Rattle.bf_search.specs.declared.entries.Entry.TheVariants.{Marked}
use Rattle.bf_search.specs.declared.farm.Ending.{Ending}
use Rattle.bf_search.specs.declared.farm.Ending.TheVariants as endings
use Rattle.bf_search.specs.declared.outcomes.Outcome.{Outcome}
use Rattle.bf_search.specs.Outcomes.{outcomes_of_table}
use Rattle.bf_search.specs.Run.{End, Run, Aborted}
use Rattle.bf_tester.specs.declared.answer.Answer.{Answer}

-- the places that were marked, in order
abbrev pub marked_places : List Entry → List ℕ
marked_places [] = []
marked_places (Marked m p ∷ entries) = p ∷ marked_places entries
marked_places (other ∷ entries) = marked_places entries

-- the place whose outcome ended the run
abbrev pub aborting_place : End → List ℕ
aborting_place (Aborted p outcome) = p ∷ []
aborting_place other = []

-- by the ending
abbrev pub ending_place : Option Ending → List ℕ
ending_place None = []
ending_place (Some (endings.Aborted p outcome)) = p ∷ []
ending_place (Some other) = []

-- those that entries and an ending tell, in order
abbrev pub told_places : List Entry → Option (Bor Ending) → List ℕ
told_places entries ending = marked_places entries ++ ending_place (option_copied ending)

-- a table has the outcomes of these places
abbrev pub AreKnown : List (Option Outcome) → List ℕ → Type 0
AreKnown table ps = All (λ p. is_some (outcomes_of_table table p) ≡ true) ps

-- the places whose outcomes a run used, in order
abbrev pub used_places : Run → List ℕ
used_places run = marked_places run.entries ++ aborting_place run.end

-- what a table answers of a place
pub record IsAnswerAt (names : List Oid) (table : List (Option Outcome)) (p : ℕ) (answer : Answer) : Type 0 where
  pub place : answer.place ≡ p
  pub outcome : outcomes_of_table table answer.place ≡ Some answer.outcome
  pub name : slice_get names answer.place ≡ Some answer.name

-- what a table answers of these places, in order
pub record AreAnswersAt (names : List Oid) (table : List (Option Outcome)) (ps : List ℕ) (answers : List Answer) : Type 0 where
  pub places : map (λ a. a.place) answers ≡ ps
  pub outcomes : All (λ a. outcomes_of_table table a.place ≡ Some a.outcome) answers
  pub named : All (λ a. slice_get names a.place ≡ Some a.name) answers

-- so of the places that entries mark
abbrev pub AreMarkedAnswers : List Oid → List (Option Outcome) → List Entry → List Answer → Type 0
AreMarkedAnswers names table entries answers = AreAnswersAt names table (marked_places entries) answers

-- to the answers of some places that of the place that an entry marks was added, where it marks one
abbrev pub AddsMarked : List Oid → List (Option Outcome) → Entry → List Answer → List Answer → Type 0
AddsMarked names table entry old new =
    (ps : List ℕ) → AreAnswersAt names table ps old → AreAnswersAt names table (ps ++ marked_places (entry ∷ [])) new
