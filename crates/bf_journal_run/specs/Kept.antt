-- What a journal keeps of a run, leg by leg.
use Rattle.std.specs.Prelude.{◌≡◌, ◌⊎◌, ℕ, ◌+◌, Bool, true, false, if◌then◌else◌, List, [], ◌∷◌, ◌++◌, length, Option, Some, None, IfSome, Ok}
use Rattle.bf_commands.specs.Journal.{Continues, IsKeptIn, MayBePut}
use Rattle.bf_journal.specs.Disk.{LeavesOnly}
use Rattle.bf_journal.specs.Image.{table_in}
use Rattle.bf_journal.specs.Journal.{Keeping, StandsFor}
use Rattle.bf_journal.specs.declared.disk.Disk.{Ghosts}
use Rattle.bf_oid.specs.declared.object.Oid.{Oid}
use Rattle.bf_search.specs.declared.outcomes.Outcome.{Outcome}
use Rattle.bf_search.specs.declared.outcomes.Verdict.{Verdict}
use Rattle.bf_search.specs.declared.outcomes.Verdict.TheVariants.{Mark, Abort}
use Rattle.bf_search.specs.Outcomes.{outcomes_of_table, verdict_of}
use Rattle.bf_output.specs.Shown.{TesterShown}
use Rattle.bf_tester.specs.declared.answer.Answer.{Answer}

-- ---- what the tester is to remember

-- the answer of a place, where its outcome is kept
abbrev pub answer_if : ℕ → Oid → Option Outcome → List Answer
answer_if p name None = []
answer_if p name (Some outcome) = record { place = p; name = name; outcome = outcome } ∷ []

-- those of the places from one on, with the names of the commits
abbrev pub answers_from : ℕ → List Oid → List (Option Outcome) → List Answer
answers_from p (name ∷ names) (o ∷ kept) = answer_if p name o ++ answers_from (p + 1) names kept
answers_from p (name ∷ names) [] = []
answers_from p [] kept = []

-- all of them, by place
abbrev pub answers_of : List Oid → List (Option Outcome) → List Answer
answers_of names kept = answers_from 0 names kept

-- ---- what the journal is to keep

-- whether a verdict marks its commit, and does not end the run
abbrev pub marks : Verdict → Bool
marks (Mark m) = true
marks Abort = false

-- the outcome of a place that is kept of what is known
abbrev pub to_keep : Option Outcome → Option Outcome
to_keep None = None
to_keep (Some outcome) = if marks (verdict_of outcome) then Some outcome else None

-- what is kept of a place: what was, or else what is known
abbrev pub kept_of : Option Outcome → Option Outcome → Option Outcome
kept_of (Some old) known = Some old
kept_of None known = to_keep known

-- each place keeps what it kept before, or else what is known
abbrev pub KeepsSince : List (Option Outcome) → List (Option Outcome) → List (Option Outcome) → Type 0
KeepsSince before known kept =
    (p : ℕ) → outcomes_of_table kept p ≡ kept_of (outcomes_of_table before p) (outcomes_of_table known p)

-- one place alone does
abbrev pub KeepsOne : List (Option Outcome) → ℕ → Option Outcome → List (Option Outcome) → Type 0
KeepsOne before place known kept =
    (outcomes_of_table kept place ≡ kept_of (outcomes_of_table before place) known)
    × ((p : ℕ) → (p ≡ place → ⊥) → outcomes_of_table kept p ≡ outcomes_of_table before p)

-- it is still the journal of that run
abbrev pub IsSameRun : Keeping → Keeping → Type 0
IsSameRun old new = (new.identity ≡ old.identity) × (length new.kept ≡ length old.kept)

-- an outcome of a place that is to be kept, as it is known
abbrev pub IsToKeep : List (Option Outcome) → ℕ → Outcome → Type 0
IsToKeep known p outcome = to_keep (outcomes_of_table known p) ≡ Some outcome

-- an image stands for what a journal keeps, or for that with what is known of one place
abbrev pub StandsForOne : Keeping → ℕ → Option Outcome → List ℕ → Type 0
StandsForOne journal place known image =
    StandsFor journal image
    ⊎ ((kept : List (Option Outcome)) × (table_in journal.identity (length journal.kept) image ≡ Ok kept) × KeepsOne journal.kept place known kept)

-- Where the disk tells its bytes, a crash at any moment from one to another leaves an image that goes on from what was found.
abbrev pub LeavesOn : {J : Type 0} → Ghosts J → J → J → Keeping → List (Option Outcome) → (ℕ → Outcome → Type 0) → Type 0
LeavesOn by old new journal found MayPut =
    IfSome (by.told old) (λ _. LeavesOnly by.moment by.left_since old new (Continues journal.identity (length journal.kept) MayPut found))

-- The same of a run on what its tester answered, and each image that a crash may leave at the end keeps all that is known.
pub record Lasts {J : Type 0} (by : Ghosts J) (old new : J) (journal : Keeping) (names : List Oid) (tested : TesterShown) (found table : List (Option Outcome)) : Type 0 where
  pub now : (image : List ℕ) → by.may_leave new image
      → IsKeptIn journal.identity (length journal.kept) (MayBePut names tested.answers) tested.is_lenient found table image
  pub ever : LeavesOnly by.moment by.left_since old new (Continues journal.identity (length journal.kept) (MayBePut names tested.answers) found)

abbrev pub AreLasting : {J : Type 0} → Ghosts J → J → J → Keeping → List Oid → TesterShown → List (Option Outcome) → List (Option Outcome) → Type 0
AreLasting by old new journal names tested found table = IfSome (by.told old) (λ _. Lasts by old new journal names tested found table)
