-- What a journal keeps from leg to leg.
use Rattle.std.proofs.Common.{◌≡◌, ◌≢◌, ◌⊎◌, inl, inr, ℕ, Bool, true, false, if◌then◌else◌, List, length, Option, Some, None, IfSome, refl, sym, ap, ◌∙◌, option_map}
use Rattle.std.proofs.lemmas.List.Elements.{All-contains}
use Rattle.bf_commands.specs.Journal.{KeepsAll}
use Rattle.bf_farm.specs.Reports.{TableIn}
use Rattle.bf_oid.specs.declared.object.Oid.{Oid}
use Rattle.bf_journal.specs.Recalling.{IsAsRemembered, KeepsRemembered}
use Rattle.bf_journal.specs.Remembered.{outcome_at}
use Rattle.bf_search.specs.declared.outcomes.Outcome.{Outcome}
use Rattle.bf_search.specs.declared.outcomes.Verdict.{Verdict}
use Rattle.bf_search.specs.declared.outcomes.Verdict.TheVariants.{Mark, Abort}
use Rattle.bf_search.specs.Outcomes.{outcomes_of_table, verdict_of}
use Rattle.bf_state.specs.Runs.{IsPartOf}
use Rattle.bf_tester.specs.declared.answer.Answer.{Answer}
use Rattle.bf_tester.specs.Plans.{read_as}
use Rattle.bf_journal_run.specs.Kept.{KeepsSince, answers_of, kept_of, marks, to_keep}
use Rattle.bf_journal_run.proofs.Kept.{outcome_of}

-- ---- one leg more

-- what is kept of an outcome, and then of the same one once more
kept_twice : (b : Bool) (outcome : Outcome) (more : Option Outcome) → to_keep more ≡ (if b then Some outcome else None)
    → kept_of (if b then Some outcome else None) more ≡ to_keep more
kept_twice true outcome more is = sym is
kept_twice false outcome more is = refl

since_place : (opened before more kept new : Option Outcome) → kept ≡ kept_of opened before → IfSome before (λ x. more ≡ Some x)
    → new ≡ kept_of kept more → new ≡ kept_of opened more
since_place (Some old) before more kept new is part now = now ∙ ap (λ (k : Option Outcome). kept_of k more) is
since_place None None more kept new is part now = now ∙ ap (λ (k : Option Outcome). kept_of k more) is
since_place None (Some x) more kept new is part now =
    now ∙ ap (λ (k : Option Outcome). kept_of k more) is ∙ kept_twice (marks (verdict_of x)) x more (ap to_keep part)

pub since_more : (opened before more kept new : List (Option Outcome)) → KeepsSince opened before kept
    → IsPartOf (outcomes_of_table before) (outcomes_of_table more) → KeepsSince kept more new → KeepsSince opened more new
since_more opened before more kept new since part now = λ p.
    since_place (outcomes_of_table opened p) (outcomes_of_table before p) (outcomes_of_table more p) (outcomes_of_table kept p) (outcomes_of_table new p)
    (since p) (part p) (now p)

-- ---- all that is known is kept

-- an outcome that marks its commit is kept
marked : (outcome : Outcome) (v : Verdict) → verdict_of outcome ≡ v → verdict_of outcome ≢ Abort → to_keep (Some outcome) ≡ Some outcome
marked outcome (Mark m) is other = ap (λ (w : Verdict). if marks w then Some outcome else None) is
marked outcome Abort is other = absurd (other is)

-- the answer on a place that is remembered is the remembered one, as it is read
as_remembered : (is_lenient : Bool) (names : List Oid) (remembered answers inner : List Answer) (opened table : List (Option Outcome)) (p : ℕ)
    (outcome old : Outcome)
    → remembered ≡ answers_of names opened → length names ≡ length opened → KeepsRemembered is_lenient remembered answers inner
    → TableIn names answers table → outcomes_of_table table p ≡ Some outcome → outcomes_of_table opened p ≡ Some old
    → read_as is_lenient old ≡ outcome
as_remembered is_lenient names remembered answers inner opened table p outcome old remembers long keeps known is was =
    let given = known p outcome is in
    let at : outcome_at remembered p ≡ Some old =
    ap (λ (r : List Answer). outcome_at r p) remembers ∙ outcome_of names opened p long ∙ was in
    sym (All-contains (IsAsRemembered is_lenient remembered) answers _ keeps.as_remembered given.given (read_as is_lenient old)
    (ap (option_map (read_as is_lenient)) at))

pub keeps_all : (is_lenient : Bool) (names : List Oid) (remembered answers inner : List Answer) (opened table kept : List (Option Outcome))
    → remembered ≡ answers_of names opened → length names ≡ length opened → KeepsRemembered is_lenient remembered answers inner
    → TableIn names answers table → KeepsSince opened table kept → KeepsAll is_lenient kept table
keeps_all is_lenient names remembered answers inner opened table kept remembers long keeps known since = λ p outcome is other.
    by p outcome is other (outcomes_of_table opened p) refl
  where
    by : (p : ℕ) (outcome : Outcome) → outcomes_of_table table p ≡ Some outcome → verdict_of outcome ≢ Abort
        → (o : Option Outcome) → outcomes_of_table opened p ≡ o
        → (found : Outcome) × (outcomes_of_table kept p ≡ Some found) × ((found ≡ outcome) ⊎ (read_as is_lenient found ≡ outcome))
    by p outcome is other None was = (
      outcome,
      since p ∙ ap (λ (o : Option Outcome). kept_of o (outcomes_of_table table p)) was ∙ ap to_keep is ∙ marked outcome (verdict_of outcome) refl other,
      inl refl,
    )
    by p outcome is other (Some old) was = (
      old,
      since p ∙ ap (λ (o : Option Outcome). kept_of o (outcomes_of_table table p)) was,
      inr (as_remembered is_lenient names remembered answers inner opened table p outcome old remembers long keeps known is was),
    )
