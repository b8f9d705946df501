-- A tester that remembers what a journal kept, and takes its command.
use Rattle.std.proofs.Common.{◌≡◌, ◌⊎◌, ◌||◌, inl, inr, ℕ, List, [], ◌++◌, Option, sym, ap, ◌∙◌, subst}
use Rattle.bf_output.specs.Shown.{TesterShown, IsPrepared, command_of, shown_by}
use Rattle.bf_journal.specs.Recalling.{Recalling, remembering}
use Rattle.bf_search.specs.declared.outcomes.Outcome.{Outcome}
use Rattle.bf_tester.specs.declared.answer.Answer.{Answer as Answered}
use Rattle.bf_tester.specs.declared.tester.Tester.{Ghosts}
use Rattle.bf_tester.specs.Plans.{PreparesTold}
use Rattle.bf_words.specs.declared.request.Request.{Request}
use Rattle.bf_journal_run.proofs.Output.{remembering_once}
use Rattle.bf_journal_run.proofs.Recalled.{recall_by}

-- what it remembers then is what was kept
pub remembered_kept : {T : Type 0} (old mid : Recalling T) (kept : List Answered) → old.remembered ≡ [] → mid ≡ remembering old kept → mid.remembered ≡ kept
remembered_kept old mid kept none is = ap (λ t. t.remembered) is ∙ ap (λ (r : List Answered). r ++ kept) none

-- before it took the command
pub before_prepared : {T : Type 0} (by : Ghosts T) (old mid new : Recalling T) (kept : List Answered) → old.remembered ≡ [] → mid ≡ remembering old kept
    → new.remembered ≡ mid.remembered → shown_by (recall_by by) (remembering old new.remembered) ≡ shown_by (recall_by by) mid
before_prepared by old mid new kept none is same =
    ap (shown_by (recall_by by))
    (remembering_once old new kept none (same ∙ ap (λ t. t.remembered) is) ∙ sym is)

pub used_by : (request : Request) (words : List (List ℕ)) (before mid prepared after : TesterShown) → before ≡ mid
    → prepared.command ≡ command_of request words → prepared.is_lenient ≡ (mid.is_lenient || request.lenient)
    → PreparesTold request.lenient mid.plan prepared.plan → after.plan ≡ prepared.plan → after.command ≡ prepared.command
    → after.is_lenient ≡ prepared.is_lenient → after.is_split ≡ mid.is_split → (after ≡ before) ⊎ IsPrepared request words before after
used_by request words before mid prepared after same command lenient plan plan_kept command_kept lenient_kept split =
    subst (λ (b : TesterShown). (after ≡ b) ⊎ IsPrepared request words b after) (sym same)
    (inr (record {
      command = command_kept ∙ command;
      is_lenient = lenient_kept ∙ lenient;
      plan = subst (λ (p : Option (List Outcome)). PreparesTold request.lenient mid.plan p) (sym plan_kept) plan;
      is_split = split;
    }))

-- for want of memory it took none
pub unused_by : (request : Request) (words : List (List ℕ)) (before mid after : TesterShown) → before ≡ mid → after.plan ≡ mid.plan → after.command ≡ mid.command
    → after.is_lenient ≡ mid.is_lenient → after.answers ≡ mid.answers → after.faults ≡ mid.faults → after.failed ≡ mid.failed
    → after.is_split ≡ mid.is_split → (after ≡ before) ⊎ IsPrepared request words before after
unused_by request words before mid after same plan command lenient answers faults failed split = inl (all ∙ sym same)
  where
    all : after ≡ mid
    all = λ i. record {
      plan = plan i;
      command = command i;
      is_lenient = lenient i;
      answers = answers i;
      faults = faults i;
      failed = failed i;
      is_split = split i;
    }
