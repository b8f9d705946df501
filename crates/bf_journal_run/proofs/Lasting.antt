-- What a crash may leave keeps what is known.
use Rattle.std.proofs.Common.{◌≡◌, ⊎_elim, inl, inr, ℕ, ◌≤◌, Bool, List, length, Option, Some, None, IfSome, is_some, sym, subst, ◌∙◌}
use Rattle.bf_commands.specs.Journal.{Continues, IsKeptIn, KeepsAll, KeepsOnly, MayBePut}
use Rattle.bf_farm.specs.Reports.{TableIn}
use Rattle.bf_journal.specs.Disk.{LeavesOnly, Only}
use Rattle.bf_journal.specs.declared.disk.Disk.{Ghosts}
use Rattle.bf_journal.specs.Journal.{Keeping, FitsBytes, StandsFor}
use Rattle.bf_oid.specs.declared.object.Oid.{Oid}
use Rattle.bf_output.specs.Shown.{TesterShown}
use Rattle.bf_search.specs.declared.outcomes.Outcome.{Outcome}
use Rattle.bf_search.specs.Outcomes.{outcomes_of_table}
use Rattle.bf_state.specs.Runs.{IsPartOf}
use Rattle.bf_journal_run.specs.Kept.{AreLasting, IsSameRun, IsToKeep, KeepsSince, Lasts, LeavesOn}
use Rattle.bf_journal_run.specs.Legs.{IsKeptOn}
use Rattle.bf_journal_run.proofs.Keeping.{answered_put, continues_over, keep_more, leaves_then, on_within, part_more, same_reads, since_only, since_part}

-- more keeps what is known, too
more_keeps : (is_lenient : Bool) (kept more known : List (Option Outcome)) → IsPartOf (outcomes_of_table kept) (outcomes_of_table more)
    → KeepsAll is_lenient kept known → KeepsAll is_lenient more known
more_keeps is_lenient kept more known part all = λ p outcome is other.
    let (found, at, kept_as) = all p outcome is other in
    (found, subst (λ (o : Option Outcome). IfSome o (λ x. outcomes_of_table more p ≡ Some x)) at (part p), kept_as)

only_within : (May More : ℕ → Outcome → Type 0) (found kept : List (Option Outcome)) → ((p : ℕ) (x : Outcome) → May p x → More p x) → KeepsOnly May found kept
    → KeepsOnly More found kept
only_within May More found kept within only = λ p x e. ⊎_elim (λ was. inl was) (λ new. inr (within p x new)) (only p x e)

module _ {J : Type 0} (by : Ghosts J) where
  -- one leg after others
  pub since_then : (old mid new : J) (first journal : Keeping) (found : List (Option Outcome)) (May More : ℕ → Outcome → Type 0)
      → is_some (by.told mid) ≡ is_some (by.told old) → IsSameRun first journal → ((p : ℕ) (x : Outcome) → May p x → More p x)
      → IsPartOf (outcomes_of_table found) (outcomes_of_table journal.kept) → KeepsOnly May found journal.kept
      → LeavesOn by old mid first found May → LeavesOn by mid new journal journal.kept More → LeavesOn by old new first found More
  since_then old mid new first journal found May More same run within part only so_far leg =
      leaves_then by (by.told old) (by.told mid) old mid new (Continues first.identity (length first.kept) More found)
      (Continues journal.identity (length journal.kept) More journal.kept) same (on_within by old mid first found May More within so_far) leg
      (λ image on. continues_over first journal found More image run part (only_within May More found journal.kept within only) on)

  module _ (first journal : Keeping) (names : List Oid) (tested : TesterShown) (found table : List (Option Outcome)) (run : IsSameRun first journal)
      (since : KeepsSince found table journal.kept) (all : KeepsAll tested.is_lenient journal.kept table) (answered : TableIn names tested.answers table) where
    abbrev MayPut : ℕ → Outcome → Type 0
    MayPut p x = MayBePut names tested.answers p x

    may_be_put : (p : ℕ) (x : Outcome) → IsToKeep table p x → MayPut p x
    may_be_put = answered_put names tested.answers table answered

    only_put : KeepsOnly MayPut found journal.kept
    only_put = only_within (IsToKeep table) MayPut found journal.kept may_be_put (since_only found table journal.kept since)

    kept_image : (image : List ℕ) → StandsFor journal image
        → IsKeptIn first.identity (length first.kept) (MayBePut names tested.answers) tested.is_lenient found table image
    kept_image image stands = record {
      on = record {
        kept = journal.kept;
        reads = same_reads first journal image journal.kept run stands;
        opened = since_part found table journal.kept since;
        only = only_put;
      };
      known = all;
    }

    cut_image : (image : List ℕ) → Continues journal.identity (length journal.kept) MayPut journal.kept image
        → IsKeptIn first.identity (length first.kept) (MayBePut names tested.answers) tested.is_lenient found table image
    cut_image image on = record {
      on = record {
        kept = on.kept;
        reads = same_reads first journal image on.kept run on.reads;
        opened = part_more (outcomes_of_table found) (outcomes_of_table journal.kept) (outcomes_of_table on.kept) (since_part found table journal.kept since) on.opened;
        only = λ p x e. ⊎_elim (λ was. only_put p x was) (λ new. inr new) (on.only p x e);
      };
      known = more_keeps tested.is_lenient journal.kept on.kept table on.opened all;
    }

    -- the disk fits the journal
    pub lasts_at : (old new : J) → is_some (by.told new) ≡ is_some (by.told old) → LeavesOn by old new first found (IsToKeep table)
        → IfSome (by.told new) (λ bytes. Only bytes (by.may_leave new)) → IfSome (by.told new) (FitsBytes journal)
        → AreLasting by old new first names tested found table
    lasts_at old new same so_far settled fits =
        at (by.told old) (by.told new) same
        (on_within by old new first found (IsToKeep table) MayPut may_be_put so_far) settled fits
      where
        at : (told now : Option (List ℕ)) → is_some now ≡ is_some told
            → IfSome told (λ _. LeavesOnly by.moment by.left_since old new (Continues first.identity (length first.kept) MayPut found))
            → IfSome now (λ bytes. Only bytes (by.may_leave new)) → IfSome now (FitsBytes journal)
            → IfSome told (λ _. Lasts by old new first names tested found table)
        at None now same ever settled fits = tt
        at (Some bytes) None same ever settled fits = cc same
        at (Some bytes) (Some now) same ever settled fits = record {
          now = λ image may. kept_image image (subst (StandsFor journal) (sym (settled image may)) fits.stands);
          ever = ever;
        }

    -- the last leg was cut short
    pub lasts_cut : (old mid new : J) → ((disk : J) (t : ℕ) (image : List ℕ) → t ≤ by.moment disk → by.may_leave disk image → by.left_since disk t image)
        → is_some (by.told mid) ≡ is_some (by.told old) → LeavesOn by old mid first found (IsToKeep table)
        → LeavesOn by mid new journal journal.kept (MayBePut names tested.answers) → AreLasting by old new first names tested found table
    lasts_cut old mid new counts same so_far leg =
        at (by.told old) (by.told mid) same
        (since_then old mid new first journal found (IsToKeep table) MayPut same run may_be_put
        (since_part found table journal.kept since) (since_only found table journal.kept since) so_far leg) leg
      where
        at : (told then_told : Option (List ℕ)) → is_some then_told ≡ is_some told
            → IfSome told (λ _. LeavesOnly by.moment by.left_since old new (Continues first.identity (length first.kept) MayPut found))
            → IfSome then_told (λ _. LeavesOnly by.moment by.left_since mid new (Continues journal.identity (length journal.kept) MayPut journal.kept))
            → IfSome told (λ _. Lasts by old new first names tested found table)
        at None then_told same ever leg = tt
        at (Some bytes) None same ever leg = cc same
        at (Some bytes) (Some then_bytes) same ever leg = record {
          now = λ image may. cut_image image (leg.each image (counts new (by.moment mid) image leg.later may));
          ever = ever;
        }

  -- a leg more, of which all is kept
  pub leg_since : (old mid new : J) (first journal : Keeping) (found table more : List (Option Outcome)) → is_some (by.told mid) ≡ is_some (by.told old)
      → IsSameRun first journal → KeepsSince found table journal.kept → IsPartOf (outcomes_of_table table) (outcomes_of_table more)
      → LeavesOn by old mid first found (IsToKeep table) → LeavesOn by mid new journal journal.kept (IsToKeep more)
      → LeavesOn by old new first found (IsToKeep more)
  leg_since old mid new first journal found table more same run since grows so_far leg =
      since_then old mid new first journal found (IsToKeep table) (IsToKeep more) same run (keep_more table more grows)
      (since_part found table journal.kept since) (since_only found table journal.kept since) so_far leg

  -- and the disk fits the journal then
  pub kept_leg : (old mid new : J) (first journal after : Keeping) (names : List Oid) (tested : TesterShown) (found table more : List (Option Outcome))
      → is_some (by.told mid) ≡ is_some (by.told old) → is_some (by.told new) ≡ is_some (by.told mid) → IsSameRun first journal → IsSameRun journal after
      → KeepsSince found table journal.kept → LeavesOn by old mid first found (IsToKeep table) → TableIn names tested.answers more
      → IsKeptOn (LeavesOn by mid new journal journal.kept) tested.is_lenient found after.kept table more
      → IfSome (by.told new) (λ bytes. Only bytes (by.may_leave new)) → IfSome (by.told new) (FitsBytes after)
      → AreLasting by old new first names tested found more
  kept_leg old mid new first journal after names tested found table more same told run again since so_far answered on settled fits =
      lasts_at first after names tested found more (again.0 ∙ run.0, again.1 ∙ run.1) on.since on.all answered old new (told ∙ same)
      (leg_since old mid new first journal found table more same run since on.grows so_far on.leaves) settled fits
