-- What keeping outcomes leaves of a journal and its disk.
use Rattle.std.proofs.Common.{◌≡◌, ◌≢◌, inl, inr, ◌⊎◌, ⊎_elim, ℕ, ◌+◌, ◌<◌, ◌≤◌, Bool, true, false, if◌then◌else◌, List, length, set, Option, Some, None, Ok, IfSome, is_some, refl, sym, ap, ◌∙◌, subst, arith}
use Rattle.std.proofs.lemmas.Bool.{cases_eq, cases_lt}
use Rattle.std.proofs.lemmas.List.{get_or_past, get_or-set_other, get_or-set_same, length-set}
use Rattle.bf_commands.specs.Journal.{Continues, KeepsOnly, MayBePut}
use Rattle.bf_farm.specs.Reports.{TableIn}
use Rattle.bf_journal.specs.Disk.{LeavesOnly, Only}
use Rattle.bf_journal.specs.Image.{table_in}
use Rattle.bf_journal.specs.declared.disk.Disk.{Ghosts}
use Rattle.bf_journal.specs.Journal.{Keeping, with_outcome, FitsBytes, IsBeforeOrAfter, StandsFor}
use Rattle.bf_journal.proofs.Moments.{LeavesOnly-none, LeavesOnly-then, LeavesOnly-within}
use Rattle.bf_search.specs.declared.outcomes.Outcome.{Outcome}
use Rattle.bf_oid.specs.declared.object.Oid.{Oid}
use Rattle.bf_search.specs.declared.outcomes.Verdict.{Verdict}
use Rattle.bf_search.specs.declared.outcomes.Verdict.TheVariants.{Mark, Abort}
use Rattle.bf_search.specs.Outcomes.{Outcomes, outcomes_of_table, verdict_of}
use Rattle.bf_state.specs.Runs.{IsPartOf}
use Rattle.bf_tester.specs.declared.answer.Answer.{Answer}
use Rattle.bf_journal_run.specs.Kept.{IsSameRun, IsToKeep, KeepsOne, KeepsSince, LeavesOn, StandsForOne, kept_of, marks, to_keep}

-- ---- outcomes by place

pub part_itself : (known : Outcomes) → IsPartOf known known
part_itself known = λ p. itself (known p)
  where
    itself : (o : Option Outcome) → IfSome o (λ outcome. o ≡ Some outcome)
    itself None = tt
    itself (Some outcome) = refl

pub part_more : (a b c : Outcomes) → IsPartOf a b → IsPartOf b c → IsPartOf a c
part_more a b c h k = λ p. at p (a p) (h p)
  where
    further : (p : ℕ) (x : Outcome) (o : Option Outcome) → o ≡ Some x → IfSome o (λ y. c p ≡ Some y) → c p ≡ Some x
    further p x None e i = cc
    further p x (Some y) e i = i ∙ e

    at : (p : ℕ) (o : Option Outcome) → IfSome o (λ x. b p ≡ Some x) → IfSome o (λ x. c p ≡ Some x)
    at p None i = tt
    at p (Some x) i = further p x (b p) i (k p)

pub kept_none : (o : Option Outcome) → kept_of o None ≡ o
kept_none None = refl
kept_none (Some x) = refl

-- where this is kept of what was, all that was is kept
kept_part : (o known kept : Option Outcome) → kept ≡ kept_of o known → IfSome o (λ x. kept ≡ Some x)
kept_part None known kept is = tt
kept_part (Some x) known kept is = is

same_part : (o kept : Option Outcome) → kept ≡ o → IfSome o (λ x. kept ≡ Some x)
same_part None kept is = tt
same_part (Some x) kept is = is

-- what is kept was kept before, or is to be kept
kept_only : (o known kept : Option Outcome) (outcome : Outcome) → kept ≡ kept_of o known → kept ≡ Some outcome
    → (o ≡ Some outcome) ⊎ (to_keep known ≡ Some outcome)
kept_only None known kept outcome is e = inr (sym is ∙ e)
kept_only (Some x) known kept outcome is e = inl (sym is ∙ e)

-- an outcome more, where there was none
one_kept : (kept : List (Option Outcome)) (place : ℕ) (outcome : Outcome) (known : Option Outcome) → place < length kept
    → outcomes_of_table kept place ≡ None → to_keep known ≡ Some outcome → KeepsOne kept place known (set kept place (Some outcome))
one_kept kept place outcome known within vacant is = (
  get_or-set_same kept place (Some outcome) None within ∙ sym is ∙ sym (ap (λ (o : Option Outcome). kept_of o known) vacant),
  λ p apart. get_or-set_other kept place p (Some outcome) None apart,
)

-- what is to be kept is known, and does not end the run
marked_if : (outcome x : Outcome) (v : Verdict) → verdict_of outcome ≡ v → (if marks v then Some outcome else None) ≡ Some x
    → (Some outcome ≡ Some x) × (verdict_of outcome ≢ Abort)
marked_if outcome x (Mark m) is e = (e, λ other. cc (sym is ∙ other))
marked_if outcome x Abort is e = cc e

pub known_to_keep : (known : Option Outcome) (x : Outcome) → to_keep known ≡ Some x → (known ≡ Some x) × (verdict_of x ≢ Abort)
known_to_keep None x e = cc e
known_to_keep (Some outcome) x e =
    let (same, mark) = marked_if outcome x (verdict_of outcome) refl e in
    let is : outcome ≡ x = cc same in
    (same, λ other. mark (ap verdict_of is ∙ other))

-- ---- turn by turn

-- the first places are kept, and the others are as they were
pub record IsKeptTo (i : ℕ) (before known kept : List (Option Outcome)) : Type 0 where
  pub done : (p : ℕ) → p < i → outcomes_of_table kept p ≡ kept_of (outcomes_of_table before p) (outcomes_of_table known p)
  pub rest : (p : ℕ) → i ≤ p → outcomes_of_table kept p ≡ outcomes_of_table before p

pub kept_first : (before known : List (Option Outcome)) → IsKeptTo 0 before known before
kept_first before known = record { done = λ p low. absurd (omega (arith, low)); rest = λ p high. refl }

pub kept_to_part : (i : ℕ) (before known kept : List (Option Outcome)) → IsKeptTo i before known kept
    → IsPartOf (outcomes_of_table before) (outcomes_of_table kept)
kept_to_part i before known kept to = λ p. by p (cases_lt p i)
  where
    by : (p : ℕ) → (p < i) ⊎ (i ≤ p) → IfSome (outcomes_of_table before p) (λ x. outcomes_of_table kept p ≡ Some x)
    by p (inl low) = kept_part (outcomes_of_table before p) (outcomes_of_table known p) (outcomes_of_table kept p) (to.done p low)
    by p (inr high) = same_part (outcomes_of_table before p) (outcomes_of_table kept p) (to.rest p high)

kept_to_only : (i : ℕ) (before known kept : List (Option Outcome)) → IsKeptTo i before known kept → KeepsOnly (IsToKeep known) before kept
kept_to_only i before known kept to = λ p outcome e. by p outcome e (cases_lt p i)
  where
    by : (p : ℕ) (outcome : Outcome) → outcomes_of_table kept p ≡ Some outcome → (p < i) ⊎ (i ≤ p)
        → (outcomes_of_table before p ≡ Some outcome) ⊎ IsToKeep known p outcome
    by p outcome e (inl low) =
        kept_only (outcomes_of_table before p) (outcomes_of_table known p) (outcomes_of_table kept p) outcome (to.done p low) e
    by p outcome e (inr high) = inl (sym (to.rest p high) ∙ e)

-- the next one
pub kept_next : (i : ℕ) (before known kept more : List (Option Outcome)) (o : Option Outcome) → o ≡ outcomes_of_table known i
    → KeepsOne kept i o more → IsKeptTo i before known kept → IsKeptTo (i + 1) before known more
kept_next i before known kept more o is one to = record {
  done = λ p low. by p low (cases_lt p i);
  rest = λ p high. one.1 p (λ e. omega (arith, high, e)) ∙ to.rest p (omega (arith, high));
}
  where
    by : (p : ℕ) → p < i + 1 → (p < i) ⊎ (i ≤ p) → outcomes_of_table more p ≡ kept_of (outcomes_of_table before p) (outcomes_of_table known p)
    by p low (inl less) = one.1 p (λ e. omega (arith, less, e)) ∙ to.done p less
    by p low (inr high) =
        let same : i ≡ p = omega (arith, low, high) in
        subst (λ (q : ℕ). outcomes_of_table more q ≡ kept_of (outcomes_of_table before q) (outcomes_of_table known q)) same
        (one.0 ∙ ap (λ (b : Option Outcome). kept_of b o) (to.rest i (omega arith)) ∙ ap (kept_of (outcomes_of_table before i)) is)

-- and so the whole
pub kept_all : (before known kept : List (Option Outcome)) → IsKeptTo (length known) before known kept
    → (p : ℕ) → outcomes_of_table kept p ≡ kept_of (outcomes_of_table before p) (outcomes_of_table known p)
kept_all before known kept to p = by (cases_lt p (length known))
  where
    by : (p < length known) ⊎ (length known ≤ p) → outcomes_of_table kept p ≡ kept_of (outcomes_of_table before p) (outcomes_of_table known p)
    by (inl low) = to.done p low
    by (inr high) =
        to.rest p high
        ∙ sym (ap (kept_of (outcomes_of_table before p)) (get_or_past known p None high) ∙ kept_none (outcomes_of_table before p))

-- and what was found is kept, and beside it only what is to be
pub since_part : (before known kept : List (Option Outcome)) → KeepsSince before known kept → IsPartOf (outcomes_of_table before) (outcomes_of_table kept)
since_part before known kept since = λ p. kept_part (outcomes_of_table before p) (outcomes_of_table known p) (outcomes_of_table kept p) (since p)

pub since_only : (before known kept : List (Option Outcome)) → KeepsSince before known kept → KeepsOnly (IsToKeep known) before kept
since_only before known kept since = λ p outcome e.
    kept_only (outcomes_of_table before p) (outcomes_of_table known p) (outcomes_of_table kept p) outcome (since p) e

-- what is known of a part is known of the whole
pub keep_more : (known table : List (Option Outcome)) → IsPartOf (outcomes_of_table known) (outcomes_of_table table)
    → (p : ℕ) (x : Outcome) → IsToKeep known p x → IsToKeep table p x
keep_more known table part p x is =
    let (so, mark) = known_to_keep (outcomes_of_table known p) x is in
    let too : outcomes_of_table table p ≡ Some x = subst (λ (o : Option Outcome). IfSome o (λ y. outcomes_of_table table p ≡ Some y)) so (part p) in
    ap to_keep (too ∙ sym so) ∙ is

-- what is to be kept of what was answered may be put
pub answered_put : (names : List Oid) (answers : List Answer) (table : List (Option Outcome)) → TableIn names answers table
    → (p : ℕ) (x : Outcome) → IsToKeep table p x → MayBePut names answers p x
answered_put names answers table answered p x is =
    let (so, mark) = known_to_keep (outcomes_of_table table p) x is in
    (answered p x so, mark)

-- ---- what a crash may leave

-- as it reads in the journal of the same run
pub same_reads : (first mid : Keeping) (image : List ℕ) (kept : List (Option Outcome)) → IsSameRun first mid
    → table_in mid.identity (length mid.kept) image ≡ Ok kept → table_in first.identity (length first.kept) image ≡ Ok kept
same_reads first mid image kept (identity, long) reads =
    ap (λ (n : ℕ). table_in first.identity n image) (sym long) ∙ ap (λ i. table_in i (length mid.kept) image) (sym identity) ∙ reads

-- an image that goes on from more, by what may be put
pub continues_over : (first mid : Keeping) (found : List (Option Outcome)) (May : ℕ → Outcome → Type 0) (image : List ℕ) → IsSameRun first mid
    → IsPartOf (outcomes_of_table found) (outcomes_of_table mid.kept) → KeepsOnly May found mid.kept
    → Continues mid.identity (length mid.kept) May mid.kept image → Continues first.identity (length first.kept) May found image
continues_over first mid found May image same part only on = record {
  kept = on.kept;
  reads = same_reads first mid image on.kept same on.reads;
  opened = part_more (outcomes_of_table found) (outcomes_of_table mid.kept) (outcomes_of_table on.kept) part on.opened;
  only = λ p outcome e. ⊎_elim (λ was. only p outcome was) (λ new. inr new) (on.only p outcome e);
}

-- by more that may be put
pub continues_within : (identity : Oid) (len : ℕ) (May More : ℕ → Outcome → Type 0) (found : List (Option Outcome)) (image : List ℕ)
    → ((p : ℕ) (outcome : Outcome) → May p outcome → More p outcome) → Continues identity len May found image → Continues identity len More found image
continues_within identity len May More found image within on = record {
  kept = on.kept;
  reads = on.reads;
  opened = on.opened;
  only = λ p outcome e. ⊎_elim (λ was. inl was) (λ new. inr (within p outcome new)) (on.only p outcome e);
}

-- an image that stands for what a journal keeps
pub continues_kept : (journal : Keeping) (found : List (Option Outcome)) (May : ℕ → Outcome → Type 0) (image : List ℕ)
    → IsPartOf (outcomes_of_table found) (outcomes_of_table journal.kept) → KeepsOnly May found journal.kept → StandsFor journal image
    → Continues journal.identity (length journal.kept) May found image
continues_kept journal found May image part only stands = record { kept = journal.kept; reads = stands; opened = part; only = only }

continues_to : (first : Keeping) (i : ℕ) (known kept : List (Option Outcome)) (image : List ℕ) → table_in first.identity (length first.kept) image ≡ Ok kept
    → IsKeptTo i first.kept known kept → Continues first.identity (length first.kept) (IsToKeep known) first.kept image
continues_to first i known kept image reads to = record {
  kept = kept;
  reads = reads;
  opened = kept_to_part i first.kept known kept to;
  only = kept_to_only i first.kept known kept to;
}

with_one : (journal : Keeping) (place : ℕ) (outcome : Outcome) (known : Option Outcome) (image : List ℕ) → place < length journal.kept
    → outcomes_of_table journal.kept place ≡ None → to_keep known ≡ Some outcome → IsBeforeOrAfter journal place outcome image
    → StandsForOne journal place known image
with_one journal place outcome known image within vacant is (inl stands) = inl stands
with_one journal place outcome known image within vacant is (inr stands) =
    let kept = set journal.kept place (Some outcome) in
    inr (
      kept,
      subst (λ (n : ℕ). table_in journal.identity n image ≡ Ok kept) (length-set journal.kept place (Some outcome)) stands,
      one_kept journal.kept place outcome known within vacant is,
    )

one_more : (first mid : Keeping) (i : ℕ) (known : List (Option Outcome)) (o : Option Outcome) (image : List ℕ) → IsSameRun first mid
    → o ≡ outcomes_of_table known i → IsKeptTo i first.kept known mid.kept → StandsForOne mid i o image
    → Continues first.identity (length first.kept) (IsToKeep known) first.kept image
one_more first mid i known o image same is to (inl stands) =
    continues_to first i known mid.kept image (same_reads first mid image mid.kept same stands) to
one_more first mid i known o image same is to (inr (kept, reads, one)) =
    continues_to first (i + 1) known kept image (same_reads first mid image kept same reads) (kept_next i first.kept known mid.kept kept o is one to)

module _ {J : Type 0} (by : Ghosts J) where
  -- nothing is put
  pub nothing_put : (Is : List ℕ → Type 0) (only_now : (disk : J) (image : List ℕ) → by.left_since disk (by.moment disk) image → by.may_leave disk image)
      (told : Option (List ℕ)) (disk : J) (journal : Keeping) → ((image : List ℕ) → StandsFor journal image → Is image)
      → IfSome told (λ bytes. Only bytes (by.may_leave disk)) → IfSome told (FitsBytes journal)
      → IfSome told (λ _. LeavesOnly by.moment by.left_since disk disk Is)
  nothing_put Is only_now None disk journal stands settled fits = tt
  nothing_put Is only_now (Some bytes) disk journal stands settled fits =
      LeavesOnly-none by.moment by.left_since disk Is
      (λ image left. stands image (subst (StandsFor journal) (sym (settled image (only_now disk image left))) fits.stands))

  -- a run goes on from what was found
  pub nothing_since : (only_now : (disk : J) (image : List ℕ) → by.left_since disk (by.moment disk) image → by.may_leave disk image) (disk : J)
      (journal : Keeping) (found : List (Option Outcome)) (May : ℕ → Outcome → Type 0)
      → IsPartOf (outcomes_of_table found) (outcomes_of_table journal.kept) → KeepsOnly May found journal.kept
      → IfSome (by.told disk) (λ bytes. Only bytes (by.may_leave disk)) → IfSome (by.told disk) (FitsBytes journal)
      → LeavesOn by disk disk journal found May
  nothing_since only_now disk journal found May part only settled fits =
      nothing_put (Continues journal.identity (length journal.kept) May found) only_now (by.told disk) disk journal
      (λ image stands. continues_kept journal found May image part only stands) settled fits

  -- one outcome is put
  pub one_put : (told : Option (List ℕ)) (old new : J) (journal : Keeping) (place : ℕ) (outcome : Outcome) (known : Option Outcome)
      → place < length journal.kept → outcomes_of_table journal.kept place ≡ None → to_keep known ≡ Some outcome
      → IfSome told (λ _. LeavesOnly by.moment by.left_since old new (IsBeforeOrAfter journal place outcome))
      → IfSome told (λ _. LeavesOnly by.moment by.left_since old new (StandsForOne journal place known))
  one_put None old new journal place outcome known within vacant is left = tt
  one_put (Some bytes) old new journal place outcome known within vacant is left =
      LeavesOnly-within by.moment by.left_since old new (IsBeforeOrAfter journal place outcome) (StandsForOne journal place known) left
      (λ image either. with_one journal place outcome known image within vacant is either)

  -- by more that an image may be
  pub leaves_within : (told : Option (List ℕ)) (old new : J) (Is More : List ℕ → Type 0) → ((image : List ℕ) → Is image → More image)
      → IfSome told (λ _. LeavesOnly by.moment by.left_since old new Is) → IfSome told (λ _. LeavesOnly by.moment by.left_since old new More)
  leaves_within None old new Is More within left = tt
  leaves_within (Some bytes) old new Is More within left = LeavesOnly-within by.moment by.left_since old new Is More left within

  pub on_within : (old new : J) (journal : Keeping) (found : List (Option Outcome)) (May More : ℕ → Outcome → Type 0)
      → ((p : ℕ) (outcome : Outcome) → May p outcome → More p outcome) → LeavesOn by old new journal found May → LeavesOn by old new journal found More
  on_within old new journal found May More within left =
      leaves_within (by.told old) old new (Continues journal.identity (length journal.kept) May found) (Continues journal.identity (length journal.kept) More found)
      (λ image on. continues_within journal.identity (length journal.kept) May More found image within on) left

  -- one call after others, where each disk tells its bytes or none does
  pub leaves_then : (told then_told : Option (List ℕ)) (old mid new : J) (Is Then : List ℕ → Type 0) → is_some then_told ≡ is_some told
      → IfSome told (λ _. LeavesOnly by.moment by.left_since old mid Is) → IfSome then_told (λ _. LeavesOnly by.moment by.left_since mid new Then)
      → ((image : List ℕ) → Then image → Is image) → IfSome told (λ _. LeavesOnly by.moment by.left_since old new Is)
  leaves_then None then_told old mid new Is Then same left then_left within = tt
  leaves_then (Some bytes) None old mid new Is Then same left then_left within = cc same
  leaves_then (Some bytes) (Some then_bytes) old mid new Is Then same left then_left within =
      LeavesOnly-then by.moment by.left_since old mid new Is Then left then_left within

  -- one outcome more after others
  pub more_put : (old mid new : J) (first journal : Keeping) (i : ℕ) (known : List (Option Outcome)) (o : Option Outcome)
      → is_some (by.told mid) ≡ is_some (by.told old) → IsSameRun first journal → o ≡ outcomes_of_table known i
      → IsKeptTo i first.kept known journal.kept → LeavesOn by old mid first first.kept (IsToKeep known)
      → IfSome (by.told mid) (λ _. LeavesOnly by.moment by.left_since mid new (StandsForOne journal i o))
      → LeavesOn by old new first first.kept (IsToKeep known)
  more_put old mid new first journal i known o same run is to left then_left =
      leaves_then (by.told old) (by.told mid) old mid new (Continues first.identity (length first.kept) (IsToKeep known) first.kept)
      (StandsForOne journal i o) same left then_left (λ image one. one_more first journal i known o image run is to one)

-- ---- a place of which nothing is kept

pub vacant_place : (kept : Option Outcome) (found : Bool) {o : Option Outcome} → kept ≡ o → found ≡ is_some kept → found ≡ false → o ≡ None
vacant_place None found is some none = sym is
vacant_place (Some x) found is some none = cc (some, none)
