-- Items one after the other: a reader that has taken some of them goes on with the reading of all.
use Rattle.std.proofs.Common.{◌≡◌, ℕ, ◌≤◌, List, [], ◌∷◌, ◌++◌, Option, Some, None, Result, Ok, Err, refl, sym, ◌∙◌, ap, subst, codes, ◌⊎◌, arith}
use Rattle.bf_grammar.specs.declared.fault.Limits.{Limits}
use Rattle.bf_grammar.specs.declared.fault.StreamFault.{StreamFault}
use Rattle.bf_grammar.specs.declared.fault.StreamFault.TheVariants.{Read}
use Rattle.bf_grammar.specs.Place.{Place, Reading, and_then, ◌>>=◌, goes_on, repeat, Gives}
use Rattle.bf_grammar.specs.Commands.{target_at, change_at, merges_at, changes_at, one_more, all_of}
use Rattle.bf_grammar.proofs.Composing.{fails_alike}
use Rattle.bf_grammar.proofs.Repeating.{TakesSome, repeat-is}
use Rattle.bf_stream.specs.declared.cursor.Cursor.{Cursor}
use Rattle.bf_stream.specs.Cursor.{Reads, beyond_at, place_at, faults_at, limits_of, left_to_read}

abbrev pub step_of : {X : Type 0} → Reading (Option X) → List X → Reading (List X ⊎ List X)
step_of item items = item >>= one_more items

-- reading from here on with the items so far is reading from the start on
abbrev pub Resumes : {X : Type 0} → Reading (Option X) → Option Place → Option Place → List X → Type 0
Resumes item None now items = now ≡ None
Resumes item (Some p) now items = (q : Place) × (now ≡ Some q) × (repeat (step_of item) [] p ≡ repeat (step_of item) items q)

pub resumes_here : {X : Type 0} (item : Reading (Option X)) (place : Option Place) (items : List X) → items ≡ [] → Resumes item place place items
resumes_here item None items none = refl
resumes_here item (Some p) items none = (p, refl, ap (λ (i : List _). repeat (step_of item) i p) (sym none))

module _ {X : Type 0} (item : Reading (Option X)) (takes : TakesSome (step_of item)) where
  -- one step of the repetition, by what its item gave
  unfolds : (items : List X) (q : Place) (gave : Result (Option X × Place) StreamFault) → item q ≡ gave
      → repeat (step_of item) items q ≡ goes_on (repeat (step_of item)) (and_then gave (one_more items))
  unfolds items q gave is = repeat-is (step_of item) takes items q ∙ ap
      (λ (s : Result (Option X × Place) StreamFault). goes_on (repeat (step_of item)) (and_then s (one_more items))) is

  resumes_with : (start now next : Option Place) (items : List X) (x : X) → Resumes item start now items → Gives (λ x. x) now next (Ok (Some x)) item
      → Resumes item start next (items ++ x ∷ [])
  resumes_with None now next items x here gives = subst (λ (n : Option Place). Gives (λ x. x) n next (Ok (Some x)) item) here gives
  resumes_with (Some p) now next items x (q, here, same) gives = go (subst (λ (n : Option Place). Gives (λ x. x) n next (Ok (Some x)) item) here gives)
    where
      go : (r : Place) × (item q ≡ Ok (Some x, r)) × (next ≡ Some r) → Resumes item (Some p) next (items ++ x ∷ [])
      go (r, reads, goes) = (r, goes, same ∙ unfolds items q (Ok (Some x, r)) reads)

  -- one more item
  pub resumes_on : (start now next : Option Place) (items more : List X) (found : Option X) (x : X) → found ≡ Some x → more ≡ items ++ x ∷ []
      → Resumes item start now items → Gives (λ x. x) now next (Ok found) item → Resumes item start next more
  resumes_on start now next items more found x is longer here gives =
      subst (λ (m : List X). Resumes item start next m) (sym longer)
      (resumes_with start now next items x here (subst (λ (f : Option X). Gives (λ x. x) now next (Ok f) item) is gives))

  ends_with : (start now next : Option Place) (items : List X) → Resumes item start now items → Gives (λ x. x) now next (Ok None) item
      → Gives (λ x. x) start next (Ok items) (all_of item)
  ends_with None now next items here gives = subst (λ (n : Option Place). Gives (λ x. x) n next (Ok None) item) here gives
  ends_with (Some p) now next items (q, here, same) gives = go (subst (λ (n : Option Place). Gives (λ x. x) n next (Ok None) item) here gives)
    where
      go : (r : Place) × (item q ≡ Ok (None, r)) × (next ≡ Some r) → (r : Place) × (all_of item p ≡ Ok (items, r)) × (next ≡ Some r)
      go (r, reads, goes) = (r, same ∙ unfolds items q (Ok (None, r)) reads, goes)

  -- no more item
  pub resumes_end : (start now next : Option Place) (items : List X) (found : Option X) (read : Reading (List X)) → read ≡ all_of item → found ≡ None
      → Resumes item start now items → Gives (λ x. x) now next (Ok found) item → Gives (λ x. x) start next (Ok items) read
  resumes_end start now next items found read all is here gives =
      subst (λ (r : Reading (List X)). Gives (λ x. x) start next (Ok items) r) (sym all)
      (ends_with start now next items here (subst (λ (f : Option X). Gives (λ x. x) now next (Ok f) item) is gives))

  stops_with : (start now next : Option Place) (items : List X) (fault : StreamFault) → Resumes item start now items → Gives (λ x. x) now next (Err fault) item
      → Gives (λ x. x) start next (Err fault) (all_of item)
  stops_with None now next items fault here gives = tt
  stops_with (Some p) now next items fault (q, here, same) gives =
      fails_alike fault (item q) (all_of item p) (λ is. same ∙ unfolds items q (Err fault) is)
      (subst (λ (n : Option Place). Gives (λ x. x) n next (Err fault) item) here gives)

  -- an item that is refused
  pub resumes_stopped : (start now next : Option Place) (items : List X) (fault : StreamFault) (read : Reading (List X)) → read ≡ all_of item
      → Resumes item start now items → Gives (λ x. x) now next (Err fault) item → Gives (λ x. x) start next (Err fault) read
  resumes_stopped start now next items fault read all here gives =
      subst (λ (r : Reading (List X)). Gives (λ x. x) start next (Err fault) r) (sym all) (stops_with start now next items fault here gives)

-- between two states of a cursor these items were read, one after the other
pub record Collects {S X : Type 0} (left : S → Option (List ℕ)) (faults : S → ℕ) (start now : Cursor S) (item : Limits → Reading (Option X)) (items : List X) :
    Type 0 where
  pub taken : Resumes (item (limits_of start)) (place_at left start) (place_at left now) items
  pub turns : left_to_read now ≤ left_to_read start
  pub later : faults_at faults start ≤ faults_at faults now
  pub limits : limits_of now ≡ limits_of start
  pub source : now.source.ghost_name ≡ start.source.ghost_name
  pub beyond : beyond_at left now ≡ beyond_at left start

-- no item yet
pub collects_none : {S X : Type 0} (left : S → Option (List ℕ)) (faults : S → ℕ) (start : Cursor S) (item : Limits → Reading (Option X)) (items : List X)
    → items ≡ [] → Collects left faults start start item items
collects_none left faults start item items none = record {
  taken = resumes_here (item (limits_of start)) (place_at left start) items none;
  turns = omega arith;
  later = omega arith;
  limits = refl;
  source = refl;
  beyond = refl;
}

module _ {S X : Type 0} {left : S → Option (List ℕ)} {faults : S → ℕ} {start now next : Cursor S} (item : Limits → Reading (Option X))
    (takes : (limits : Limits) → TakesSome (step_of (item limits))) (items : List X) where
  -- what the reading of an item gave, with the limits of the start
  gives_at_start : (result : Result (Option X) StreamFault) → Collects left faults start now item items → Reads left faults now next result item
      → Gives (λ x. x) (place_at left now) (place_at left next) result (item (limits_of start))
  gives_at_start result so_far reads = subst (λ (limits : Limits). Gives (λ x. x) (place_at left now) (place_at left next) result (item limits)) so_far.limits
      reads.gives

  -- one more item
  pub collects_more : (more : List X) (found : Option X) (x : X) → found ≡ Some x → more ≡ items ++ x ∷ [] → Collects left faults start now item items
      → Reads left faults now next (Ok found) item
      → Collects left faults start next item more
  collects_more more found x is longer so_far reads = record {
    taken = resumes_on (item (limits_of start)) (takes (limits_of start)) (place_at left start) (place_at left now) (place_at left next) items more found x is
        longer so_far.taken
        (gives_at_start (Ok found) so_far reads);
    turns = omega (arith, so_far.turns, reads.turns);
    later = omega (arith, so_far.later, reads.cause.later);
    limits = reads.limits ∙ so_far.limits;
    source = reads.source ∙ so_far.source;
    beyond = reads.beyond ∙ so_far.beyond;
  }

  module _ (read : Limits → Reading (List X)) (all : (limits : Limits) → read limits ≡ all_of (item limits)) where
    -- no more item
    pub collects_all : (found : Option X) → found ≡ None → Collects left faults start now item items → Reads left faults now next (Ok found) item
        → Reads left faults start next (Ok items) read
    collects_all found is so_far reads = record {
      gives = resumes_end (item (limits_of start)) (takes (limits_of start)) (place_at left start) (place_at left now) (place_at left next) items found
          (read (limits_of start)) (all (limits_of start)) is so_far.taken
          (gives_at_start (Ok found) so_far reads);
      turns = omega (arith, so_far.turns, reads.turns);
      cause = record { later = omega (arith, so_far.later, reads.cause.later); failed = λ is. absurd (cc) };
      limits = reads.limits ∙ so_far.limits;
      source = reads.source ∙ so_far.source;
      beyond = reads.beyond ∙ so_far.beyond;
    }

    -- an item that is refused
    pub collects_stopped : (fault : StreamFault) → Collects left faults start now item items → Reads left faults now next (Err fault) item
        → Reads left faults start next (Err fault) read
    collects_stopped fault so_far reads = record {
      gives = resumes_stopped (item (limits_of start)) (takes (limits_of start)) (place_at left start) (place_at left now) (place_at left next) items fault
          (read (limits_of start)) (all (limits_of start)) so_far.taken
          (gives_at_start (Err fault) so_far reads);
      turns = omega (arith, so_far.turns, reads.turns);
      cause = record {
        later = omega (arith, so_far.later, reads.cause.later);
        failed = λ is. omega (arith, so_far.later, reads.cause.failed (let same : fault ≡ Read = cc in ap (λ f. Err f) same));
      };
      limits = reads.limits ∙ so_far.limits;
      source = reads.source ∙ so_far.source;
      beyond = reads.beyond ∙ so_far.beyond;
    }

pub all_merges : (limits : Limits) → merges_at limits ≡ all_of (target_at limits (codes "merge"))
unfolding merges_at
all_merges limits = refl

pub all_changes : (limits : Limits) → changes_at limits ≡ all_of (change_at limits)
unfolding changes_at
all_changes limits = refl
