-- The leader among the places that were seen.
use Rattle.std.proofs.Common.{◌≡◌, ◌≢◌, ℕ, ◌+◌, ◌<◌, ◌≤◌, Bool, true, false, not, ◌&&◌, eqb, leb, List, Option, Some, None, length, sym, ap, subst, ◌∙◌, arith}
use Rattle.std.proofs.Common.{⊎_elim, slice_index}
use Rattle.std.proofs.lemmas.Bool.{cases_lt, cases_Bool, true≢false, and_from, and_left, and_right, cond-true, cond-false, leb-true, leb-false, not_from_false}
use Rattle.std.proofs.lemmas.Bool.{not_from_true, ne_eqb, eq-eqb}
use Rattle.std.specs.Option.{option_map}
use Rattle.std.proofs.lemmas.List.{get_or_past}
use Rattle.bf_search.specs.Candidates.{is_in}
use Rattle.bf_search.specs.Choice.{best, count_in, value_of, is_eligible}
use Rattle.bf_choice.specs.declared.choosing.Choice.{Choice}
use Rattle.bf_choice.specs.Leader.{better_of}
use Rattle.bf_choice.proofs.Greatest.{greatest_of_none, greatest_is}

-- the choice is the first of the greatest value among the places below n that pass
pub record Leads (test : ℕ → Bool) (value : ℕ → ℕ) (n : ℕ) (choice : Choice) : Type 0 where
  pub seen : choice.place < n
  pub passes : test choice.place ≡ true
  pub valued : choice.value ≡ value choice.place
  pub most : (q : ℕ) → q < n → test q ≡ true → value q ≤ value choice.place
  pub more_than_before : (q : ℕ) → q < choice.place → test q ≡ true → value q < value choice.place

abbrev pub Leader : (ℕ → Bool) → (ℕ → ℕ) → ℕ → Option Choice → Type 0
Leader test value n None = (q : ℕ) → q < n → test q ≡ false
Leader test value n (Some choice) = Leads test value n choice

pub never : {b : Bool} {P : Type 0} → b ≡ false → b ≡ true → P
never fails passes = absurd (true≢false (sym passes ∙ fails))

pub leader_stays : (test : ℕ → Bool) (value : ℕ → ℕ) (n m : ℕ) (leader : Option Choice) → Leader test value n leader → n ≤ m
    → ((q : ℕ) → n ≤ q → q < m → test q ≡ false) → Leader test value m leader
leader_stays test value n m None none up fails = λ q h. ⊎_elim (λ below. none q below) (λ above. fails q above h) (cases_lt q n)
leader_stays test value n m (Some choice) leads up fails = record {
  seen = omega (arith, leads.seen);
  passes = leads.passes;
  valued = leads.valued;
  most = λ q h e. ⊎_elim (λ below. leads.most q below e) (λ above. never (fails q above h) e) (cases_lt q n);
  more_than_before = leads.more_than_before;
}

pub leader_meets : (test : ℕ → Bool) (value : ℕ → ℕ) (n m : ℕ) (leader : Option Choice) (later : Choice) → Leader test value n leader → later.place ≡ n
    → m ≡ n + 1 → test n ≡ true → later.value ≡ value n
    → Leader test value m (Some (better_of leader later))
leader_meets test value n m None later none here next e valued = record {
  seen = omega arith;
  passes = ap test here ∙ e;
  valued = valued ∙ ap value (sym here);
  most = λ q h yes. ⊎_elim (λ below. never (none q below) yes) (λ above. let same : q ≡ later.place = omega arith in omega (arith, ap value same))
      (cases_lt q n);
  more_than_before = λ q h yes. never (none q (omega arith)) yes;
}
leader_meets test value n m (Some earlier) later leads here next e valued =
    ⊎_elim
    (λ keeps.
    let less : later.value ≤ earlier.value = leb-true later.value earlier.value keeps in
    let stays : Leads test value m earlier = record {
      seen = omega (arith, leads.seen);
      passes = leads.passes;
      valued = leads.valued;
      most = λ q h yes. ⊎_elim (λ below. leads.most q below yes) (λ above. let same : q ≡ n = omega arith in omega (arith, ap value same, leads.valued))
          (cases_lt q n);
      more_than_before = leads.more_than_before;
    } in
    subst (Leads test value m) (sym (cond-true (leb later.value earlier.value) earlier later keeps)) stays)
    (λ takes.
    let more : earlier.value < later.value = leb-false later.value earlier.value takes in
    let leads_now : Leads test value m later = record {
      seen = omega arith;
      passes = ap test here ∙ e;
      valued = valued ∙ ap value (sym here);
      most = λ q h yes. ⊎_elim (λ below. omega (arith, leads.most q below yes, leads.valued, ap value here))
          (λ above. let same : q ≡ later.place = omega arith in omega (arith, ap value same)) (cases_lt q n);
      more_than_before = λ q h yes. omega (arith, leads.most q (omega arith) yes, leads.valued, ap value here);
    } in
    subst (Leads test value m) (sym (cond-false (leb later.value earlier.value) earlier later takes)) leads_now)
    (cases_Bool (leb later.value earlier.value))

-- ---- the places that may be asked

-- a place of a row is within it
pub inside : (row : List Bool) (p : ℕ) → is_in row p ≡ true → p < length row
inside row p h = ⊎_elim (λ within. within) (λ past. never (get_or_past row p false past) h) (cases_lt p (length row))

pub not_candidate : (mask skips : List Bool) (bad p : ℕ) → is_in mask p ≡ false → is_eligible mask bad skips p ≡ false
not_candidate mask skips bad p h = and_left (is_in mask p && not (eqb p bad)) (not (is_in skips p)) (and_left (is_in mask p) (not (eqb p bad)) h)

pub bad_place : (mask skips : List Bool) (bad p : ℕ) → p ≡ bad → is_eligible mask bad skips p ≡ false
bad_place mask skips bad p h = and_left (is_in mask p && not (eqb p bad)) (not (is_in skips p))
    (and_right (is_in mask p) (not (eqb p bad)) (not_from_true (eqb p bad) (eq-eqb p bad h)))

pub skipped_place : (mask skips : List Bool) (bad p : ℕ) → is_in skips p ≡ true → is_eligible mask bad skips p ≡ false
skipped_place mask skips bad p h = and_right (is_in mask p && not (eqb p bad)) (not (is_in skips p)) (not_from_true (is_in skips p) h)

pub may_be_asked : (mask skips : List Bool) (bad p : ℕ) → is_in mask p ≡ true → p ≢ bad → is_in skips p ≡ false → is_eligible mask bad skips p ≡ true
may_be_asked mask skips bad p candidate other kept =
    and_from (is_in mask p && not (eqb p bad)) (not (is_in skips p))
    (and_from (is_in mask p) (not (eqb p bad)) candidate (not_from_false (eqb p bad) (ne_eqb p bad other)))
    (not_from_false (is_in skips p) kept)

-- the value of a place, by the weights
abbrev pub value_at : List Bool → List ℕ → ℕ → ℕ
value_at mask weights p = value_of (count_in mask) (slice_index weights p)

pub leader_is_best : (mask : List Bool) (weights : List ℕ) (bad : ℕ) (skips : List Bool) (leader : Option Choice)
    → Leader (is_eligible mask bad skips) (value_at mask weights) (length mask) leader
    → option_map (λ choice. choice.place) leader ≡ best mask weights bad skips
unfolding best
leader_is_best mask weights bad skips None none = sym (greatest_of_none (is_eligible mask bad skips) (value_at mask weights) (length mask) none)
leader_is_best mask weights bad skips (Some choice) leads =
    sym (greatest_is (is_eligible mask bad skips) (value_at mask weights) (length mask) choice.place leads.seen leads.passes leads.most leads.more_than_before)
