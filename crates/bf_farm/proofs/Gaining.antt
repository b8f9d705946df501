-- What a run gains by the outcome that it waits for: this one, and no other that the first table lacks.
use Rattle.std.proofs.Common.{◌≡◌, ◌≢◌, ℕ, zero, suc, ◌<◌, Bool, true, false, ◌==◌, append_assoc, List, [], ◌∷◌, ◌++◌, length, get_or, set, Option, Some, None}
use Rattle.std.proofs.Common.{refl, sym, ap, ◌∙◌, subst, arith, eqb-true, eq-eqb, ⊎_elim}
use Rattle.std.proofs.lemmas.Bool.{cases_Bool, both_ways, cond-true, cond-false}
use Rattle.std.proofs.lemmas.List.{append-nil, get_or-set_same, map-append}
use Rattle.std.proofs.lemmas.List.Elements.{All-nil, All-cons, All-head, All-tail, All-contains, All-append, All-contains_itself, Contains-append_left}
use Rattle.std.proofs.lemmas.List.Elements.{Contains-append_right, filter-append}
use Rattle.std.specs.List.{All, AllPairs, Contains, filter, slice_get}
use Rattle.std.specs.Option.{IfSome, is_none, is_some}
use Rattle.bf_oid.specs.declared.object.Oid.{Oid}
use Rattle.bf_search.specs.declared.outcomes.Outcome.{Outcome}
use Rattle.bf_search.specs.declared.farm.Event.TheVariants as events
use Rattle.bf_search.specs.Farm.{Setting, Farm, consumed, stands}
use Rattle.bf_search.specs.Outcomes.{Outcomes, outcomes_of_table}
use Rattle.bf_search.specs.Run.{Open, Run, leg_of}
use Rattle.bf_state.specs.Runs.{IsPartOf}
use Rattle.bf_state.proofs.Used.{told, used_differ}
use Rattle.bf_core.specs.Machine.{IsOverGraph}
use Rattle.bf_core.proofs.Standing.{part_put, put_elsewhere}
use Rattle.bf_tester.specs.declared.answer.Answer.{Answer}
use Rattle.bf_tester.specs.Replies.{answer_of}
use Rattle.bf_farm.specs.Answering.{pair_of}
use Rattle.bf_farm.specs.Boards.{BoardView, Does, DoesIf}
use Rattle.bf_farm.specs.Cores.{CoreView, run_of, IsSameStart}
use Rattle.bf_farm.specs.Ends.{IsAsking}
use Rattle.bf_farm.specs.Gains.{lacking_pairs, IsUsedAt, IsGained, GainsMore}
use Rattle.bf_farm.proofs.Asked.{one_stands, none_after_give, none_after_post}
use Rattle.bf_farm.proofs.GoingOn.{run_goes_on}
use Rattle.bf_farm.proofs.History.{done_where}
use Rattle.bf_farm.proofs.Parts.{all_right}

abbrev Pair : Type 0
Pair = ℕ × Outcome

abbrev Differ : Pair → Pair → Type 0
Differ a b = a.0 ≢ b.0

-- ---- lists

pairs_tail : {X : Type 0} (R : X → X → Type 0) (x : X) (xs : List X) → AllPairs R (x ∷ xs) → AllPairs R xs
pairs_tail R x xs h = λ i j d l m. h (suc i) (suc j) d (omega arith) (omega arith)

pairs_head : {X : Type 0} (R : X → X → Type 0) (x : X) (xs : List X) → AllPairs R (x ∷ xs) → All (R x) xs
pairs_head R x xs h = λ k d l. h zero (suc k) d (omega arith) (omega arith)

pairs_right : {X : Type 0} (R : X → X → Type 0) (xs ys : List X) → AllPairs R (xs ++ ys) → AllPairs R ys
pairs_right R [] ys h = h
pairs_right R (x ∷ xs) ys h = pairs_right R xs ys (pairs_tail R x (xs ++ ys) h)

pairs_across : {X : Type 0} (R : X → X → Type 0) (xs ys : List X) → AllPairs R (xs ++ ys) → All (λ x. All (R x) ys) xs
pairs_across R [] ys h = All-nil (λ x. All (R x) ys)
pairs_across R (x ∷ xs) ys h = All-cons (λ x. All (R x) ys) x xs (all_right (R x) xs ys (pairs_head R x (xs ++ ys) h))
    (pairs_across R xs ys (pairs_tail R x (xs ++ ys) h))

filter_none : {X : Type 0} (f : X → Bool) (xs : List X) → All (λ x. f x ≡ false) xs → filter f xs ≡ []
filter_none f [] h = refl
filter_none f (x ∷ xs) h = cond-false (f x) (x ∷ filter f xs) (filter f xs) (All-head (λ x. f x ≡ false) x xs h)
    ∙ filter_none f xs (All-tail (λ x. f x ≡ false) x xs h)

filter_first : {X : Type 0} (f : X → Bool) (x : X) (xs : List X) → f x ≡ true → filter f xs ≡ [] → filter f (x ∷ xs) ≡ x ∷ []
filter_first f x xs h none = cond-true (f x) (x ∷ filter f xs) (filter f xs) h ∙ ap (λ l. x ∷ l) none

-- ---- outcomes

none_of : (o other : Option Outcome) → IfSome o (λ x. other ≡ Some x) → other ≡ None → is_none o ≡ true
none_of None other h e = refl
none_of (Some x) other h e = cc

part_then : (a b c : Outcomes) → IsPartOf a b → IsPartOf b c → IsPartOf a c
part_then a b c h k = λ p. at p (a p) (h p)
  where
    further : (p : ℕ) (x : Outcome) (o : Option Outcome) → o ≡ Some x → IfSome o (λ y. c p ≡ Some y) → c p ≡ Some x
    further p x None e i = cc
    further p x (Some y) e i = i ∙ e

    at : (p : ℕ) (o : Option Outcome) → IfSome o (λ x. b p ≡ Some x) → IfSome o (λ x. c p ≡ Some x)
    at p None i = tt
    at p (Some x) i = further p x (b p) i (k p)

known_is_some : (o : Option Outcome) (x : Outcome) → o ≡ Some x → is_some o ≡ true
known_is_some o x e = ap (λ (y : Option Outcome). is_some y) e

-- ---- one outcome more

module _ (setting : Setting) (first table : List (Option Outcome)) (p : ℕ) (outcome : Outcome) (over : IsOverGraph setting)
    (waits : (consumed setting table).end ≡ Open p) (within : p < length table)
    (part : IsPartOf (outcomes_of_table first) (outcomes_of_table table))
    (learnt : (q : ℕ) → is_some (outcomes_of_table table q) ≡ true → is_none (outcomes_of_table first q) ≡ true → IsUsedAt (consumed setting table).used q)
  where
    abbrev longer : List (Option Outcome)
    longer = set table p (Some outcome)

    abbrev used : List Pair
    used = (consumed setting table).used

    unknown : outcomes_of_table table p ≡ None
    unknown = (told (outcomes_of_table table) setting.graph (leg_of setting.leg) setting.start).unknown p waits

    put : outcomes_of_table longer p ≡ Some outcome
    put = get_or-set_same table p (Some outcome) None within

    goes : (rest : List Pair) × ((consumed setting longer).used ≡ used ++ (p, outcome) ∷ rest)
    goes = run_goes_on (outcomes_of_table table) (outcomes_of_table longer) (part_put table p outcome unknown) p outcome put setting.graph (leg_of setting.leg)
        setting.start waits

    differ : AllPairs Differ (used ++ (p, outcome) ∷ goes.0)
    differ = subst (λ (l : List Pair). AllPairs Differ l) goes.1
        (used_differ setting.graph (outcomes_of_table longer) over.parents (leg_of setting.leg) setting.start over.places)

    known_after : All (λ b. outcomes_of_table longer b.0 ≡ Some b.1) (used ++ (p, outcome) ∷ goes.0)
    known_after = subst (λ (l : List Pair). All (λ b. outcomes_of_table longer b.0 ≡ Some b.1) l) goes.1
        (told (outcomes_of_table longer) setting.graph (leg_of setting.leg) setting.start).used

    -- a pair that is used later was known in the first table
    known_before : (b : Pair) → Contains goes.0 b → is_none (outcomes_of_table first b.0) ≡ false
    known_before b among = ⊎_elim (λ none. absurd (twice none)) (λ e. e) (cases_Bool (is_none (outcomes_of_table first b.0)))
      where
        later : Contains ((p, outcome) ∷ goes.0) b
        later = Contains-append_right ((p, outcome) ∷ []) goes.0 b among

        apart : p ≢ b.0
        apart = All-contains (Differ (p, outcome)) goes.0 b (pairs_head Differ (p, outcome) goes.0 (pairs_right Differ used ((p, outcome) ∷ goes.0) differ))
            among

        some : is_some (outcomes_of_table table b.0) ≡ true
        some = known_is_some (outcomes_of_table table b.0) b.1
            (sym (put_elsewhere table p b.0 outcome (λ e. apart (sym e)))
            ∙ All-contains (λ b. outcomes_of_table longer b.0 ≡ Some b.1) (used ++ (p, outcome) ∷ goes.0) b known_after
            (Contains-append_right used ((p, outcome) ∷ goes.0) b later))

        twice : is_none (outcomes_of_table first b.0) ≡ true → ⊥
        twice none =
            let at : IsUsedAt used b.0 = learnt b.0 some none in
            All-contains (Differ at.pair) ((p, outcome) ∷ goes.0) b
            (All-contains (λ a. All (Differ a) ((p, outcome) ∷ goes.0)) used at.pair (pairs_across Differ used ((p, outcome) ∷ goes.0) differ) at.among) later
            at.place

    abbrev lacks : Pair → Bool
    lacks pair = is_none (outcomes_of_table first pair.0)

    pub one_lacked : lacking_pairs first (consumed setting longer).used ≡ lacking_pairs first used ++ (p, outcome) ∷ []
    one_lacked =
        ap (λ (l : List Pair). lacking_pairs first l) goes.1 ∙ filter-append lacks used ((p, outcome) ∷ goes.0)
        ∙ ap (λ (l : List Pair). lacking_pairs first used ++ l)
        (filter_first lacks (p, outcome) goes.0 (none_of (outcomes_of_table first p) (outcomes_of_table table p) (part p) unknown)
        (filter_none lacks goes.0 (λ k d l. known_before (get_or goes.0 k d) (All-contains_itself goes.0 k d l))))

    pub part_of_more : IsPartOf (outcomes_of_table first) (outcomes_of_table longer)
    part_of_more = part_then (outcomes_of_table first) (outcomes_of_table table) (outcomes_of_table longer) part (part_put table p outcome unknown)

    pub learnt_more : (q : ℕ) → is_some (outcomes_of_table longer q) ≡ true → is_none (outcomes_of_table first q) ≡ true
        → IsUsedAt (consumed setting longer).used q
    learnt_more q known lacked = subst (λ (l : List Pair). IsUsedAt l q) (sym goes.1) (⊎_elim
        (λ same. record {
          pair = (p, outcome);
          among = Contains-append_right used ((p, outcome) ∷ goes.0) (p, outcome) (0, omega arith, refl);
          place = sym (eqb-true q p same);
        })
        (λ apart. before (learnt q
        (subst (λ (o : Option Outcome). is_some o ≡ true) (put_elsewhere table p q outcome (λ e. both_ways (q == p) apart (eq-eqb q p e))) known) lacked))
        (cases_Bool (q == p)))
      where
        before : IsUsedAt used q → IsUsedAt (used ++ (p, outcome) ∷ goes.0) q
        before at = record { pair = at.pair; among = Contains-append_left used ((p, outcome) ∷ goes.0) at.pair at.among; place = at.place }

-- ---- what was gained

pub gained_none : (names : List Oid) (core : CoreView) (answers : List Answer) → IsGained names core.farm.table answers core answers
gained_none names core answers = record {
  gained = [];
  added = sym (append-nil answers);
  named = All-nil (λ (a : Answer). slice_get names a.place ≡ Some a.name);
  lacked = sym (filter_none (λ (pair : Pair). is_none (outcomes_of_table core.farm.table pair.0)) (run_of core).used
      (λ k d l. known (outcomes_of_table core.farm.table (get_or (run_of core).used k d).0) (get_or (run_of core).used k d).1
      ((told (outcomes_of_table core.farm.table) core.setting.graph (leg_of core.setting.leg) core.setting.start).used k d l)));
  more = λ p. itself (outcomes_of_table core.farm.table p);
  learnt = λ p some none. absurd (neither (outcomes_of_table core.farm.table p) some none);
}
  where
    known : (o : Option Outcome) (x : Outcome) → o ≡ Some x → is_none o ≡ false
    known o x e = ap (λ (y : Option Outcome). is_none y) e

    itself : (o : Option Outcome) → IfSome o (λ x. o ≡ Some x)
    itself None = tt
    itself (Some x) = refl

    neither : (o : Option Outcome) → is_some o ≡ true → is_none o ≡ true → ⊥
    neither None some none = cc
    neither (Some x) some none = cc

pub gained_tested : (names : List Oid) (first : List (Option Outcome)) (before answers more : List Answer) (old new : CoreView) (p : ℕ) (name : Oid)
    (outcome : Outcome) → IsOverGraph old.setting → (run_of old).end ≡ Open p → p < length old.farm.table → new.setting ≡ old.setting
    → new.farm.table ≡ set old.farm.table p (Some outcome) → slice_get names p ≡ Some name → more ≡ answers ++ answer_of p name outcome ∷ []
    → IsGained names first before old answers → IsGained names first before new more
gained_tested names first before answers more old new p name outcome over waits within same put named grown h = record {
  gained = h.gained ++ answer_of p name outcome ∷ [];
  added = grown ∙ ap (λ (l : List Answer). l ++ answer_of p name outcome ∷ []) h.added ∙ append_assoc before h.gained (answer_of p name outcome ∷ []);
  named = All-append (λ (a : Answer). slice_get names a.place ≡ Some a.name) h.gained (answer_of p name outcome ∷ []) h.named
      (All-cons (λ (a : Answer). slice_get names a.place ≡ Some a.name) (answer_of p name outcome) [] named
      (All-nil (λ (a : Answer). slice_get names a.place ≡ Some a.name)));
  lacked = map-append pair_of h.gained (answer_of p name outcome ∷ []) ∙ ap (λ (l : List Pair). l ++ (p, outcome) ∷ []) h.lacked
      ∙ sym (one_lacked old.setting first old.farm.table p outcome over waits within h.more h.learnt) ∙ ap (λ (r : Run). lacking_pairs first r.used) run_is;
  more = subst (λ (t : List (Option Outcome)). IsPartOf (outcomes_of_table first) (outcomes_of_table t)) (sym put)
      (part_of_more old.setting first old.farm.table p outcome over waits within h.more h.learnt);
  learnt = λ q known lacks. subst (λ (r : Run). IsUsedAt r.used q) run_is
      (learnt_more old.setting first old.farm.table p outcome over waits within h.more h.learnt q
      (subst (λ (t : List (Option Outcome)). is_some (outcomes_of_table t q) ≡ true) put known) lacks);
}
  where
    run_is : consumed old.setting (set old.farm.table p (Some outcome)) ≡ run_of new
    run_is = sym (ap (λ (s : Setting). consumed s new.farm.table) same ∙ ap (λ (t : List (Option Outcome)). consumed old.setting t) put)

pub gained_same : (names : List Oid) (first : List (Option Outcome)) (before answers more : List Answer) (old new : CoreView) → new.setting ≡ old.setting
    → new.farm.table ≡ old.farm.table → more ≡ answers → IsGained names first before old answers → IsGained names first before new more
gained_same names first before answers more old new same kept none h = record {
  gained = h.gained;
  added = none ∙ h.added;
  named = h.named;
  lacked = h.lacked ∙ ap (λ (r : Run). lacking_pairs first r.used) run_is;
  more = subst (λ (t : List (Option Outcome)). IsPartOf (outcomes_of_table first) (outcomes_of_table t)) (sym kept) h.more;
  learnt = λ q known lacks. subst (λ (r : Run). IsUsedAt r.used q) run_is
      (h.learnt q (subst (λ (t : List (Option Outcome)). is_some (outcomes_of_table t q) ≡ true) kept known) lacks);
}
  where
    run_is : run_of old ≡ run_of new
    run_is = sym (ap (λ (s : Setting). consumed s new.farm.table) same ∙ ap (λ (t : List (Option Outcome)). consumed old.setting t) kept)

-- ---- what a turn gains

pub gains_done : (names : List Oid) (answers more : List Answer) (old new : BoardView) (p : ℕ) (name : Oid) (outcome : Outcome) → IsAsking old.core p
    → p < length old.core.farm.table → DoesIf (stands old.core.farm.claims 0 p) old new (events.Post 0 p outcome) → slice_get names p ≡ Some name
    → more ≡ answers ++ answer_of p name outcome ∷ [] → GainsMore names old.core answers new.core more
gains_done names answers more old new p name outcome asking within does named grown =
    let done : Does old new (events.Post 0 p outcome)
    = done_where (stands old.core.farm.claims 0 p) old new (events.Post 0 p outcome) does (one_stands old.core p asking) in
    λ over first before h.
    gained_tested names first before answers more old.core new.core p name outcome over asking.waits within done.start.setting
    (ap (λ (f : Farm). f.table) (none_after_post old new p outcome asking done)) named grown h

pub gains_none : (names : List Oid) (answers more : List Answer) (old new : BoardView) (p : ℕ) → IsAsking old.core p
    → DoesIf (stands old.core.farm.claims 0 p) old new (events.Give 0 p) → more ≡ answers → GainsMore names old.core answers new.core more
gains_none names answers more old new p asking does same =
    let done : Does old new (events.Give 0 p) = done_where (stands old.core.farm.claims 0 p) old new (events.Give 0 p) does (one_stands old.core p asking) in
    λ over first before h.
    gained_same names first before answers more old.core new.core done.start.setting
    (ap (λ (f : Farm). f.table) (none_after_give old new p asking done)) same h

pub gains_kept : (names : List Oid) (answers : List Answer) (old new : CoreView) → IsSameStart old new → new.farm.table ≡ old.farm.table
    → GainsMore names old answers new answers
gains_kept names answers old new start kept = λ over first before h. gained_same names first before answers answers old new start.setting kept refl h

pub gains_then : (names : List Oid) (a b c : List Answer) (x y z : CoreView) → IsSameStart x y → GainsMore names x a y b → GainsMore names y b z c
    → GainsMore names x a z c
gains_then names a b c x y z start one two = λ over first before h.
    two (subst (λ (s : Setting). IsOverGraph s) (sym start.setting) over) first before (one over first before h)
