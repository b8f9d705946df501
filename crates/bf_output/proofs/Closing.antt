-- A log that leads to both ends has closed its terms, and they are accepted.
use Rattle.std.proofs.Common.{◌≡◌, ℕ, cond, Bool, true, false, ◌&&◌, not, List, [], ◌∷◌, Option, Some, None, Result, Ok, Err, IfOk, refl, sym, ap, subst, ◌∙◌}
use Rattle.bf_search.specs.declared.outcomes.Mark.{Mark}
use Rattle.bf_search.specs.declared.outcomes.Mark.TheVariants.{Good, Bad, Skip}
use Rattle.bf_search.specs.State.{Search, ask, mark}
use Rattle.bf_state.proofs.Asks.{ask_leaves}
use Rattle.bf_terms.specs.declared.terms.TermFault.{TermFault}
use Rattle.bf_terms.specs.Words.{term_fault}
use Rattle.bf_terms.specs.Texts.{Sides}
use Rattle.bf_log.specs.LogState.{marked_on}
use Rattle.bf_log.specs.Replay.{Setting, ReplayFault, Replayed, Worded, if_ok, places_of, terms_of, has_none, names_terms, tried, begun_at, open_sides}
use Rattle.bf_log.specs.Replay.{mark_in, by_terms, mark_of, stays_open, worded, named, take_line, replay_from, replay}
use Rattle.bf_reading.specs.declared.line.LogLine.{LogLine}
use Rattle.bf_reading.specs.declared.line.LogWord.{LogWord}
use Rattle.bf_reading.specs.declared.line.LogWord.TheVariants.{Start, MarkWord}

abbrev AreAccepted : Sides → Type 0
AreAccepted sides = term_fault sides.new sides.old ≡ None

record HasNone (s : Search) : Type 0 where
  bad : s.bad ≡ None
  goods : s.goods ≡ []

-- the terms are accepted, and while they are open no end is known
record IsFit (r : Replayed) : Type 0 where
  accepted : AreAccepted r.terms
  none_known : r.terms_open ≡ true → HasNone r.told.search

-- ---- a start

both : (a b : Bool) → (a && b) ≡ true → b ≡ true
both true b h = h
both false b h = cc

none_placed : {F : Type 0} (setting : Setting F) (line : ℕ) (revs places : List (List ℕ)) (found : List ℕ) → places_of setting line revs ≡ Ok found
    → has_none revs ≡ true → found ≡ []
unfolding places_of
none_placed setting line [] places found is h = cc
none_placed setting line (rev ∷ revs) places found is h = cc

module _ {F : Type 0} (setting : Setting F) where
  fit_start : (line : ℕ) (first_parent : Bool) (new old : Option (List ℕ)) (revs : List (List ℕ)) (sides : Sides) (fault : Option TermFault)
      (found : Result (List ℕ) (ReplayFault F)) → term_fault sides.new sides.old ≡ fault → places_of setting line revs ≡ found
      → IfOk (if_ok (tried line sides fault) (λ x. if_ok found (λ places. Ok (begun_at setting.graph x first_parent new old revs places)))) IsFit
  fit_start line first_parent new old revs sides (Some fault) found is places_are = tt
  fit_start line first_parent new old revs sides None (Err fault) is places_are = tt
  fit_start line first_parent new old revs sides None (Ok places) is places_are = record {
    accepted = is;
    none_known = λ still.
        let none : places ≡ [] = none_placed setting line revs [] places places_are (both (not (names_terms new old)) (has_none revs) still) in
        subst (λ ps. HasNone (begun_at setting.graph sides first_parent new old revs ps).told.search) (sym none) (record { bad = refl; goods = refl });
  }

  -- ---- a mark

  fit_word : (before : Replayed) (word : List ℕ) → IsFit before → (w : Worded) → mark_of before.terms before.terms_open word ≡ Some w → AreAccepted w.terms
  fit_word before word fit w is = by_mark (mark_in before.terms word) before.terms_open is
    where
      open_ones : (other : Option Mark) → by_terms open_sides other None ≡ Some w → AreAccepted w.terms
      open_ones None is = cc
      open_ones (Some m) is = ap (λ (x : Sides). term_fault x.new x.old) (sym (terms_are is))
        where
          terms_are : Some (record { mark = m; terms = open_sides }) ≡ Some w → open_sides ≡ w.terms
          terms_are e = let same : record { mark = m; terms = open_sides } ≡ w = cc in ap (λ (x : Worded). x.terms) same

      open_or_not : (is_open : Bool) → cond is_open (by_terms open_sides (mark_in open_sides word) None) None ≡ Some w → AreAccepted w.terms
      open_or_not true is = open_ones (mark_in open_sides word) is
      open_or_not false is = cc

      by_mark : (m : Option Mark) (is_open : Bool)
          → by_terms before.terms m (cond is_open (by_terms open_sides (mark_in open_sides word) None) None) ≡ Some w → AreAccepted w.terms
      by_mark None is_open is = open_or_not is_open is
      by_mark (Some m) is_open is =
          let same : record { mark = m; terms = before.terms } ≡ w = cc in
          subst (λ (x : Worded). AreAccepted x.terms) same fit.accepted

  open_skips : (s : Search) (p : ℕ) → HasNone s → HasNone (mark (ask setting.graph s).search Skip p)
  unfolding mark
  open_skips s p h =
      subst (λ (t : Search). HasNone (mark t Skip p)) (sym (ask_leaves setting.graph s)) (record { bad = h.bad; goods = h.goods })

  open_marks : (s : Search) (is_open : Bool) (m : Mark) (p : ℕ) → (is_open ≡ true → HasNone s) → stays_open is_open m ≡ true
      → HasNone (mark (ask setting.graph s).search m p)
  open_marks s is_open Skip p h still = open_skips s p (h still)
  open_marks s is_open Good p h still = cc
  open_marks s is_open Bad p h still = cc

  fit_mark : (before : Replayed) (line : ℕ) (word : List ℕ) → IsFit before → (o : Option Worded) → mark_of before.terms before.terms_open word ≡ o
      → (found : Result ℕ (ReplayFault F))
      → IfOk (if_ok (worded line o) (λ w. if_ok found (λ p. Ok (record {
        told = marked_on setting.graph before.told w.mark p;
        terms = w.terms;
        terms_open = stays_open before.terms_open w.mark;
      })))) IsFit
  fit_mark before line word fit None is found = tt
  fit_mark before line word fit (Some w) is (Err fault) = tt
  fit_mark before line word fit (Some w) is (Ok p) = record {
    accepted = fit_word before word fit w is;
    none_known = open_marks before.told.search before.terms_open w.mark p fit.none_known;
  }

  -- ---- lines

  abbrev FitIfSome : Option Replayed → Type 0
  FitIfSome None = Unit {0}
  FitIfSome (Some r) = IsFit r

  fit_line : (before : Option Replayed) (line : ℕ) (word : LogWord) → FitIfSome before → IfOk (take_line setting before line word) IsFit
  fit_line before line (Start first_parent new old revs) fit =
      fit_start line first_parent new old revs (terms_of new old) (term_fault (terms_of new old).new (terms_of new old).old) (places_of setting line revs) refl
      refl
  fit_line None line (MarkWord term rev) fit = tt
  fit_line (Some before) line (MarkWord term rev) fit =
      fit_mark before line term fit (mark_of before.terms before.terms_open term) refl (named line (setting.place_of rev))

  on : (x : Result Replayed (ReplayFault F)) (next : Replayed → Result Replayed (ReplayFault F)) → IfOk x IsFit
      → ((r : Replayed) → IsFit r → IfOk (next r) IsFit) → IfOk (if_ok x next) IsFit
  on (Err fault) next h goes_on = tt
  on (Ok r) next h goes_on = goes_on r h

  fit_from : (before : Option Replayed) (lines : List LogLine) → FitIfSome before → IfOk (replay_from setting before lines) IsFit
  unfolding replay_from
  fit_from None [] fit = tt
  fit_from (Some before) [] fit = fit
  fit_from None (l ∷ lines) fit =
      on (take_line setting None l.line l.word) (λ r. replay_from setting (Some r) lines) (fit_line None l.line l.word fit)
      (λ r next. fit_from (Some r) lines next)
  fit_from (Some before) (l ∷ lines) fit =
      on (take_line setting (Some before) l.line l.word) (λ r. replay_from setting (Some r) lines) (fit_line (Some before) l.line l.word fit)
      (λ r next. fit_from (Some r) lines next)

  fit_replayed : (lines : List LogLine) (r : Replayed) → replay setting lines ≡ Ok r → IsFit r
  fit_replayed lines r is =
      let P : Result Replayed (ReplayFault F) → Type 0 = λ x. IfOk x IsFit in
      subst P is (fit_from None lines tt)

  -- the terms that a log leads to are accepted
  pub accepted_replayed : (lines : List LogLine) (r : Replayed) → replay setting lines ≡ Ok r → term_fault r.terms.new r.terms.old ≡ None
  accepted_replayed lines r is = (fit_replayed lines r is).accepted

  -- and where it knows an end they are closed
  pub closed_replayed : (lines : List LogLine) (r : Replayed) (bad : ℕ) → replay setting lines ≡ Ok r → r.told.search.bad ≡ Some bad → r.terms_open ≡ false
  closed_replayed lines r bad is known = by_open r.terms_open (fit_replayed lines r is).none_known
    where
      by_open : (is_open : Bool) → (is_open ≡ true → HasNone r.told.search) → is_open ≡ false
      by_open false h = refl
      by_open true h = let none : r.told.search.bad ≡ None = (h refl).bad in absurd (some_none (sym known ∙ none))
        where
          some_none : Some bad ≡ None → ⊥
          some_none e = cc
