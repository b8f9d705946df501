-- A log leads to a search over the places of its graph.
use Rattle.std.proofs.Common.{◌≡◌, ℕ, ◌<◌, cond, Bool, true, false, List, [], ◌∷◌, ◌++◌, length, Option, Some, None, Result, Ok, Err, IfOk, refl, sym, subst, ◌∙◌, length-set}
use Rattle.std.proofs.lemmas.List.Elements.{All-append, All-cons, All-head, All-nil, All-tail}
use Rattle.std.specs.List.{All}
use Rattle.bf_log.specs.Replay.{Setting, ReplayFault, Replayed, Worded, if_ok, named, places_of, begun_at, take_line, take_mark, take_start, terms_of, terms_tried}
use Rattle.bf_log.specs.Replay.{mark_of, worded, replay, replay_from}
use Rattle.bf_reading.specs.declared.line.LogLine.{LogLine}
use Rattle.bf_reading.specs.declared.line.LogWord.{LogWord}
use Rattle.bf_reading.specs.declared.line.LogWord.TheVariants.{Start, MarkWord}
use Rattle.bf_search.specs.declared.outcomes.Mark.{Mark}
use Rattle.bf_search.specs.declared.outcomes.Mark.TheVariants.{Good, Bad, Skip}
use Rattle.bf_search.specs.Bases.{has_place}
use Rattle.bf_search.specs.State.{Search, IsSearchOver, ask, mark}
use Rattle.bf_state.proofs.Asks.{ask_leaves}
use Rattle.bf_state.proofs.Below.{below_begun, IsSearchOver-from_below}
use Rattle.bf_terms.specs.Texts.{Sides}

pushed : (P : ℕ → Type 0) (b : Bool) (ps : List ℕ) (p : ℕ) → All P ps → P p → All P (cond b ps (ps ++ p ∷ []))
pushed P true ps p all here = all
pushed P false ps p all here = All-append P ps (p ∷ []) all (All-cons P p [] here (All-nil P))

over_marked : (graph : List (List ℕ)) (s : Search) (m : Mark) (p : ℕ) → IsSearchOver graph s → p < length graph
    → IsSearchOver graph (mark (ask graph s).search m p)
unfolding mark
over_marked graph s Good p over here = subst (λ (t : Search). IsSearchOver graph (mark t Good p)) (sym (ask_leaves graph s)) (record {
  bad = over.bad;
  goods = pushed (λ good. good < length graph) (has_place s.goods p) s.goods p over.goods here;
  skips = over.skips;
  expected = tt;
})
over_marked graph s Bad p over here = subst (λ (t : Search). IsSearchOver graph (mark t Bad p)) (sym (ask_leaves graph s)) (record {
  bad = here;
  goods = over.goods;
  skips = over.skips;
  expected = tt;
})
over_marked graph s Skip p over here = subst (λ (t : Search). IsSearchOver graph (mark t Skip p)) (sym (ask_leaves graph s)) (record {
  bad = over.bad;
  goods = over.goods;
  skips = length-set s.skips p true ∙ over.skips;
  expected = tt;
})

module _ {F : Type 0} (setting : Setting F) (within : (text : List ℕ) → IfOk (setting.place_of text) (λ p. p < length setting.graph)) where
  abbrev IsThere : ℕ → Type 0
  IsThere p = p < length setting.graph

  abbrev IsOver : Replayed → Type 0
  IsOver r = IsSearchOver setting.graph r.told.search

  named_there : (line : ℕ) (r : Result ℕ F) → IfOk r IsThere → IfOk (named line r) IsThere
  named_there line (Ok p) h = h
  named_there line (Err fault) h = tt

  then_so : {X Y : Type 0} (P : X → Type 0) (Q : Y → Type 0) (r : Result X (ReplayFault F)) (go : X → Result Y (ReplayFault F)) → IfOk r P
      → ((x : X) → P x → IfOk (go x) Q) → IfOk (if_ok r go) Q
  then_so P Q (Ok x) go h k = k x h
  then_so P Q (Err fault) go h k = tt

  whatever : {X : Type 0} (r : Result X (ReplayFault F)) → IfOk r (λ x. Unit {0})
  whatever (Ok x) = tt
  whatever (Err fault) = tt

  places_there : (line : ℕ) (names : List (List ℕ)) → IfOk (places_of setting line names) (All IsThere)
  unfolding places_of
  places_there line [] = All-nil IsThere
  places_there line (name ∷ names) =
      then_so IsThere (All IsThere) (named line (setting.place_of name)) _ (named_there line (setting.place_of name) (within name))
      (λ p here. then_so (All IsThere) (All IsThere) (places_of setting line names) _ (places_there line names)
      (λ ps there. All-cons IsThere p ps here there))

  begun_over : (sides : Sides) (first_parent : Bool) (new old : Option (List ℕ)) (revs : List (List ℕ)) (places : List ℕ) → All IsThere places
      → IsOver (begun_at setting.graph sides first_parent new old revs places)
  begun_over sides first_parent new old revs [] all =
      IsSearchOver-from_below setting.graph (length setting.graph) (begun_at setting.graph sides first_parent new old revs []).told.search refl
      (below_begun (length setting.graph) first_parent None [] tt (All-nil IsThere))
  begun_over sides first_parent new old revs (bad ∷ goods) all =
      IsSearchOver-from_below setting.graph (length setting.graph) (begun_at setting.graph sides first_parent new old revs (bad ∷ goods)).told.search refl
      (below_begun (length setting.graph) first_parent (Some bad) goods (All-head IsThere bad goods all) (All-tail IsThere bad goods all))

  start_over : (line : ℕ) (first_parent : Bool) (new old : Option (List ℕ)) (revs : List (List ℕ))
      → IfOk (take_start setting line first_parent new old revs) IsOver
  start_over line first_parent new old revs =
      then_so (λ (x : Sides). Unit {0}) IsOver (terms_tried line (terms_of new old)) _ (whatever (terms_tried line (terms_of new old)))
      (λ sides done. then_so (All IsThere) IsOver (places_of setting line revs) _ (places_there line revs)
      (λ places all. begun_over sides first_parent new old revs places all))

  mark_over : (before : Replayed) (line : ℕ) (term rev : List ℕ) → IsOver before → IfOk (take_mark setting line before term rev) IsOver
  mark_over before line term rev over =
      then_so (λ (w : Worded). Unit {0}) IsOver (worded line (mark_of before.terms before.terms_open term)) _
      (whatever (worded line (mark_of before.terms before.terms_open term)))
      (λ w done. then_so IsThere IsOver (named line (setting.place_of rev)) _ (named_there line (setting.place_of rev) (within rev))
      (λ p here. over_marked setting.graph before.told.search w.mark p over here))

  abbrev OverIfSome : Option Replayed → Type 0
  OverIfSome None = Unit {0}
  OverIfSome (Some r) = IsOver r

  line_over : (before : Option Replayed) (line : ℕ) (word : LogWord) → OverIfSome before → IfOk (take_line setting before line word) IsOver
  line_over before line (Start first_parent new old revs) over = start_over line first_parent new old revs
  line_over None line (MarkWord term rev) over = tt
  line_over (Some before) line (MarkWord term rev) over = mark_over before line term rev over

  from_over : (before : Option Replayed) (lines : List LogLine) → OverIfSome before → IfOk (replay_from setting before lines) IsOver
  unfolding replay_from
  from_over None [] over = tt
  from_over (Some before) [] over = over
  from_over None (l ∷ lines) over =
      then_so IsOver IsOver (take_line setting None l.line l.word) (λ r. replay_from setting (Some r) lines) (line_over None l.line l.word over)
      (λ r next. from_over (Some r) lines next)
  from_over (Some before) (l ∷ lines) over =
      then_so IsOver IsOver (take_line setting (Some before) l.line l.word) (λ r. replay_from setting (Some r) lines) (line_over (Some before) l.line l.word over)
      (λ r next. from_over (Some r) lines next)

  pub replayed_over : (lines : List LogLine) (r : Replayed) → replay setting lines ≡ Ok r → IsSearchOver setting.graph r.told.search
  replayed_over lines r is =
      let P : Result Replayed (ReplayFault F) → Type 0 = λ x. IfOk x IsOver in
      subst P is (from_over None lines tt)
