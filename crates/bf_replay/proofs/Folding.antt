-- The steps of a replay, joined to its fold.
use Rattle.std.proofs.Common.{◌≡◌, ℕ, ◌+◌, ◌<◌, ◌≤◌, Bool, IfSome, IfNone, List, [], ◌∷◌, ◌++◌, length, drop, get_or, Option, Some, None, Result, Ok, Err, refl}
use Rattle.std.proofs.Common.{sym, subst, ap, ◌∙◌, append_assoc, append-nil, add-one}
use Rattle.std.proofs.Math.Seq.{drop-cons}
use Rattle.std.proofs.lemmas.List.{drop_all}
use Rattle.std.proofs.lemmas.List.Elements.{All-append, All-head, All-map, All-push, All-tail}
use Rattle.std.specs.List.{All}
use Rattle.bf_reading.specs.declared.line.LogLine.{LogLine}
use Rattle.bf_search.specs.Within.{IsEntryWithin}
use Rattle.bf_log.specs.Replay as replay
use Rattle.bf_log.specs.Replay.{Setting, Replayed, if_ok, named, places_of, take_line, replay_from, bad_of, goods_of, tried, leaves_open, names_terms}
use Rattle.bf_log.specs.Replay.{begun_at}
use Rattle.bf_search.specs.declared.entries.Entry.{Entry}
use Rattle.bf_search.specs.declared.entries.Entry.TheVariants.{Start, Marked, SkippedBase}
use Rattle.bf_search.specs.declared.outcomes.Mark.{Mark}
use Rattle.bf_search.specs.Run.{warnings}
use Rattle.bf_state.specs.Session.{Session, begun}
use Rattle.bf_terms.specs.declared.terms.TermFault.{TermFault}
use Rattle.bf_terms.specs.declared.terms.TermFault.TheVariants as terms
use Rattle.bf_terms.specs.Texts.{Sides}
use Rattle.bf_names.specs.declared.fault.NameFault.{NameFault}
use Rattle.bf_replay.specs.declared.fault.ReplayFault.{ReplayFault}
use Rattle.bf_replay.specs.declared.fault.ReplayFault.TheVariants as faults
use Rattle.bf_replay.specs.Refusals.{IsRefusal, term_refusal}

-- a refusal of a part refuses the whole
pub refused_on : {X Y : Type 0} (fault : ReplayFault) (part : Result X (replay.ReplayFault NameFault))
    (go : X → Result Y (replay.ReplayFault NameFault))
    → IsRefusal fault part → IsRefusal fault (if_ok part go)
refused_on (faults.Name line fault) part go h = ap (λ r. if_ok r go) h
refused_on (faults.NotStarted line) part go h = ap (λ r. if_ok r go) h
refused_on (faults.Term line) part go h = ap (λ r. if_ok r go) h
refused_on faults.NoMemory part go h = tt

-- ---- lines

item_and_rest : {X : Type 0} (xs : List X) (i : ℕ) (x : X) → i < length xs → x ≡ get_or xs i x
    → drop i xs ≡ x ∷ drop (i + 1) xs
item_and_rest xs i x h is = rw add-one (drop-cons xs i x h) ∙ ap (λ y. y ∷ drop (i + 1) xs) (sym is)

one_line : (setting : Setting NameFault) (before : Option Replayed) (line : LogLine) (lines : List LogLine)
    → replay_from setting before (line ∷ lines) ≡ if_ok (take_line setting before line.line line.word)
    (λ r. replay_from setting (Some r) lines)
unfolding replay_from
one_line setting None line lines = refl
one_line setting (Some r) line lines = refl

module _ (setting : Setting NameFault) (lines : List LogLine) (i : ℕ) (line : LogLine) (before : Option Replayed)
    (h : i < length lines) (is : line ≡ get_or lines i line) where
  step_is : replay_from setting before (drop i lines) ≡ if_ok (take_line setting before line.line line.word)
      (λ r. replay_from setting (Some r) (drop (i + 1) lines))
  step_is = ap (replay_from setting before) (item_and_rest lines i line h is)
      ∙ one_line setting before line (drop (i + 1) lines)

  pub line_taken : (r : Replayed) → take_line setting before line.line line.word ≡ Ok r
      → replay_from setting before (drop i lines) ≡ replay_from setting (Some r) (drop (i + 1) lines)
  line_taken r e = step_is ∙ ap (λ x. if_ok x (λ y. replay_from setting (Some y) (drop (i + 1) lines))) e

  pub line_refused : (fault : ReplayFault) → IsRefusal fault (take_line setting before line.line line.word)
      → IsRefusal fault (replay_from setting before (drop i lines))
  line_refused fault refused =
      rw step_is (refused_on fault (take_line setting before line.line line.word)
      (λ r. replay_from setting (Some r) (drop (i + 1) lines)) refused)

pub all_taken : (setting : Setting NameFault) (lines : List LogLine) (i : ℕ) (r : Replayed) → length lines ≤ i
    → replay_from setting (Some r) (drop i lines) ≡ Ok r
unfolding replay_from
all_taken setting lines i r h = ap (replay_from setting (Some r)) (drop_all i lines h)

pub none_started : (setting : Setting NameFault) (lines : List LogLine) (i : ℕ) → length lines ≤ i
    → replay_from setting None (drop i lines) ≡ Err (replay.NotStarted 1)
unfolding replay_from
none_started setting lines i h = ap (replay_from setting None) (drop_all i lines h)

-- ---- names

abbrev pub behind_places : List ℕ → Result (List ℕ) (replay.ReplayFault NameFault)
    → Result (List ℕ) (replay.ReplayFault NameFault)
behind_places front (Err fault) = Err fault
behind_places front (Ok back) = Ok (front ++ back)

pub behind_none : (places : Result (List ℕ) (replay.ReplayFault NameFault)) → places ≡ behind_places [] places
behind_none (Err fault) = refl
behind_none (Ok back) = refl

one_behind : (front : List ℕ) (p : ℕ) (places : Result (List ℕ) (replay.ReplayFault NameFault))
    → behind_places front (if_ok places (λ ps. Ok (p ∷ ps))) ≡ behind_places (front ++ p ∷ []) places
one_behind front p (Err fault) = refl
one_behind front p (Ok ps) = ap (λ (qs : List ℕ). Ok qs) (sym (append_assoc front (p ∷ []) ps))

refused_behind : (front : List ℕ) (fault : ReplayFault) (places : Result (List ℕ) (replay.ReplayFault NameFault))
    → IsRefusal fault places → IsRefusal fault (behind_places front places)
refused_behind front (faults.Name line fault) places h = ap (behind_places front) h
refused_behind front (faults.NotStarted line) places h = ap (behind_places front) h
refused_behind front (faults.Term line) places h = ap (behind_places front) h
refused_behind front faults.NoMemory places h = tt

module _ (setting : Setting NameFault) (line : ℕ) (names : List (List ℕ)) (i : ℕ) (name : List ℕ) (front : List ℕ)
    (h : i < length names) (is : name ≡ get_or names i name) where
  name_is : places_of setting line (drop i names)
      ≡ if_ok (named line (setting.place_of name))
      (λ p. if_ok (places_of setting line (drop (i + 1) names)) (λ ps. Ok (p ∷ ps)))
  unfolding places_of
  name_is = ap (places_of setting line) (item_and_rest names i name h is)

  pub name_placed : (now : List ℕ) (p : ℕ) → named line (setting.place_of name) ≡ Ok p → now ≡ front ++ p ∷ []
      → behind_places front (places_of setting line (drop i names)) ≡ behind_places now
      (places_of setting line (drop (i + 1) names))
  name_placed now p e pushed =
      ap (behind_places front) (name_is ∙ ap (λ x. if_ok x
      (λ q. if_ok (places_of setting line (drop (i + 1) names)) (λ ps. Ok (q ∷ ps)))) e)
      ∙ one_behind front p (places_of setting line (drop (i + 1) names))
      ∙ ap (λ (ps : List ℕ). behind_places ps (places_of setting line (drop (i + 1) names))) (sym pushed)

  pub name_refused : (fault : ReplayFault) → IsRefusal fault (named line (setting.place_of name))
      → IsRefusal fault (behind_places front (places_of setting line (drop i names)))
  name_refused fault refused =
      refused_behind front fault (places_of setting line (drop i names))
      (rw name_is (refused_on fault (named line (setting.place_of name))
      (λ p. if_ok (places_of setting line (drop (i + 1) names)) (λ ps. Ok (p ∷ ps))) refused))

pub all_placed : (setting : Setting NameFault) (line : ℕ) (names : List (List ℕ)) (i : ℕ) (front : List ℕ)
    → length names ≤ i → behind_places front (places_of setting line (drop i names)) ≡ Ok front
unfolding places_of
all_placed setting line names i front h = ap (λ (ns : List (List ℕ)). behind_places front (places_of setting line ns))
    (drop_all i names h) ∙ ap (λ (ps : List ℕ). Ok ps) (append-nil front)

-- ---- the ends of a start

pub bad_within : (n : ℕ) (places : List ℕ) → All (λ p. p < n) places → IfSome (bad_of places) (λ bad. bad < n)
bad_within n [] h = tt
bad_within n (p ∷ ps) h = All-head (λ q. q < n) p ps h

pub goods_within : (n : ℕ) (places : List ℕ) → All (λ p. p < n) places → All (λ p. p < n) (goods_of places)
goods_within n [] h = h
goods_within n (p ∷ ps) h = All-tail (λ q. q < n) p ps h

-- ---- terms

pub terms_refused : (line : ℕ) (sides : Sides) (found : Option TermFault) (fault : TermFault)
    → IfNone found (fault ≡ terms.NoMemory)
    → IsRefusal (term_refusal line fault) (tried {F = NameFault} line sides found)
terms_refused line sides (Some other) terms.New h = refl
terms_refused line sides (Some other) terms.Old h = refl
terms_refused line sides (Some other) terms.Same h = refl
terms_refused line sides found terms.NoMemory h = tt
terms_refused line sides None terms.New h = cc
terms_refused line sides None terms.Old h = cc
terms_refused line sides None terms.Same h = cc

-- ---- the beginning of a search

pub begun_is : (graph : List (List ℕ)) (sides : Sides) (first_parent : Bool) (new old : Option (List ℕ))
    (revs : List (List ℕ)) (places : List ℕ)
    (len : ℕ) (terms_open given : Bool) (bad : Option ℕ) (goods copy : List ℕ) (state : Session)
    (items none : List Entry)
    → state ≡ record { len = len; terms = sides; terms_open = terms_open; search = begun len first_parent bad goods }
    → len ≡ length graph → terms_open ≡ leaves_open new old revs → given ≡ names_terms new old → bad ≡ bad_of places
    → goods ≡ goods_of places
    → copy ≡ state.search.goods → none ≡ [] → items ≡ none ++ Start first_parent given bad copy ∷ []
    → record {
      told = record { search = state.search; entries = items };
      terms = state.terms;
      terms_open = state.terms_open;
    } ≡ begun_at graph sides first_parent new old revs places
begun_is graph sides first_parent new old revs places len terms_open given bad goods copy state items none s l o g b
    gs c n i =
    rw (i, c, n, s, l, o, g, b, gs) refl

-- ---- the places of entries

-- the entries of a mark are within, where its place and the warned ones are
pub marked_within : (n : ℕ) (before after : List Entry) (warned : List ℕ) (m : Mark) (p : ℕ) → All (IsEntryWithin n) before
    → All (λ q. q < n) warned → p < n → after ≡ before ++ (warnings warned ++ Marked m p ∷ []) → All (IsEntryWithin n) after
marked_within n before after warned m p old w h is =
    subst (λ (es : List Entry). All (IsEntryWithin n) es) (sym is)
    (All-append (IsEntryWithin n) before (warnings warned ++ Marked m p ∷ []) old
    (All-push (IsEntryWithin n) (warnings warned) (Marked m p) (All-map (IsEntryWithin n) SkippedBase warned w) h))

-- places below a length are below an equal one
pub below_same : (n m : ℕ) (ps : List ℕ) → n ≡ m → All (λ p. p < n) ps → All (λ p. p < m) ps
below_same n m ps e h = subst (λ (k : ℕ). All (λ p. p < k) ps) e h
