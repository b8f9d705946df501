-- Replaying the command lines of entries leads where the entries lead.
use Rattle.std.proofs.Common.{◌≡◌, ℕ, ◌==◌, cond, Bool, true, false, List, [], ◌∷◌, map, codes, Option, Some, None, Result, Ok, refl, ap, ◌∙◌, eq-eqb}
use Rattle.std.proofs.lemmas.Bool.{and_from, cond-false, cond-true}
use Rattle.std.specs.Cmp.Lexicographic.{pointwise}
use Rattle.bf_search.specs.declared.entries.Entry.{Entry}
use Rattle.bf_search.specs.declared.entries.Entry.TheVariants.{Start, Marked, SkippedBase, FirstBadFound, OnlySkippedLeft}
use Rattle.bf_search.specs.declared.outcomes.Mark.{Mark}
use Rattle.bf_search.specs.declared.outcomes.Mark.TheVariants.{Good, Bad, Skip}
use Rattle.bf_terms.specs.Texts.{Commits, Sides, standard_sides, hex_of, word_of_mark}
use Rattle.bf_log.specs.LogState.{LogState, started, marked_on, retold}
use Rattle.bf_reading.specs.Reading.{is_word}
use Rattle.bf_reading.specs.declared.line.LogWord.{LogWord}
use Rattle.bf_reading.specs.declared.line.LogLine.{LogLine}
use Rattle.bf_reading.specs.declared.line.LogWord.TheVariants.{MarkWord}
use Rattle.bf_terms.specs.Words.{term_fault}
use Rattle.bf_terms.specs.declared.terms.TermFault.{TermFault}
use Rattle.bf_log.specs.Written.{given_term, names_of, start_word, words_of_entries}
use Rattle.bf_log.specs.Replay.{Setting, ReplayFault, Replayed, if_ok, named, places_of, begun_at, tried, take_start, Worded, mark_in, by_terms, open_sides}
use Rattle.bf_log.specs.Replay.{mark_of, worded, take_mark, stays_open, take_line, replay_from, replay}
use Rattle.bf_log.proofs.Terms.{accepted_from}
use Rattle.bf_log.specs.Resolved.{AreTerms, FitsStart, ArePlaced, AreResolved}

is_word_same : (w : List ℕ) → is_word w w ≡ true
is_word_same [] = refl
is_word_same (b ∷ bs) = and_from (b == b) (pointwise ◌==◌ bs bs) (eq-eqb b b refl) (is_word_same bs)

mark_in_is : (sides : Sides) (m : Mark) → AreTerms sides → mark_in sides (word_of_mark sides m) ≡ Some m
mark_in_is sides Bad t = cond-true (is_word sides.new sides.new) _ _ (is_word_same sides.new)
mark_in_is sides Good t =
    cond-false (is_word sides.new sides.old) _ _ t.apart
    ∙ cond-true (is_word sides.old sides.old) _ _ (is_word_same sides.old)
mark_in_is sides Skip t =
    cond-false (is_word sides.new (codes "skip")) _ _ t.new_no_skip
    ∙ cond-false (is_word sides.old (codes "skip")) _ _ t.old_no_skip

mark_is : (sides : Sides) (m : Mark) (o : Bool) → AreTerms sides
    → mark_of sides o (word_of_mark sides m) ≡ Some (record { mark = m; terms = sides })
mark_is sides m o t =
    ap (λ (k : Option Mark). by_terms sides k (cond o (by_terms open_sides (mark_in open_sides (word_of_mark sides m)) None) None))
    (mark_in_is sides m t)

module _ {F : Type 0} (setting : Setting F) (commits : Commits) (sides : Sides) where
  mark_taken : (told : LogState) (line : ℕ) (m : Mark) (p : ℕ) → AreTerms sides
      → setting.place_of (hex_of commits p) ≡ Ok p
      → take_mark setting line (record { told = told; terms = sides; terms_open = false }) (word_of_mark sides m)
      (hex_of commits p) ≡ Ok (record { told = marked_on setting.graph told m p; terms = sides; terms_open = false })
  mark_taken told line m p t h =
      ap (λ (o : Option Worded). if_ok (worded line o)
      (λ w. if_ok (named line (setting.place_of (hex_of commits p)))
      (λ q. Ok (record {
        told = marked_on setting.graph told w.mark q;
        terms = w.terms;
        terms_open = stays_open false
            w.mark;
      })))) (mark_is sides m false t)
      ∙ ap (λ (r : Result ℕ F). if_ok (named line r)
      (λ q. Ok (record { told = marked_on setting.graph told m q; terms = sides; terms_open = stays_open false m })))
      h
      ∙ ap (λ (b : Bool). Ok (record { told = marked_on setting.graph told m p; terms = sides; terms_open = b }))
      (stays m)
    where
      stays : (n : Mark) → stays_open false n ≡ false
      stays Skip = refl
      stays Good = refl
      stays Bad = refl

  -- Replaying the lines of a run's entries leads on where the entries lead.
  pub replay_retold : (told : LogState) (entries : List Entry) (lines : List LogLine) → AreTerms sides
      → AreResolved setting commits entries
      → map (λ (l : LogLine). l.word) lines ≡ words_of_entries commits sides entries
      → replay_from setting (Some (record { told = told; terms = sides; terms_open = false })) lines ≡ Ok
      (record { told = retold setting.graph told entries; terms = sides; terms_open = false })
  unfolding replay_from retold
  replay_retold told [] [] t r h = refl
  replay_retold told [] (l ∷ lines) t r h = cc
  replay_retold told (Start first_parent terms_given bad goods ∷ entries) lines t r h = absurd r
  replay_retold told (SkippedBase p ∷ entries) lines t r h = replay_retold told entries lines t r h
  replay_retold told (FirstBadFound p ∷ entries) lines t r h = replay_retold told entries lines t r h
  replay_retold told (OnlySkippedLeft ps ∷ entries) lines t r h = replay_retold told entries lines t r h
  replay_retold told (Marked m p ∷ entries) [] t r h = cc
  replay_retold told (Marked m p ∷ entries) (l ∷ lines) t r h =
      let tail : map (λ (l : LogLine). l.word) lines ≡ words_of_entries commits sides entries = cc in
      let head : l.word ≡ MarkWord (word_of_mark sides m) (hex_of commits p) = cc in
      ap (λ (w : LogWord). if_ok (take_line setting (Some (record { told = told; terms = sides; terms_open = false }))
      l.line w) (λ x. replay_from setting (Some x) lines)) head
      ∙ ap (λ (x : Result Replayed (ReplayFault F)). if_ok x (λ y. replay_from setting (Some y) lines))
      (mark_taken told l.line m p t r.0)
      ∙ replay_retold (marked_on setting.graph told m p) entries lines t r.1 tail

  goods_placed : (line : ℕ) (ps : List ℕ) → ArePlaced setting commits ps
      → places_of setting line (map (λ p. hex_of commits p) ps) ≡ Ok ps
  unfolding places_of
  goods_placed line [] h = refl
  goods_placed line (p ∷ ps) h =
      ap (λ (r : Result ℕ F). if_ok (named line r)
      (λ q. if_ok (places_of setting line (map (λ x. hex_of commits x) ps)) (λ qs. Ok (q ∷ qs)))) h.0
      ∙ ap (λ (r : Result (List ℕ) (ReplayFault F)). if_ok r (λ qs. Ok (p ∷ qs))) (goods_placed line ps h.1)

  start_taken : (line : ℕ) (first_parent terms_given : Bool) (bad : ℕ) (goods : List ℕ) → FitsStart sides terms_given
      → term_fault sides.new sides.old ≡ None → ArePlaced setting commits (bad ∷ goods)
      → take_start setting line first_parent (given_term terms_given sides.new) (given_term terms_given sides.old)
      (names_of commits (Some bad) goods)
      ≡ Ok (record {
        told = started setting.graph first_parent terms_given (Some bad) goods;
        terms = sides;
        terms_open = false;
      })
  start_taken line first_parent true bad goods fits are placed =
      ap (λ (o : Option TermFault). if_ok (tried line sides o) (λ x. if_ok (places_of setting line
      (names_of commits (Some bad) goods)) (λ places. Ok (given x places)))) are
      ∙ ap (λ (r : Result (List ℕ) (ReplayFault F)). if_ok r (λ places. Ok (given sides places)))
      (goods_placed line (bad ∷ goods) placed)
    where
      given : Sides → List ℕ → Replayed
      given x places = begun_at setting.graph x first_parent (Some sides.new) (Some sides.old)
          (names_of commits (Some bad) goods) places
  start_taken line first_parent false bad goods fits are placed =
      ap (λ (o : Option TermFault). if_ok (tried line standard_sides o) (λ x. if_ok (places_of setting line
      (names_of commits (Some bad) goods)) (λ places. Ok (given x places))))
      (ap (λ (x : Sides). term_fault x.new x.old) fits ∙ are)
      ∙ ap (λ (r : Result (List ℕ) (ReplayFault F)). if_ok r (λ places. Ok (given standard_sides places)))
      (goods_placed line (bad ∷ goods) placed)
      ∙ ap (λ (x : Sides). Ok (record {
        told = started setting.graph first_parent false (Some bad) goods;
        terms = x;
        terms_open = false;
      })) fits
    where
      given : Sides → List ℕ → Replayed
      given x places = begun_at setting.graph x first_parent None None (names_of commits (Some bad) goods) places

  -- Replaying the lines of a start with both ends, and of entries behind it, leads where they lead.
  pub replay_started : (first_parent terms_given : Bool) (bad : ℕ) (goods : List ℕ) (entries : List Entry)
      (lines : List LogLine)
      → FitsStart sides terms_given → term_fault sides.new sides.old ≡ None → ArePlaced setting commits (bad ∷ goods)
      → AreResolved setting commits entries
      → map (λ (l : LogLine). l.word) lines ≡ words_of_entries commits sides
      (Start first_parent terms_given (Some bad) goods ∷ entries)
      → replay setting lines ≡ Ok (record {
        told = retold setting.graph
            (started setting.graph first_parent terms_given (Some bad) goods) entries;
        terms = sides;
        terms_open = false;
      })
  unfolding replay_from
  replay_started first_parent terms_given bad goods entries [] fits are placed r h = cc
  replay_started first_parent terms_given bad goods entries (l ∷ lines) fits are placed r h =
      let tail : map (λ (l : LogLine). l.word) lines ≡ words_of_entries commits sides entries = cc in
      let head : l.word ≡ start_word commits sides first_parent terms_given (Some bad) goods = cc in
      ap (λ (w : LogWord). if_ok (take_line setting None l.line w) (λ x. replay_from setting (Some x) lines)) head
      ∙ ap (λ (x : Result Replayed (ReplayFault F)). if_ok x (λ y. replay_from setting (Some y) lines))
      (start_taken l.line first_parent terms_given bad goods fits are placed)
      ∙ replay_retold (started setting.graph first_parent terms_given (Some bad) goods) entries lines
      (accepted_from sides are).terms r tail
