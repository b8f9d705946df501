-- The skips that words ask for are entries of a run, and lead to the search that they make.
use Rattle.std.proofs.Common.{◌≡◌, ℕ, ◌<◌, true, List, [], ◌∷◌, ◌++◌, length, refl, sym, ap, subst, ◌∙◌, append_assoc, length-set}
use Rattle.std.proofs.lemmas.List.{append-nil}
use Rattle.std.proofs.lemmas.List.Elements.{All-head, All-tail}
use Rattle.std.specs.List.{All}
use Rattle.bf_search.specs.declared.entries.Entry.{Entry}
use Rattle.bf_search.specs.declared.entries.Entry.TheVariants.{Marked}
use Rattle.bf_search.specs.declared.outcomes.Mark.TheVariants.{Skip}
use Rattle.bf_search.specs.Run.{warnings}
use Rattle.bf_search.specs.State.{Search, IsSearchOver, ask, mark}
use Rattle.bf_state.proofs.Asks.{ask_leaves}
use Rattle.bf_terms.specs.Texts.{Known}
use Rattle.bf_log.specs.Resolved.{AreRunEntries}
use Rattle.bf_log.specs.LogState.{LogState, retold}
use Rattle.bf_log.specs.Written.{known_after_all}
use Rattle.bf_log.proofs.EntryWalks.{retold_mark}
use Rattle.bf_log.proofs.Whole.{are_append, retold_append}
use Rattle.bf_output.specs.Beginning.{Begun, with_skip, with_skips}

one_are : (n : ℕ) (warned : List ℕ) (p : ℕ) → p < n → AreRunEntries n (warnings warned ++ Marked Skip p ∷ [])
one_are n [] p h = (h, tt)
one_are n (w ∷ warned) p h = one_are n warned p h

one_known : (known : Known) (warned : List ℕ) (p : ℕ) (more : List Entry)
    → known_after_all known ((warnings warned ++ Marked Skip p ∷ []) ++ more) ≡ known_after_all known more
one_known known [] p more = refl
one_known known (w ∷ warned) p more = one_known known warned p more

one_told : (graph : List (List ℕ)) (told : LogState) (p : ℕ)
    → retold graph told (warnings (ask graph told.search).step.warned ++ Marked Skip p ∷ [])
    ≡ record {
      search = mark (ask graph told.search).search Skip p;
      entries = told.entries ++ (warnings (ask graph told.search).step.warned ++ Marked Skip p ∷ []);
    }
unfolding retold
one_told graph told p = retold_mark graph told (ask graph told.search).step.warned Skip p []

-- a skip keeps the places of a search
one_over : (graph : List (List ℕ)) (s : Search) (p : ℕ) → IsSearchOver graph s → IsSearchOver graph (mark (ask graph s).search Skip p)
unfolding mark
one_over graph s p over = subst (λ (t : Search). IsSearchOver graph (mark t Skip p)) (sym (ask_leaves graph s)) (record {
  bad = over.bad;
  goods = over.goods;
  skips = length-set s.skips p true ∙ over.skips;
  expected = tt;
})

-- what skips add to a search that has begun
pub record AreSkips (graph : List (List ℕ)) (before after : Begun) : Type 0 where
  pub more : List Entry
  pub entries : after.entries ≡ before.entries ++ more
  pub are : AreRunEntries (length graph) more
  pub lead : (earlier : List Entry) → retold graph (record { search = before.search; entries = earlier }) more
      ≡ record { search = after.search; entries = earlier ++ more }
  pub same_sides : after.sides ≡ before.sides
  pub same_known : after.known ≡ before.known
  pub tell_nothing : (known : Known) → known_after_all known more ≡ known
  pub over : IsSearchOver graph before.search → IsSearchOver graph after.search

pub are_skips : (graph : List (List ℕ)) (first : Begun) (ps : List ℕ) → All (λ p. p < length graph) ps → AreSkips graph first (with_skips graph first ps)
unfolding with_skips retold
are_skips graph first [] within = record {
  more = [];
  entries = sym (append-nil first.entries);
  are = tt;
  lead = λ earlier. ap (λ (es : List Entry). record { search = first.search; entries = es }) (sym (append-nil earlier));
  same_sides = refl;
  same_known = refl;
  tell_nothing = λ known. refl;
  over = λ over. over;
}
are_skips graph first (p ∷ ps) within =
    let one : List Entry = warnings (ask graph first.search).step.warned ++ Marked Skip p ∷ [] in
    let rest : AreSkips graph (with_skip graph first p) (with_skips graph (with_skip graph first p) ps) =
    are_skips graph (with_skip graph first p) ps (All-tail (λ q. q < length graph) p ps within) in
    record {
      more = one ++ rest.more;
      entries = rest.entries ∙ append_assoc first.entries one rest.more;
      are = are_append (length graph) one rest.more
          (one_are (length graph) (ask graph first.search).step.warned p (All-head (λ q. q < length graph) p ps within)) rest.are;
      lead = λ earlier.
          retold_append graph (record { search = first.search; entries = earlier }) one rest.more
          ∙ ap (λ (t : LogState). retold graph t rest.more) (one_told graph (record { search = first.search; entries = earlier }) p)
          ∙ rest.lead (earlier ++ one)
          ∙ ap (λ (es : List Entry). record { search = (with_skips graph (with_skip graph first p) ps).search; entries = es })
          (append_assoc earlier one rest.more);
      same_sides = rest.same_sides;
      same_known = rest.same_known;
      tell_nothing = λ known. one_known known (ask graph first.search).step.warned p rest.more ∙ rest.tell_nothing known;
      over = λ over. rest.over (one_over graph first.search p over);
    }
