-- A search that has begun is one over the places of its graph, and has both ends.
use Rattle.std.proofs.Common.{◌≡◌, ◌≢◌, ℕ, true, false, ◌&&◌, nat_lt, List, [], ◌∷◌, length, Option, Some, None, Result, Ok, is_some, refl, ap, subst}
use Rattle.std.proofs.lemmas.Bool.{both_ways}
use Rattle.bf_graph.specs.Graph.{IsGraph}
use Rattle.bf_history.specs.Meanings.{History}
use Rattle.bf_io.specs.declared.shelf.LoadFault.{LoadFault}
use Rattle.bf_replay.specs.Laws.{IsLoaded}
use Rattle.bf_replay.specs.Meaning.{setting_of}
use Rattle.bf_search.specs.declared.outcomes.Mark.TheVariants.{Skip}
use Rattle.bf_search.specs.State.{Search, IsSearchOver}
use Rattle.bf_state.specs.Ends.{HasEnds}
use Rattle.bf_state.proofs.Below.{below_begun, IsSearchOver-from_below}
use Rattle.bf_state.proofs.Causes.{next_has_ends}
use Rattle.bf_words.specs.declared.request.Request.{Request}
use Rattle.bf_output.specs.Beginning.{Begun, begun_by, begun_with_skips, between_ends, with_skip, with_skips}
use Rattle.bf_output.proofs.Begins.{AreNamed, IsBegun, are_named, is_begun}
use Rattle.bf_output.proofs.Loading.{IsWhole, whole_loaded}
use Rattle.bf_output.proofs.Places.{name_below}
use Rattle.bf_output.proofs.Replayed.{GoesOnBehind, goes_on_behind}
use Rattle.bf_output.proofs.Skips.{are_skips}
use Rattle.bf_headline.proofs.Replaying.{replayed_over}

good_named : (goods : List ℕ) → nat_lt 0 (length goods) ≡ true → goods ≢ []
good_named goods h e = both_ways (nat_lt 0 (length goods)) (ap (λ (ps : List ℕ). nat_lt 0 (length ps)) e) h

ends_named : (s : Search) (bad : Option ℕ) → s.bad ≡ bad → (is_some bad && nat_lt 0 (length s.goods)) ≡ true → HasEnds s
ends_named s None e h = absurd (both_ways false refl h)
ends_named s (Some p) e h = record { bad = p; bad_is = e; some_good = good_named s.goods h }

ends_with_skips : (graph : List (List ℕ)) (first : Begun) (ps : List ℕ) → HasEnds first.search → HasEnds (with_skips graph first ps).search
unfolding with_skips
ends_with_skips graph first [] h = h
ends_with_skips graph first (p ∷ ps) h = ends_with_skips graph (with_skip graph first p) ps (next_has_ends graph first.search Skip p h)

bare_over : (request : Request) (words : List (List ℕ)) (file : Option (Result (List ℕ) LoadFault)) (history : History) (bare : Begun) → IsWhole history
    → begun_by request words file history ≡ Ok bare → IsSearchOver history.parents bare.search
bare_over request words None history bare w by =
    let n : AreNamed request history bare = are_named request words history bare w by in
    subst (λ (x : Begun). IsSearchOver history.parents x.search) n.is
    (IsSearchOver-from_below history.parents (length history.parents) (between_ends request (length history.parents) n.bad n.goods).search refl
    (below_begun (length history.parents) request.first_parent n.bad n.goods n.bad_below n.goods_below))
bare_over request words (Some file) history bare w by =
    let on : GoesOnBehind history file bare = goes_on_behind history file bare by in
    subst (λ (x : Begun). IsSearchOver history.parents x.search) on.is
    (replayed_over (setting_of history) (name_below history w) on.log.lines on.replayed on.log.leads)

pub record IsReady (history : History) (first : Begun) : Type 0 where
  pub graph : IsGraph history.parents
  pub over : IsSearchOver history.parents first.search
  pub ends : HasEnds first.search

pub ready : (request : Request) (words : List (List ℕ)) (file : Option (Result (List ℕ) LoadFault)) (history : History) (first : Begun) → IsLoaded history
    → begun_with_skips request words file history ≡ Ok first → IsReady history first
ready request words file history first (limits, commands, end, is) begins =
    let w : IsWhole history = whole_loaded limits commands end history is in
    let b : IsBegun request words file history first = is_begun request words file history first w begins in
    subst (IsReady history) b.is (record {
      graph = w.graph;
      over = (are_skips history.parents b.bare b.places b.within).over (bare_over request words file history b.bare w b.by);
      ends = ends_with_skips history.parents b.bare b.places (ends_named b.bare.search b.bare.search.bad refl b.ends);
    })
