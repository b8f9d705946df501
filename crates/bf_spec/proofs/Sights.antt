-- What a node has in sight after a mark.
use Rattle.std.proofs.Common.{◌≡◌, ℕ, ◌<◌, Bool, true, false, List, [], ◌∷◌, ◌++◌, Option, Some, None, slice_index, slice_set, length, refl, sym, ap, ◌∙◌}
use Rattle.std.proofs.Common.{subst, ⊎_elim}
use Rattle.std.specs.Option.{IfSome}
use Rattle.std.proofs.lemmas.Bool.{cases_eq}
use Rattle.std.proofs.lemmas.List.{get_or-set_other}
use Rattle.std.proofs.lemmas.Grind.{get_or-set_at}
use Rattle.bf_choice.specs.Ranking.{IsRanking, IsPassed}
use Rattle.bf_choice.proofs.Leading.{inside}
use Rattle.bf_search.specs.declared.asks.Ask.{Ask}
use Rattle.bf_search.specs.declared.asks.Ask.TheVariants.{Test}
use Rattle.bf_search.specs.declared.asks.Step.{Step}
use Rattle.bf_search.specs.declared.outcomes.Mark.{Mark}
use Rattle.bf_search.specs.declared.outcomes.Mark.TheVariants.{Skip}
use Rattle.bf_search.specs.Candidates.{is_in, candidate_row, weights}
use Rattle.bf_search.specs.State.{Search, Asked, ask, mark}
use Rattle.bf_state.specs.Ranked.{IsRankingOf}
use Rattle.bf_state.specs.Session.{Session, with_search, IsSearchBelow}
use Rattle.bf_state.specs.Weighed.{row_below, mask_of}
use Rattle.bf_state.specs.Steps.{tested, followed}
use Rattle.bf_state.proofs.Asks.{ask_leaves}
use Rattle.bf_spec.specs.declared.node.Node.{Node}
use Rattle.bf_spec.specs.declared.node.Order.{Order}
use Rattle.bf_spec.specs.Guessed.{marked_by}
use Rattle.bf_spec.specs.Nodes.{path_of, asked_of, IsChild}
use Rattle.bf_spec.specs.Sights.{IsOrder, IsSight, IsFresh}

-- the candidates do not depend on the skipped places
row_alike : (graph : List (List ℕ)) (bad : Option ℕ) (s t : Search) → s.goods ≡ t.goods → s.first_parent ≡ t.first_parent
    → row_below graph bad s ≡ row_below graph bad t
row_alike graph None s t g f = refl
row_alike graph (Some bad) s t g f = λ i. candidate_row graph bad (g i) (f i)

ranking_alike : (graph : List (List ℕ)) (s t : Search) (ps : List ℕ) → t.bad ≡ s.bad → mask_of graph t ≡ mask_of graph s → t.first_parent ≡ s.first_parent
    → IsRankingOf graph s ps → IsRankingOf graph t ps
ranking_alike graph s t ps b m f h = λ bad is.
    subst (λ (row : List Bool). IsRanking row (weights graph row t.first_parent) bad ps) (sym m)
    (subst (λ (first_parent : Bool). IsRanking (mask_of graph s) (weights graph (mask_of graph s) first_parent) bad ps) (sym f) (h bad (sym b ∙ is)))

-- an ask changes none of it
pub mask_asked : (graph : List (List ℕ)) (s : Search) → mask_of graph (ask graph s).search ≡ mask_of graph s
mask_asked graph s =
    let left : Search = followed s (ask graph s).search.checked (tested (ask graph s).step.ask) in
    ap (λ (t : Search). mask_of graph t) (ask_leaves graph s) ∙ row_alike graph s.bad left s refl refl

pub ranking_asked : (graph : List (List ℕ)) (s : Search) (ps : List ℕ) → IsRankingOf graph s ps → IsRankingOf graph (ask graph s).search ps
ranking_asked graph s ps h =
    ranking_alike graph s (ask graph s).search ps (ap (λ (t : Search). t.bad) (ask_leaves graph s)) (mask_asked graph s)
    (ap (λ (t : Search). t.first_parent) (ask_leaves graph s)) h

pub passed_asked : (graph : List (List ℕ)) (s : Search) (ps : List ℕ) (n : ℕ) → IsPassed s.skips ps n → IsPassed (ask graph s).search.skips ps n
passed_asked graph s ps n h = subst (λ (t : Search). IsPassed t.skips ps n) (sym (ask_leaves graph s)) h

-- nor does a skip, but for the skipped places, of which there are more
pub mask_skipped : (graph : List (List ℕ)) (s : Search) (p : ℕ) → mask_of graph (mark s Skip p) ≡ mask_of graph s
unfolding mark
mask_skipped graph s p = row_alike graph s.bad (mark s Skip p) s refl refl

pub ranking_skipped : (graph : List (List ℕ)) (s : Search) (p : ℕ) (ps : List ℕ) → IsRankingOf graph s ps → IsRankingOf graph (mark s Skip p) ps
unfolding mark
ranking_skipped graph s p ps h = ranking_alike graph s (mark s Skip p) ps refl (mask_skipped graph s p) refl h

pub stays_in : (row : List Bool) (p q : ℕ) → is_in row q ≡ true → is_in (slice_set row p true) q ≡ true
stays_in row p q h =
    ⊎_elim
    (λ same. get_or-set_at row p q true false same (subst (λ n. n < length row) same (inside row q h)))
    (λ other. get_or-set_other row p q true false other ∙ h)
    (cases_eq q p)

pub passed_skipped : (s : Search) (p : ℕ) (ps : List ℕ) (n : ℕ) → IsPassed s.skips ps n → IsPassed (mark s Skip p).skips ps n
unfolding mark
passed_skipped s p ps n h = record { within = h.within; skipped = λ k l. stays_in s.skips p (slice_index ps k) (h.skipped k l) }

-- ---- nodes that are made

-- a state that was copied and marked
pub marked_as : (base before marked : Session) (m : Mark) (p : ℕ) → before ≡ base → marked ≡ with_search before (mark before.search m p)
    → marked ≡ with_search base (mark base.search m p)
marked_as base before marked m p copied is = is ∙ ap (λ (v : Session). with_search v (mark v.search m p)) copied

-- and has asked then
pub asked_as : (graph : List (List ℕ)) (base before marked after : Session) (m : Mark) (p : ℕ) → before ≡ base
    → marked ≡ with_search before (mark before.search m p) → after ≡ with_search marked (ask graph marked.search).search
    → after ≡ with_search base (ask graph (mark base.search m p)).search
asked_as graph base before marked after m p copied is asks = asks ∙ ap (λ (v : Session). with_search v (ask graph v.search).search)
    (marked_as base before marked m p copied is)

pub asked_is : (base : Session) (a : Asked) (node : Node) → node.state ≡ with_search base a.search → node.step ≡ a.step → asked_of node ≡ a
asked_is base a node state step =
    ap (λ (v : Session). record { search = v.search; step = node.step }) state ∙ ap (λ (t : Step). record { search = a.search; step = t }) step ∙ whole a
  where
    whole : (x : Asked) → record { search = x.search; step = x.step } ≡ x
    whole x = refl

pub session_is : (base node : Session) (s : Search) → node ≡ with_search base s → node ≡ with_search base node.search
session_is base node s e = e ∙ sym (ap (λ (v : Session). with_search base v.search) e)

-- a node that has asked after a mark of another
pub child_is : (graph : List (List ℕ)) (parent child : Node) (m : Mark) (p : ℕ) → path_of child ≡ path_of parent ++ m ∷ [] → parent.step.ask ≡ Test p
    → child.state ≡ with_search parent.state (ask graph (mark parent.state.search m p)).search → child.step ≡ (ask graph (mark parent.state.search m p)).step
    → IsSight graph child.state.search child.sight → IsSearchBelow (length graph) child.state.search → IsChild graph parent m child
child_is graph parent child m p path asks state step sight below = record {
  path = path;
  asked = asked_is parent.state (ask graph (mark parent.state.search m p)) child state step ∙ sym
      (ap (λ (a : Ask). ask graph (marked_by parent.state.search m a)) asks);
  session = session_is parent.state child.state (ask graph (mark parent.state.search m p)).search state;
  sight = sight;
  below = below;
}

-- the candidates that an ask had in hand are those of its search
pub fresh_sight : (graph : List (List ℕ)) (s : Search) (path : List Mark) (session : Session) (next : Step) (mask : List Bool) (node : Node)
    → IsFresh path session next mask node → session.search ≡ (ask graph s).search → mask ≡ mask_of graph s
    → IsSight graph node.state.search node.sight
fresh_sight graph s path session next mask node is asks m = record {
  mask = is.mask_is ∙ m ∙ sym (mask_asked graph s) ∙ ap (λ (t : Search). mask_of graph t) (sym (ap (λ (v : Session). v.search) is.state ∙ asks));
  order = subst (λ (o : Option Order). IfSome o (IsOrder graph node.state.search)) (sym is.no_order) tt;
}

pub fresh_child : (graph : List (List ℕ)) (parent child : Node) (m : Mark) (p : ℕ) (path : List Mark) (session : Session) (next : Step) (mask : List Bool)
    → IsFresh path session next mask child → path ≡ path_of parent ++ m ∷ [] → parent.step.ask ≡ Test p
    → session ≡ with_search parent.state (ask graph (mark parent.state.search m p)).search → next ≡ (ask graph (mark parent.state.search m p)).step
    → mask ≡ mask_of graph (mark parent.state.search m p)
    → IsSearchBelow (length graph) session.search → IsChild graph parent m child
fresh_child graph parent child m p path session next mask is longer asks state step m_is below =
    child_is graph parent child m p (is.path_is ∙ longer) asks (is.state ∙ state) (is.step ∙ step)
    (fresh_sight graph (mark parent.state.search m p) path session next mask child is (ap (λ (v : Session). v.search) state) m_is)
    (subst (λ (v : Session). IsSearchBelow (length graph) v.search) (sym is.state) below)
