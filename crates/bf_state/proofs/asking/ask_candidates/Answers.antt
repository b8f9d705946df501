use Rattle.std.proofs.Common.{◌≡◌, List, ℕ, Option, [], ap, sym, ◌∙◌}
use Rattle.bf_search.specs.Candidates.{candidates}
use Rattle.bf_search.specs.State.{Search, best_of}
use Rattle.bf_state.specs.Session.{Session}
use Rattle.bf_state.specs.Steps.{ending, ask_of_best}
use Rattle.bf_state.proofs.Asks.{listed, among_ends, among_is_best}
use Rattle.bf_state.proofs.asking.ask_candidates.Goals as goal

pub returns-in-Some : goal.returns-in-Some
returns-in-Some c =
    let s : Search = c.args.state.now.search in
    let places : c.in_ok-places.places ≡ candidates c.args.reach.now c.args.bad s.goods s.first_parent =
    listed c.args.reach.now s c.args.bad _ _ _ _ c.in_ok-places.ensures c.in_ok-mask.ensures.row
    (c.as_slice-goods.ensures ∙ ap (λ (x : Session). x.search.goods) c.state.view_is) (ap (λ (x : Session). x.search.first_parent) c.state.view_is) in
    sym (among_ends s c.args.bad [] _ (best_of c.args.reach.now s c.args.bad) c.in-Some.ask
    (ap (λ (ps : List ℕ). ending ps c.args.bad) (sym (c.as_slice.ensures ∙ places)) ∙ sym c.in-Some.ensures))

pub returns : goal.returns
returns c =
    let s : Search = c.args.state.now.search in
    let places : c.in_ok-places.places ≡ candidates c.args.reach.now c.args.bad s.goods s.first_parent =
    listed c.args.reach.now s c.args.bad _ _ _ _ c.in_ok-places.ensures c.in_ok-mask.ensures.row
    (c.as_slice-goods.ensures ∙ ap (λ (x : Session). x.search.goods) c.state.view_is) (ap (λ (x : Session). x.search.first_parent) c.state.view_is) in
    c.ask_of_best.ensures ∙ ap (λ (ps : List ℕ). ask_of_best ps c.in_ok-best.best) places
    ∙ ap (λ (o : Option ℕ). ask_of_best (candidates c.args.reach.now c.args.bad s.goods s.first_parent) o) c.in_ok-best.ensures
    ∙ sym (among_is_best s c.args.bad [] _ (best_of c.args.reach.now s c.args.bad)
    (ap (λ (ps : List ℕ). ending ps c.args.bad) (sym (c.as_slice.ensures ∙ places)) ∙ sym c.in_default.ensures))
