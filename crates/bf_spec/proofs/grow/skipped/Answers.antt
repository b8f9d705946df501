use Rattle.std.proofs.Common.{ℕ, List, length, Some, sym, ap, ◌∙◌, subst}
use Rattle.std.specs.Arc.{arc_value}
use Rattle.bf_choice.specs.Ranking.{IsPassed}
use Rattle.bf_search.specs.declared.outcomes.Mark.TheVariants.{Skip}
use Rattle.bf_search.specs.State.{Search, ask, mark}
use Rattle.bf_state.specs.Ranked.{IsRankingOf}
use Rattle.bf_state.specs.Session.{Session, IsSearchBelow}
use Rattle.bf_state.specs.Weighed.{mask_of}
use Rattle.bf_spec.specs.declared.node.Order.{Order}
use Rattle.bf_spec.specs.declared.node.Sight.{Sight}
use Rattle.bf_spec.specs.Sights.{IsSight}
use Rattle.bf_spec.proofs.Sights.{mask_asked, ranking_asked, passed_asked, mask_skipped, ranking_skipped, passed_skipped, marked_as, asked_as, child_is}
use Rattle.bf_spec.proofs.grow.skipped.Goals as goal

pub advance_ranked-requires-clause-mask : goal.advance_ranked-requires-clause-mask
advance_ranked-requires-clause-mask c =
    let graph = c.args.reach.now in
    let base = c.args.parent.now.state in
    let marked = marked_as base c.in_ok-state.state c.mark.new.self Skip c.args.place c.in_ok-state.ensures c.in_ok-mark.ensures.ok in
    c.deref.ensures ∙ c.in_ok-mask.ensures ∙ c.requires.sight.mask ∙ sym (mask_skipped graph base.search c.args.place) ∙ ap
    (λ (v : Session). mask_of graph v.search) (sym marked)

pub advance_ranked-requires-clause-ranking : goal.advance_ranked-requires-clause-ranking
advance_ranked-requires-clause-ranking c =
    let graph = c.args.reach.now in
    let base = c.args.parent.now.state in
    let ps : List ℕ = arc_value c.in_ok-before.before.ranking in
    let marked = marked_as base c.in_ok-state.state c.mark.new.self Skip c.args.place c.in_ok-state.ensures c.in_ok-mark.ensures.ok in
    subst (λ (qs : List ℕ). IsRankingOf graph c.mark.new.self.search qs) (sym c.deref-2.ensures)
    (subst (λ (v : Session). IsRankingOf graph v.search ps) (sym marked) (ranking_skipped graph base.search c.args.place ps c.in_ok-before.ensures.ranking))

pub advance_ranked-requires-clause-passed : goal.advance_ranked-requires-clause-passed
advance_ranked-requires-clause-passed c =
    let base = c.args.parent.now.state in
    let ps : List ℕ = arc_value c.in_ok-before.before.ranking in
    let passed : ℕ = c.in_ok-before.before.passed in
    let marked = marked_as base c.in_ok-state.state c.mark.new.self Skip c.args.place c.in_ok-state.ensures c.in_ok-mark.ensures.ok in
    subst (λ (qs : List ℕ). IsPassed c.mark.new.self.search.skips qs passed) (sym c.deref-2.ensures)
    (subst (λ (v : Session). IsPassed v.search.skips ps passed) (sym marked) (passed_skipped base.search c.args.place ps passed c.in_ok-before.ensures.passed))

pub next-requires-clause-asks : goal.next-requires-clause-asks
next-requires-clause-asks c = (
  c.args.reach.now,
  asked_as c.args.reach.now c.args.parent.now.state c.in_ok-state.state c.mark.new.self c.advance_ranked.new.self Skip c.args.place c.in_ok-state.ensures
      c.in_ok-mark.ensures.ok c.in_ok-ranked.ensures.state,
)

pub returns : goal.returns
returns c =
    let graph = c.args.reach.now in
    let base = c.args.parent.now.state in
    let place : ℕ = c.args.place in
    let ps : List ℕ = arc_value c.in_ok-before.before.ranking in
    let passed : ℕ = c.in_ok-ranked.ranked.passed in
    let after : Search = mark base.search Skip place in
    let marked = marked_as base c.in_ok-state.state c.mark.new.self Skip place c.in_ok-state.ensures c.in_ok-mark.ensures.ok in
    let asked = asked_as graph base c.in_ok-state.state c.mark.new.self c.advance_ranked.new.self Skip place c.in_ok-state.ensures c.in_ok-mark.ensures.ok
    c.in_ok-ranked.ensures.state in
    let kept = c.in_ok-kept.ensures ∙ asked in
    let here : IsPassed c.mark.new.self.search.skips ps passed = subst (λ (qs : List ℕ). IsPassed c.mark.new.self.search.skips qs passed) c.deref-2.ensures
    c.in_ok-ranked.ensures.passed in
    let order : Order = record { ranking = c.in_ok-before.before.ranking; passed = passed } in
    let sight : Sight = record { mask = c.in_ok-mask.mask; order = Some order } in
    let seen : IsSight graph (ask graph after).search sight = record {
      mask = c.in_ok-mask.ensures ∙ c.requires.sight.mask ∙ sym (mask_skipped graph base.search place) ∙ sym (mask_asked graph after);
      order = record {
        ranking = ranking_asked graph after ps (ranking_skipped graph base.search place ps c.in_ok-before.ensures.ranking);
        passed = passed_asked graph after ps passed (subst (λ (v : Session). IsPassed v.search.skips ps passed) marked here);
      };
    } in
    child_is graph c.args.parent.now _ Skip place c.in_ok-path.ensures c.requires.asks kept
    (c.in_ok-ranked.ensures.step ∙ ap (λ (v : Session). (ask graph v.search).step) marked)
    (subst (λ (v : Session). IsSight graph v.search sight) (sym kept) seen)
    (subst (λ (v : Session). IsSearchBelow (length graph) v.search) (sym c.in_ok-kept.ensures)
    (subst (λ (n : ℕ). IsSearchBelow n c.advance_ranked.new.self.search) (ap (λ (v : Session). v.len) asked ∙ sym c.requires.len) c.len.ensures.below))
