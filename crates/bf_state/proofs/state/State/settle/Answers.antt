use Rattle.std.proofs.Common.{◌≡◌, ℕ, Bool, true, false, ◌&&◌, List, Some, None, set, sym, ap, ◌∙◌}
use Rattle.bf_search.specs.declared.outcomes.Mark.{Mark}
use Rattle.bf_search.specs.State.{is_place, is_expected, mark}
use Rattle.bf_state.specs.contracts.state.State.{the_view}
use Rattle.bf_state.specs.declared.state.State.TheInside.{Inside}
use Rattle.bf_state.specs.Session.{Session, with_search}
use Rattle.bf_state.proofs.Below.{settled_good, settled_bad, settled_skip}
use Rattle.bf_state.proofs.state.State.settle.Goals as goal
use Rattle.bf_state.proofs.state.State.settle.Goals.{in-Good, in-Bad, in-Skip}

pub returns : goal.returns
returns c =
    let now : Session = c.args.self.now in
    let place : ℕ = c.args.place in
    let asked : Bool = c.is_place-asked.result in
    let asked_is : asked ≡ is_expected now.search place = c.is_place-asked.ensures ∙ ap (λ (v : Session). is_place v.search.expected place) c.self.view_is in
    elim c.match-mark.branch [
      | in-Good w ↦ ap (λ (x : Inside). the_view (record x { expected = None })) w.self-inside-is
          ∙ ap (λ (v : Session). with_search v (record v.search { checked = v.search.checked && asked; expected = None; bad_asked = false })) c.self.view_is
          ∙ settled_good now place asked (c.requires.added w.in-Good.is) asked_is
          ∙ ap (λ (m : Mark). with_search now (mark now.search m place)) (sym w.in-Good.is)
      | in-Bad w ↦ ap (λ (x : Inside). the_view (record x { expected = None })) w.self-inside-is
          ∙ ap (λ (v : Session). with_search v (record v.search { bad = Some place; checked = v.search.checked && asked; expected = None; bad_asked = asked }))
          c.self.view_is
          ∙ settled_bad now place asked asked_is
          ∙ ap (λ (m : Mark). with_search now (mark now.search m place)) (sym w.in-Bad.is)
      | in-Skip w ↦ ap (λ (x : Inside). the_view (record x { expected = None })) w.self-inside-is
          ∙ ap (λ (k : List Bool). the_view (record c.self.inside { skips = k; expected = None })) w.set.ensures
          ∙ ap (λ (v : Session). with_search v (record v.search { skips = set v.search.skips place true; expected = None })) c.self.view_is
          ∙ settled_skip now place
          ∙ ap (λ (m : Mark). with_search now (mark now.search m place)) (sym w.in-Skip.is)
    ]
