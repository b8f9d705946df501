use Rattle.std.proofs.Common.{List, [], ◌∷◌, ◌++◌, ap, ◌∙◌}
use Rattle.bf_state.specs.Session.{Session}
use Rattle.bf_spec.specs.declared.kept.Marking.{Marking}
use Rattle.bf_spec.proofs.Keeping.{longer_kept, longer_is, longer_marks}
use Rattle.bf_spec.proofs.kept.Kept.next.Goals as goal

pub invariant_of-result : goal.invariant_of-result
invariant_of-result c =
    let all = c.in_ok-push.ensures.items ∙ ap (λ (xs : List Marking). xs ++ record { mark = c.args.mark; place = c.args.place } ∷ [])
    (c.in_ok-extend_from_slice.ensures.items ∙ ap (λ (xs : List Marking). xs ++ c.as_slice.result.now) c.in_ok-marks.ensures.items ∙ c.as_slice.ensures.value) in
    longer_kept _ _ _
    (longer_is c.requires.asks.0 _ _ _ _ _ _ _ _ c.args.mark c.args.place c.args.self.now _ c.in_ok-try_clone.ensures all c.self.view_is
    (c.state.view_is ∙ c.requires.asks.1))
    c.state.invariant
    (longer_marks _ _ c.args.self.now _ _ c.args.mark c.args.place c.in_ok-try_clone.ensures (ap (λ (v : Session). v.len) c.self.view_is) all
    c.self.invariant.marks c.requires.place)

pub returns : goal.returns
returns c =
    let all = c.in_ok-push.ensures.items ∙ ap (λ (xs : List Marking). xs ++ record { mark = c.args.mark; place = c.args.place } ∷ [])
    (c.in_ok-extend_from_slice.ensures.items ∙ ap (λ (xs : List Marking). xs ++ c.as_slice.result.now) c.in_ok-marks.ensures.items ∙ c.as_slice.ensures.value) in
    longer_is c.requires.asks.0 _ _ _ _ _ _ _ _ c.args.mark c.args.place c.args.self.now _ c.in_ok-try_clone.ensures all c.self.view_is
    (c.state.view_is ∙ c.requires.asks.1)
    ∙ c.state.view_is
