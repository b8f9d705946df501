use Rattle.std.proofs.Common.{◌≡◌, Bool, not, ◌&&◌, List, Some, None, length, ap, sym, ◌∙◌, false}
use Rattle.std.proofs.lemmas.List.{length-replicate}
use Rattle.std.proofs.lemmas.List.Quantifiers.{position-Some}
use Rattle.std.specs.List.{position}
use Rattle.bf_reach.specs.Marks.{marked}
use Rattle.bf_reach.proofs.Marking.{length-marked}
use Rattle.bf_choice.proofs.BaseRows.{length-joined, none_true}
use Rattle.bf_choice.proofs.Checked.{IsSorted, IsSorted-from_rows, check-at_bad, check-at_untested, check-passes}
use Rattle.bf_choice.proofs.checks.check_bases.Goals as goal
use Rattle.bf_choice.proofs.checks.check_bases.Goals.{After-mark_all, After-and_not, After-and_not-2}

pub returns-then-get : goal.returns-then-get
returns-then-get c = sym (check-at_bad c.args.bases c.args.bad c.args.goods.now c.args.skips.now c.requires.bad (sym c.get.ensures ∙ c.if-get.true))

marks_long : (c : After-mark_all) → length c.mark_all.new.out ≡ length c.args.bases
marks_long c = ap length c.mark_all.ensures ∙ length-marked c.clear.new.self c.args.goods.now ∙ ap length c.clear.ensures ∙ length-replicate
    (length c.args.scratch) false ∙ c.requires.scratch

unknown_long : (c : After-and_not) → length c.mark_all.new.out ≡ length c.args.bases → length c.and_not.new.self ≡ length c.args.bases
unknown_long c long = length-joined (λ mine theirs. mine && not theirs) c.args.bases c.mark_all.new.out c.and_not.new.self (sym long) c.and_not.ensures

pub and_not-requires : goal.and_not-requires
and_not-requires c = sym (marks_long ((goal.at.and_not-requires c).After-mark_all))

pub copy_from-requires : goal.copy_from-requires
copy_from-requires c =
    let long : length c.mark_all.new.out ≡ length c.args.bases = marks_long ((goal.at.copy_from-requires c).After-mark_all) in
    long ∙ sym (unknown_long ((goal.at.copy_from-requires c).After-and_not) long)

pub and_not-requires-2 : goal.and_not-requires-2
and_not-requires-2 c =
    ap length c.copy_from.ensures ∙ unknown_long ((goal.at.and_not-requires-2 c).After-and_not) (marks_long ((goal.at.and_not-requires-2 c).After-mark_all)) ∙
    sym c.requires.skips

sorted : (c : After-and_not-2) → IsSorted c.args.bases c.args.goods.now c.args.skips.now c.and_not.new.self c.and_not-2.new.self
sorted c =
    IsSorted-from_rows c.args.bases c.args.goods.now c.args.skips.now c.mark_all.new.out c.and_not.new.self c.copy_from.new.self c.and_not-2.new.self
    (length c.args.scratch) c.requires.scratch c.requires.skips c.requires.goods
    (c.mark_all.ensures ∙ ap (λ (row : List Bool). marked row c.args.goods.now) c.clear.ensures) c.and_not.ensures c.copy_from.ensures c.and_not-2.ensures

pub returns-in-Some : goal.returns-in-Some
returns-in-Some c =
    let found : Some c.in-Some.base ≡ position (λ value. value) c.and_not-2.new.self = c.in-Some.ensures in
    let first = position-Some (λ value. value) c.and_not-2.new.self c.in-Some.base false (sym found) in
    sym (check-at_untested c.args.bad c.in-Some.base c.requires.bad (sym c.get.ensures ∙ c.if-get.false) (sorted ((goal.at.returns-in-Some c).After-and_not-2))
    first.1 first.2)

pub returns : goal.returns
returns c =
    let found : None ≡ position (λ value. value) c.and_not-2.new.self = c.in_default.ensures in
    rw c.in_ok-warned.ensures
    (sym (check-passes c.args.bad c.requires.bad (sym c.get.ensures ∙ c.if-get.false) (sorted ((goal.at.returns c).After-and_not-2))
    (none_true c.and_not-2.new.self found)))
