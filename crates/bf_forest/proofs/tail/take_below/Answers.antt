use Rattle.std.proofs.Common.{List, ℕ, drop, sym, ap, ◌∙◌, subst}
use Rattle.bf_forest.specs.Rests.{IsOld, IsPassed}
use Rattle.bf_forest.proofs.Placed.{passed}
use Rattle.bf_forest.proofs.tail.take_below.Goals as goal

pub returns : goal.returns
returns c =
    let table = c.args.table.now in
    let rest = c.as_slice-rest.result.now in
    let P : List ℕ → Type 0 = IsOld table in
    let Q : List ℕ → Type 0 = λ v. IsPassed table c.args.numbers.now c.append.new.self v c.pass.new.self c.args.key.now in
    subst Q c.as_slice-rest.ensures
    (passed table c.args.numbers.now c.append.new.self rest c.pass.new.self c.args.key.now c.place_of-place.result c.end_of-end.result
    (subst P (sym c.as_slice-rest.ensures) c.requires) c.place_of-place.ensures.within c.place_of-place.ensures.before c.place_of-place.ensures.behind
    c.end_of-end.ensures.there c.end_of-end.ensures.missing c.in_ok-append.ensures
    (c.pass.ensures ∙ ap (drop c.end_of-end.result) (sym c.as_slice-rest.ensures)))
