use Rattle.std.proofs.Common.{◌≡◌, ℕ, Bool, true, false, List, ap, sym, ◌∙◌}
use Rattle.std.specs.List.{list_all}
use Rattle.bf_search.specs.declared.asks.Check.TheVariants.{Passed}
use Rattle.bf_search.specs.Candidates.{is_in, places_of}
use Rattle.bf_search.specs.Bases.{reaches_all, check_bases, check}
use Rattle.bf_choice.proofs.Checked.{reaches_all-by_row, check-of_reached, check-of_bases}
use Rattle.bf_choice.proofs.checks.check.Goals as goal

pub returns-then-has_all : goal.returns-then-has_all
returns-then-has_all c =
    let graph : List (List ℕ) = c.args.reach.now in
    let reached : reaches_all graph c.args.bad c.args.goods.now ≡ true =
    sym (reaches_all-by_row graph c.args.bad c.args.goods.now c.requires.goods)
    ∙ sym (c.has_all.ensures ∙ ap (λ (row : List Bool). list_all (λ good. is_in row good) c.args.goods.now) c.fill_row.ensures.row) ∙ c.if-has_all.true in
    ap Passed c.new-then-has_all.ensures ∙ sym (check-of_reached graph c.args.bad c.args.goods.now c.args.skips.now reached)

pub returns : goal.returns
returns c =
    let graph : List (List ℕ) = c.args.reach.now in
    let not_reached : reaches_all graph c.args.bad c.args.goods.now ≡ false =
    sym (reaches_all-by_row graph c.args.bad c.args.goods.now c.requires.goods)
    ∙ sym (c.has_all.ensures ∙ ap (λ (row : List Bool). list_all (λ good. is_in row good) c.args.goods.now) c.fill_row.ensures.row) ∙ c.if-has_all.false in
    let by_bases : check graph c.args.bad c.args.goods.now c.args.skips.now ≡ check_bases (places_of c.keep_bases.new.row) c.args.bad c.args.goods.now
    c.args.skips.now =
    check-of_bases graph c.args.bad c.args.goods.now c.args.skips.now not_reached
    ∙ ap (λ (bases : List ℕ). check_bases bases c.args.bad c.args.goods.now c.args.skips.now)
    (sym (c.keep_bases.ensures.bases c.args.bad c.fill_row.ensures.row)) in
    rw by_bases c.check_bases.ensures
