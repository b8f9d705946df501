use Rattle.std.proofs.Common.{◌≡◌, ◌∙◌}
use Rattle.bf_search.specs.Candidates.{candidate_row}
use Rattle.bf_choice.proofs.Sides.{row_of_sides}
use Rattle.bf_choice.proofs.cands.candidates.Goals as goal

is_row : (c : goal.After-drop-good-inside) → c.and_not.new.self ≡ candidate_row c.args.reach.now c.args.bad c.args.goods.now c.args.first_parent
is_row c = rw (c.fill_in_mode.ensures.row, c.fill_from.ensures.row) at c.and_not.ensures ∙ row_of_sides c.args.reach.now c.args.bad c.args.goods.now
    c.args.first_parent

pub returns-clause-row : goal.returns-clause-row
returns-clause-row c = is_row c

pub returns-clause-mask : goal.returns-clause-mask
returns-clause-mask c = record {
  bad = c.args.bad;
  goods = c.args.goods.now;
  bad_is_place = c.requires.bad;
  goods_are_places = c.requires.goods;
  has_candidates = is_row c;
}
