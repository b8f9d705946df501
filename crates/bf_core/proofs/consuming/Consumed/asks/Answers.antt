use Rattle.std.proofs.Common.{◌↔◌, Bool, sym, ◌∙◌}
use Rattle.std.specs.Prelude.{IsTrue}
use Rattle.bf_spec.specs.Tree.{IsAskedIn}
use Rattle.bf_core.proofs.Joining.{asks_at_root, if_ok_map, iff_trans}
use Rattle.bf_core.proofs.consuming.Consumed.asks.Goals as goal

pub returns-clause-asks : goal.returns-clause-asks
returns-clause-asks c =
    if_ok_map {P = λ (asked : Bool). IsTrue asked ↔ IsAskedIn c.args.self.now.tree c.args.table.now c.args.place}
    c.is_asked.result
    (λ asked h. iff_trans h
    (asks_at_root c.args.self.now c.args.table.now c.requires.asked c.args.place c.requires.unknown (sym c.has_ended.ensures ∙ c.if-has_ended.false)))
    c.is_asked.ensures.asked
