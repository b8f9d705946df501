use Rattle.std.proofs.Common.{rules, ◌≡◌}
use Rattle.std.specs.Bool.{Decides}
use Rattle.std.proofs.lemmas.Slice.Eq.{slice_eq-Decides}
use Rattle.bf_search.specs.declared.outcomes.Mark.{Mark}
use Rattle.bf_search.specs.declared.outcomes.Mark.TheVariants.{Good, Bad, Skip}
use Rattle.bf_search.specs.contracts.outcomes.MarkPartialEq.TheImpl.{eq-value}
use Rattle.bf_spec.proofs.reroot.is_same.Goals as goal

mark_eq : (a b : Mark) → Decides (eq-value.it a b) (a ≡ b)
mark_eq Good Good = search rules
mark_eq Good Bad = search rules
mark_eq Good Skip = search rules
mark_eq Bad Good = search rules
mark_eq Bad Bad = search rules
mark_eq Bad Skip = search rules
mark_eq Skip Good = search rules
mark_eq Skip Bad = search rules
mark_eq Skip Skip = search rules

pub returns : goal.returns
returns c = slice_eq-Decides mark_eq _ _ _ c.eq.ensures
