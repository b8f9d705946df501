use Rattle.std.proofs.Common.{rules, ◌≡◌, ◌&&◌, Bool, List, [], ◌∷◌, refl, ap, ◌∙◌}
use Rattle.std.specs.List.{starts_with}
use Rattle.bf_search.specs.declared.outcomes.Mark.{Mark}
use Rattle.bf_search.specs.declared.outcomes.Mark.TheVariants.{Good, Bad, Skip}
use Rattle.bf_search.specs.contracts.outcomes.MarkPartialEq.TheImpl.{eq-value}
use Rattle.bf_spec.specs.Reroot.{is_mark, begins}
use Rattle.bf_spec.proofs.reroot.begins_with.Goals as goal

eq_is : (m n : Mark) → eq-value.it m n ≡ is_mark m n
eq_is Good Good = search rules
eq_is Good Bad = search rules
eq_is Good Skip = search rules
eq_is Bad Good = search rules
eq_is Bad Bad = search rules
eq_is Bad Skip = search rules
eq_is Skip Good = search rules
eq_is Skip Bad = search rules
eq_is Skip Skip = search rules

starts_as : (ms ns : List Mark) → starts_with eq-value.it ns ms ≡ begins ms ns
starts_as [] ns = refl
starts_as (m ∷ ms) [] = refl
starts_as (m ∷ ms) (n ∷ ns) = ap (λ (b : Bool). b && starts_with eq-value.it ns ms) (eq_is m n) ∙ ap (λ (b : Bool). is_mark m n && b) (starts_as ms ns)

pub returns : goal.returns
returns c = c.starts_with.ensures.value ∙ starts_as c.args.prefix.now c.args.path.now
