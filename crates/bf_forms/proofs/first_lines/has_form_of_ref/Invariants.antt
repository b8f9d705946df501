use Rattle.std.proofs.Common.{◌≡◌, ◌&&◌, not, length}
use Rattle.std.specs.List.{list_all}
use Rattle.bf_grammar.specs.Forms.{has_two_dots, is_ref_byte}
use Rattle.bf_forms.proofs.first_lines.has_form_of_ref.Given as goal

abbrev pub invariant-loop-rest : goal.invariant-loop-rest
invariant-loop-rest l =
    (list_all is_ref_byte l.text && not (has_two_dots l.text)) ≡ (list_all is_ref_byte l.rest && not (has_two_dots l.rest))

abbrev pub decreases-loop-rest : goal.decreases-loop-rest
decreases-loop-rest l = length l.rest
