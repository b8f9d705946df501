use Rattle.bf_search.specs.Reach.{in_mode}
use Rattle.bf_choice.specs.Numbering.{IsNumbered}
use Rattle.bf_choice.proofs.numbering.candidate_graph.Given as goal

abbrev pub invariant-loop-place : goal.invariant-loop-place
invariant-loop-place l = IsNumbered (in_mode l.graph l.first_parent) l.mask l.place l.small
