use Rattle.std.proofs.Common.{◌≡◌, true, take}
use Rattle.std.specs.List.{list_all}
use Rattle.bf_search.specs.Candidates.{is_in}
use Rattle.bf_choice.proofs.marks.has_all.Given as goal

abbrev pub invariant-loop-place : goal.invariant-loop-place
invariant-loop-place l = list_all (λ place. is_in l.row place) (take l.place-index l.places) ≡ true
