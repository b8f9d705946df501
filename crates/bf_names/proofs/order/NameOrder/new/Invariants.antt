use Rattle.std.proofs.Common.{◌≡◌, [], map, get_or}
use Rattle.std.specs.List.{range_with_len}
use Rattle.bf_names.specs.Order.{spelled_as}
use Rattle.bf_names.proofs.order.NameOrder.new.Given as goal

abbrev pub invariant-loop-place : goal.invariant-loop-place
invariant-loop-place l =
    l.spelled.items ≡ map (λ place. spelled_as (get_or l.names place (record { 0 = [] })) place) (range_with_len 0 l.place)
