use Rattle.std.proofs.Common.{rules}
use Rattle.std.proofs.lemmas.List.Sorted.{IsPartitionPoint-from_clause}
use Rattle.std.specs.Ordering.{is_le}
use Rattle.bf_names.specs.Order.{compared}
use Rattle.bf_names.proofs.Ordered.{parted_up_to}
use Rattle.bf_names.proofs.order.count_up_to.Goals as goal

pub returns-clause-count : goal.returns-clause-count
returns-clause-count c = λ up.
    IsPartitionPoint-from_clause (λ name. is_le (compared c.args.digits.now name)) _ _ c.partition_point.ensures.partitioned
    (parted_up_to c.args.digits.now c.args.names.now up) (λ a r q k. search rules)
