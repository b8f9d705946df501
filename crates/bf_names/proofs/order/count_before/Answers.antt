use Rattle.std.proofs.Common.{rules}
use Rattle.std.proofs.lemmas.List.Sorted.{IsPartitionPoint-from_clause}
use Rattle.std.specs.Ordering.{is_lt}
use Rattle.bf_names.specs.Order.{compared}
use Rattle.bf_names.proofs.Ordered.{parted_before}
use Rattle.bf_names.proofs.order.count_before.Goals as goal

pub returns-clause-count : goal.returns-clause-count
returns-clause-count c = λ up.
    IsPartitionPoint-from_clause (λ name. is_lt (compared c.args.digits.now name)) _ _ c.partition_point.ensures.partitioned
    (parted_before c.args.digits.now c.args.names.now up) (λ a r q k. search rules)
