use Rattle.std.proofs.Common.{subst}
use Rattle.std.specs.List.{IsDistinct}
use Rattle.bf_tables.proofs.Positions.{is_same_name, own_place}
use Rattle.bf_tables.proofs.names.Names.as_slice.Goals as goal

pub returns-clause-distinct : goal.returns-clause-distinct
returns-clause-distinct c =
    λ place name at. own_place c.args.self.now place name (subst (IsDistinct is_same_name) c.self.view_is c.as_slice.ensures.unique) at
