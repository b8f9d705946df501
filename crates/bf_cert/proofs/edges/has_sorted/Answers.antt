use Rattle.std.proofs.Common.{◌∙◌}
use Rattle.bf_cert.proofs.Halving.{found}
use Rattle.bf_cert.proofs.edges.has_sorted.Goals as goal

pub returns : goal.returns
returns c = c.is_ok.ensures.value ∙ found c.args.places.now c.args.place c.binary_search.result c.binary_search.ensures.position c.requires
