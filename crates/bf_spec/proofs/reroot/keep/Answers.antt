use Rattle.std.proofs.Common.{rules}
use Rattle.std.proofs.lemmas.Fn.{filter_same}
use Rattle.bf_spec.specs.Nodes.{path_of}
use Rattle.bf_spec.specs.Reroot.{begins}
use Rattle.bf_spec.proofs.reroot.keep.Goals as goal

pub returns : goal.returns
returns c = filter_same _ (λ n. begins c.args.prefix.now (path_of n)) _ (λ x b f r. search rules) _ _ c.retain.ensures.filtered
