use Rattle.std.proofs.Common.{not, ◌==◌, rules}
use Rattle.std.proofs.lemmas.Fn.{filter_same}
use Rattle.bf_core.proofs.claims.end_claim.Goals as goal

pub returns : goal.returns
returns c = filter_same _ (λ k. not (k.worker == c.args.worker)) _ (λ x b f r. search rules) _ _ c.retain.ensures.filtered
