use Rattle.bf_names.proofs.Abbreviating.{begins_with-told}
use Rattle.bf_names.proofs.digits.begins_with.Goals as goal

pub returns : goal.returns
returns c = begins_with-told _ _ _ _ c.oid_hex.ensures c.eq_ignore_ascii_case.ensures.test
