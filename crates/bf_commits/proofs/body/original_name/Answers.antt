use Rattle.std.proofs.Common.{option_and_then, sym, ◌∙◌, ap}
use Rattle.bf_oid.specs.Object.{oid_of_hex}
use Rattle.bf_history.specs.Meanings.{original_of}
use Rattle.bf_commits.proofs.body.original_name.Goals as goal

pub returns-in-Some : goal.returns-in-Some
unfolding original_of
returns-in-Some c = c.oid_from_hex.ensures.value ∙ ap oid_of_hex c.as_slice.ensures ∙ sym (ap (option_and_then oid_of_hex) c.in-Some.is)

pub returns-in-None : goal.returns-in-None
unfolding original_of
returns-in-None c = sym (ap (option_and_then oid_of_hex) c.in-None.is)
