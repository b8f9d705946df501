use Rattle.std.proofs.Common.{length, ap, ◌∙◌}
use Rattle.std.specs.Option.{unwrap_or}
use Rattle.bf_names.specs.Names.{is_sign}
use Rattle.bf_names.proofs.Forming.{unwrap_or-position}
use Rattle.bf_names.proofs.form.sign_in.Goals as goal

pub returns : goal.returns
returns c = c.unwrap_or.ensures ∙ ap (λ o. unwrap_or o (length c.args.text.now)) c.first_sign.ensures ∙ unwrap_or-position is_sign c.args.text.now
