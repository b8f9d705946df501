use Rattle.std.proofs.Common.{◌≡◌}
use Rattle.std.specs.Str.{IsValidUpTo, valid_up_to}
use Rattle.bf_commits.proofs.Texts.{is_text_told}
use Rattle.bf_commits.proofs.contents.is_utf8.Goals as goal

pub returns : goal.returns
returns c =
    is_text_told (λ s. s.now ≡ c.args.bytes.now) (λ e. IsValidUpTo c.args.bytes.now (valid_up_to e)) c.args.bytes.now c.from_utf8.result c.is_ok.result
    c.is_ok.ensures.value c.from_utf8.ensures.cases
