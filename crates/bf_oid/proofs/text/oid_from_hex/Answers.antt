-- Where hex text is refused, and where not: what the call of `hex` says, by hex's own lemma on it.
use Rattle.std.proofs.Common.{refl, sym, ap, ◌∙◌, is_some}
use Rattle.std.proofs.lemmas.Bool.{false≢true}
use Rattle.hex.proofs.HexLemmas.{IsOk-written, IsOk-decode_sized}
use Rattle.hex.specs.Hex.{decode_sized}
use Rattle.bf_oid.proofs.text.oid_from_hex.Goals as goal

pub returns-in_err-ok-clause-found : goal.returns-in_err-ok-clause-found
returns-in_err-ok-clause-found c =
    let text = c.args.text.now in
    let answer = IsOk-written (decode_sized text 20) c.decode_to_slice.result c.decode_to_slice.new.out c.decode_to_slice.ensures.value in
    let refused = c.in_err-ok.ensures.variant in
    (λ h. absurd (false≢true (ap is_some (sym c.from_residual.ensures) ∙ h)), λ h. cc (refused, answer.1 ((IsOk-decode_sized text 20).1 h)))

pub returns-clause-found : goal.returns-clause-found
returns-clause-found c =
    let text = c.args.text.now in
    let answer = IsOk-written (decode_sized text 20) c.decode_to_slice.result c.decode_to_slice.new.out c.decode_to_slice.ensures.value in
    (λ h. (IsOk-decode_sized text 20).0 (answer.0 (sym c.in_ok-ok.ensures.variant)), λ h. refl)
