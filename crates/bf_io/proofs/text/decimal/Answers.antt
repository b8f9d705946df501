use Rattle.std.proofs.Common.{◌&&◌, get_or, sym, ◌∙◌, ap, arith}
use Rattle.std.specs.Char.{is_ascii_digit}
use Rattle.std.specs.List.{list_all}
use Rattle.std.proofs.lemmas.List.{take_all}
use Rattle.std.proofs.lemmas.List.Folds.{list_all_more}
use Rattle.bf_io.specs.Decimal.{number_after}
use Rattle.bf_io.proofs.Decimals.{number_more, number_more-le, decimal_value-too_large, decimal_value-is}
use Rattle.bf_io.proofs.text.decimal.Goals as goal

pub returns-in_err-checked_mul : goal.returns-in_err-checked_mul
returns-in_err-checked_mul c =
    let most = number_more-le c.args.bytes.now c.loop-digit.digit-index c.loop-digit-test.true in
    c.from_residual.ensures ∙ sym (decimal_value-too_large c.args.bytes.now (omega (arith, most, c.in_err-checked_mul.ensures)))

pub returns-in_err-value : goal.returns-in_err-value
returns-in_err-value c =
    let most = number_more-le c.args.bytes.now c.loop-digit.digit-index c.loop-digit-test.true in
    c.from_residual-in_err-value.ensures
    ∙ sym (decimal_value-too_large c.args.bytes.now (omega (arith, most, c.in_err-value.ensures, c.in_ok-checked_mul.ensures)))

pub loop-digit-preserved : goal.loop-digit-preserved
loop-digit-preserved c =
    let bytes = c.args.bytes.now in
    let i = c.loop-digit.digit-index in
    let next = number_more bytes i c.loop-digit-test.true in
    let digits = list_all_more is_ascii_digit bytes i 0 c.loop-digit-test.true in
    record {
      nonempty = c.loop-digit.invariant.nonempty;
      short = c.loop-digit.invariant.short;
      digits = digits ∙ ap (λ b. b && is_ascii_digit (get_or bytes i 0)) c.loop-digit.invariant.digits
          ∙ sym c.is_ascii_digit.ensures.value ∙ c.if-not-is_ascii_digit.false;
      small = omega (arith, c.in_ok-value.ensures);
      value = omega (arith, next, c.in_ok-value.ensures, c.in_ok-checked_mul.ensures);
    }

pub returns : goal.returns
returns c =
    let bytes = c.args.bytes.now in
    let whole = take_all c.loop-digit.digit-index bytes (omega arith) in
    sym (decimal_value-is bytes c.loop-digit.value c.loop-digit.invariant.nonempty c.loop-digit.invariant.short
    (ap (list_all is_ascii_digit) (sym whole) ∙ c.loop-digit.invariant.digits)
    (ap (number_after 0) (sym whole) ∙ sym c.loop-digit.invariant.value) c.loop-digit.invariant.small)
