use Rattle.std.proofs.Common.{sym, ◌∙◌}
use Rattle.vcp_base.proofs.IntegerTexts.{no_number, no_digits, whole_number, has_no_sign}
use Rattle.vcp_base.proofs.integers.natural.Goals as goal

pub returns-then-not-is_ascii_digit-clause-value : goal.returns-then-not-is_ascii_digit-clause-value
returns-then-not-is_ascii_digit-clause-value c =
    no_number c.args.digits.now c.digits.digit-index c.digits-test.true (sym c.is_ascii_digit.ensures.value ∙ c.if-not-is_ascii_digit.true)

pub returns-then-is_empty-clause-value : goal.returns-then-is_empty-clause-value
returns-then-is_empty-clause-value c = no_digits c.args.digits.now (sym c.is_empty.ensures ∙ c.if-is_empty.true)

pub returns-clause-value : goal.returns-clause-value
returns-clause-value c =
    whole_number c.args.digits.now c.digits.digit-index c.digits.number c.digits.invariant.0 c.digits.invariant.1 c.digits-test.false
    (sym c.is_empty.ensures ∙ c.if-is_empty.false)

pub returns-clause-no_sign : goal.returns-clause-no_sign
returns-clause-no_sign c = has_no_sign c.digits.number _ c.digits.invariant.0
