use Rattle.std.proofs.Common.{◌≡◌, true, false, sym, get_or, rules}
use Rattle.std.specs.Char.{is_ascii_digit}
use Rattle.vcp_base.proofs.NumeralSteps.{all_digits_more, digits_value_more, digits_below, no_numeral}
use Rattle.vcp_base.proofs.digits.numeral.Goals as goal

pub returns-then-not-is_ascii_digit-clause-value : goal.returns-then-not-is_ascii_digit-clause-value
returns-then-not-is_ascii_digit-clause-value c =
    let here : is_ascii_digit (get_or c.args.digits.now c.digits.byte-index 0) ≡ false = search rules in
    sym (no_numeral c.args.digits.now c.digits.byte-index c.digits-test.true here)

pub digits-preserved : goal.digits-preserved
digits-preserved c =
    let xs = c.args.digits.now in
    let i = c.digits.byte-index in
    let here : is_ascii_digit (get_or xs i 0) ≡ true = search rules in
    record {
      some = c.digits.invariant.some;
      short = c.digits.invariant.short;
      digits = all_digits_more xs i c.digits-test.true c.digits.invariant.digits here;
      value = rw c.digits.invariant.value (sym (digits_value_more xs i c.digits-test.true here));
      below = digits_below c.digits.value i (get_or xs i 0) c.digits.invariant.below here;
    }
