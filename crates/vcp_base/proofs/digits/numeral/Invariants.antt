use Rattle.std.proofs.Common.{◌≡◌, ◌^◌, ◌≤◌, ◌<◌, true, take, length}
use Rattle.std.specs.Str.{all_ascii_digits}
use Rattle.std.specs.Str.Parse.{digits_value}
use Rattle.vcp_base.proofs.digits.numeral.Given as goal

abbrev pub invariant-digits : goal.invariant-digits
invariant-digits l = record {
  some : 0 < length l.digits;
  short : length l.digits ≤ 10;
  digits : all_ascii_digits (take l.byte-index l.digits) ≡ true;
  value : l.value ≡ digits_value 10 (take l.byte-index l.digits);
  below : l.value < 10 ^ l.byte-index;
}
