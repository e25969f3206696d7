use Rattle.std.proofs.Common.{◌≡◌, ◌^◌, min, take, true}
use Rattle.std.specs.Char.{is_ascii_digit}
use Rattle.std.specs.List.{list_all}
use Rattle.vcp_base.specs.Numerals.{number_of}
use Rattle.vcp_base.proofs.integers.natural.Given as goal

abbrev pub invariant-digits : goal.invariant-digits
invariant-digits l = (l.number ≡ min (number_of (take l.digit-index l.digits)) (2 ^ 64)) × (list_all is_ascii_digit (take l.digit-index l.digits) ≡ true)
