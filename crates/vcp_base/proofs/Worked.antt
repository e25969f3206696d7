-- Worked numerals.
use Rattle.std.specs.Prelude.{◌≡◌, refl, [], ◌∷◌, Some, None, pos, negsuc, codes}
use Rattle.vcp_base.specs.Blanks.{unindented}
use Rattle.vcp_base.specs.Numerals.{numeral_of, integer_of}

zeros : numeral_of (codes "0000000001") ≡ Some 1
zeros = refl

eleven_digits : numeral_of (codes "00000000001") ≡ None
eleven_digits = refl

signed : numeral_of (codes "+1") ≡ None
signed = refl

no_digits : numeral_of [] ≡ None
no_digits = refl

plus_five : integer_of (codes "+5") ≡ Some (pos 5)
plus_five = refl

minus_one : integer_of (codes "-1") ≡ Some (negsuc 0)
minus_one = refl

sign_alone : integer_of (codes "+") ≡ None
sign_alone = refl

two_signs : integer_of (codes "--1") ≡ None
two_signs = refl

blanks : unindented (32 ∷ 9 ∷ codes "5 ") ≡ codes "5 "
blanks = refl
