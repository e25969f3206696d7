-- Equation: the residue of a telegram is the expected one exactly where the signatures differ by what was altered.
use Rattle.std.proofs.Common.{ℕ, ◌≡◌, ◌==◌, ◌<◌, ◌+◌, true, ℤ, pos, ◌+ℤ◌, ◌-ℤ◌, ◌*ℤ◌, ap, ◌∙◌, arith}
use Rattle.std.proofs.lemmas.Int.{ints}
use Rattle.std.proofs.lemmas.Bool.Decides.{same_from_decides, Decides-eqb}
use Rattle.vcp_base.specs.declared.code.Profile.{Profile}
use Rattle.vcp_base.specs.declared.ty.Ty.TheVariants as ty
use Rattle.vcp_base.specs.Code.{modulus}
use Rattle.vcp_base.specs.Types.{fits}
use Rattle.coded_unit.specs.Words.{modulo, value_part, coded, nearest_word, carry, Near, Middle}
use Rattle.coded_unit.specs.WordLaws.{WordLaws, ShiftLaw}

-- a DINT is near
pub dint_near : (v : ℤ) → fits ty.Dint v ≡ true → Near v
dint_near v h = record { low = grind (arith, ints); high = grind (arith, ints) }

-- what stays of signatures b and l, one with the stamp d and e, the other with the stamp
pub to_equation : (p : Profile) → WordLaws p → (b l d : ℕ) (e : ℤ) → 0 < modulus p → modulo p (pos (b + d) +ℤ e) ≡ l + d
    → modulo p (pos b +ℤ e -ℤ pos l) ≡ 0
unfolding coded
to_equation p laws b l d e positive h =
    let z = pos (b + d) +ℤ e in
    let k = value_part p z in
    let whole : z ≡ pos (modulus p) *ℤ k +ℤ pos (modulo p z) = laws.whole z in
    let found : pos (modulo p z) ≡ pos (l + d) = ap (λ n. pos n) h in
    let same : pos b +ℤ e -ℤ pos l ≡ pos 0 +ℤ pos (modulus p) *ℤ k = omega (arith, ints) in
    laws.multiple (pos b +ℤ e -ℤ pos l) (pos 0) k same ∙ laws.small 0 positive

pub from_equation : (p : Profile) → WordLaws p → (b l d : ℕ) (e : ℤ) → l + d < modulus p → modulo p (pos b +ℤ e -ℤ pos l) ≡ 0
    → modulo p (pos (b + d) +ℤ e) ≡ l + d
unfolding coded
from_equation p laws b l d e below h =
    let y = pos b +ℤ e -ℤ pos l in
    let k = value_part p y in
    let whole : y ≡ pos (modulus p) *ℤ k +ℤ pos (modulo p y) = laws.whole y in
    let none : pos (modulo p y) ≡ pos 0 = ap (λ n. pos n) h in
    let same : pos (b + d) +ℤ e ≡ pos (l + d) +ℤ pos (modulus p) *ℤ k = omega (arith, ints) in
    laws.multiple (pos (b + d) +ℤ e) (pos (l + d)) k same ∙ laws.small (l + d) below

pub same_test : (p : Profile) → WordLaws p → (b l d : ℕ) (e : ℤ) → l + d < modulus p
    → (modulo p (pos (b + d) +ℤ e) == l + d) ≡ (modulo p (pos b +ℤ e -ℤ pos l) == 0)
same_test p laws b l d e below =
    let one = Decides-eqb (modulo p (pos (b + d) +ℤ e)) (l + d) in
    let other = Decides-eqb (modulo p (pos b +ℤ e -ℤ pos l)) 0 in
    same_from_decides (modulo p (pos (b + d) +ℤ e) == l + d) (modulo p (pos b +ℤ e -ℤ pos l) == 0) one
    (λ t. from_equation p laws b l d e below (other.0 t), λ h. other.1 (to_equation p laws b l d e (omega arith) h))

-- the parts of the word of a near value and a residue r to which e is added
pub shifted_residue : (p : Profile) → WordLaws p → ShiftLaw p → (v e : ℤ) (r : ℕ) → r < modulus p → Near v → Middle e
    → modulo p (nearest_word (coded p v r +ℤ e)) ≡ modulo p (pos r +ℤ e)
shifted_residue p laws shift v e r below near middle =
    ap (modulo p) (shift v e r below near middle) ∙ laws.residue (v +ℤ carry p r e) (modulo p (pos r +ℤ e)) (laws.below (pos r +ℤ e))

pub shifted_value : (p : Profile) → WordLaws p → ShiftLaw p → (v e : ℤ) (r : ℕ) → r < modulus p → Near v → Middle e
    → value_part p (nearest_word (coded p v r +ℤ e)) ≡ v +ℤ carry p r e
shifted_value p laws shift v e r below near middle =
    ap (value_part p) (shift v e r below near middle) ∙ laws.value (v +ℤ carry p r e) (modulo p (pos r +ℤ e)) (laws.below (pos r +ℤ e))

-- nothing is carried where nothing is added
pub no_carry : (p : Profile) → WordLaws p → (r : ℕ) → r < modulus p → carry p r (pos 0) ≡ pos 0
unfolding coded
no_carry p laws r below =
    let zero : pos r +ℤ pos 0 ≡ pos (modulus p) *ℤ pos 0 +ℤ pos r = omega (arith, ints) in
    ap (value_part p) zero ∙ laws.value (pos 0) r below

-- signatures that differ by a multiple of the constant are one
pub same_signature : (p : Profile) → WordLaws p → (b l : ℕ) → b < modulus p → l < modulus p → modulo p (pos b +ℤ pos 0 -ℤ pos l) ≡ 0 → b ≡ l
same_signature p laws b l under below h =
    let plain : pos b ≡ pos (b + 0) +ℤ pos 0 = omega (arith, ints) in
    let there : modulo p (pos (b + 0) +ℤ pos 0) ≡ l + 0 = from_equation p laws b l 0 (pos 0) (omega arith) h in
    let here : modulo p (pos b) ≡ l + 0 = ap (modulo p) plain ∙ there in
    let own : modulo p (pos b) ≡ b = laws.small b under in
    omega arith
