-- WordLaws: how integers split into value parts and residues, and words to which an integer is added.
use Rattle.std.specs.Prelude.{ℕ, ◌≡◌, ◌<◌, ℤ, pos, ◌+ℤ◌, ◌*ℤ◌}
use Rattle.vcp_base.specs.declared.code.Profile.{Profile}
use Rattle.vcp_base.specs.Code.{modulus}
use Rattle.coded_unit.specs.Words.{modulo, value_part, coded, nearest_word, carry, Near, Middle}

-- In each code an integer is the word of its value part and its residue, and of no other value and residue below the
-- constant. A number below the constant is its own residue, and integers that differ by a multiple of the constant have one
-- residue.
pub record WordLaws (p : Profile) : Type 0 where
  pub whole : (z : ℤ) → z ≡ coded p (value_part p z) (modulo p z)
  pub below : (z : ℤ) → modulo p z < modulus p
  pub one : (v w : ℤ) (r s : ℕ) → r < modulus p → s < modulus p → coded p v r ≡ coded p w s → (v ≡ w) × (r ≡ s)
  pub value : (v : ℤ) (r : ℕ) → r < modulus p → value_part p (coded p v r) ≡ v
  pub residue : (v : ℤ) (r : ℕ) → r < modulus p → modulo p (coded p v r) ≡ r
  pub small : (n : ℕ) → n < modulus p → modulo p (pos n) ≡ n
  pub multiple : (z y k : ℤ) → z ≡ y +ℤ pos (modulus p) *ℤ k → modulo p z ≡ modulo p y
  pub zero : coded p (pos 0) 0 ≡ pos 0

-- The word of a near value to which e is added is a word again: its value part grows by what is carried, and its residue is that
-- of the sum. Nothing is cut off at the ends of words.
abbrev pub ShiftLaw : Profile → Type 0
ShiftLaw p =
    (v e : ℤ) (r : ℕ) → r < modulus p → Near v → Middle e →
    nearest_word (coded p v r +ℤ e) ≡ coded p (v +ℤ carry p r e) (modulo p (pos r +ℤ e))
