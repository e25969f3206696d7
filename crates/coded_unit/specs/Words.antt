-- Words: a coded word is an integer w, which the constant A of a code splits into a value part and a residue.
use Rattle.std.specs.Prelude.{ℕ, ℤ, pos, negsuc, neg_ℤ, ◌+ℤ◌, ◌*ℤ◌, ◌≤ℤ◌, ◌-◌, ◌^◌, unsigned_abs}
use Rattle.std.specs.Int.{int_div_euclid, int_rem_euclid, int_min, int_max}
use Rattle.vcp_base.specs.declared.code.Profile.{Profile}
use Rattle.vcp_base.specs.Code.{modulus}

-- the residue of an integer modulo A, 0 to A - 1
unfoldable pub modulo : Profile → ℤ → ℕ
modulo p z = unsigned_abs (int_rem_euclid z (pos (modulus p)))

-- the value part of a word: the greatest integer v with A*v at most the word
unfoldable pub value_part : Profile → ℤ → ℤ
value_part p w = int_div_euclid w (pos (modulus p))

-- the word of a value part and a residue, A*v + r
unfoldable pub coded : Profile → ℤ → ℕ → ℤ
coded p v r = pos (modulus p) *ℤ v +ℤ pos r

-- z where z is a word, that is, above -(2^126) and below 2^126; else the word that is nearest to it
abbrev pub nearest_word : ℤ → ℤ
nearest_word z = int_max (neg_ℤ (pos (2 ^ 126 - 1))) (int_min z (pos (2 ^ 126 - 1)))

-- by how much the value part grows where e is added to a word of this residue
abbrev pub carry : Profile → ℕ → ℤ → ℤ
carry p residue e = value_part p (pos residue +ℤ e)

-- v is a value of a type, or one to which a carry was added: its word is far from the ends of words
pub record Near (v : ℤ) : Type 0 where
  pub low : neg_ℤ (pos (2 ^ 64)) ≤ℤ v
  pub high : v ≤ℤ pos (2 ^ 64)

-- z is far from the ends of 64 bits, so that five such integers are added without overflow
abbrev pub Short : ℤ → Type 0
Short z = (negsuc (2 ^ 40) ≤ℤ z) × (z ≤ℤ pos (2 ^ 40))

-- z is far from the ends of 128 bits, so that five such integers are added without overflow
abbrev pub Small : ℤ → Type 0
Small z = (negsuc (2 ^ 72) ≤ℤ z) × (z ≤ℤ pos (2 ^ 72))

-- z is far from the ends of 64 bits by so much that it is added to one of 2^61
abbrev pub Middle : ℤ → Type 0
Middle z = (negsuc (2 ^ 62) ≤ℤ z) × (z ≤ℤ pos (2 ^ 62))
