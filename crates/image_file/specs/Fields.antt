-- Fields: the kinds of fields of an image, each with the values that it may hold and their spelling.
use Rattle.std.specs.Prelude.{◌≡◌, ℕ, ◌*◌, ◌^◌, ◌<◌, ◌==◌, ℤ, Bool, true, List, [], ◌∷◌, Some, Result}
use Rattle.std.specs.Int.{w16, w32, w64, byte_len, cast_signed, cast_unsigned}
use mir.Val.{SFits}
use Rattle.vcp_base.specs.declared.ty.Ty.{Ty}
use Rattle.vcp_base.specs.declared.kind.Kind.{Kind}
use Rattle.vcp_base.specs.declared.code.Profile.{Profile}
use Rattle.vcp_base.specs.Code.{admits}
use Rattle.vcp_base.specs.Spellings.{ty_code, kind_code}
use Rattle.image_file.specs.declared.fields.fault.FieldFault.{FieldFault}
use Rattle.image_file.specs.declared.fields.fault.FieldFault.TheVariants.{Magic, Version, Field, Operand, Table}
use Rattle.image_file.specs.Pieces.{FormatPiece, ◌>>=◌, field, byte_field, before}
use Rattle.image_file.specs.Codes.{version_code, version_of, correction_width, type_of, kind_of}

abbrev pub IsByte : ℕ → Type 0
IsByte n = n < 256

abbrev pub Is16 : ℕ → Type 0
Is16 n = n < 2 ^ 16

abbrev pub Is32 : ℕ → Type 0
Is32 n = n < 2 ^ 32

abbrev pub Anything : {A : Type 0} → A → Type 0
Anything a = Unit {0}

-- numbers of two and of four bytes
abbrev pub number16 : (ℕ → Bool) → (ℕ → ℕ → FieldFault) → FormatPiece ℕ
number16 ok bad = field w16 (λ n. Some n) (λ n. n) Is16 ok bad

abbrev pub number32 : (ℕ → Bool) → (ℕ → ℕ → FieldFault) → FormatPiece ℕ
number32 ok bad = field w32 (λ n. Some n) (λ n. n) Is32 ok bad

-- a number of four bytes whose fault stands at its first byte
abbrev pub number : (ℕ → Bool) → FormatPiece ℕ
number ok = number32 ok (λ left n. Field left)

-- a number with a sign, of eight bytes
abbrev pub signed : (ℤ → Bool) → FormatPiece ℤ
signed ok = field w64 (λ n. Some (cast_signed w64 n)) (cast_unsigned w64) (SFits w64) ok (λ left n. Field left)

-- a type of the code
abbrev pub type_field : Profile → (Ty → Bool) → FormatPiece Ty
type_field p ok = byte_field (type_of p) ty_code (λ t. admits p t ≡ true) ok (λ left. Field left)

-- the version, 1 or 2
abbrev pub version_field : FormatPiece Profile
version_field = field w16 version_of version_code Anything (λ p. true) (λ left n. Version left)

abbrev pub kind_field : (Kind → Bool) → FormatPiece Kind
kind_field ok = byte_field kind_of kind_code Anything ok (λ left. Field left)

-- a byte that is always the same, before the others
abbrev pub fixed : {Y : Type 0} → ℕ → FormatPiece Y → FormatPiece Y
fixed b others = before (byte_field (λ n. Some n) (λ n. n) IsByte (λ n. n == b) (λ left. Magic left)) (λ y. b) (λ n. others)

-- what is read by `next` behind bytes that are always these
abbrev pub behind : {X : Type 0} → List ℕ → (List ℕ → Result X FieldFault) → List ℕ → Result X FieldFault
behind [] next bytes = next bytes
behind (b ∷ wanted) next bytes =
    (byte_field (λ n. Some n) (λ n. n) IsByte (λ n. n == b) (λ left. Magic left)).read bytes >>= λ x. behind wanted next x.1

-- the number of an operand
abbrev pub operand : (ℕ → Bool) → FormatPiece ℕ
operand ok = number32 ok (λ left n. Operand left)

-- a residue that must be this one
abbrev pub residue : Profile → ℕ → FormatPiece ℕ
residue p expected =
    field (correction_width p) (λ n. Some n) (λ n. n) (λ n. n < 2 ^ (8 * byte_len (correction_width p))) (λ n. n == expected)
    (λ left n. Table left n expected)
