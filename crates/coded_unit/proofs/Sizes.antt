-- Sizes: the words of right answers lie far from the ends of words.
use Rattle.std.proofs.Common.{refl, ℕ, ◌≡◌, ◌<◌, ◌^◌, Bool, true, false, cond, ◌&&◌, ℤ, pos, negsuc, ◌≤ℤ◌, T, unsigned_abs, Ok, Err, arith}
use Rattle.std.specs.Prelude.{int_le}
use Rattle.std.proofs.lemmas.Int.{ints}
use Rattle.vcp_base.specs.declared.code.Profile.{Profile}
use Rattle.vcp_base.specs.declared.code.Profile.TheVariants as profile
use Rattle.vcp_base.specs.declared.kind.StopKind.TheVariants as stop
use Rattle.vcp_base.specs.declared.ty.Ty.{Ty}
use Rattle.vcp_base.specs.declared.ty.Ty.TheVariants as ty
use Rattle.vcp_base.specs.Code.{modulus}
use Rattle.vcp_base.specs.Kinds.{value, operands_fit, divides_by_zero}
use Rattle.vcp_base.specs.Types.{least, greatest, fits}
use Rattle.coded_unit.specs.declared.call.Call.{Call}
use Rattle.coded_unit.specs.Words.{coded, value_part}
use Rattle.coded_unit.specs.Right.{answer_of, residue_of, LeavesRoom, Right}
use Rattle.coded_unit.proofs.Modular.{modulo_below}

both : (a b : Bool) → (a && b) ≡ true → (a ≡ true) × (b ≡ true)
both true b h = (refl, h)
both false b h = absurd cc

is_true : (b : Bool) → b ≡ true → T b
is_true true h = tt
is_true false h = absurd cc

pub at_most : (x y : ℤ) → int_le x y ≡ true → x ≤ℤ y
at_most x y h = record { le = is_true (int_le x y) h }

-- the values of each type have 64 bits
bounds : (t : Ty) (v : ℤ) → least t ≤ℤ v → v ≤ℤ greatest t → (negsuc (2 ^ 63) ≤ℤ v) × (v ≤ℤ pos (2 ^ 63))
bounds ty.Bool v low high = (omega (arith, ints), omega (arith, ints))
bounds ty.Int v low high = (omega (arith, ints), omega (arith, ints))
bounds ty.Dint v low high = (omega (arith, ints), omega (arith, ints))
bounds ty.Lint v low high = (omega (arith, ints), omega (arith, ints))

-- their words are below 2^125 in size
small : (p : Profile) (v : ℤ) (r : ℕ) → r < modulus p → negsuc (2 ^ 63) ≤ℤ v → v ≤ℤ pos (2 ^ 63) → unsigned_abs (coded p v r) < 2 ^ 125
unfolding coded
small profile.Narrow v r below low high = omega (arith, ints)
small profile.Wide v r below low high = omega (arith, ints)

leaves_room : (p : Profile) (r : ℕ) → r < modulus p → (to : Ty) (v : ℤ) (fit zero inside : Bool) → (inside ≡ true → fits to v ≡ true)
    → LeavesRoom (answer_of p (cond fit (cond zero (Err stop.DivZero) (cond inside (Ok v) (Err stop.Range))) (Err stop.Operand)) r)
leaves_room p r below to v false zero inside is = tt
leaves_room p r below to v true true inside is = tt
leaves_room p r below to v true false false is = tt
leaves_room p r below to v true false true is =
    let ends = both (int_le (least to) v) (int_le v (greatest to)) (is refl) in
    let bits = bounds to v (at_most _ _ ends.0) (at_most _ _ ends.1) in
    small p v r below bits.0 bits.1

pub right_leaves_room : (call : Call) → LeavesRoom (Right call)
right_leaves_room call =
    let p = call.profile in
    let a = value_part p call.a in
    let b = value_part p call.b in
    let c = value_part p call.c in
    let v = value call.kind call.imm a b c in
    leaves_room p (residue_of call) (modulo_below p _) call.ty v (operands_fit call.kind call.from a b c) (divides_by_zero call.kind b) (fits call.ty v)
    (λ h. h)
