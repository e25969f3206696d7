-- Distinct operations have distinct signatures, and expected residues are residues.
use Rattle.std.proofs.Common.{◌≡◌, ℕ, ◌≤◌, ◌+◌, ◌*◌, ◌%◌, ◌/◌, ◌<◌, ◌^◌, subst, arith}
use Rattle.std.proofs.Math.Nat.{mul-le-mul, mul-suc}
use Rattle.std.proofs.Math.Numerals.{suc-eq-add-one}
use Rattle.vcp_base.specs.declared.code.Profile.{Profile}
use Rattle.vcp_base.specs.declared.code.Profile.TheVariants as profile
use Rattle.vcp_base.specs.Code.{modulus}
use Rattle.vcp_base.specs.Limits.{most_operations, most_step, most_cycles, most_stamp}
use Rattle.signature_table.specs.Signatures.{signatures, growth, signature, expected}

pub modulus_positive : (p : Profile) → 0 < modulus p
modulus_positive profile.Narrow = omega arith
modulus_positive profile.Wide = omega arith

pub modulus_below : (p : Profile) → modulus p < 2 ^ 61
modulus_below profile.Narrow = omega arith
modulus_below profile.Wide = omega arith

-- 5 times the growth of signatures is 2 ^ 30 + 1, so a multiple of 2 ^ 30 that is the difference of two signatures' numbers is
-- a multiple of that for the operations too; likewise in the wide code, where it is 2 ^ 62 + 1
apart : (p : Profile) (seed i j m n r : ℕ) → i < most_operations → j < most_operations → seed + growth p * i ≡ signatures p * m + r
    → seed + growth p * j ≡ signatures p * n + r → j ≡ i
apart profile.Narrow seed i j m n r i_few j_few at_i at_j = omega arith
apart profile.Wide seed i j m n r i_few j_few at_i at_j = omega arith

pub signature_distinct : (p : Profile) (seed i j : ℕ) → i < most_operations → j < most_operations → signature p seed j ≡ signature p seed i → j ≡ i
unfolding signature
signature_distinct profile.Narrow seed i j i_few j_few same =
    apart profile.Narrow seed i j ((seed + 214748365 * i) / 2 ^ 30) ((seed + 214748365 * j) / 2 ^ 30) ((seed + 214748365 * i) % 2 ^ 30) i_few j_few
    (omega arith) (omega arith)
signature_distinct profile.Wide seed i j i_few j_few same =
    apart profile.Wide seed i j ((seed + 922337203685477581 * i) / 2 ^ 60) ((seed + 922337203685477581 * j) / 2 ^ 60)
    ((seed + 922337203685477581 * i) % 2 ^ 60) i_few j_few (omega arith) (omega arith)

-- the same where the second signature is greater by the step: then the operations are 5 times the step apart
apart_by : (p : Profile) (seed step i j m n r : ℕ) → step ≤ most_step → i < most_operations → j < most_operations → seed + growth p * i ≡ signatures p * m + r
    → seed + growth p * j ≡ signatures p * n + (r + step) → j ≡ i + 5 * step
apart_by profile.Narrow seed step i j m n r small i_few j_few at_i at_j = omega arith
apart_by profile.Wide seed step i j m n r small i_few j_few at_i at_j = omega arith

five_apart : (p : Profile) (seed step i j : ℕ) → step ≤ most_step → i < most_operations → j < most_operations
    → signature p seed j ≡ signature p seed i + step → j ≡ i + 5 * step
unfolding signature
five_apart profile.Narrow seed step i j small i_few j_few same =
    apart_by profile.Narrow seed step i j ((seed + 214748365 * i) / 2 ^ 30) ((seed + 214748365 * j) / 2 ^ 30) ((seed + 214748365 * i) % 2 ^ 30) small i_few
    j_few (omega arith) (omega arith)
five_apart profile.Wide seed step i j small i_few j_few same =
    apart_by profile.Wide seed step i j ((seed + 922337203685477581 * i) / 2 ^ 60) ((seed + 922337203685477581 * j) / 2 ^ 60)
    ((seed + 922337203685477581 * i) % 2 ^ 60) small i_few j_few (omega arith) (omega arith)

-- the stamp grows by the step from cycle to cycle
one_stamp_more : (p : Profile) (seed step i j n : ℕ) → expected p seed step j n ≡ expected p seed step i (n + 1)
    → signature p seed j ≡ signature p seed i + step
one_stamp_more p seed step i j n same =
    let grows = subst (λ (m : ℕ). step * m ≡ step * (n + 1) + step) (suc-eq-add-one (n + 1)) (mul-suc step (n + 1)) in omega (arith, same, grows)

pub residues_repeat : (p : Profile) (seed step i j n : ℕ) → step ≤ most_step → i < most_operations → j < most_operations
    → expected p seed step j n ≡ expected p seed step i (n + 1) → j ≡ i + 5 * step
residues_repeat p seed step i j n small i_few j_few same = five_apart p seed step i j small i_few j_few (one_stamp_more p seed step i j n same)

pub signature_below : (p : Profile) (seed i : ℕ) → signature p seed i < signatures p
unfolding signature
signature_below profile.Narrow seed i = omega arith
signature_below profile.Wide seed i = omega arith

-- the greatest stamp keeps a signature below the constant
room : (p : Profile) → signatures p + most_stamp ≤ modulus p
room profile.Narrow = omega arith
room profile.Wide = omega arith

pub expected_below : (p : Profile) (seed step i n : ℕ) → step ≤ most_step → n < most_cycles → expected p seed step i n < modulus p
expected_below p seed step i n h l =
    let s = signature_below p seed i in
    let m : step * (n + 1) ≤ most_step * most_cycles = mul-le-mul h (let q : n + 1 ≤ most_cycles = omega arith in q) in
    omega (arith, s, m, room p)
