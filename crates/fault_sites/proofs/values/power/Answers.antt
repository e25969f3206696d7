use Rattle.std.proofs.Common.{◌≡◌, ◌<◌, ◌^◌, ◌*◌, ◌%◌, pos, ℕ, arith, w64, FitsSigned}
use Rattle.std.proofs.lemmas.Int.{ints, to_z_pos}
use Rattle.std.proofs.lemmas.Nat.{one_shl, pow_below}
use Rattle.fault_sites.proofs.values.power.Goals as goal

small_fits : (n : ℕ) → n < 2 ^ 63 → FitsSigned w64 (pos n)
small_fits n h = grind (arith, ints)

pub overflow_cast-result-2 : goal.overflow_cast-result-2
overflow_cast-result-2 c =
    let is : 1 * 2 ^ c.args.k % 18446744073709551616 ≡ 2 ^ c.args.k = one_shl c.args.k 64 (omega arith) in
    rw is (small_fits (2 ^ c.args.k) (pow_below c.args.k 63 (omega arith)))

pub returns : goal.returns
returns c =
    let is : 1 * 2 ^ c.args.k % 18446744073709551616 ≡ 2 ^ c.args.k = one_shl c.args.k 64 (omega arith) in
    rw is (to_z_pos w64 (2 ^ c.args.k) (pow_below c.args.k 63 (omega arith)))
