-- Rooms: widths in which a text has room.
use Rattle.std.proofs.Common.{◌≡◌, ℕ, ◌+◌, ◌*◌, ◌/◌, ◌<◌, ◌≤◌, arith}
use Rattle.std.proofs.Math.Nat.{le_trans, lt-mul-div-succ, mul_comm, mul-le-mul_left}

pub less_by : (a b m : ℕ) → b ≡ a → b ≤ m → a ≤ m
less_by a b m e h = omega (arith, e, h)

pub room_of : (need cycles : ℕ) → 0 < cycles → need ≤ (need / cycles + 1) * cycles
room_of need cycles some = let less = lt-mul-div-succ need some in rw (mul_comm (need / cycles + 1) cycles) (omega (arith, less))

-- so many cycles of a width, and more of them
pub room_in : (need cell count : ℕ) → 0 < cell → need / cell + 1 ≤ count → need ≤ count * cell
room_in need cell count some h =
    let less = lt-mul-div-succ need some in
    let more = mul-le-mul_left cell h in
    rw (mul_comm count cell) (le_trans (omega (arith, less)) more)
