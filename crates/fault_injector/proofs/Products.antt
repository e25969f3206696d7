-- Products: integers times sums and differences.
use Rattle.std.proofs.Common.{◌≡◌, ◌+◌, ◌*◌, ℤ, ◌+ℤ◌, ◌-ℤ◌, ◌*ℤ◌, ap, ◌∙◌, arith}
use borrow.Author.Differences.{up, down}
use Rattle.std.proofs.Math.IntN.{*ℤ_comm}
use Rattle.std.proofs.lemmas.Int.{ints}

pub times_plus : (a x y : ℤ) → a *ℤ (x +ℤ y) ≡ a *ℤ x +ℤ a *ℤ y
times_plus a x y =
    let s : up (x +ℤ y) + down x + down y ≡ down (x +ℤ y) + up x + up y = omega (arith, ints) in
    let p : up a * (up (x +ℤ y) + down x + down y) ≡ up a * (down (x +ℤ y) + up x + up y) = ap (λ n. up a * n) s in
    let q : down a * (up (x +ℤ y) + down x + down y) ≡ down a * (down (x +ℤ y) + up x + up y) = ap (λ n. down a * n) s in
    omega (arith, ints)

pub times_minus : (a x y : ℤ) → a *ℤ (x -ℤ y) ≡ a *ℤ x -ℤ a *ℤ y
times_minus a x y =
    let h : a *ℤ (x -ℤ y +ℤ y) ≡ a *ℤ (x -ℤ y) +ℤ a *ℤ y = times_plus a (x -ℤ y) y in
    let e : a *ℤ (x -ℤ y +ℤ y) ≡ a *ℤ x = ap (λ z. a *ℤ z) (omega (arith, ints)) in
    omega (arith, ints)

pub minus_times : (x y a : ℤ) → (x -ℤ y) *ℤ a ≡ x *ℤ a -ℤ y *ℤ a
minus_times x y a = *ℤ_comm (x -ℤ y) a ∙ times_minus a x y ∙ ap (λ z. z -ℤ a *ℤ y) (*ℤ_comm a x) ∙ ap (λ z. x *ℤ a -ℤ z) (*ℤ_comm a y)
