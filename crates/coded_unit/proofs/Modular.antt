-- Arithmetic modulo the constant of a code: a word splits in one way, and sums of residues.
--
-- Three laws stand on the numerals of the two constants: `whole`, `modulo_below` and `one_split`. All others rest on
-- these three, for both codes at once.
use Rattle.std.proofs.Common.{refl, ℕ, ◌≡◌, ◌<◌, ℤ, pos, negsuc, neg_ℤ, ◌+ℤ◌, ◌-ℤ◌, ◌*ℤ◌, ap, sym, ◌∙◌, arith, ◌+◌, ◌*◌, ◌^◌}
use borrow.Author.Differences.{up, down}
use Rattle.std.proofs.Math.IntN.{*ℤ_comm}
use Rattle.std.proofs.lemmas.Int.{ints}
use Rattle.vcp_base.specs.declared.code.Profile.{Profile}
use Rattle.vcp_base.specs.declared.code.Profile.TheVariants as profile
use Rattle.vcp_base.specs.Code.{modulus}
use Rattle.coded_unit.specs.Words.{modulo, value_part, coded}

pub modulus_positive : (p : Profile) → 0 < modulus p
modulus_positive profile.Narrow = omega arith
modulus_positive profile.Wide = omega arith

pub modulus_below : (p : Profile) → modulus p < 2 ^ 61
modulus_below profile.Narrow = omega arith
modulus_below profile.Wide = omega arith

-- an integer is the word of its value part and its residue
pub whole : (p : Profile) (z : ℤ) → z ≡ coded p (value_part p z) (modulo p z)
unfolding modulo value_part coded
whole profile.Narrow (pos n) = omega (arith, ints)
whole profile.Narrow (negsuc n) = omega (arith, ints)
whole profile.Wide (pos n) = omega (arith, ints)
whole profile.Wide (negsuc n) = omega (arith, ints)

-- a residue is below the constant
pub modulo_below : (p : Profile) (z : ℤ) → modulo p z < modulus p
unfolding modulo value_part coded
modulo_below profile.Narrow (pos n) = omega (arith, ints)
modulo_below profile.Narrow (negsuc n) = omega (arith, ints)
modulo_below profile.Wide (pos n) = omega (arith, ints)
modulo_below profile.Wide (negsuc n) = omega (arith, ints)

-- a word splits in one way
pub one_split : (p : Profile) (v w : ℤ) (r s : ℕ) → r < modulus p → s < modulus p → coded p v r ≡ coded p w s → (v ≡ w) × (r ≡ s)
unfolding modulo value_part coded
one_split profile.Narrow v w r s below under e = (omega (arith, ints), omega (arith, ints))
one_split profile.Wide v w r s below under e = (omega (arith, ints), omega (arith, ints))

-- a word has one value and one residue, and they are its parts
pub split_is : (p : Profile) (z v : ℤ) (r : ℕ) → r < modulus p → z ≡ coded p v r → (v ≡ value_part p z) × (r ≡ modulo p z)
split_is p z v r h e = one_split p v (value_part p z) r (modulo p z) h (modulo_below p z) (sym e ∙ whole p z)

-- the same in the wide code, by its numeral
pub wide_split : (z v : ℤ) (r : ℕ) → r < 2305843009213693951 → z ≡ pos 2305843009213693951 *ℤ v +ℤ pos r
    → (v ≡ value_part profile.Wide z) × (r ≡ modulo profile.Wide z)
unfolding coded
wide_split z v r h e = split_is profile.Wide z v r h e

-- the same in the narrow code
pub narrow_split_is : (z v : ℤ) (r : ℕ) → r < 2147483647 → z ≡ pos 2147483647 *ℤ v +ℤ pos r
    → (v ≡ value_part profile.Narrow z) × (r ≡ modulo profile.Narrow z)
unfolding coded
narrow_split_is z v r h e = split_is profile.Narrow z v r h e

-- an integer, cut at 2^31 and stepped to its parts
pub cut_once : (z h l x v : ℤ) (s : ℕ) → z ≡ pos (2 ^ 31) *ℤ h +ℤ l → x ≡ h +ℤ l
    → pos 2147483647 *ℤ h +ℤ x ≡ pos 2147483647 *ℤ v +ℤ pos s → z ≡ pos 2147483647 *ℤ v +ℤ pos s
cut_once z h l x v s a b e = omega (arith, ints)

-- the product of a sum
pub times_plus : (a x y : ℤ) → a *ℤ (x +ℤ y) ≡ a *ℤ x +ℤ a *ℤ y
times_plus a x y =
    let s : up (x +ℤ y) + down x + down y ≡ down (x +ℤ y) + up x + up y = omega (arith, ints) in
    let p : up a * (up (x +ℤ y) + down x + down y) ≡ up a * (down (x +ℤ y) + up x + up y) = ap (λ n. up a * n) s in
    let q : down a * (up (x +ℤ y) + down x + down y) ≡ down a * (down (x +ℤ y) + up x + up y) = ap (λ n. down a * n) s in
    omega (arith, ints)

pub times_minus : (a x y : ℤ) → a *ℤ (x -ℤ y) ≡ a *ℤ x -ℤ a *ℤ y
times_minus a x y =
    let h : a *ℤ (x -ℤ y +ℤ y) ≡ a *ℤ (x -ℤ y) +ℤ a *ℤ y = times_plus a (x -ℤ y) y in
    let e : a *ℤ (x -ℤ y +ℤ y) ≡ a *ℤ x = ap (λ z. a *ℤ z) (omega (arith, ints)) in
    omega (arith, ints)

pub times_negated : (a x : ℤ) → a *ℤ neg_ℤ x ≡ neg_ℤ (a *ℤ x)
times_negated a x =
    let h : a *ℤ (x +ℤ neg_ℤ x) ≡ a *ℤ x +ℤ a *ℤ neg_ℤ x = times_plus a x (neg_ℤ x) in
    let e : a *ℤ (x +ℤ neg_ℤ x) ≡ a *ℤ pos 0 = ap (λ z. a *ℤ z) (omega (arith, ints)) in
    omega (arith, ints)

pub minus_times : (x y a : ℤ) → (x -ℤ y) *ℤ a ≡ x *ℤ a -ℤ y *ℤ a
minus_times x y a = *ℤ_comm (x -ℤ y) a ∙ times_minus a x y ∙ ap (λ z. z -ℤ a *ℤ y) (*ℤ_comm a x) ∙ ap (λ z. x *ℤ a -ℤ z) (*ℤ_comm a y)

pub times_scaled : (a b y : ℤ) → a *ℤ (b *ℤ y) ≡ b *ℤ (a *ℤ y)
times_scaled a b y =
    let s : up (b *ℤ y) + (up b * down y + down b * up y) ≡ down (b *ℤ y) + (up b * up y + down b * down y) = omega (arith, ints) in
    let p : up a * (up (b *ℤ y) + (up b * down y + down b * up y)) ≡ up a * (down (b *ℤ y) + (up b * up y + down b * down y)) = ap (λ n. up a * n) s in
    let q : down a * (up (b *ℤ y) + (up b * down y + down b * up y)) ≡ down a * (down (b *ℤ y) + (up b * up y + down b * down y)) = ap (λ n. down a * n) s in
    let t : up (a *ℤ y) + (up a * down y + down a * up y) ≡ down (a *ℤ y) + (up a * up y + down a * down y) = omega (arith, ints) in
    let u : up b * (up (a *ℤ y) + (up a * down y + down a * up y)) ≡ up b * (down (a *ℤ y) + (up a * up y + down a * down y)) = ap (λ n. up b * n) t in
    let v : down b * (up (a *ℤ y) + (up a * down y + down a * up y)) ≡ down b * (down (a *ℤ y) + (up a * up y + down a * down y)) = ap (λ n. down b * n) t in
    omega (arith, ints)

-- integers that differ by a multiple of the constant have one residue
pub modulo_plus : (p : Profile) (z y k : ℤ) → z ≡ y +ℤ pos (modulus p) *ℤ k → modulo p z ≡ modulo p y
unfolding modulo value_part coded
modulo_plus p z y k e =
    let here : z ≡ coded p (value_part p z) (modulo p z) = whole p z in
    let there : y ≡ coded p (value_part p y) (modulo p y) = whole p y in
    let sum : pos (modulus p) *ℤ (value_part p y +ℤ k) ≡ pos (modulus p) *ℤ value_part p y +ℤ pos (modulus p) *ℤ k =
    times_plus (pos (modulus p)) (value_part p y) k in
    (one_split p (value_part p z) (value_part p y +ℤ k) (modulo p z) (modulo p y) (modulo_below p z) (modulo_below p y) (omega (arith, ints))).1

-- the residue of a word that is packed
pub modulo_coded : (p : Profile) (v : ℤ) (r : ℕ) → r < modulus p → modulo p (coded p v r) ≡ r
modulo_coded p v r h = sym (split_is p (coded p v r) v r h refl).1

-- the value of a word that is packed
pub value_part_coded : (p : Profile) (v : ℤ) (r : ℕ) → r < modulus p → value_part p (coded p v r) ≡ v
value_part_coded p v r h = sym (split_is p (coded p v r) v r h refl).0

-- a number below the constant is its own residue
pub modulo_small : (p : Profile) (n : ℕ) → n < modulus p → modulo p (pos n) ≡ n
unfolding coded
modulo_small p n h =
    let e : pos n ≡ coded p (pos 0) n = omega (arith, ints) in
    ap (modulo p) e ∙ modulo_coded p (pos 0) n h

pub modulo_zero : (p : Profile) → modulo p (pos 0) ≡ 0
modulo_zero p = modulo_small p 0 (modulus_positive p)

pub coded_zero : (p : Profile) → coded p (pos 0) 0 ≡ pos 0
unfolding coded
coded_zero p = omega (arith, ints)

pub value_part_zero : (p : Profile) → value_part p (pos 0) ≡ pos 0
value_part_zero p = ap (value_part p) (sym (coded_zero p)) ∙ value_part_coded p (pos 0) 0 (modulus_positive p)

-- a factor times a residue differs from the factor times the integer by a multiple of the constant
pub one_product : (p : Profile) (a y : ℤ) → a *ℤ pos (modulo p y) ≡ a *ℤ y -ℤ pos (modulus p) *ℤ (a *ℤ value_part p y)
unfolding modulo value_part coded
one_product p a y =
    let h : a *ℤ y ≡ a *ℤ (pos (modulus p) *ℤ value_part p y +ℤ pos (modulo p y)) = ap (λ z. a *ℤ z) (whole p y) in
    let e : a *ℤ (pos (modulus p) *ℤ value_part p y +ℤ pos (modulo p y)) ≡ a *ℤ (pos (modulus p) *ℤ value_part p y) +ℤ a *ℤ pos (modulo p y) =
    times_plus a (pos (modulus p) *ℤ value_part p y) (pos (modulo p y)) in
    let k : a *ℤ (pos (modulus p) *ℤ value_part p y) ≡ pos (modulus p) *ℤ (a *ℤ value_part p y) = times_scaled a (pos (modulus p)) (value_part p y) in
    omega (arith, ints)

-- products of operands' parts, a correction and a share of the stamp: the signatures cancel, and the stamp stands once
ring : (n a b c e f g d h k s p x y z w : ℤ) →
    (a *ℤ (e +ℤ p +ℤ d) -ℤ n *ℤ x) +ℤ (b *ℤ (f +ℤ p +ℤ h) -ℤ n *ℤ y) +ℤ (c *ℤ (g +ℤ p +ℤ k) -ℤ n *ℤ z)
    +ℤ ((s -ℤ a *ℤ e -ℤ b *ℤ f -ℤ c *ℤ g) -ℤ n *ℤ w) +ℤ (pos 1 -ℤ a -ℤ b -ℤ c) *ℤ p
    ≡ (s +ℤ p +ℤ (a *ℤ d +ℤ b *ℤ h +ℤ c *ℤ k)) +ℤ n *ℤ (pos 0 -ℤ x -ℤ y -ℤ z -ℤ w)
ring n a b c e f g d h k s p x y z w = simp (times_plus, times_negated, minus_times) (omega (arith, ints))

-- the same for their residues
pub residues_cancel : (q : Profile) (a b c e f g d h k s p : ℤ) →
    modulo q (a *ℤ pos (modulo q (e +ℤ p +ℤ d)) +ℤ b *ℤ pos (modulo q (f +ℤ p +ℤ h)) +ℤ c *ℤ pos (modulo q (g +ℤ p +ℤ k))
    +ℤ pos (modulo q (s -ℤ a *ℤ e -ℤ b *ℤ f -ℤ c *ℤ g)) +ℤ (pos 1 -ℤ a -ℤ b -ℤ c) *ℤ p)
    ≡ modulo q (s +ℤ p +ℤ (a *ℤ d +ℤ b *ℤ h +ℤ c *ℤ k))
unfolding modulo value_part coded
residues_cancel q a b c e f g d h k s p =
    let m = one_product q a (e +ℤ p +ℤ d) in
    let n = one_product q b (f +ℤ p +ℤ h) in
    let o = one_product q c (g +ℤ p +ℤ k) in
    let last = s -ℤ a *ℤ e -ℤ b *ℤ f -ℤ c *ℤ g in
    let t = whole q last in
    let x = a *ℤ value_part q (e +ℤ p +ℤ d) in
    let y = b *ℤ value_part q (f +ℤ p +ℤ h) in
    let z = c *ℤ value_part q (g +ℤ p +ℤ k) in
    let w = value_part q last in
    let r = ring (pos (modulus q)) a b c e f g d h k s p x y z w in
    modulo_plus q _ _ (pos 0 -ℤ x -ℤ y -ℤ z -ℤ w) (omega (arith, ints))
