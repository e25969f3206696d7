-- Bits: what is computed on integers that are read back from their bits is what is computed on the integers.
use Rattle.std.proofs.Common.{◌≡◌, ◌⊎◌, inl, inr, ℕ, ◌<◌, ℤ, pos, negsuc, ◌+ℤ◌, ◌-ℤ◌, ◌*ℤ◌, ◌≤ℤ◌, ◌<ℤ◌, ◌+◌, ◌-◌, ◌^◌, unsigned_abs, sym, ap, subst, ◌∙◌, to_z, of_z, SFits, w64, arith}
use mir.Syntax.{Width, w128}
use Rattle.std.specs.Int.{int_div_euclid}
use Rattle.std.proofs.Math.IntN.{*ℤ_comm}
use Rattle.std.proofs.lemmas.Int.{ints, to_z-of_z, to_z_pos}
use Rattle.vcp_base.specs.declared.code.Profile.{Profile}
use Rattle.vcp_base.specs.Code.{modulus}
use Rattle.vcp_base.specs.declared.kind.Kind.{Kind}
use Rattle.vcp_base.specs.declared.kind.Kind.TheVariants as kind
use Rattle.vcp_base.specs.Kinds.{value}
use Rattle.coded_unit.specs.Words.{coded, Short, Middle, Small}
use Rattle.coded_unit.specs.Multiples.{multiple, Wide}
use Rattle.coded_unit.proofs.Multiples.{is_wide}

-- an integer that is read back from its bits
abbrev pub back : Width → ℤ → ℤ
back w z = to_z w (of_z w z)

-- a fact of an integer is one of it read back
pub as_read : (w : Width) (P : ℤ → Type 0) (z : ℤ) → SFits w z → P z → P (back w z)
as_read w P z f h = subst P (sym (to_z-of_z w z f)) h

-- an operation on two
pub of_two : (w : Width) (f : ℤ → ℤ → ℤ) (x y : ℤ) → SFits w x → SFits w y → f (back w x) (back w y) ≡ f x y
of_two w f x y p q = ap (λ z. f z (back w y)) (to_z-of_z w x p) ∙ ap (f x) (to_z-of_z w y q)

-- an integer far from the ends has the bits
pub wide_fits : (z : ℤ) → Wide z → SFits w128 z
wide_fits z h =
    let low = h.0 in
    let high = h.1 in
    omega (arith, ints)

pub short_fits : (z : ℤ) → Short z → SFits w64 z
short_fits z h =
    let low = h.0 in
    let high = h.1 in
    omega (arith, ints)

pub small_fits : (z : ℤ) → Small z → SFits w128 z
small_fits z h =
    let low = h.0 in
    let high = h.1 in
    omega (arith, ints)

pub middle_fits : (z : ℤ) → Middle z → SFits w64 z
middle_fits z h =
    let low = h.0 in
    let high = h.1 in
    omega (arith, ints)

pub low_fits : (l : ℤ) → pos 0 ≤ℤ l → l ≤ℤ pos (2 ^ 61 - 1) → SFits w64 l
low_fits l low high = omega (arith, ints)

-- an integer of 64 bits has 128, too, and is read back from each
pub widened : (z : ℤ) → SFits w64 z → SFits w128 z
widened z f = omega (arith, ints)

pub read_fits : (z : ℤ) → SFits w64 z → SFits w128 (back w64 z)
read_fits z f = subst (SFits w128) (sym (to_z-of_z w64 z f)) (widened z f)

pub read_twice : (z : ℤ) → SFits w64 z → back w128 (back w64 z) ≡ z
read_twice z f = ap (back w128) (to_z-of_z w64 z f) ∙ to_z-of_z w128 z (widened z f)

-- ---- an integer cut at a power of two

-- h times d and a rest from 0 to m, as they are computed of z
pub record Cut (w : Width) (d m z h : ℤ) : Type 0 where
  pub product : SFits w (back w h *ℤ d)
  pub left : SFits w (back w z -ℤ back w (back w h *ℤ d))
  pub whole : z ≡ d *ℤ back w h +ℤ back w (back w z -ℤ back w (back w h *ℤ d))
  pub least : pos 0 ≤ℤ (back w (back w z -ℤ back w (back w h *ℤ d)))
  pub most : (back w (back w z -ℤ back w (back w h *ℤ d))) ≤ℤ m

summed : (z h d : ℤ) → z ≡ d *ℤ h +ℤ (z -ℤ h *ℤ d)
summed z h d =
    let e = *ℤ_comm d h in
    omega (arith, ints)

computed : (w : Width) (d m z h : ℤ) → SFits w z → SFits w h → SFits w (h *ℤ d) → SFits w (z -ℤ h *ℤ d)
    → pos 0 ≤ℤ (z -ℤ h *ℤ d) → (z -ℤ h *ℤ d) ≤ℤ m → Cut w d m z h
computed w d m z h fz fh fp fr low high =
    let here : back w h ≡ h = to_z-of_z w h fh in
    let product : back w (back w h *ℤ d) ≡ h *ℤ d = ap (λ x. back w (x *ℤ d)) here ∙ to_z-of_z w (h *ℤ d) fp in
    let left : back w z -ℤ back w (back w h *ℤ d) ≡ z -ℤ h *ℤ d =
    ap (λ x. x -ℤ back w (back w h *ℤ d)) (to_z-of_z w z fz) ∙ ap (λ x. z -ℤ x) product in
    let rest : back w (back w z -ℤ back w (back w h *ℤ d)) ≡ z -ℤ h *ℤ d = ap (back w) left ∙ to_z-of_z w (z -ℤ h *ℤ d) fr in
    record {
      product = subst (λ x. SFits w (x *ℤ d)) (sym here) fp;
      left = subst (SFits w) (sym left) fr;
      whole = summed z h d ∙ ap (λ x. d *ℤ x +ℤ (z -ℤ h *ℤ d)) (sym here) ∙ ap (λ x. d *ℤ back w h +ℤ x) (sym rest);
      least = subst (λ x. pos 0 ≤ℤ x) (sym rest) low;
      most = subst (λ x. x ≤ℤ m) (sym rest) high;
    }

floor_31 : (z : ℤ) → (pos 0 ≤ℤ (z -ℤ int_div_euclid z (pos (2 ^ 31)) *ℤ pos (2 ^ 31))) × ((z -ℤ int_div_euclid z (pos (2 ^ 31)) *ℤ pos (2 ^ 31)) ≤ℤ pos (2 ^ 31 - 1))
floor_31 (pos n) = (omega (arith, ints), omega (arith, ints))
floor_31 (negsuc n) = (omega (arith, ints), omega (arith, ints))

floor_61 : (z : ℤ) → (pos 0 ≤ℤ (z -ℤ int_div_euclid z (pos (2 ^ 61)) *ℤ pos (2 ^ 61))) × ((z -ℤ int_div_euclid z (pos (2 ^ 61)) *ℤ pos (2 ^ 61)) ≤ℤ pos (2 ^ 61 - 1))
floor_61 (pos n) = (omega (arith, ints), omega (arith, ints))
floor_61 (negsuc n) = (omega (arith, ints), omega (arith, ints))

-- the quotient of an integer that is read back
quotient : (w : Width) (z d h : ℤ) → SFits w z → h ≡ int_div_euclid (back w z) d → int_div_euclid z d ≡ h
quotient w z d h f e = sym (e ∙ ap (λ x. int_div_euclid x d) (to_z-of_z w z f))

rests : (z h d m : ℤ) → int_div_euclid z d ≡ h → (pos 0 ≤ℤ (z -ℤ int_div_euclid z d *ℤ d)) × ((z -ℤ int_div_euclid z d *ℤ d) ≤ℤ m)
    → (pos 0 ≤ℤ (z -ℤ h *ℤ d)) × ((z -ℤ h *ℤ d) ≤ℤ m)
rests z h d m e both = subst (λ y. (pos 0 ≤ℤ (z -ℤ y *ℤ d)) × ((z -ℤ y *ℤ d) ≤ℤ m)) e both

-- an integer of 64 bits at 2^31
short_cut : (z h : ℤ) → SFits w64 z → SFits w64 h → pos 0 ≤ℤ (z -ℤ h *ℤ pos (2 ^ 31)) → (z -ℤ h *ℤ pos (2 ^ 31)) ≤ℤ pos (2 ^ 31 - 1)
    → Short h × Cut w64 (pos (2 ^ 31)) (pos (2 ^ 31 - 1)) z h
short_cut z h f g low high =
    ((omega (arith, ints), omega (arith, ints)), computed w64 (pos (2 ^ 31)) (pos (2 ^ 31 - 1)) z h f g (omega (arith, ints)) (omega (arith, ints)) low high)

-- an integer of 128 bits at 2^61
long_cut : (z h : ℤ) → SFits w128 z → SFits w128 h → pos 0 ≤ℤ (z -ℤ h *ℤ pos (2 ^ 61)) → (z -ℤ h *ℤ pos (2 ^ 61)) ≤ℤ pos (2 ^ 61 - 1)
    → Small h × Cut w128 (pos (2 ^ 61)) (pos (2 ^ 61 - 1)) z h
long_cut z h f g low high =
    ((omega (arith, ints), omega (arith, ints)), computed w128 (pos (2 ^ 61)) (pos (2 ^ 61 - 1)) z h f g (omega (arith, ints)) (omega (arith, ints)) low high)

-- an integer of 64 bits at 2^61
middle_cut : (z h : ℤ) → SFits w64 z → SFits w64 h → pos 0 ≤ℤ (z -ℤ h *ℤ pos (2 ^ 61)) → (z -ℤ h *ℤ pos (2 ^ 61)) ≤ℤ pos (2 ^ 61 - 1)
    → ((negsuc 3 ≤ℤ h) × (h ≤ℤ pos 3)) × Cut w64 (pos (2 ^ 61)) (pos (2 ^ 61 - 1)) z h
middle_cut z h f g low high =
    ((omega (arith, ints), omega (arith, ints)), computed w64 (pos (2 ^ 61)) (pos (2 ^ 61 - 1)) z h f g (omega (arith, ints)) (omega (arith, ints)) low high)

pub cut_short : (z h : ℤ) → SFits w64 z → SFits w64 h → h ≡ int_div_euclid (back w64 z) (pos (2 ^ 31)) → Short h × Cut w64 (pos (2 ^ 31)) (pos (2 ^ 31 - 1)) z h
cut_short z h f g e =
    let both = rests z h (pos (2 ^ 31)) (pos (2 ^ 31 - 1)) (quotient w64 z (pos (2 ^ 31)) h f e) (floor_31 z) in
    short_cut z h f g both.0 both.1

pub cut_long : (z h : ℤ) → SFits w128 z → SFits w128 h → h ≡ int_div_euclid (back w128 z) (pos (2 ^ 61)) → Small h × Cut w128 (pos (2 ^ 61)) (pos (2 ^ 61 - 1)) z h
cut_long z h f g e =
    let both = rests z h (pos (2 ^ 61)) (pos (2 ^ 61 - 1)) (quotient w128 z (pos (2 ^ 61)) h f e) (floor_61 z) in
    long_cut z h f g both.0 both.1

pub cut_middle : (z h : ℤ) → SFits w64 z → SFits w64 h → h ≡ int_div_euclid (back w64 z) (pos (2 ^ 61))
    → ((negsuc 3 ≤ℤ h) × (h ≤ℤ pos 3)) × Cut w64 (pos (2 ^ 61)) (pos (2 ^ 61 - 1)) z h
cut_middle z h f g e =
    let both = rests z h (pos (2 ^ 61)) (pos (2 ^ 61 - 1)) (quotient w64 z (pos (2 ^ 61)) h f e) (floor_61 z) in
    middle_cut z h f g both.0 both.1

-- ---- the word of a value and a residue

-- what is computed of the constant m, the value v and the residue r
pub record Packed (p : Profile) (m : ℕ) (v : ℤ) (r : ℕ) : Type 0 where
  pub product : SFits w128 (to_z w128 m *ℤ back w128 v)
  pub sum : SFits w128 (back w128 (to_z w128 m *ℤ back w128 v) +ℤ to_z w128 r)
  pub is : back w128 (back w128 (to_z w128 m *ℤ back w128 v) +ℤ to_z w128 r) ≡ coded p v r
  pub bound : unsigned_abs (coded p v r) < 2 ^ 126

below : (n : ℕ) → n < 2 ^ 64 → to_z w128 n ≡ pos n
below n h = to_z_pos w128 n (omega arith)

near : (z : ℤ) (r : ℕ) → Wide z → r < 2 ^ 64 → SFits w128 (z +ℤ pos r) × (unsigned_abs (z +ℤ pos r) < 2 ^ 126)
near z r h under =
    let low = h.0 in
    let high = h.1 in
    (omega (arith, ints), omega (arith, ints))

pub packed : (p : Profile) (m : ℕ) (v : ℤ) (r : ℕ) → m ≡ modulus p → m < 2 ^ 64 → r < 2 ^ 64 → SFits w128 v
    → negsuc (2 ^ 63) ≤ℤ v → v ≤ℤ pos (2 ^ 63) → Packed p m v r
unfolding coded multiple
packed p m v r e fm fr fv low high =
    let wide : Wide (multiple p v) = is_wide p v low high in
    let times : to_z w128 m *ℤ back w128 v ≡ multiple p v =
    ap (λ x. x *ℤ back w128 v) (below m fm) ∙ ap (λ n. pos n *ℤ back w128 v) e ∙ ap (λ x. pos (modulus p) *ℤ x) (to_z-of_z w128 v fv) in
    let fits : SFits w128 (multiple p v) = wide_fits (multiple p v) wide in
    let total : back w128 (to_z w128 m *ℤ back w128 v) +ℤ to_z w128 r ≡ multiple p v +ℤ pos r =
    ap (λ x. back w128 x +ℤ to_z w128 r) times ∙ ap (λ x. x +ℤ to_z w128 r) (to_z-of_z w128 (multiple p v) fits) ∙ ap (λ x. multiple p v +ℤ x) (below r fr) in
    let both = near (multiple p v) r wide fr in
    record {
      product = subst (SFits w128) (sym times) fits;
      sum = subst (SFits w128) (sym total) both.0;
      is = ap (back w128) total ∙ to_z-of_z w128 (multiple p v +ℤ pos r) both.0;
      bound = both.1;
    }

-- ---- the parts of an integer that is cut

-- what is cut off is far from the ends
pub short_low : (l : ℤ) → pos 0 ≤ℤ l → l ≤ℤ pos (2 ^ 31 - 1) → Short l
short_low l low high = (omega (arith, ints), omega (arith, ints))

pub small_low : (l : ℤ) → pos 0 ≤ℤ l → l ≤ℤ pos (2 ^ 61 - 1) → Small l
small_low l low high = (omega (arith, ints), omega (arith, ints))

pub middle_low : (l : ℤ) → pos 0 ≤ℤ l → l ≤ℤ pos (2 ^ 61 - 1) → (negsuc (2 ^ 61) ≤ℤ l) × (l ≤ℤ pos (2 ^ 61))
middle_low l low high = (omega (arith, ints), omega (arith, ints))

-- a few are, too
pub few_within : (m : ℤ) → negsuc 3 ≤ℤ m → m ≤ℤ pos 3 → Middle m × (negsuc (2 ^ 61) ≤ℤ m) × (m ≤ℤ pos (2 ^ 61))
few_within m low high = ((omega (arith, ints), omega (arith, ints)), omega (arith, ints), omega (arith, ints))

-- the value part of an integer cut at 2^61, once and twice
pub middle_value : (h : ℤ) → Middle h → (negsuc (2 ^ 62 + 2 ^ 61) ≤ℤ h) × (h ≤ℤ pos (2 ^ 62 + 2 ^ 61))
middle_value h middle =
    let low = middle.0 in
    let high = middle.1 in
    (omega (arith, ints), omega (arith, ints))

pub middle_sum : (h m v : ℤ) → Middle h → negsuc 3 ≤ℤ m → m ≤ℤ pos 3 → v ≡ h +ℤ m → (negsuc (2 ^ 62 + 2 ^ 61) ≤ℤ v) × (v ≤ℤ pos (2 ^ 62 + 2 ^ 61))
middle_sum h m v middle few many e =
    let low = middle.0 in
    let high = middle.1 in
    (omega (arith, ints), omega (arith, ints))

pub small_sum : (h m v : ℤ) → Small h → Small m → v ≡ h +ℤ m → (negsuc (2 ^ 100) ≤ℤ v) × (v ≤ℤ pos (2 ^ 100))
small_sum h m v first second e =
    let low = first.0 in
    let high = first.1 in
    let least = second.0 in
    let most = second.1 in
    (omega (arith, ints), omega (arith, ints))

-- and the rest, which is near 0 to A
pub few_rest : (m r x : ℤ) → negsuc 3 ≤ℤ m → m ≤ℤ pos 3 → pos 0 ≤ℤ r → r ≤ℤ pos (2 ^ 61 - 1) → x ≡ m +ℤ r
    → (negsuc 2305843009213693950 ≤ℤ x) × (x <ℤ pos 4611686018427387902)
few_rest m r x few many low high e = (omega (arith, ints), omega (arith, ints))

pub small_rest : (h l s m r x : ℤ) → Small h → pos 0 ≤ℤ l → l ≤ℤ pos (2 ^ 61 - 1) → s ≡ h +ℤ l → s ≡ pos (2 ^ 61) *ℤ m +ℤ r
    → pos 0 ≤ℤ r → r ≤ℤ pos (2 ^ 61 - 1) → x ≡ m +ℤ r → (negsuc 2305843009213693950 ≤ℤ x) × (x <ℤ pos 4611686018427387902)
small_rest h l s m r x small least most sum cut low high e =
    let less = small.0 in
    let more = small.1 in
    (omega (arith, ints), omega (arith, ints))

-- the integer is A times the value and the rest
pub cut_once : (z h l s : ℤ) → z ≡ pos (2 ^ 61) *ℤ h +ℤ l → s ≡ h +ℤ l → z ≡ pos 2305843009213693951 *ℤ h +ℤ s
cut_once z h l s a b = omega (arith, ints)

pub cut_twice : (z h l s m r v x : ℤ) → z ≡ pos (2 ^ 61) *ℤ h +ℤ l → s ≡ h +ℤ l → s ≡ pos (2 ^ 61) *ℤ m +ℤ r → v ≡ h +ℤ m → x ≡ m +ℤ r
    → z ≡ pos 2305843009213693951 *ℤ v +ℤ x
cut_twice z h l s m r v x a b d e f = omega (arith, ints)

-- ---- what a kind gives

-- a multiple of what a kind gives, where the kind is known, as it is read back
pub given_by : (p : Profile) (k known : Kind) (imm a b c z : ℤ) → SFits w128 z → k ≡ known → z ≡ multiple p (value known imm a b c)
    → back w128 z ≡ multiple p (value k imm a b c)
given_by p k known imm a b c z fits is e = to_z-of_z w128 z fits ∙ e ∙ ap (λ kind. multiple p (value kind imm a b c)) (sym is)

-- a fact of what a kind gives, where the kind is known
pub of_kind : (P : ℤ → Type 0) (k known : Kind) (imm a b c : ℤ) → k ≡ known → P (value k imm a b c) → P (value known imm a b c)
of_kind P k known imm a b c is h = subst (λ kind. P (value kind imm a b c)) is h

-- a kind that gives its first operand
pub gives_first : (p : Profile) (k : Kind) (imm a b c z : ℤ) → (k ≡ kind.Load) ⊎ ((k ≡ kind.Store) ⊎ ((k ≡ kind.Out) ⊎ (k ≡ kind.Conv))) → z ≡ multiple p a
    → z ≡ multiple p (value k imm a b c)
gives_first p k imm a b c z (inl is) e = e ∙ ap (λ kind. multiple p (value kind imm a b c)) (sym is)
gives_first p k imm a b c z (inr (inl is)) e = e ∙ ap (λ kind. multiple p (value kind imm a b c)) (sym is)
gives_first p k imm a b c z (inr (inr (inl is))) e = e ∙ ap (λ kind. multiple p (value kind imm a b c)) (sym is)
gives_first p k imm a b c z (inr (inr (inr is))) e = e ∙ ap (λ kind. multiple p (value kind imm a b c)) (sym is)
