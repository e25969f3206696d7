-- Heads: the first line of a script.
use Rattle.std.proofs.Common.{◌≡◌, ℕ, Bool, true, false, ◌||◌, cond, List, [], ◌∷◌, length, slice_get, Option, Some, Err, ℤ, codes, bytes_eq, refl, ap, ◌∙◌, arith}
use Rattle.std.specs.List.{list_any}
use Rattle.vcp_base.specs.Lines.{Line}
use Rattle.vcp_base.specs.Words.{words}
use Rattle.telegram.specs.declared.script.wire_fault.WireFault.TheVariants as refusal
use Rattle.telegram.specs.Forms.{integers_of, wire_if, wire_of, head_of, names_wire}
use Rattle.telegram.specs.ScriptOf.{is_head}

-- ---- how many numbers there are

none_there : {X : Type 0} (i : ℕ) (v : X) → slice_get {X = X} [] i ≡ Some v → ⊥
none_there i v e = absurd cc

pub five : (number : ℕ) (vs : List ℤ) (a b c d e : ℤ) → length vs ≡ 5 → slice_get vs 0 ≡ Some a → slice_get vs 1 ≡ Some b → slice_get vs 2 ≡ Some c
    → slice_get vs 3 ≡ Some d → slice_get vs 4 ≡ Some e → wire_of number (Some vs) ≡ wire_if number a b c d e
five number [] a b c d e many ha hb hc hd he = absurd (omega (arith, many))
five number (v ∷ []) a b c d e many ha hb hc hd he = absurd (omega (arith, many))
five number (v ∷ w ∷ []) a b c d e many ha hb hc hd he = absurd (omega (arith, many))
five number (v ∷ w ∷ x ∷ []) a b c d e many ha hb hc hd he = absurd (omega (arith, many))
five number (v ∷ w ∷ x ∷ y ∷ []) a b c d e many ha hb hc hd he = absurd (omega (arith, many))
five number (v ∷ w ∷ x ∷ y ∷ z ∷ []) a b c d e many ha hb hc hd he =
    let va : v ≡ a = cc in
    let wb : w ≡ b = cc in
    let xc : x ≡ c = cc in
    let yd : y ≡ d = cc in
    let ze : z ≡ e = cc in
    rw (va, wb, xc, yd, ze) refl
five number (v ∷ w ∷ x ∷ y ∷ z ∷ u ∷ vs) a b c d e many ha hb hc hd he = absurd (omega (arith, many))

pub not_five : (number : ℕ) (vs : List ℤ) → (length vs ≡ 5 → ⊥) → wire_of number (Some vs) ≡ Err (refusal.Form number)
not_five number [] other = refl
not_five number (v ∷ []) other = refl
not_five number (v ∷ w ∷ []) other = refl
not_five number (v ∷ w ∷ x ∷ []) other = refl
not_five number (v ∷ w ∷ x ∷ y ∷ []) other = refl
not_five number (v ∷ w ∷ x ∷ y ∷ z ∷ []) other = absurd (other refl)
not_five number (v ∷ w ∷ x ∷ y ∷ z ∷ u ∷ vs) other = refl

-- ---- the words

-- a line that begins with `wire`
pub head_is : (number : ℕ) (verb : List ℕ) (more : List (List ℕ)) (o : Option (List ℤ)) → bytes_eq verb (codes "wire") ≡ true → integers_of more ≡ o
    → head_of number (verb ∷ more) ≡ wire_of number o
head_is number verb more o is numbers =
    ap (λ (b : Bool). cond b (wire_of number (integers_of more)) (Err (refusal.Form number))) is ∙ ap (wire_of number) numbers

pub head_refused : (number : ℕ) (verb : List ℕ) (more : List (List ℕ)) → bytes_eq verb (codes "wire") ≡ false
    → head_of number (verb ∷ more) ≡ Err (refusal.Form number)
head_refused number verb more is = ap (λ (b : Bool). cond b (wire_of number (integers_of more)) (Err (refusal.Form number))) is

-- ---- the line that begins with `wire`, among all

pub head_here : (line : Line) (more : List Line) → names_wire (words line.text) ≡ true → list_any is_head (line ∷ more) ≡ true
head_here line more is = ap (λ (b : Bool). b || list_any is_head more) is

pub no_head_here : (line : Line) (more : List Line) → names_wire (words line.text) ≡ false → list_any is_head (line ∷ more) ≡ list_any is_head more
no_head_here line more is = ap (λ (b : Bool). b || list_any is_head more) is

pub no_head_left : (ls : List Line) → ls ≡ [] → list_any is_head ls ≡ false
no_head_left ls none = ap (list_any is_head) none
