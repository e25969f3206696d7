-- Going: one piece of a text behind another.
use Rattle.std.proofs.Common.{◌≡◌, ◌≢◌, ℕ, ◌==◌, Bool, true, false, cond, List, [], ◌++◌, refl, sym, ap, append_assoc}
use Rattle.std.proofs.lemmas.Bool.{eqb-true}
use Rattle.vcp_outside.specs.Pens.{Penned, Goes, unmoved, and_then, same}

-- two pieces and a third
pub followed : {l m n : Penned} {t : List ℕ} (r s : List ℕ) → Goes l m (r ++ s) → Goes m n t → Goes l n (r ++ (s ++ t))
followed {l = l} {n = n} {t = t} r s first second =
    let all : Goes l n (r ++ s ++ t) = and_then first second in
    same all (sym (append_assoc r s t))

-- a piece that is written where a test holds
pub chosen : {l m : Penned} (is : Bool) (s t : List ℕ) → is ≡ true → Goes l m s → Goes l m (cond is s t)
chosen is s t holds gathers = same gathers (ap (λ (c : Bool). cond c s t) holds)

-- and nothing where it doesn't
pub not_chosen : {l : Penned} (is : Bool) (s : List ℕ) → is ≡ false → Goes l l (cond is s [])
not_chosen is s fails = same unmoved (ap (λ (c : Bool). cond c s []) fails)

-- a row of none, and one of some
pub no_row : {l : Penned} (n : ℕ) (s : List ℕ) → n ≡ 0 → Goes l l (cond (n == 0) [] s)
no_row n s none = same unmoved (ap (λ (k : ℕ). cond (k == 0) [] s) none)

some_row : (s : List ℕ) (n : ℕ) (b : Bool) → (n == 0) ≡ b → n ≢ 0 → cond (n == 0) [] s ≡ s
some_row s n true is some = absurd (some (eqb-true n 0 is))
some_row s n false is some = ap (λ (c : Bool). cond c [] s) is

pub a_row : {l m : Penned} (n : ℕ) (s : List ℕ) → n ≢ 0 → Goes l m s → Goes l m (cond (n == 0) [] s)
a_row n s some gathers = same gathers (some_row s n (n == 0) refl some)
