-- Digits of a base, from place i of a run on.
use Rattle.std.proofs.Common.{◌≡◌, ℕ, ◌+◌, ◌*◌, ◌^◌, ◌<◌, ◌≤◌, Bool, true, false, cond, ◌&&◌, List, [], ◌∷◌, length, get_or, drop, Option, Some, None, refl, ap}
use Rattle.std.proofs.Common.{◌∙◌, arith}
use Rattle.std.specs.Prelude.{nat_lt, ◌==◌}
use Rattle.std.proofs.lemmas.List.{at_drop_more, at_drop_all}
use Rattle.std.proofs.lemmas.Bool.Decides.{nat_tests}
use Rattle.std.proofs.Math.Nat.{mul-le-mul_left}
use Rattle.st_lexer.specs.Literals.{digit, are_digits, number, digits}

true_false : true ≡ false → ⊥
true_false e = cc

-- the number of the digits from here on, behind those that spell front
unfoldable pub read : ℕ → Bool → ℕ → List ℕ → Option ℕ
read base behind front s = cond (are_digits base behind s && nat_lt (number base front s) (2 ^ 63)) (Some (number base front s)) None

pub read-whole : (base : ℕ) (s : List ℕ) → digits base s ≡ read base false 0 s
unfolding read
read-whole base s = refl

larger : (base front d : ℕ) → 0 < base → front ≤ front * base + d
larger base front d h = omega (arith, mul-le-mul_left front h)

chosen_ge : (t : Bool) (x y z : ℕ) → x ≤ y → x ≤ z → x ≤ cond t y z
chosen_ge true x y z h k = h
chosen_ge false x y z h k = k

-- a number only grows
grows : (base front : ℕ) (s : List ℕ) → 0 < base → front ≤ number base front s
unfolding number
grows base front [] h = omega arith
grows base front (b ∷ s) h =
    chosen_ge (b == 95) front (number base front s) (number base (front * base + digit b) s) (grows base front s h)
    (let up = larger base front (digit b) h in let more = grows base (front * base + digit b) s h in omega arith)

-- so what is too large stays so
pub read-large : (base : ℕ) (behind : Bool) (front : ℕ) (s : List ℕ) → 0 < base → 2 ^ 63 ≤ front → read base behind front s ≡ None
unfolding read
read-large base behind front s h big = let g = grows base front s h in grind (arith, nat_tests)

-- `_` is no digit
none-95 : digit 95 ≡ 36
unfolding digit
none-95 = refl

not-95 : (b : ℕ) → digit b < 36 → b ≡ 95 → ⊥
not-95 b h e = let d : digit b ≡ 36 = ap digit e ∙ none-95 in omega arith

no-digit : (base b : ℕ) → base ≤ 36 → nat_lt (digit b) base ≡ true → (b == 95) ≡ false
no-digit base b h e = let n = not-95 b in grind (arith, nat_tests)

by-cases : (t u behind x y : Bool) (m n : ℕ) → (t ≡ true → u ≡ false)
    → cond (cond t x (behind && u && y) && nat_lt (cond u m n) (2 ^ 63)) (Some (cond u m n)) None
    ≡ cond t (cond (x && nat_lt n (2 ^ 63)) (Some n) None) (cond (behind && u) (cond (y && nat_lt m (2 ^ 63)) (Some m) None) None)
by-cases true true behind x y m n h = absurd (true_false (h refl))
by-cases true false behind x y m n h = refl
by-cases false true true x y m n h = refl
by-cases false true false x y m n h = refl
by-cases false false true x y m n h = refl
by-cases false false false x y m n h = refl

step : (base : ℕ) (behind : Bool) (front b : ℕ) (s : List ℕ) → base ≤ 36
    → read base behind front (b ∷ s)
    ≡ cond (nat_lt (digit b) base) (read base true (front * base + digit b) s) (cond (behind && b == 95) (read base false front s) None)
unfolding read are_digits number
step base behind front b s h =
    by-cases (nat_lt (digit b) base) (b == 95) behind (are_digits base true s) (are_digits base false s)
    (number base front s) (number base (front * base + digit b) s) (no-digit base b h)

-- one byte more
pub read-drop : (base : ℕ) (behind : Bool) (front i : ℕ) (s : List ℕ) → base ≤ 36 → i < length s
    → read base behind front (drop i s)
    ≡ cond (nat_lt (digit (get_or s i 0)) base) (read base true (front * base + digit (get_or s i 0)) (drop (i + 1) s))
    (cond (behind && get_or s i 0 == 95) (read base false front (drop (i + 1) s)) None)
read-drop base behind front i s h k = at_drop_more (read base behind front) s i 0 k ∙ step base behind front (get_or s i 0) (drop (i + 1) s) h

pub read-end : (base : ℕ) (behind : Bool) (front i : ℕ) (s : List ℕ) → length s ≤ i
    → read base behind front (drop i s) ≡ cond (behind && nat_lt front (2 ^ 63)) (Some front) None
unfolding read are_digits number
read-end base behind front i s h = at_drop_all (read base behind front) s i h

pub ruleset read_rules = (read-whole, read-drop, read-end, read-large, nat_tests)
