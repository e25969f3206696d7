-- CODE, read option by option.
use Rattle.std.proofs.Common.{◌≡◌, ◌∙◌, ℕ, ◌-◌, ◌≤◌, Bool, true, false, ◌&&◌, not, nat_le, cond, List, [], ◌∷◌, Option, Some, None, codes, bytes_eq, refl, sym, ap, arith}
use Rattle.std.proofs.lemmas.Bool.Decides.{nat_tests}
use Rattle.std.proofs.lemmas.Slice.Eq.{bytes_eq-Decides}
use Rattle.std.specs.Option.{option_and_then, option_map, option_or}
use Rattle.vcp_base.specs.Limits.{seeds, most_step}
use Rattle.vcp_base.specs.Numerals.{numeral_of}
use Rattle.vcp_inputs.specs.Forms.{Code, number_within, number_and_rest, within, code_with, code_of, default_seed, default_step}

abbrev is_seed : List ℕ → Bool
is_seed w = bytes_eq w (codes "--seed")

abbrev is_step : List ℕ → Bool
is_step w = bytes_eq w (codes "--step")

abbrev a_seed : List ℕ → Option ℕ
a_seed n = number_within 0 (seeds - 1) n

abbrev a_step : List ℕ → Option ℕ
a_step n = number_within 1 most_step n

-- the code that words give behind a seed and a step, of which each was given, or else may be
abbrev pub code_after : Bool → Bool → ℕ → ℕ → List (List ℕ) → Option Code
code_after has_seed has_step seed step [] = Some (record { seed = seed; step = step })
code_after has_seed has_step seed step (w ∷ []) = None
code_after has_seed has_step seed step (w ∷ n ∷ rest) =
    cond (not has_seed && is_seed w) (option_and_then (λ s. code_after true has_step s step rest) (a_seed n))
    (cond (not has_step && is_step w) (option_and_then (λ t. code_after has_seed true seed t rest) (a_step n))
    None)

-- no word is both options
one_option : (w : List ℕ) → bytes_eq w (codes "--seed") ≡ true → bytes_eq w (codes "--step") ≡ false
one_option w is = rw ((bytes_eq-Decides w (codes "--seed")).0 is) refl

nothing : {X : Type 0} (x : Option ℕ) → option_and_then (λ (n : ℕ). let none : Option X = None in none) x ≡ None
nothing None = refl
nothing (Some n) = refl

-- one option: a and b say which it is, and x and y are its numbers
one : (a b : Bool) (x y : Option ℕ) → (a ≡ true → b ≡ false)
    → option_or (code_with (cond a x None) (Some default_step)) (code_with (Some default_seed) (cond b y None))
    ≡ cond a (option_and_then (λ s. Some (record { seed = s; step = default_step })) x)
    (cond b (option_and_then (λ t. Some (record { seed = default_seed; step = t })) y) None)
one true true x y other = let e = other refl in cc
one true false None y other = refl
one true false (Some s) y other = refl
one false true x None other = refl
one false true x (Some t) other = refl
one false false x y other = refl

-- two options: a and b say which the first is, a' and b' which the second is
two : (a b a' b' : Bool) (x y x' y' : Option ℕ) → (a ≡ true → b ≡ false)
    → option_or (code_with (cond a x None) (cond b' y' None)) (code_with (cond a' x' None) (cond b y None))
    ≡ cond a (option_and_then (λ s. cond b' (option_and_then (λ t. Some (record { seed = s; step = t })) y') None) x)
    (cond b (option_and_then (λ t. cond a' (option_and_then (λ s. Some (record { seed = s; step = t })) x') None) y) None)
two true true a' b' x y x' y' other = let e = other refl in cc
two true false true true None y None y' other = refl
two true false true true None y (Some s) y' other = refl
two true false true true (Some s) y None None other = refl
two true false true true (Some s) y None (Some t) other = refl
two true false true true (Some s) y (Some u) None other = refl
two true false true true (Some s) y (Some u) (Some t) other = refl
two true false true false None y None y' other = refl
two true false true false None y (Some s) y' other = refl
two true false true false (Some s) y None y' other = refl
two true false true false (Some s) y (Some u) y' other = refl
two true false false true None y x' y' other = refl
two true false false true (Some s) y x' None other = refl
two true false false true (Some s) y x' (Some t) other = refl
two true false false false None y x' y' other = refl
two true false false false (Some s) y x' y' other = refl
two false true true b' x None None y' other = refl
two false true true b' x None (Some s) y' other = refl
two false true true b' x (Some t) None y' other = refl
two false true true b' x (Some t) (Some s) y' other = refl
two false true false b' x None x' y' other = refl
two false true false b' x (Some t) x' y' other = refl
two false false true b' x y None y' other = refl
two false false true b' x y (Some s) y' other = refl
two false false false b' x y x' y' other = refl

-- where neither option can be given, nothing is
neither : {X : Type 0} (a b : Bool) (x y : Option ℕ)
    → cond a (option_and_then (λ (n : ℕ). let none : Option X = None in
    none) x) (cond b (option_and_then (λ (n : ℕ). let none : Option X = None in none) y) None) ≡ None
neither true b x y = nothing x
neither false true x y = nothing y
neither false false x y = refl

-- nor behind both options
full : (s t : ℕ) (w : List ℕ) (rest : List (List ℕ)) → code_after true true s t (w ∷ rest) ≡ None
full s t w [] = refl
full s t w (n ∷ rest) = refl

-- and so where no word may be behind two options
long : (a b a' b' : Bool) (x y x' y' : Option ℕ) (w : List ℕ) (rest : List (List ℕ))
    → cond a (option_and_then (λ s. cond b' (option_and_then (λ t. code_after true true s t (w ∷ rest)) y') None) x)
    (cond b (option_and_then (λ t. cond a' (option_and_then (λ s. code_after true true s t (w ∷ rest)) x') None) y) None)
    ≡ None
long true b a' true None y x' y' w rest = refl
long true b a' true (Some s) y x' None w rest = refl
long true b a' true (Some s) y x' (Some t) w rest = full s t w rest
long true b a' false None y x' y' w rest = refl
long true b a' false (Some s) y x' y' w rest = refl
long false true true b' x None x' y' w rest = refl
long false true true b' x (Some t) None y' w rest = refl
long false true true b' x (Some t) (Some s) y' w rest = full s t w rest
long false true false b' x None x' y' w rest = refl
long false true false b' x (Some t) x' y' w rest = refl
long false false a' b' x y x' y' w rest = refl

-- CODE is read option by option, each at most once
pub code_by_options : (words : List (List ℕ)) → code_of words ≡ code_after false false default_seed default_step words
code_by_options [] = refl
code_by_options (w ∷ []) = refl
code_by_options (w ∷ n ∷ []) = one (is_seed w) (is_step w) (a_seed n) (a_step n) (one_option w)
code_by_options (w ∷ n ∷ v ∷ []) = sym (neither (is_seed w) (is_step w) (a_seed n) (a_step n))
code_by_options (w ∷ n ∷ v ∷ m ∷ []) = two (is_seed w) (is_step w) (is_seed v) (is_step v) (a_seed n) (a_step n) (a_seed m) (a_step m) (one_option w)
code_by_options (w ∷ n ∷ v ∷ m ∷ u ∷ rest) = sym (long (is_seed w) (is_step w) (is_seed v) (is_step v) (a_seed n) (a_step n) (a_seed m) (a_step m) u rest)

-- ---- the option at the front and the number behind it

-- what is said of a number, where there is one, and of the words behind it
abbrev behind : Option (ℕ × List (List ℕ)) → (ℕ → List (List ℕ) → Option Code) → Option Code
behind None more = None
behind (Some front) more = more front.0 front.1

fused : (o : Option ℕ) (rest : List (List ℕ)) (f : ℕ → List (List ℕ) → Option Code)
    → option_and_then (λ n. f n rest) o ≡ behind (option_map (λ n. (n, rest)) o) f
fused None rest f = refl
fused (Some n) rest f = refl

either : (a b : Bool) (x x' y y' : Option Code) → x ≡ x' → y ≡ y' → cond a x (cond b y None) ≡ cond a x' (cond b y' None)
either true b x x' y y' e f = e
either false true x x' y y' e f = f
either false false x x' y y' e f = refl

no_number : (a b : Bool) → (let none : Option Code = None in none) ≡ cond a None (cond b None None)
no_number true b = refl
no_number false true = refl
no_number false false = refl

by_front : (has_seed has_step : Bool) (seed step : ℕ) (w : List ℕ) (more : List (List ℕ))
    → code_after has_seed has_step seed step (w ∷ more)
    ≡ cond (not has_seed && is_seed w) (behind (number_and_rest 0 (seeds - 1) more) (λ s. code_after true has_step s step))
    (cond (not has_step && is_step w) (behind (number_and_rest 1 most_step more) (λ t. code_after has_seed true seed t)) None)
by_front has_seed has_step seed step w [] = no_number (not has_seed && is_seed w) (not has_step && is_step w)
by_front has_seed has_step seed step w (n ∷ rest) =
    either (not has_seed && is_seed w) (not has_step && is_step w) _ _ _ _
    (fused (a_seed n) rest (λ s. code_after true has_step s step)) (fused (a_step n) rest (λ t. code_after has_seed true seed t))

-- it is taken where it wasn't given before: in `words` it is w, and its number is behind it
module _ (init : Option Code) (has_seed has_step : Bool) (seed step : ℕ) (words more : List (List ℕ)) (w : List ℕ) where
  front : init ≡ code_after has_seed has_step seed step words → words ≡ w ∷ more
      → init ≡ cond (not has_seed && is_seed w) (behind (number_and_rest 0 (seeds - 1) more) (λ s. code_after true has_step s step))
      (cond (not has_step && is_step w) (behind (number_and_rest 1 most_step more) (λ t. code_after has_seed true seed t)) None)
  front so_far first = so_far ∙ (ap (code_after has_seed has_step seed step) first ∙ by_front has_seed has_step seed step w more)

  pub seed_next : (o : Option (ℕ × List (List ℕ))) → init ≡ code_after has_seed has_step seed step words → words ≡ w ∷ more
      → has_seed ≡ false → is_seed w ≡ true → o ≡ number_and_rest 0 (seeds - 1) more → init ≡ behind o (λ s. code_after true has_step s step)
  seed_next o so_far first free is number = front so_far first ∙ rw (free, is, ← number) refl

  pub step_next : (o : Option (ℕ × List (List ℕ))) → init ≡ code_after has_seed has_step seed step words → words ≡ w ∷ more
      → (not has_seed && is_seed w) ≡ false → has_step ≡ false → is_step w ≡ true → o ≡ number_and_rest 1 most_step more
      → init ≡ behind o (λ t. code_after has_seed true seed t)
  step_next o so_far first other free is number = front so_far first ∙ rw (other, free, is, ← number) refl

  pub no_option : init ≡ code_after has_seed has_step seed step words → words ≡ w ∷ more
      → (not has_seed && is_seed w) ≡ false → (not has_step && is_step w) ≡ false → init ≡ None
  no_option so_far first other neither = front so_far first ∙ rw (other, neither) refl

-- a number that words give is one from the least on
abbrev number_or_0 : Option (ℕ × List (List ℕ)) → ℕ
number_or_0 None = 0
number_or_0 (Some front) = front.0

abbrev with_rest : List (List ℕ) → ℕ → ℕ × List (List ℕ)
with_rest rest n = (n, rest)

tested : (least most n m : ℕ) (rest words : List (List ℕ)) (b : Bool) → (nat_le least m && nat_le m most) ≡ b
    → Some (with_rest rest n) ≡ option_map (with_rest words) (cond b (Some m) None) → least ≤ n
tested least most n m rest words true holds is = let same : n ≡ m = ap number_or_0 is in grind (arith, nat_tests)
tested least most n m rest words false fails is = absurd cc

given : (least most n : ℕ) (rest words : List (List ℕ)) (o : Option ℕ)
    → Some (with_rest rest n) ≡ option_map (with_rest words) (option_and_then (within least most) o) → least ≤ n
given least most n rest words None is = absurd cc
given least most n rest words (Some m) is = tested least most n m rest words (nat_le least m && nat_le m most) refl is

pub from_least : (least most n : ℕ) (rest words : List (List ℕ)) → Some (n, rest) ≡ number_and_rest least most words → least ≤ n
from_least least most n rest [] is = absurd cc
from_least least most n rest (w ∷ words) is = given least most n rest words (numeral_of w) is

pub not_both : (a b : Bool) → b ≡ false → (a && b) ≡ false
not_both true b e = e
not_both false b e = refl

pub not_free : (a b : Bool) → a ≡ true → (not a && b) ≡ false
not_free a b e = rw e refl
