-- Written: the numbers that words write.
use Rattle.std.proofs.Common.{◌≡◌, ℕ, ◌==◌, Bool, true, false, cond, List, [], ◌∷◌, length, Option, Some, None, option_map, option_and_then, ℤ, refl, sym, ◌∙◌}
use Rattle.std.specs.Char.{is_ascii_digit}
use Rattle.std.specs.List.{list_all}
use Rattle.std.specs.Option.{is_some}
use Rattle.vcp_base.specs.declared.ty.Ty.TheVariants as ty
use Rattle.vcp_base.specs.Numerals.{in_type, natural_of, number_of}
use Rattle.vcp_base.specs.Types.{fits, greatest}
use Rattle.vcp_base.specs.Integers.{as_lint}

-- one or more digits
some_if : (n : ℕ) (b : Bool) → is_some (cond b (Some n) None) ≡ b
some_if n true = refl
some_if n false = refl

pub natural_is : (text : List ℕ) (b : Bool) → b ≡ list_all is_ascii_digit text → (length text == 0) ≡ false → b ≡ is_some (natural_of text)
natural_is [] b e some = absurd cc
natural_is (c ∷ text) b e some = e ∙ sym (some_if (number_of (c ∷ text)) (list_all is_ascii_digit (c ∷ text)))

-- a number that has 64 bits
in_lint_if : (v w : ℤ) (b : Bool) → fits ty.Lint v ≡ b → Some w ≡ cond b (Some v) None → Some w ≡ Some (cond b v (greatest ty.Lint))
in_lint_if v w true is e = e
in_lint_if v w false is e = absurd cc

pub in_lint : (o : Option ℤ) (w : ℤ) → Some w ≡ option_and_then (in_type ty.Lint) o → Some w ≡ option_map as_lint o
in_lint None w e = absurd cc
in_lint (Some v) w e = in_lint_if v w (fits ty.Lint v) refl e

-- one that hasn't
abbrev nothing : Option ℤ
nothing = None

beyond_if : (v : ℤ) (b : Bool) → fits ty.Lint v ≡ b → nothing ≡ cond b (Some v) None → Some (greatest ty.Lint) ≡ Some (cond b v (greatest ty.Lint))
beyond_if v true is e = absurd cc
beyond_if v false is e = refl

pub beyond : (o : Option ℤ) → None ≡ option_and_then (in_type ty.Lint) o → is_some o ≡ true → Some (greatest ty.Lint) ≡ option_map as_lint o
beyond None e some = absurd cc
beyond (Some v) e some = beyond_if v (fits ty.Lint v) refl e
