-- A map that is ordered by its numbers, looked up by equality.
use Rattle.std.proofs.Common.{◌≡◌, ◌≢◌, ℕ, nat_eq, false, cond, List, [], ◌∷◌, Some, refl, ap, ◌∙◌, arith}
use Rattle.std.specs.Ordering.{is_eq, nat_cmp}
use Rattle.std.specs.Map.{lookup}
use Rattle.std.proofs.lemmas.Bool.Decides.{nat_tests}

-- numbers that compare as equal are equal
pub compared : (m n : ℕ) → is_eq (nat_cmp m n) ≡ nat_eq m n
compared m n = grind (arith, nat_tests)

pub apart : (m n : ℕ) → n ≢ m → is_eq (nat_cmp m n) ≡ false
apart m n differ = grind (arith, nat_tests)

-- a look-up by order is one by equality
pub looked_up : {X : Type 0} (number : ℕ) (es : List (ℕ × X)) → lookup (λ n. is_eq (nat_cmp number n)) es ≡ lookup (nat_eq number) es
looked_up number [] = refl
looked_up number (e ∷ es) =
    ap (λ b. cond b (Some e.1) (lookup (λ n. is_eq (nat_cmp number n)) es)) (compared number e.0)
    ∙ ap (λ found. cond (nat_eq number e.0) (Some e.1) found) (looked_up number es)
