-- A set that is ordered by its numbers, looked up by equality.
use Rattle.std.proofs.Common.{◌≡◌, ◌≢◌, ℕ, nat_eq, true, false, ◌||◌, List, [], ◌∷◌, refl, ap, sym, ◌∙◌, arith}
use Rattle.std.specs.List.{list_any}
use Rattle.std.specs.Ordering.{is_eq, nat_cmp}
use Rattle.std.proofs.lemmas.Bool.Decides.{nat_tests}
use Rattle.vcp_outside.specs.FailingCalls.{CallCount, FailsAlso}

-- numbers that compare as equal are equal
compared : (m n : ℕ) → is_eq (nat_cmp m n) ≡ nat_eq m n
compared m n = grind (arith, nat_tests)

apart : (m n : ℕ) → n ≢ m → is_eq (nat_cmp m n) ≡ false
apart m n differ = grind (arith, nat_tests)

-- a look-up by order is one by equality
pub looked_up : (number : ℕ) (ns : List ℕ) → list_any (λ n. is_eq (nat_cmp number n)) ns ≡ list_any (nat_eq number) ns
looked_up number [] = refl
looked_up number (n ∷ ns) =
    ap (λ b. b || list_any (λ m. is_eq (nat_cmp number m)) ns) (compared number n)
    ∙ ap (λ b. nat_eq number n || b) (looked_up number ns)

-- one more number
pub also : (number : ℕ) (before : CallCount) (made : ℕ) (old new : List ℕ) → made ≡ before.made → old ≡ before.failing
    → list_any (λ n. is_eq (nat_cmp number n)) new ≡ true
    → ((q : ℕ) → is_eq (nat_cmp number q) ≡ false → list_any (λ n. is_eq (nat_cmp q n)) new ≡ list_any (λ n. is_eq (nat_cmp q n)) old)
    → FailsAlso number before (record { made = made; failing = new })
also number before made old new made-is old-is set others = record {
  set = sym (looked_up number new) ∙ set;
  others = λ n differ. sym (looked_up n new) ∙ others n (apart number n differ) ∙ looked_up n old ∙ ap (λ ns. list_any (nat_eq n) ns) old-is;
  made = made-is;
}
