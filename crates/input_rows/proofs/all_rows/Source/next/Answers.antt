use Rattle.std.proofs.Common.{◌≡◌, ◌∙◌, refl, sym, ap, false, length, replicate, None, List, [], ◌∷◌, ℕ, ◌-◌, zero, suc, ℤ, sub-one, arith}
use Rattle.input_rows.specs.RowsOf.{RowsLeft}
use Rattle.input_rows.specs.Sources.{rows_left}
use Rattle.input_rows.specs.declared.all_rows.Source.{Source}
use Rattle.input_rows.specs.declared.all_rows.Source.TheVariants.{Cycles}
use Rattle.input_rows.proofs.all_rows.Source.next.Goals as goal

no_values : (out : List ℤ) → length out ≡ 0 → out ≡ []
no_values [] e = refl
no_values (v ∷ out) e = absurd (omega arith)

one_less : (n : ℕ) (out : List ℤ) → ¬ (n ≡ 0) → out ≡ [] → replicate n [] ≡ out ∷ replicate (n - 1) []
one_less zero out h e = absurd (h refl)
one_less (suc n) out h e = rw (e, sub-one) refl

cycles-row : (source : Source) (left : RowsLeft) (n : ℕ) (out : List ℤ) → rows_left source ≡ left → source ≡ Cycles n → ¬ (n ≡ 0)
    → length out ≡ length left.types
    → left ≡ record { types = []; rows = out ∷ replicate (n - 1) []; refusal = None; ended = false }
cycles-row source left n out e is h l =
    let seen : left ≡ rows_left (Cycles n) = sym e ∙ ap rows_left is in
    let width : length out ≡ 0 = l ∙ ap (λ x. length x.types) seen in
    seen ∙ ap (λ rows. record { types = []; rows = rows; refusal = None; ended = false }) (one_less n out h (no_values out width))

pub returns-in-Cycles-clause-row : goal.returns-in-Cycles-clause-row
returns-in-Cycles-clause-row c = λ k.
    cycles-row c.args.self.now (rows_left c.args.self.now) c.in-Cycles.left c.args.out.now refl c.in-Cycles.is c.in-Cycles.left-test.1 c.requires
