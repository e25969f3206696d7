use Rattle.std.proofs.Common.{◌≡◌, ◌<◌, ℕ, zero, suc, List, [], ◌∷◌, length, slice_get, None, refl, sym, ◌∙◌, arith}
use Rattle.csv.specs.Records.{fields_of, field_at}
use Rattle.input_rows.proofs.records.field.Goals as goal

at-get : (fs : List (List ℕ)) (i : ℕ) → field_at fs i ≡ slice_get fs i
unfolding field_at
at-get [] i = refl
at-get (f ∷ fs) zero = refl
at-get (f ∷ fs) (suc i) = at-get fs i

there : (fs : List (List ℕ)) (i : ℕ) → i < length fs → slice_get fs i ≡ None → ⊥
there [] i h e = absurd (omega arith)
there (f ∷ fs) zero h e = absurd cc
there (f ∷ fs) (suc i) h e = there fs i (omega arith) e

pub unreachable-requires : goal.unreachable-requires
unreachable-requires c =
    there (fields_of c.args.cells.now) c.args.j c.requires (sym (at-get (fields_of c.args.cells.now) c.args.j) ∙ sym c.in-None.ensures.value)

pub returns : goal.returns
returns c = sym (at-get (fields_of c.args.cells.now) c.args.j) ∙ sym c.in-Some.ensures.value
