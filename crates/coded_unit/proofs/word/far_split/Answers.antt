use Rattle.std.proofs.Common.{◌<◌, refl, sym, subst, unsigned_abs, w64, arith}
use Rattle.std.proofs.lemmas.Int.{to_z-of_z}
use Rattle.coded_unit.proofs.Parts.{Divided, cast_is, narrow_value, narrow_residue}
use Rattle.coded_unit.proofs.word.far_split.Goals as goal

parts : (c : goal.After-rem_euclid) → Divided w64 c.args.code c.div_euclid.result c.rem_euclid.result
parts c = record {
  quotient = c.div_euclid.ensures;
  rest = c.rem_euclid.ensures.value;
  fits = c.ranges.code;
  fits_quotient = record { sfits = c.div_euclid.type_inv };
  fits_rest = record { sfits = c.rem_euclid.type_inv };
}

pub overflow_cast-result : goal.overflow_cast-result
overflow_cast-result c =
    cast_is w64 c.rem_euclid.result _ 2147483647 (to_z-of_z w64 c.rem_euclid.result (parts c).fits_rest) c.rem_euclid.ensures.lower_bound
    c.rem_euclid.ensures.upper_bound (omega arith)

pub returns-clause-value : goal.returns-clause-value
returns-clause-value c = narrow_value w64 c.args.code c.args.code c.div_euclid.result c.rem_euclid.result refl (parts c)

pub returns-clause-residue : goal.returns-clause-residue
returns-clause-residue c = narrow_residue w64 c.args.code c.args.code c.div_euclid.result c.rem_euclid.result refl (parts c)

pub returns-clause-below : goal.returns-clause-below
returns-clause-below c =
    subst (λ z. unsigned_abs z < 2147483647) (sym (to_z-of_z w64 c.rem_euclid.result (parts c).fits_rest)) c.rem_euclid.ensures.upper_bound
