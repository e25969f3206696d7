use Rattle.std.proofs.Common.{refl, ◌≡◌, sym, subst, ◌∙◌, SFits, w64, arith}
use mir.Syntax.{w128}
use Rattle.std.proofs.lemmas.Int.{to_z-of_z}
use Rattle.coded_unit.proofs.Bits.{read_fits, read_twice}
use Rattle.coded_unit.proofs.Parts.{Divided, cast_is, narrow_value, narrow_residue}
use Rattle.coded_unit.proofs.word.narrow_parts.Goals as goal

short : (c : goal.After-rem_euclid) → Divided w64 c.in-Ok.code c.div_euclid.result c.rem_euclid.result
short c = record {
  quotient = c.div_euclid.ensures;
  rest = c.rem_euclid.ensures.value;
  fits = subst (SFits w64) (sym c.in-Ok.ensures.1) c.in-Ok.ensures.0;
  fits_quotient = record { sfits = c.div_euclid.type_inv };
  fits_rest = record { sfits = c.rem_euclid.type_inv };
}

same : (c : goal.After-rem_euclid) → c.in-Ok.code ≡ c.args.code
same c = c.in-Ok.ensures.1 ∙ to_z-of_z w128 c.args.code c.ranges.code

long : (c : goal.After-rem_euclid-in-Err) → Divided w128 c.args.code c.div_euclid-in-Err.result c.rem_euclid-in-Err.result
long c = record {
  quotient = c.div_euclid-in-Err.ensures;
  rest = c.rem_euclid-in-Err.ensures.value;
  fits = c.ranges.code;
  fits_quotient = record { sfits = c.div_euclid-in-Err.type_inv };
  fits_rest = record { sfits = c.rem_euclid-in-Err.type_inv };
}

pub overflow_cast-result : goal.overflow_cast-result
overflow_cast-result c = read_fits c.div_euclid.result record { sfits = c.div_euclid.type_inv }

pub overflow_cast-result-in-Ok : goal.overflow_cast-result-in-Ok
overflow_cast-result-in-Ok c =
    cast_is w64 c.rem_euclid.result _ 2147483647 (to_z-of_z w64 c.rem_euclid.result record { sfits = c.rem_euclid.type_inv }) c.rem_euclid.ensures.lower_bound
    c.rem_euclid.ensures.upper_bound (omega arith)

pub overflow_cast-result-in-Err : goal.overflow_cast-result-in-Err
overflow_cast-result-in-Err c =
    cast_is w128 c.rem_euclid-in-Err.result _ 2147483647 (to_z-of_z w128 c.rem_euclid-in-Err.result record { sfits = c.rem_euclid-in-Err.type_inv })
    c.rem_euclid-in-Err.ensures.lower_bound c.rem_euclid-in-Err.ensures.upper_bound (omega arith)

pub returns-in-Ok-clause-value : goal.returns-in-Ok-clause-value
returns-in-Ok-clause-value c =
    read_twice c.div_euclid.result (short c).fits_quotient ∙ sym (to_z-of_z w64 c.div_euclid.result (short c).fits_quotient)
    ∙ narrow_value w64 c.args.code c.in-Ok.code c.div_euclid.result c.rem_euclid.result (same c) (short c)

pub returns-in-Ok-clause-residue : goal.returns-in-Ok-clause-residue
returns-in-Ok-clause-residue c = narrow_residue w64 c.args.code c.in-Ok.code c.div_euclid.result c.rem_euclid.result (same c) (short c)

pub returns-in-Err-clause-value : goal.returns-in-Err-clause-value
returns-in-Err-clause-value c = narrow_value w128 c.args.code c.args.code c.div_euclid-in-Err.result c.rem_euclid-in-Err.result refl (long c)

pub returns-in-Err-clause-residue : goal.returns-in-Err-clause-residue
returns-in-Err-clause-residue c = narrow_residue w128 c.args.code c.args.code c.div_euclid-in-Err.result c.rem_euclid-in-Err.result refl (long c)
