use Rattle.std.proofs.Common.{◌≡◌, ◌∙◌, sym, ap, ℤ, [], ◌∷◌, ◌++◌, Some, None, drop, rules, arith, length-append, w64, SFits}
use Rattle.std.proofs.lemmas.Int.{to_z-of_z}
use Rattle.csv.specs.Records.{fields_of}
use Rattle.pictures.specs.Values.{printed_value, values_of}
use Rattle.pictures.specs.RunOf.{row_of_values}
use Rattle.pictures.proofs.Reading.{one_value, no_value}
use Rattle.pictures.proofs.waves.values.values.Goals as goal

pub returns-in-None-clause-row : goal.returns-in-None-clause-row
returns-in-None-clause-row c = λ _.
    let fields = fields_of c.args.cells.now in
    let is : printed_value c.field.result.now ≡ None = sym c.printed_value.ensures ∙ c.in-None.is in
    ap (row_of_values c.args.number)
    (no_value fields c.cells.j c.cells.row c.field.result.now (values_of 2 (drop 1 fields)) c.field.ensures is c.cells.invariant.values)

pub cells-preserved : goal.cells-preserved
cells-preserved c =
    let fields = fields_of c.args.cells.now in
    let is : printed_value c.field.result.now ≡ Some c.in-Some.value = sym c.printed_value.ensures ∙ c.in-Some.is in
    let fits : SFits w64 c.in-Some.value = search rules in
    let pushed : c.push.new.self ≡ c.cells.row ++ c.in-Some.value ∷ [] =
    c.in_ok-push-in-Some.ensures.ok ∙ ap (λ (v : ℤ). c.cells.row ++ v ∷ []) (to_z-of_z w64 c.in-Some.value fits) in
    record {
      values =
          rw pushed
          (one_value fields c.cells.j c.cells.row c.field.result.now c.in-Some.value (values_of 2 (drop 1 fields)) c.field.ensures is
          c.cells.invariant.values);
      many = rw pushed (omega (arith, length-append c.cells.row (c.in-Some.value ∷ []), c.cells.invariant.many));
    }
