use Rattle.std.proofs.Common.{◌≡◌, ◌∙◌, sym, ap, length, Result, Ok, arith}
use Rattle.std.proofs.lemmas.List.{length-map}
use Rattle.std.proofs.lemmas.Grind.{common_steps}
use Rattle.csv.specs.Reading.{records, default_config, strip_bom}
use Rattle.input_rows.specs.RowsOf.{RowsLeft}
use Rattle.input_rows.specs.declared.fault.RowFault.{RowFault}
use Rattle.input_rows.proofs.Sound.{of_records}
use Rattle.input_rows.proofs.twice.Twice.new.Goals as goal

one_value : (r : Result RowsLeft RowFault) (a b : RowsLeft) → r ≡ Ok a → r ≡ Ok b → b ≡ a
one_value r a b is too = cc

pub invariant_of-result : goal.invariant_of-result
invariant_of-result c =
    let room : length c.in_ok-row.row ≡ length c.args.columns.now = grind (arith, common_steps) in
    let all = records default_config (strip_bom c.args.bytes.now) in
    let first = of_records c.args.columns.now all c.in_ok-first.first c.in_ok-first.ensures.rows in
    let second = of_records c.args.columns.now all c.in-Ok.second c.in-Ok.ensures.rows in
    record {
      same = λ going. one_value _ _ _ c.in_ok-first.ensures.rows c.in-Ok.ensures.rows;
      types = second.types ∙ sym first.types;
      fresh = first.fresh;
      width = room ∙ sym (ap length first.types ∙ length-map c.args.columns.now _);
    }
