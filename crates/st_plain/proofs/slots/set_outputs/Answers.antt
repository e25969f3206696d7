use Rattle.std.proofs.Common.{rules, ◌≡◌, true, w64, SFits, ap, ◌∙◌}
use Rattle.std.specs.Prelude.{slice_set}
use Rattle.std.proofs.lemmas.Int.{to_z-of_z}
use Rattle.vcp_typed.specs.SourceRun.{is_output}
use Rattle.st_plain.proofs.Cells.{outputs-next, cells-next, at-most-one}
use Rattle.st_plain.proofs.slots.set_outputs.Goals as goal

pub each-preserved : goal.each-preserved
each-preserved c =
    let g : SFits w64 c.at.result = search rules in
    let given = c.put_output.ensures in
    let put : is_output c.index-slots-i.result.section ≡ true → c.put_output.new.out ≡ slice_set c.each.out c.each.next c.at.result =
    λ e. given.put e ∙ ap (λ x. slice_set c.each.out c.each.next x) (to_z-of_z w64 c.at.result g) in
    record {
      same = outputs-next c.args.slots.now c.each.i c.index-slots-i.result c.args.values.now c.each.out c.put_output.new.out c.each.next c.put_output.new.next c.at.result _
          c.each-test.true c.index-slots-i.is put given.counted given.left given.same c.at.ensures c.each.invariant.cells c.each.invariant.same;
      cells = cells-next c.args.slots.now c.each.i c.index-slots-i.result c.each.out c.put_output.new.out c.each.next c.put_output.new.next c.at.result
          c.each-test.true c.index-slots-i.is put given.counted given.left given.same c.each.invariant.cells;
      few = at-most-one (is_output c.index-slots-i.result.section) c.each.next c.put_output.new.next c.each.i given.counted given.same c.each.invariant.few;
      long = given.cells ∙ c.each.invariant.long;
    }
