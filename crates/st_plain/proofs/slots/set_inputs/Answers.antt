use Rattle.std.proofs.Common.{rules, ◌≡◌, false, w64, SFits, length, length-set, take, drop, ◌+◌, ◌++◌, ap, ◌∙◌, arith}
use Rattle.std.specs.Prelude.{slice_set}
use Rattle.std.proofs.lemmas.Int.{to_z-of_z}
use Rattle.vcp_typed.specs.SourceRun.{is_input, with_inputs}
use Rattle.st_plain.proofs.Cells.{slots-at, input-there, values-next, inputs-next, at-most-one}
use Rattle.st_plain.proofs.slots.set_inputs.Goals as goal

pub input_or_kept-value-requires-clause-there : goal.input_or_kept-value-requires-clause-there
input_or_kept-value-requires-clause-there c e =
    input-there (drop c.each.i c.args.slots.now) c.index-slots-i.result (drop (c.each.i + 1) c.args.slots.now) c.args.row.now c.each.next
    (slots-at c.args.slots.now c.each.i c.index-slots-i.result c.each-test.true c.index-slots-i.is) e c.each.invariant.inputs

pub each-preserved : goal.each-preserved
each-preserved c =
    let f : SFits w64 c.input_or_kept-value.result = search rules in
    let g : SFits w64 c.at.result = search rules in
    let set = c.set.ensures ∙ ap (λ x. slice_set c.each.values c.each.i x) (to_z-of_z w64 c.input_or_kept-value.result f) in
    let kept : is_input c.index-slots-i.result.section ≡ false → c.input_or_kept-value.result ≡ c.at.result = λ e. c.input_or_kept-value.ensures.kept e
    ∙ to_z-of_z w64 c.at.result g in
    let given = c.input_or_kept-value.ensures in
    record {
      same = ap (λ v. take (c.each.i + 1) v ++ with_inputs (drop (c.each.i + 1) c.args.slots.now) (drop c.input_or_kept-value.new.next c.args.row.now)
          (drop (c.each.i + 1) c.args.before.now)) set
          ∙ values-next c.args.slots.now c.each.i c.index-slots-i.result c.args.row.now c.args.before.now c.each.values c.each.next c.input_or_kept-value.new.next c.input_or_kept-value.result c.at.result _
          c.each-test.true c.index-slots-i.is given.input given.taken kept given.same c.at.ensures c.requires.before
          (omega (arith, c.each.invariant.places, c.each-test.true)) c.each.invariant.same;
      inputs = inputs-next c.args.slots.now c.each.i c.index-slots-i.result c.args.row.now c.each.next c.input_or_kept-value.new.next c.input_or_kept-value.result
          c.each-test.true c.index-slots-i.is given.input given.taken given.same c.each.invariant.inputs;
      places = ap length set ∙ length-set c.each.values c.each.i c.input_or_kept-value.result ∙ c.each.invariant.places;
      few = at-most-one (is_input c.index-slots-i.result.section) c.each.next c.input_or_kept-value.new.next c.each.i given.taken given.same c.each.invariant.few;
    }
