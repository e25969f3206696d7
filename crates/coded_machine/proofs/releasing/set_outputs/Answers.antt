use Rattle.std.proofs.Common.{sym, ap, subst, ◌∙◌, ◌++◌, ◌∷◌, ◌+◌, ◌<◌, arith, take, drop, map, length}
use Rattle.std.specs.Prelude.{FitsSigned}
use Rattle.std.specs.Int.{w64}
use Rattle.std.proofs.Math.ListN.{length-set}
use Rattle.coded_unit.specs.Words.{value_part}
use Rattle.op_graph.specs.declared.op.Outlet.{Outlet}
use Rattle.coded_machine.specs.Calls.{word_at}
use Rattle.coded_machine.proofs.Places.{map_at, front_set, outside_none, fits_64}
use Rattle.coded_machine.proofs.releasing.set_outputs.Goals as goal

pub set_output-requires-clause-value : goal.set_output-requires-clause-value
set_output-requires-clause-value c =
    let fit = outside_none c.args.graph.now.profile c.args.answers.now c.args.graph.now.outputs c.outputs.i c.output-outlet.result c.output-outlet.ensures c.outputs.invariant.inside in
    subst (λ w. FitsSigned w64 (value_part c.args.graph.now.profile w)) (sym c.word_at.ensures) (fits_64 _ _ fit.0)

pub outputs-preserved : goal.outputs-preserved
outputs-preserved c =
    let g = c.args.graph.now in
    let i = c.outputs.i in
    let answers = c.args.answers.now in
    let v = value_part c.args.graph.now.profile c.word_at.result in
    let later = map (λ (o : Outlet). value_part c.args.graph.now.profile (word_at answers o.op)) (drop (i + 1) g.outputs) in
    let there = c.output-outlet.ensures in
    let fit = outside_none c.args.graph.now.profile answers g.outputs i c.output-outlet.result there c.outputs.invariant.inside in
    let inside : i < length c.outputs.out = omega (arith, c.outputs.invariant.cells) in
    rw c.set_output.ensures (record {
      cells = length-set c.outputs.out i v ∙ c.outputs.invariant.cells;
      inside = fit.1;
      values = c.outputs.invariant.values
          ∙ ap (λ r. take i c.outputs.out ++ r) (map_at (λ (o : Outlet). value_part c.args.graph.now.profile (word_at answers o.op)) g.outputs i _ there)
          ∙ ap (λ w. take i c.outputs.out ++ value_part c.args.graph.now.profile w ∷ later) (sym c.word_at.ensures)
          ∙ front_set c.outputs.out i v later inside;
    })
