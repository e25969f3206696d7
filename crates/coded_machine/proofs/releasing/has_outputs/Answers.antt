use Rattle.std.proofs.Common.{◌≡◌, ℕ, ℤ, List, Some, sym, ap, ◌∙◌, slice_get, option_map, rules, w64}
use mir.Val.{SFits}
use Rattle.std.proofs.Math.Facts.{to_z-of_z}
use Rattle.std.proofs.lemmas.Option.{slice_get-map, slice_get_within}
use Rattle.coded_unit.specs.Words.{value_part}
use Rattle.coded_unit.specs.declared.call.Answer.{Answer}
use Rattle.op_graph.specs.Lists.{Lists}
use Rattle.op_graph.specs.declared.op.Outlet.{Outlet}
use Rattle.coded_machine.specs.Calls.{word_at}
use Rattle.coded_machine.specs.CycleEnds.{outputs_of}
use Rattle.coded_machine.proofs.releasing.has_outputs.Goals as goal

-- the value at an output's place is that of its word
set_at : (g : Lists) (answers : List Answer) (out : List ℤ) (i : ℕ) (o : Outlet) → out ≡ outputs_of g answers → slice_get g.outputs i ≡ Some o
    → slice_get out i ≡ Some (value_part g.profile (word_at answers o.op))
set_at g answers out i o is there =
    ap (λ xs. slice_get xs i) is ∙ slice_get-map (λ (x : Outlet). value_part g.profile (word_at answers x.op)) g.outputs i
    ∙ ap (option_map (λ (x : Outlet). value_part g.profile (word_at answers x.op))) there

same_value : (x y : ℤ) → Some x ≡ Some y → x ≡ y
same_value x y e = cc

pub at-requires : goal.at-requires
at-requires c =
    slice_get_within _ _ _
    (set_at c.args.graph.now c.args.answers.now c.args.out.now c.outputs.i c.output-outlet.result c.requires c.output-outlet.ensures)

pub returns-then-not-has_value : goal.returns-then-not-has_value
returns-then-not-has_value c =
    let there = set_at c.args.graph.now c.args.answers.now c.args.out.now c.outputs.i c.output-outlet.result c.requires c.output-outlet.ensures in
    let value = same_value c.at.result _ (sym c.at.ensures ∙ there) in
    let fits : SFits w64 c.at.result = search rules in
    let has = c.has_value.ensures (rw (to_z-of_z {w = w64} {z = c.at.result} fits, c.profile.ensures.value, c.word_at.ensures) value) in
    absurd cc
