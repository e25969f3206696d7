use Rattle.std.proofs.Common.{◌≡◌, ◌<◌, ◌^◌, ℤ, pos, negsuc, List, Bool, sym, ap, ◌∙◌, arith}
use Rattle.std.proofs.lemmas.Int.{to_z-of_z}
use Rattle.std.specs.Prelude.{unsigned_abs}
use Rattle.std.specs.Int.{w128}
use mir.Val.{SFits}
use Rattle.vcp_base.specs.Types.{fits}
use Rattle.vcp_base.specs.declared.code.Profile.{Profile}
use Rattle.coded_unit.specs.Words.{value_part}
use Rattle.coded_unit.specs.declared.call.Answer.{Answer}
use Rattle.op_graph.specs.declared.op.Outlet.{Outlet}
use Rattle.coded_machine.specs.Calls.{word_at}
use Rattle.coded_machine.proofs.Places.{outside_passed, outside_here}
use Rattle.coded_machine.proofs.cycle_end.first_outside.Goals as goal

small_fits : (z : ℤ) → unsigned_abs z < 2 ^ 96 → SFits w128 z
small_fits (pos n) small = record { sfits = omega (arith, small) }
small_fits (negsuc n) small = record { sfits = omega (arith, small) }

inside_is : (p : Profile) (answers : List Answer) (o : Outlet) {q : Profile} {word value : ℤ} {inside : Bool} → inside ≡ fits o.ty value
    → value ≡ value_part q word → q ≡ p → word ≡ word_at answers o.op → inside ≡ fits o.ty (value_part p (word_at answers o.op))
inside_is p answers o {word = word} is value code there = is ∙ ap (fits o.ty) (value ∙ ap (λ q. value_part q word) code ∙ ap (value_part p) there)

pub returns-then-not-fits : goal.returns-then-not-fits
returns-then-not-fits c =
    let g = c.args.graph.now in
    let o = c.output-outlet.result in
    let inside = inside_is g.profile c.args.answers.now o c.fits.ensures.value
    (to_z-of_z w128 c.split-value.result.0 (small_fits c.split-value.result.0 c.split-value.ensures.small) ∙ c.split-value.ensures.value) c.profile.ensures.value c.word_at.ensures in
    sym (c.outputs.invariant
    ∙ outside_here g.profile c.args.answers.now g.outputs c.outputs.i o c.output-outlet.ensures (sym inside ∙ c.if-not-fits.true))

pub outputs-preserved : goal.outputs-preserved
outputs-preserved c =
    let g = c.args.graph.now in
    let o = c.output-outlet.result in
    let inside = inside_is g.profile c.args.answers.now o c.fits.ensures.value
    (to_z-of_z w128 c.split-value.result.0 (small_fits c.split-value.result.0 c.split-value.ensures.small) ∙ c.split-value.ensures.value) c.profile.ensures.value c.word_at.ensures in
    c.outputs.invariant
    ∙ outside_passed g.profile c.args.answers.now g.outputs c.outputs.i o c.output-outlet.ensures (sym inside ∙ c.if-not-fits.false)
