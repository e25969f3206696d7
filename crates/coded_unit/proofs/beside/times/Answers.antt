use Rattle.std.proofs.Common.{ap, sym, subst, ◌∙◌, ◌*ℤ◌, SFits}
use mir.Syntax.{w128}
use Rattle.std.proofs.lemmas.Int.{to_z-of_z}
use Rattle.coded_unit.proofs.Bits.{back, of_two, wide_fits}
use Rattle.coded_unit.proofs.beside.times.Goals as goal

pub overflow_mul-result : goal.overflow_mul-result
overflow_mul-result c =
    subst (SFits w128) (sym (of_two w128 ◌*ℤ◌ c.args.a c.args.b c.ranges.a c.ranges.b)) (wide_fits (c.args.a *ℤ c.args.b) c.requires)

pub returns : goal.returns
returns c =
    ap (back w128) (of_two w128 ◌*ℤ◌ c.args.a c.args.b c.ranges.a c.ranges.b)
    ∙ to_z-of_z w128 (c.args.a *ℤ c.args.b) (wide_fits (c.args.a *ℤ c.args.b) c.requires)
