use Rattle.std.proofs.Common.{◌≡◌, ◌∙◌, arith, to_z, of_z}
use mir.Syntax.{w128}
use Rattle.std.proofs.lemmas.Int.{to_z-of_z}
use Rattle.st_plain.proofs.Wide.{divided, not-zero, rest-is}
use Rattle.st_plain.proofs.operators.remainder.Goals as goal

pub returns : goal.returns
returns c =
    let v : to_z w128 (of_z w128 c.rest.result) ≡ c.rest.result = grind (arith, to_z-of_z) in
    divided c.args.ty c.args.spot c.in_range.result c.args.b _ _ c.in_range.ensures
    (v ∙ rest-is c.args.a c.args.b c.rest.result c.ranges.a c.ranges.b c.rest.ensures (not-zero c.args.b c.if-b-eq0.false)) c.if-b-eq0.false
