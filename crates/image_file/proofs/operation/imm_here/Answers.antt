use Rattle.std.proofs.Common.{Some, w64, SFits, rules}
use Rattle.std.proofs.lemmas.Int.{to_z-of_z}
use Rattle.std.specs.Int.{cast_signed}
use Rattle.op_graph.specs.Rules.{imm_fits, entry_of}
use Rattle.image_file.proofs.Chains.{narrowed}
use Rattle.image_file.proofs.operation.imm_here.Goals as goal

pub returns : goal.returns
returns c =
    let wide : SFits w64 c.any_value-imm.result = search rules in
    rw (to_z-of_z w64 c.any_value-imm.result wide)
    (narrowed _ (λ n. Some (cast_signed w64 n)) (imm_fits (entry_of c.args.p.now c.args.kind) c.args.kind c.args.to) _ c.any_value-imm.ensures
    c.check.ensures.left
    (rw (c.imm_fits.ensures, c.entry_of.ensures, to_z-of_z w64 c.any_value-imm.result wide) at c.check.ensures.fault))
