use Rattle.std.proofs.Common.{refl, rules, SFits, w64, to_z, of_z, ℕ, ℤ, List, Ok}
use Rattle.std.proofs.lemmas.Int.{to_z-of_z}
use Rattle.op_graph.specs.Rules.{entry_of, imm_fits}
use Rattle.image_file.specs.Fields.{signed}
use Rattle.image_file.specs.Image.{op_by, op_operands, op_number}
use Rattle.image_file.specs.Readings.{GoesOn}
use Rattle.image_file.proofs.Chains.{then, stays}
use Rattle.image_file.proofs.operation.op_of.Goals as goal

pub returns : goal.returns
unfolding op_by op_operands op_number
returns c =
    let fits : SFits w64 c.imm_here-imm.result = search rules in
    let imm : GoesOn {B = ℤ × List ℕ} c.operand_here-c.new.bytes.fault c.imm_here-imm.new.bytes.fault
    ((signed (imm_fits (entry_of c.args.p.now c.kind_here-kind.result) c.kind_here-kind.result c.ty_here-ty.result)).read c.operand_here-c.new.bytes.left.now)
    (Ok (to_z w64 (of_z w64 c.imm_here-imm.result), c.imm_here-imm.new.bytes.left.now))
    = rw (to_z-of_z w64 c.imm_here-imm.result fits) c.imm_here-imm.ensures in
    then _ c.kind_here-kind.ensures
    (then _ c.from_here-from.ensures
    (then _ c.ty_here-ty.ensures
    (then _ c.operand_here-a.ensures
    (then _ c.operand_here-b.ensures
    (then _ c.operand_here-c.ensures
    (then _ imm
    (then _ (then _ c.read_u32-line.ensures (stays refl))
    (then _ (then _ c.read_u32-col.ensures (stays refl))
    (then _ c.turn_here-turn.ensures c.correction_here.ensures)))))))))
