use Rattle.std.proofs.Common.{ap, subst, rules, ◌∙◌}
use Rattle.std.proofs.lemmas.Int.{to_z-of_z}
use Rattle.std.specs.Int.{w64, to_be_bytes, cast_unsigned}
use Rattle.image_file.specs.Written.{Writes}
use Rattle.image_file.specs.Codes.{correction_width}
use Rattle.image_file.specs.Image.{op_by, corrected, correction_of, op_number, op_operands}
use Rattle.image_file.proofs.Appended.{and_then, ended}
use Rattle.image_file.proofs.writing.put_op.Goals as goal

pub returns : goal.returns
unfolding op_by op_operands op_number corrected
returns c = λ s earlier code same.
    let number : Writes c.put_u32-3.result c.put_i64.result (to_be_bytes w64 (cast_unsigned w64 c.args.v.imm)) =
    subst (λ z. Writes c.put_u32-3.result c.put_i64.result (to_be_bytes w64 (cast_unsigned w64 z))) (to_z-of_z w64 c.args.v.imm (search rules))
    c.put_i64.ensures in
    let last : Writes c.put_u32-6.result c.put_residue.result (to_be_bytes (correction_width s.profile) (correction_of s earlier c.args.v)) =
    subst (λ b. Writes c.put_u32-6.result c.put_residue.result b)
    (ap (λ n. to_be_bytes (correction_width c.args.profile) n) same
    ∙ ap (λ q. to_be_bytes (correction_width q) (correction_of s earlier c.args.v)) code) c.put_residue.ensures in
    and_then c.put_kind.ensures (and_then c.put_ty.ensures (and_then c.put_ty-2.ensures
    (and_then c.put_u32.ensures (and_then c.put_u32-2.ensures (and_then c.put_u32-3.ensures
    (and_then number (and_then c.put_u32-4.ensures (and_then c.put_u32-5.ensures (and_then c.put_u32-6.ensures (ended last))))))))))
