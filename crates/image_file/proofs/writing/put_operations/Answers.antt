use Rattle.std.proofs.Common.{◌≡◌, ◌+◌, [], take, length, List, slice_get, ap, sym, subst, ◌∙◌, arith}
use Rattle.std.proofs.lemmas.List.{length-take, take_all}
use Rattle.op_graph.specs.Lists.{cells}
use Rattle.op_graph.specs.declared.op.Op.{Op}
use Rattle.signature_table.specs.Signatures.{correction, store_of}
use Rattle.std.specs.Prelude.{unsigned_abs}
use Rattle.image_file.specs.Pieces.{entries}
use Rattle.image_file.specs.Image.{op_piece, said, Said}
use Rattle.image_file.specs.Written.{Writes}
use Rattle.image_file.proofs.Appended.{next_entry, nothing, correction_at, length-corrections, some_nat}
use Rattle.image_file.proofs.writing.put_operations.Goals as goal

pub correction-requires : goal.correction-requires
correction-requires c =
    let len : length c.args.table.now.corrections ≡ length c.args.graph.now.operations = ap length c.requires.1
    ∙ length-corrections c.args.graph.now.profile c.args.table.now.seed c.args.table.now.step (cells c.args.graph.now) 0 c.args.graph.now.operations in
    omega (arith, c.entries-test.true)

pub entries-init : goal.entries-init
entries-init c = λ ins outs n. nothing

pub entries-preserved : goal.entries-preserved
entries-preserved c = λ ins outs n.
    let s : Said = said c.args.graph.now.profile c.args.table.now.seed c.args.table.now.step ins outs (cells c.args.graph.now) n in
    let ops : List Op = c.args.graph.now.operations in
    let len : length (take c.entries.i ops) ≡ 0 + c.entries.i = omega (arith, length-take c.entries.i ops, c.entries-test.true) in
    let there = correction_at c.args.graph.now.profile c.args.table.now.seed c.args.table.now.step
    (cells c.args.graph.now) 0 ops c.entries.i c.operation.result c.operation.ensures in
    let told : c.correction.result ≡ correction c.args.graph.now.profile c.args.table.now.seed c.args.table.now.step (0 + c.entries.i) c.operation.result
    (store_of (cells c.args.graph.now) (unsigned_abs c.operation.result.imm)) =
    some_nat _ _ (sym c.correction.ensures.value ∙ ap (λ l. slice_get l c.entries.i) c.requires.1 ∙ there) in
    next_entry (λ b. (op_piece s b).spell) ops c.entries.i c.operation.result c.operation.ensures (c.entries.invariant ins outs n)
    (c.put_op-out.ensures s (take c.entries.i ops) (c.profile.ensures ∙ c.requires.0)
    (told ∙ ap (λ k. correction c.args.graph.now.profile c.args.table.now.seed c.args.table.now.step k c.operation.result
    (store_of (cells c.args.graph.now) (unsigned_abs c.operation.result.imm))) (sym len)))

pub returns : goal.returns
returns c = λ ins outs n.
    let s : Said = said c.args.graph.now.profile c.args.table.now.seed c.args.table.now.step ins outs (cells c.args.graph.now) n in
    let ops : List Op = c.args.graph.now.operations in
    subst (λ l. Writes c.args.out c.entries.out (entries (λ b. (op_piece s b).spell) [] l))
    (take_all c.entries.i ops (omega (arith, c.len-i-end.ensures.count))) (c.entries.invariant ins outs n)
