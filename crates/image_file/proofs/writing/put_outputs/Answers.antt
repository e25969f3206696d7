use Rattle.std.proofs.Common.{[], take, subst, arith}
use Rattle.std.proofs.lemmas.List.{take_all}
use Rattle.image_file.specs.Pieces.{entries}
use Rattle.image_file.specs.Entries.{output_piece}
use Rattle.image_file.specs.Written.{Writes}
use Rattle.image_file.proofs.Appended.{next_entry, nothing}
use Rattle.image_file.proofs.writing.put_outputs.Goals as goal

pub entries-init : goal.entries-init
entries-init c = λ p names operations. nothing

pub entries-preserved : goal.entries-preserved
entries-preserved c = λ p names operations.
    next_entry (λ b. (output_piece p names operations b).spell) c.args.graph.now.outputs c.entries.i c.output.result c.output.ensures
    (c.entries.invariant p names operations)
    (c.put_output-out.ensures p names operations (take c.entries.i c.args.graph.now.outputs))

pub returns : goal.returns
returns c = λ p names operations.
    subst (λ l. Writes c.args.out c.entries.out (entries (λ b. (output_piece p names operations b).spell) [] l))
    (take_all c.entries.i c.args.graph.now.outputs (omega (arith, c.outputs-i-end.ensures))) (c.entries.invariant p names operations)
