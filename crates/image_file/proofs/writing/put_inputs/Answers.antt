use Rattle.std.proofs.Common.{[], take, subst, arith}
use Rattle.std.proofs.lemmas.List.{take_all}
use Rattle.image_file.specs.Pieces.{entries}
use Rattle.image_file.specs.Entries.{input_piece}
use Rattle.image_file.specs.Written.{Writes}
use Rattle.image_file.proofs.Appended.{next_entry, nothing}
use Rattle.image_file.proofs.writing.put_inputs.Goals as goal

pub entries-init : goal.entries-init
entries-init c = λ p names. nothing

pub entries-preserved : goal.entries-preserved
entries-preserved c = λ p names.
    next_entry (λ b. (input_piece p names b).spell) c.args.graph.now.inputs c.entries.i c.input.result c.input.ensures (c.entries.invariant p names)
    (c.put_input-out.ensures p names (take c.entries.i c.args.graph.now.inputs))

pub returns : goal.returns
returns c = λ p names.
    subst (λ l. Writes c.args.out c.entries.out (entries (λ b. (input_piece p names b).spell) [] l))
    (take_all c.entries.i c.args.graph.now.inputs (omega (arith, c.inputs-i-end.ensures))) (c.entries.invariant p names)
