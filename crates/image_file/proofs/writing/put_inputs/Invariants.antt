use Rattle.std.proofs.Common.{[], take, ℕ}
use Rattle.vcp_base.specs.declared.code.Profile.{Profile}
use Rattle.image_file.specs.Pieces.{entries}
use Rattle.image_file.specs.Written.{Writes}
use Rattle.image_file.specs.Entries.{input_piece}
use Rattle.image_file.proofs.writing.put_inputs.Given as goal

abbrev pub invariant-entries : goal.invariant-entries
invariant-entries l = (p : Profile) (names : ℕ) → Writes l.initial.out l.out (entries (λ b. (input_piece p names b).spell) [] (take l.i l.graph.inputs))
